-- Bodies and declarations, both ways.
use Rattle.std.proofs.Common.{◌≡◌, ℕ, ◌+◌, ◌≤◌, true, false, List, [], ◌∷◌, ◌++◌, length, Some, refl, sym, ap, subst, arith}
use Rattle.std.specs.List.{AllByRecursion, flat_map}
use Rattle.c_parser.specs.declared.first_form.fixed.Fixed.TheVariants as fixed
use Rattle.c_words.specs.declared.word.Mode.{Mode}
use Rattle.c_parser.specs.declared.first_form.tree.FirstStmt.{FirstStmt}
use Rattle.c_parser.specs.FirstForm.Spelling.{Word, statement_words, declaration_words}
use Rattle.c_parser.specs.FirstForm.Texts.{StatementFits}
use Rattle.c_parser.specs.FirstForm.FixedWords.{is_fixed}
use Rattle.c_parser.specs.FirstForm.Reading.{Left, take_word, is_at, expect, name, new_name, spend, next_statement, many_from, many, body, body_goes_on, begins_declaration, declaration, declarations}
use Rattle.c_parser.proofs.FirstForm.Taking.{Takes, ◌then◌, before, bind_ok, gives_bind, same_pair, expect-takes, spend-takes, spend-gives}
use Rattle.c_parser.proofs.FirstForm.NameLaws.{AreDistinct}
use Rattle.c_parser.proofs.FirstForm.NewNames.{IsNew, AllNew, new_name-is}
use Rattle.c_parser.proofs.FirstForm.Many.{total, all_written, AllFit, More, many_from-sound, many_from-complete}
use Rattle.c_parser.proofs.FirstForm.StatementLaws.{next_statement-is}
use Rattle.c_parser.proofs.FirstForm.StatementReading.{next_statement-gives, statement-begins}

-- ---- where what an item writes is its own
module _ {A : Type 0} (g : A → List Word) (P : A → Type 0) where
  pub all_written-flat_map : (found xs : List A) → all_written (λ _. g) (λ _. 1) (λ _. P) found xs ≡ flat_map g xs
  all_written-flat_map found [] = refl
  all_written-flat_map found (x ∷ xs) = ap (λ ws. g x ++ ws) (all_written-flat_map (found ++ x ∷ []) xs)

  pub AllFit-all : (found xs : List A) → AllFit (λ _. g) (λ _. 1) (λ _. P) found xs → AllByRecursion P xs
  AllFit-all found [] h = tt
  AllFit-all found (x ∷ xs) h = (h.0, AllFit-all (found ++ x ∷ []) xs h.1)

  pub AllFit-from_all : (found xs : List A) → AllByRecursion P xs → AllFit (λ _. g) (λ _. 1) (λ _. P) found xs
  AllFit-from_all found [] h = tt
  AllFit-from_all found (x ∷ xs) h = (h.0, AllFit-from_all (found ++ x ∷ []) xs h.1)

pub total-length : {A : Type 0} (xs : List A) → total (λ _. 1) xs ≡ length xs
total-length [] = refl
total-length (x ∷ xs) = let e = total-length xs in omega arith

pub taken_as : {s rest : Left} {ws vs : List Word} {c d : ℕ} → Takes s ws c rest → ws ≡ vs → c ≡ d → Takes s vs d rest
taken_as {s = s} {rest = rest} {ws = ws} {d = d} h e f = subst (λ v. Takes s v d rest) e (subst (λ n. Takes s ws n rest) f h)

pub ends_at : {s mid rest : Left} {ws : List Word} {c : ℕ} → Takes s ws c mid → mid ≡ rest → Takes s ws c rest
ends_at {s = s} {ws = ws} {c = c} h e = subst (λ r. Takes s ws c r) e h

-- ---- bodies
module _ (m : Mode) (globals functions : List (List ℕ)) where
  pub body-is : (s rest : Left) (xs : List FirstStmt) → body m (length globals) (globals ++ functions) s ≡ Some (xs, rest)
      → Takes s (flat_map (statement_words globals functions) xs) (length xs) rest × AllByRecursion (StatementFits m (length globals) (length functions)) xs
  unfolding body many
  body-is s rest xs h =
      let g = statement_words globals functions in
      let P = StatementFits m (length globals) (length functions) in
      let i : More (λ _. g) (λ _. 1) (λ _. P) [] s xs rest =
      many_from-sound (λ _. g) (λ _. 1) (λ _. P) body_goes_on (next_statement m (length globals) (globals ++ functions)) (next_statement-is globals functions m) s.budget [] s rest xs h in
      let e : i.more ≡ xs = sym i.joined in
      let takes = taken_as i.takes (all_written-flat_map g P [] i.more) (total-length i.more) in
      let fit = AllFit-all g P [] i.more i.fit in
      subst (λ ys. Takes s (flat_map g ys) (length ys) rest × AllByRecursion P ys) e (takes, fit)

  pub body-gives : AreDistinct (globals ++ functions) → (xs : List FirstStmt) (rest : Left) → AllByRecursion (StatementFits m (length globals) (length functions)) xs → body_goes_on rest.words ≡ false
      → body m (length globals) (globals ++ functions) (before (flat_map (statement_words globals functions) xs) (length xs) rest) ≡ Some (xs, rest)
  unfolding body many
  body-gives distinct xs rest fit ends =
      let g = statement_words globals functions in
      let P = StatementFits m (length globals) (length functions) in
      let item = next_statement m (length globals) (globals ++ functions) in
      let enough : total (λ _. 1) xs ≤ length xs + rest.budget = let e = total-length xs in omega arith in
      let i = many_from-complete (λ _. g) (λ _. 1) (λ _. P) body_goes_on item (next_statement-gives globals functions distinct m) (λ _ a ws _. statement-begins globals functions distinct m a ws) (λ _. omega arith)
      xs (length xs + rest.budget) [] rest (AllFit-from_all g P [] xs fit) enough ends in
      rw (← all_written-flat_map g P [] xs) (subst (λ n. many_from body_goes_on item (length xs + rest.budget) [] (before (all_written (λ _. g) (λ _. 1) (λ _. P) [] xs) n rest) ≡ Some (xs, rest)) (total-length xs) i)

-- ---- declarations
pub declaration-is : (found : List (List ℕ)) (s rest : Left) (x : List ℕ) → declaration found s ≡ Some (x, rest) → Takes s (declaration_words x) 1 rest × IsNew found x
unfolding declaration
declaration-is found s rest x h =
    let one = bind_ok (spend s) _ x rest h in
    let int = bind_ok (expect fixed.Int one.mid) _ x rest one.second in
    let n = bind_ok (new_name found int.mid) _ x rest int.second in
    let semicolon = bind_ok (expect fixed.Semicolon n.mid) _ x rest n.second in
    let e = same_pair semicolon.second in
    let new = new_name-is found int.mid n.mid n.value n.first in
    let takes : Takes s (declaration_words n.value) 1 semicolon.mid =
    spend-takes s one.mid one.value one.first then expect-takes fixed.Int one.mid int.mid int.value int.first then new.0 then expect-takes fixed.Semicolon n.mid semicolon.mid semicolon.value semicolon.first in
    (subst (λ y. Takes s (declaration_words y) 1 rest) e.0 (subst (λ r. Takes s (declaration_words n.value) 1 r) e.1 takes), subst (IsNew found) e.0 new.1)

pub declaration-gives : (found : List (List ℕ)) (x : List ℕ) (rest : Left) → IsNew found x → declaration found (before (declaration_words x) 1 rest) ≡ Some (x, rest)
unfolding declaration new_name name expect take_word is_fixed
declaration-gives found x rest new =
    let free = new.free in
    let absent = new.absent in
    gives_bind _ (spend-gives (declaration_words x ++ rest.words) rest.budget) (rw (free, absent) refl)

pub declaration-begins : (found : List (List ℕ)) (x : List ℕ) (ws : List Word) → IsNew found x → begins_declaration (declaration_words x ++ ws) ≡ true
unfolding begins_declaration is_at is_fixed
declaration-begins found x ws new = refl

AllFit-new : (found xs : List (List ℕ)) → AllFit (λ _. declaration_words) (λ _. 1) IsNew found xs → AllNew found xs
AllFit-new found [] h = tt
AllFit-new found (x ∷ xs) h = (h.0, AllFit-new (found ++ x ∷ []) xs h.1)

AllFit-from_new : (found xs : List (List ℕ)) → AllNew found xs → AllFit (λ _. declaration_words) (λ _. 1) IsNew found xs
AllFit-from_new found [] h = tt
AllFit-from_new found (x ∷ xs) h = (h.0, AllFit-from_new (found ++ x ∷ []) xs h.1)

declarations-flat : (found xs : List (List ℕ)) → all_written (λ _. declaration_words) (λ _. 1) IsNew found xs ≡ flat_map declaration_words xs
declarations-flat found [] = refl
declarations-flat found (x ∷ xs) = ap (λ ws. declaration_words x ++ ws) (declarations-flat (found ++ x ∷ []) xs)

pub declarations-is : (s rest : Left) (xs : List (List ℕ)) → declarations s ≡ Some (xs, rest) → Takes s (flat_map declaration_words xs) (length xs) rest × AllNew [] xs
unfolding declarations many
declarations-is s rest xs h =
    let i : More (λ _. declaration_words) (λ _. 1) IsNew [] s xs rest = many_from-sound (λ _. declaration_words) (λ _. 1) IsNew begins_declaration declaration declaration-is s.budget [] s rest xs h in
    let e : i.more ≡ xs = sym i.joined in
    subst (λ ys. Takes s (flat_map declaration_words ys) (length ys) rest × AllNew [] ys) e
    (taken_as i.takes (declarations-flat [] i.more) (total-length i.more), AllFit-new [] i.more i.fit)

pub declarations-gives : (xs : List (List ℕ)) (rest : Left) → AllNew [] xs → begins_declaration rest.words ≡ false → declarations (before (flat_map declaration_words xs) (length xs) rest) ≡ Some (xs, rest)
unfolding declarations many
declarations-gives xs rest new ends =
    let enough : total (λ _. 1) xs ≤ length xs + rest.budget = let e = total-length xs in omega arith in
    let i = many_from-complete (λ _. declaration_words) (λ _. 1) IsNew begins_declaration declaration declaration-gives declaration-begins (λ _. omega arith)
    xs (length xs + rest.budget) [] rest (AllFit-from_new [] xs new) enough ends in
    rw (← declarations-flat [] xs) (subst (λ n. many_from begins_declaration declaration (length xs + rest.budget) [] (before (all_written (λ _. declaration_words) (λ _. 1) IsNew [] xs) n rest) ≡ Some (xs, rest)) (total-length xs) i)
