-- What functions write under the names of all functions, and the property, both ways.
use Rattle.std.proofs.Common.{◌≡◌, ℕ, ◌+◌, ◌<◌, true, false, not, ◌&&◌, List, [], ◌∷◌, ◌++◌, length, map, Option, Some, None, refl, sym, ap, subst, ◌∙◌, ⊎_elim, append_assoc, append-nil, arith}
use Rattle.std.specs.Prelude.{codes}
use Rattle.std.specs.List.{AllByRecursion, flat_map}
use Rattle.std.proofs.lemmas.Bool.{and_parts}
use Rattle.std.proofs.lemmas.List.{map-append}
use Rattle.c_parser.specs.declared.first_form.fixed.Fixed.{Fixed}
use Rattle.c_parser.specs.declared.first_form.fixed.Fixed.TheVariants as fixed
use Rattle.c_words.specs.declared.word.Mode.{Mode}
use Rattle.c_words.specs.declared.word.Mode.TheVariants as mode
use Rattle.c_parser.specs.declared.first_form.tree.FirstStmt.{FirstStmt}
use Rattle.c_parser.specs.declared.first_form.tree.FirstStmt.TheVariants as stmt
use Rattle.c_parser.specs.FirstForm.Program.{Function, Property}
use Rattle.c_parser.specs.FirstForm.Spelling.{Word, names_of, name_at, statement_words, function_words, main_words, functions_words, property_words, optional_property_words, named, keyword, mark}
use Rattle.c_parser.specs.FirstForm.Texts.{StatementFits, PropertyFits, is_name}
use Rattle.c_parser.specs.FirstForm.FixedWords.{is_fixed, fixed_word}
use Rattle.c_parser.specs.FirstForm.Reading.{Left, Outcome, and_then, guard, take_word, is_at, expect, expect_all, name, variable, variable_of, is_woven, property_middle, property_head, property, optional_property}
use Rattle.c_parser.proofs.FirstForm.Taking.{Takes, Takes-none, ◌then◌, before, bind_ok, gives_bind, same_pair, chosen, guard-passes, expect_all-takes, name-takes}
use Rattle.c_parser.proofs.FirstForm.NameLaws.{AreDistinct, variable_of-at, name_at-variable}
use Rattle.c_parser.proofs.FirstForm.StatementLaws.{variable-is}
use Rattle.c_parser.proofs.FirstForm.FunctionLaws.{FunctionFits, AllFunctionsFit, functions_written}

-- ---- names of later functions change nothing
module _ (m : Mode) (globals earlier later : List (List ℕ)) where
  statement_words-more : (a : FirstStmt) → StatementFits m (length globals) (length earlier) a → statement_words globals earlier a ≡ statement_words globals (earlier ++ later) a
  statement_words-more (stmt.Assign x n) fits = refl
  statement_words-more (stmt.Call f) fits = ap (λ n. named n ∷ mark (codes "(") ∷ mark (codes ")") ∷ mark (codes ";") ∷ []) (sym (name_at-variable earlier later f fits))
  statement_words-more stmt.Empty fits = refl
  statement_words-more (stmt.Assert y x) fits = refl

  pub body_words-more : (xs : List FirstStmt) → AllByRecursion (StatementFits m (length globals) (length earlier)) xs
      → flat_map (statement_words globals earlier) xs ≡ flat_map (statement_words globals (earlier ++ later)) xs
  body_words-more [] fits = refl
  body_words-more (x ∷ xs) fits = (λ i. statement_words-more x fits.0 i ++ body_words-more xs fits.1 i)

functions_words-cons : (globals names : List (List ℕ)) (f main : Function) (fs : List Function)
    → functions_words globals names (f ∷ (fs ++ main ∷ [])) ≡ function_words globals names f ++ functions_words globals names (fs ++ main ∷ [])
functions_words-cons globals names f main [] = refl
functions_words-cons globals names f main (g ∷ fs) = refl

-- what the functions write one by one is what they write together
pub functions_words-written : (m : Mode) (globals : List (List ℕ)) (found fs : List Function) (main : Function) (names : List (List ℕ)) → names_of (found ++ fs ++ main ∷ []) ≡ names
    → AllFunctionsFit m globals found fs → functions_words globals names (fs ++ main ∷ []) ≡ functions_written m globals found fs ++ main_words globals names main
functions_words-written m globals found [] main names e fit = refl
functions_words-written m globals found (f ∷ fs) main names e fit =
    let first : FunctionFits m globals (names_of found) f = fit.0 in
    let later = names_of (f ∷ (fs ++ main ∷ [])) in
    let split : names_of found ++ later ≡ names = sym (map-append (λ (g : Function). g.name) found (f ∷ (fs ++ main ∷ []))) ∙ ap names_of (sym (append_assoc found (f ∷ fs) (main ∷ []))) ∙ e in
    let all : names_of (found ++ f ∷ [] ++ fs ++ main ∷ []) ≡ names = ap (λ gs. names_of (gs ++ main ∷ [])) (append_assoc found (f ∷ []) fs) ∙ e in
    let rest = functions_words-written m globals (found ++ f ∷ []) fs main names all fit.1 in
    let own : function_words globals (names_of found) f ≡ function_words globals names f =
    ap (λ ws. keyword (codes "void") ∷ named f.name ∷ mark (codes "(") ∷ keyword (codes "void") ∷ mark (codes ")") ∷ mark (codes "{") ∷ (ws ++ mark (codes "}") ∷ []))
    (body_words-more m globals (names_of found) later f.body first.body ∙ ap (λ n. flat_map (statement_words globals n) f.body) split) in
    functions_words-cons globals names f main fs ∙ ap (λ ws. ws ++ functions_words globals names (fs ++ main ∷ [])) (sym own)
    ∙ ap (λ ws. function_words globals (names_of found) f ++ ws) rest
    ∙ sym (append_assoc (function_words globals (names_of found) f) (functions_written m globals (found ++ f ∷ []) fs) (main_words globals names main))

-- ---- the property
module _ (globals : List (List ℕ)) where
  abbrev opening : List Fixed
  opening = fixed.Open ∷ fixed.Meta ∷ fixed.Prop ∷ fixed.Comma ∷ fixed.Name ∷ fixed.LeftParen ∷ []

  abbrev middle : List Fixed
  middle = fixed.RightParen ∷ fixed.Comma ∷ fixed.Targets ∷ fixed.LeftParen ∷ fixed.All ∷ fixed.RightParen ∷ fixed.Comma
      ∷ fixed.Context ∷ fixed.LeftParen ∷ fixed.Writing ∷ fixed.RightParen ∷ fixed.Comma
      ∷ fixed.Separated ∷ fixed.LeftParen ∷ fixed.Written ∷ fixed.Comma ∷ fixed.Ampersand ∷ []

  abbrev closing : List Fixed
  closing = fixed.RightParen ∷ fixed.Semicolon ∷ fixed.Close ∷ []

  abbrev head_words : List ℕ → List Word
  head_words x = map fixed_word opening ++ (named x ∷ map fixed_word middle)

  property_head-is : (s rest : Left) (x : List ℕ) → property_head s ≡ Some (x, rest) → Takes s (head_words x) 0 rest × (is_name x ≡ true)
  unfolding property_head property_middle
  property_head-is s rest x h =
      let o = bind_ok (expect_all opening s) _ x rest h in
      let n = bind_ok (name o.mid) _ x rest o.second in
      let c = bind_ok (property_middle n.mid) _ x rest n.second in
      let g = bind_ok (guard (is_name n.value) c.mid) _ x rest c.second in
      let p = guard-passes (is_name n.value) c.mid g.mid g.value g.first in
      let e = same_pair g.second in
      let takes : Takes s (head_words n.value) 0 c.mid = expect_all-takes opening s o.mid o.value o.first then name-takes o.mid n.mid n.value n.first then expect_all-takes middle n.mid c.mid c.value c.first in
      (subst (λ y. Takes s (head_words y) 0 rest) e.0 (subst (λ r. Takes s (head_words n.value) 0 r) (p.1 ∙ e.1) takes), subst (λ y. is_name y ≡ true) e.0 p.0)

  property-is : (s rest : Left) (p : Property) → property (length globals) globals s ≡ Some (p, rest) → Takes s (property_words globals p) 0 rest × (is_name p.name ≡ true) × (p.variable < length globals)
  unfolding property
  property-is s rest p h =
      let x = bind_ok (property_head s) _ p rest h in
      let i = bind_ok (variable (length globals) globals x.mid) _ p rest x.second in
      let c = bind_ok (expect_all closing i.mid) _ p rest i.second in
      let e = same_pair c.second in
      let head = property_head-is s x.mid x.value x.first in
      let at = variable-is globals [] x.mid i.mid i.value (ap (λ names. variable (length globals) names x.mid) (append-nil globals) ∙ i.first) in
      let made : Property = record { name = x.value; variable = i.value } in
      let takes : Takes s (property_words globals made) 0 c.mid = head.0 then at.0 then expect_all-takes closing i.mid c.mid c.value c.first in (
        subst (λ q. Takes s (property_words globals q) 0 rest) e.0 (subst (λ r. Takes s (property_words globals made) 0 r) e.1 takes),
        subst (λ q. is_name q.name ≡ true) e.0 head.1,
        subst (λ q. q.variable < length globals) e.0 at.1,
      )

  source_mode : (m : Mode) → not (is_woven m) ≡ true → m ≡ mode.Source
  source_mode mode.Source h = refl
  source_mode mode.Woven h = cc

  pub record PropertyTaken (m : Mode) (s : Left) (o : Option Property) (rest : Left) : Type 0 where
    pub takes : Takes s (optional_property_words globals o) 0 rest
    pub fits : PropertyFits m (length globals) o

  property_taken : (m : Mode) (s : Left) (a o : Option Property) (mid rest : Left) → ◌≡◌ {A = Outcome (Option Property)} (Some (a, mid)) (Some (o, rest)) → PropertyTaken m s a mid → PropertyTaken m s o rest
  property_taken m s a o mid rest h t = let e = same_pair h in subst (λ x. PropertyTaken m s x rest) e.0 (subst (λ r. PropertyTaken m s a r) e.1 t)

  pub optional_property-is : (m : Mode) (s rest : Left) (o : Option Property) → optional_property m (length globals) globals s ≡ Some (o, rest) → PropertyTaken m s o rest
  unfolding optional_property
  optional_property-is m s rest o h = ⊎_elim some none (chosen (not (is_woven m) && is_at 0 fixed.Open s.words) (and_then (property (length globals) globals s) (λ p r. Some (Some p, r))) (Some (None, s)) _ h)
    where
      some : ((not (is_woven m) && is_at 0 fixed.Open s.words) ≡ true) × (and_then (property (length globals) globals s) (λ p r. Some (Some p, r)) ≡ Some (o, rest)) → PropertyTaken m s o rest
      some q =
          let source = source_mode m (and_parts (not (is_woven m)) (is_at 0 fixed.Open s.words) q.0).0 in
          let p = bind_ok (property (length globals) globals s) (λ p r. Some (Some p, r)) o rest q.1 in
          let i = property-is s p.mid p.value p.first in
          property_taken m s (Some p.value) o p.mid rest p.second (record { takes = i.0; fits = (source, i.1, i.2) })

      none : ((not (is_woven m) && is_at 0 fixed.Open s.words) ≡ false) × (◌≡◌ {A = Outcome (Option Property)} (Some (None, s)) (Some (o, rest))) → PropertyTaken m s o rest
      none q = property_taken m s None o s rest q.1 (record { takes = Takes-none s; fits = tt })

  property-gives : AreDistinct globals → (p : Property) (ws : List Word) (n : ℕ) → is_name p.name ≡ true → p.variable < length globals
      → property (length globals) globals (record { words = property_words globals p ++ ws; budget = n }) ≡ Some (p, record { words = ws; budget = n })
  unfolding property property_head property_middle variable name expect_all expect take_word is_fixed
  property-gives distinct p ws n is below =
      let at : variable_of (length globals) globals (name_at globals p.variable) ≡ Some p.variable =
      ap (λ names. variable_of (length globals) names (name_at globals p.variable)) (sym (append-nil globals)) ∙ variable_of-at globals [] (subst AreDistinct (sym (append-nil globals)) distinct) p.variable below in
      rw (is, at) refl

  pub optional_property-gives : (m : Mode) → AreDistinct globals → (o : Option Property) (rest : Left) → PropertyFits m (length globals) o → is_at 0 fixed.Open rest.words ≡ false
      → optional_property m (length globals) globals (before (optional_property_words globals o) 0 rest) ≡ Some (o, rest)
  unfolding optional_property is_at is_fixed
  optional_property-gives mode.Source distinct None rest fits ends = let zero_more : 0 + rest.budget ≡ rest.budget = omega arith in rw (zero_more, ends) refl
  optional_property-gives mode.Woven distinct None rest fits ends = let zero_more : 0 + rest.budget ≡ rest.budget = omega arith in rw zero_more refl
  optional_property-gives mode.Source distinct (Some p) rest fits ends =
      let zero_more : 0 + rest.budget ≡ rest.budget = omega arith in
      rw zero_more (gives_bind _ (property-gives distinct p rest.words rest.budget fits.1 fits.2) refl)
  optional_property-gives mode.Woven distinct (Some p) rest fits ends = let no_mode : mode.Woven ≡ mode.Source = fits.0 in cc
