-- A statement is read exactly where it is spelled and fits.
use Rattle.std.proofs.Common.{◌≡◌, ℕ, ◌<◌, true, ◌||◌, if◌then◌else◌, List, [], ◌∷◌, ◌++◌, length, Some, refl, sym, subst, ⊎_elim, ℤ, pos, ◌≤ℤ◌, arith}
use Rattle.std.proofs.lemmas.Int.{ints}
use Rattle.c_parser.specs.declared.first_form.fixed.Fixed.TheVariants as fixed
use Rattle.c_words.specs.declared.word.Mode.{Mode}
use Rattle.c_words.specs.declared.word.Mode.TheVariants as mode
use Rattle.c_parser.specs.declared.first_form.tree.FirstStmt.{FirstStmt}
use Rattle.c_parser.specs.declared.first_form.tree.FirstStmt.TheVariants as stmt
use Rattle.c_parser.specs.FirstForm.Spelling.{name_at, statement_words, named}
use Rattle.c_parser.specs.FirstForm.Texts.{StatementFits}
use Rattle.c_parser.specs.FirstForm.Reading.{Left, Outcome, guard, known, is_at, expect, expect_all, name, number, spend, variable_of, function_of_name, variable, assignment, call, named_statement, assertion, empty_statement, woven_statement, statement, next_statement, is_woven}
use Rattle.c_parser.proofs.FirstForm.Taking.{Takes, ◌then◌, bind_ok, same_pair, chosen, guard-passes, known-gives, expect-takes, expect_all-takes, name-takes, number-takes, IsSmall, spend-takes}
use Rattle.c_parser.proofs.FirstForm.NameLaws.{variable_of-is, function_of-is}

module _ (globals functions : List (List ℕ)) where
  -- a statement that was taken
  pub record Stated (m : Mode) (s : Left) (a : FirstStmt) (rest : Left) : Type 0 where
    pub takes : Takes s (statement_words globals functions a) 0 rest
    pub fits : StatementFits m (length globals) (length functions) a

  stated : (m : Mode) (s : Left) (a b : FirstStmt) (mid rest : Left) → ◌≡◌ {A = Outcome FirstStmt} (Some (a, mid)) (Some (b, rest)) → Stated m s a mid → Stated m s b rest
  stated m s a b mid rest h i = let e = same_pair h in subst (λ x. Stated m s x rest) e.0 (subst (λ r. Stated m s a r) e.1 i)

  pub variable-is : (s rest : Left) (i : ℕ) → variable (length globals) (globals ++ functions) s ≡ Some (i, rest) → Takes s (named (name_at globals i) ∷ []) 0 rest × (i < length globals)
  unfolding variable
  variable-is s rest i h =
      let x = bind_ok (name s) _ i rest h in
      let k = known-gives (variable_of (length globals) (globals ++ functions) x.value) x.mid rest i x.second in
      let at = variable_of-is globals functions x.value i k.0 in
      (subst (λ y. Takes s (named y ∷ []) 0 rest) (sym at.1) (subst (λ r. Takes s (named x.value ∷ []) 0 r) k.1 (name-takes s x.mid x.value x.first)), at.0)

  within : (n : ℤ) → IsSmall n → (pos 0 ≤ℤ n) × (n ≤ℤ pos 2147483647)
  within n h = let is = h.is in let small = h.small in (omega (arith, ints), omega (arith, ints))

  assignment-is : (m : Mode) (x : List ℕ) (s mid rest : Left) (a : FirstStmt) → Takes s (named x ∷ []) 0 mid → assignment (length globals) (globals ++ functions) x mid ≡ Some (a, rest) → Stated m s a rest
  unfolding assignment
  assignment-is m x s mid rest a first h =
      let i = bind_ok (known (variable_of (length globals) (globals ++ functions) x) mid) _ a rest h in
      let k = known-gives (variable_of (length globals) (globals ++ functions) x) mid i.mid i.value i.first in
      let at = variable_of-is globals functions x i.value k.0 in
      let equals = bind_ok (expect fixed.Equals i.mid) _ a rest i.second in
      let n = bind_ok (number equals.mid) _ a rest equals.second in
      let semicolon = bind_ok (expect fixed.Semicolon n.mid) _ a rest n.second in
      let value = number-takes equals.mid n.mid n.value n.first in
      let begun : Takes s (named (name_at globals i.value) ∷ []) 0 i.mid = subst (λ y. Takes s (named y ∷ []) 0 i.mid) (sym at.1) (subst (λ r. Takes s (named x ∷ []) 0 r) k.1 first) in
      let bounds = within n.value value.1 in
      stated m s (stmt.Assign i.value n.value) a semicolon.mid rest semicolon.second (record {
        takes = begun then expect-takes fixed.Equals i.mid equals.mid equals.value equals.first then value.0 then expect-takes fixed.Semicolon n.mid semicolon.mid semicolon.value semicolon.first;
        fits = (at.0, bounds.0, bounds.1);
      })

  call-is : (m : Mode) (x : List ℕ) (s mid rest : Left) (a : FirstStmt) → Takes s (named x ∷ []) 0 mid → call (length globals) (globals ++ functions) x mid ≡ Some (a, rest) → Stated m s a rest
  unfolding call
  call-is m x s mid rest a first h =
      let f = bind_ok (known (function_of_name (length globals) (globals ++ functions) x) mid) _ a rest h in
      let k = known-gives (function_of_name (length globals) (globals ++ functions) x) mid f.mid f.value f.first in
      let at = function_of-is globals functions x f.value k.0 in
      let ends = bind_ok (expect_all (fixed.LeftParen ∷ fixed.RightParen ∷ fixed.Semicolon ∷ []) f.mid) _ a rest f.second in
      let begun : Takes s (named (name_at functions f.value) ∷ []) 0 f.mid = subst (λ y. Takes s (named y ∷ []) 0 f.mid) (sym at.1) (subst (λ r. Takes s (named x ∷ []) 0 r) k.1 first) in
      stated m s (stmt.Call f.value) a ends.mid rest ends.second (record {
        takes = begun then expect_all-takes (fixed.LeftParen ∷ fixed.RightParen ∷ fixed.Semicolon ∷ []) f.mid ends.mid ends.value ends.first;
        fits = at.0;
      })

  named_statement-is : (m : Mode) (s rest : Left) (a : FirstStmt) → named_statement (length globals) (globals ++ functions) s ≡ Some (a, rest) → Stated m s a rest
  unfolding named_statement
  named_statement-is m s rest a h =
      let x = bind_ok (name s) _ a rest h in
      let first = name-takes s x.mid x.value x.first in
      ⊎_elim (λ q. assignment-is m x.value s x.mid rest a first q.1) (λ q. call-is m x.value s x.mid rest a first q.1)
      (chosen (is_at 0 fixed.Equals x.mid.words) (assignment (length globals) (globals ++ functions) x.value x.mid) (call (length globals) (globals ++ functions) x.value x.mid) _ x.second)

  assertion-is : (s rest : Left) (a : FirstStmt) → assertion (length globals) (globals ++ functions) s ≡ Some (a, rest) → Stated mode.Woven s a rest
  unfolding assertion
  assertion-is s rest a h =
      let opening = fixed.Open ∷ fixed.Assert ∷ fixed.Label ∷ fixed.Colon ∷ fixed.Separated ∷ fixed.LeftParen ∷ fixed.Ampersand ∷ [] in
      let middle = fixed.Comma ∷ fixed.Ampersand ∷ [] in
      let closing = fixed.RightParen ∷ fixed.Semicolon ∷ fixed.Close ∷ [] in
      let o = bind_ok (expect_all opening s) _ a rest h in
      let y = bind_ok (variable (length globals) (globals ++ functions) o.mid) _ a rest o.second in
      let c = bind_ok (expect_all middle y.mid) _ a rest y.second in
      let x = bind_ok (variable (length globals) (globals ++ functions) c.mid) _ a rest c.second in
      let e = bind_ok (expect_all closing x.mid) _ a rest x.second in
      let left = variable-is o.mid y.mid y.value y.first in
      let right = variable-is c.mid x.mid x.value x.first in
      stated mode.Woven s (stmt.Assert y.value x.value) a e.mid rest e.second (record {
        takes = expect_all-takes opening s o.mid o.value o.first then left.0 then expect_all-takes middle y.mid c.mid c.value c.first then right.0 then expect_all-takes closing x.mid e.mid e.value e.first;
        fits = (refl, left.1, right.1);
      })

  empty_statement-is : (s rest : Left) (a : FirstStmt) → empty_statement s ≡ Some (a, rest) → Stated mode.Woven s a rest
  unfolding empty_statement
  empty_statement-is s rest a h =
      let e = bind_ok (expect fixed.Semicolon s) _ a rest h in
      stated mode.Woven s stmt.Empty a e.mid rest e.second (record { takes = expect-takes fixed.Semicolon s e.mid e.value e.first; fits = refl })

  woven_mode : (m : Mode) → is_woven m ≡ true → mode.Woven ≡ m
  woven_mode mode.Source h = cc
  woven_mode mode.Woven h = refl

  woven_statement-is : (m : Mode) (s rest : Left) (a : FirstStmt) → woven_statement m (length globals) (globals ++ functions) s ≡ Some (a, rest) → Stated m s a rest
  unfolding woven_statement
  woven_statement-is m s rest a h =
      let g = bind_ok (guard (is_woven m) s) _ a rest h in
      let p = guard-passes (is_woven m) s g.mid g.value g.first in
      let from_here : Stated mode.Woven g.mid a rest =
      ⊎_elim (λ q. empty_statement-is g.mid rest a q.1) (λ q. assertion-is g.mid rest a q.1)
      (chosen (is_at 0 fixed.Semicolon g.mid.words) (empty_statement g.mid) (assertion (length globals) (globals ++ functions) g.mid) _ g.second) in
      subst (λ k. Stated k s a rest) (woven_mode m p.0) (subst (λ r. Stated mode.Woven r a rest) (sym p.1) from_here)

  pub statement-is : (m : Mode) (s rest : Left) (a : FirstStmt) → statement m (length globals) (globals ++ functions) s ≡ Some (a, rest) → Stated m s a rest
  unfolding statement
  statement-is m s rest a h =
      ⊎_elim (λ q. woven_statement-is m s rest a q.1) (λ q. named_statement-is m s rest a q.1)
      (chosen (is_at 0 fixed.Semicolon s.words || is_at 0 fixed.Open s.words) (woven_statement m (length globals) (globals ++ functions) s) (named_statement (length globals) (globals ++ functions) s) _ h)

  pub next_statement-is : (m : Mode) (found : List FirstStmt) (s rest : Left) (a : FirstStmt) → next_statement m (length globals) (globals ++ functions) found s ≡ Some (a, rest)
      → Takes s (statement_words globals functions a) 1 rest × StatementFits m (length globals) (length functions) a
  unfolding next_statement
  next_statement-is m found s rest a h =
      let one = bind_ok (spend s) _ a rest h in
      let i = statement-is m one.mid rest a one.second in
      (spend-takes s one.mid one.value one.first then i.takes, i.fits)
