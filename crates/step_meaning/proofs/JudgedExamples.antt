-- Hooks whose fold judges, and others whose fold doesn't. For every traced list of the program `two_writes`, and every number of its steps, the verdicts of `keep_x` are all true exactly where none of these steps writes `x`.
use Rattle.std.proofs.Common.{◌≡◌, ℕ, zero, suc, Bool, true, false, not, ◌&&◌, ◌||◌, ◌==◌, cond, List, [], ◌∷◌, ◌++◌, map, take, Option, Some, None, refl, sym, subst, ap, ◌∙◌, ◌⊎◌, inl, inr, lit≤, arith}
use Rattle.std.specs.Prelude.{◌↔◌, pos, ◌*ℤ◌, ◌+ℤ◌, slice_get, option_map, IsTrue}
use Rattle.std.specs.List.{AllByRecursion}
use Rattle.std.proofs.lemmas.Int.{ints}
use Rattle.std.proofs.lemmas.Bool.Decides.{nat_tests}
use Rattle.step_meaning.specs.declared.value.NameKind.TheVariants as names
use Rattle.step_meaning.specs.declared.value.CType.TheVariants as type
use Rattle.step_meaning.specs.declared.value.Name.{Name}
use Rattle.step_meaning.specs.declared.value.Value.{Value}
use Rattle.step_meaning.specs.declared.value.Value.TheVariants as value
use Rattle.step_meaning.specs.declared.value.Action.{Action}
use Rattle.step_meaning.specs.declared.value.Action.TheVariants as act
use Rattle.step_meaning.specs.declared.expr.CompareOp.TheVariants as comparing
use Rattle.step_meaning.specs.declared.predicate.Predicate.TheVariants as is
use Rattle.step_meaning.specs.declared.stmt.VerdictKind.TheVariants.{Safe}
use Rattle.step_meaning.specs.declared.stmt.Stmt.{Stmt}
use Rattle.step_meaning.specs.declared.program.Hooks.{Hooks}
use Rattle.step_meaning.specs.declared.program.Function.{Function}
use Rattle.step_meaning.specs.declared.program.HookPlace.TheVariants as place
use Rattle.step_meaning.specs.Numbers.{compared_integers}
use Rattle.step_meaning.specs.Names.{same_name}
use Rattle.step_meaning.specs.Memory.{Memory}
use Rattle.step_meaning.specs.Steps.{Step, Verdict, Item, Made, Judged}
use Rattle.step_meaning.specs.Views.{Sight}
use Rattle.step_meaning.specs.Terms.{Number, PointerInto, term_value}
use Rattle.step_meaning.specs.Predicates.{objects_between, all_defined, are_disjoint_in_pairs, when_defined, holds}
use Rattle.step_meaning.specs.Ghosts.{sight_with}
use Rattle.step_meaning.specs.ExpressionTypes.{has_body}
use Rattle.step_meaning.specs.StepViews.{accessed_by, sight_of}
use Rattle.step_meaning.specs.Traced.{IsPointer, AccessesPointer}
use Rattle.step_meaning.specs.Verdicts.{verdicts_before, AreSafe}
use Rattle.step_meaning.specs.Fold.{fits_action, code_at, verdicts_of_code, ghosts_after_code, cells_at, start_cells, fold_from, FoldJudges}
use Rattle.step_meaning.proofs.Examples.{int, empty_main}
use Rattle.step_meaning.proofs.FoldExamples.{point, hooks, safe, two_writes, apart_from_x, keep_x}
use Rattle.step_meaning.proofs.FoldPrefixes.{from_each}
use Rattle.step_meaning.proofs.TracedExamples.{open_memory, enter, leave_in, empty_main_traced}

-- ---- the property: no step writes `x`

abbrev x : Name
x = record { kind = names.Global; activation = 0; index = 0 }

abbrev writes_x : Action → Bool
writes_x (act.Write (value.Pointer n o) v) = same_name n x && o == 0
writes_x _ = false

abbrev NeverWritesX : List Step → Type 0
NeverWritesX ss = AllByRecursion (λ s. writes_x s.action ≡ false) ss

-- ---- the truth of `\separated(\written, &x)` at a write through a pointer

-- what the predicate says of the accessed pointer
abbrev said : Option Value → Bool
said a = when_defined are_disjoint_in_pairs (all_defined (
    objects_between (option_map term_value a) (Some (Number (pos 0))) (Some (Number (pos 0))) (type.Void ∷ [])
    ∷ objects_between (Some (PointerInto x (pos 0))) (Some (Number (pos 0))) (Some (Number (pos 0))) (int ∷ [])
    ∷ []))

not_among : (b : Bool) → ((not (b || false) && true) && true) && true ≡ not b
not_among true = refl
not_among false = refl

same_offset : (o : ℕ) → compared_integers comparing.Equal (pos o +ℤ (pos 0 *ℤ pos 1)) (pos 0 +ℤ (pos 0 *ℤ pos 1)) ≡ (o == 0)
same_offset o = grind (arith, ints, nat_tests)

said_of : (p : Value) (v : Value) → IsPointer p → said (Some p) ≡ not (writes_x (act.Write p v))
said_of (value.Int z) v h = absurd h
said_of value.Null v h = refl
said_of (value.Pointer n o) v h = not_among (same_name n x && compared_integers comparing.Equal (pos o +ℤ (pos 0 *ℤ pos 1)) (pos 0 +ℤ (pos 0 *ℤ pos 1))) ∙ ap (λ b. not (same_name n x && b)) (same_offset o)

-- ---- one step

abbrev code : List Stmt
code = safe apart_from_x ∷ []

not_false : (b : Bool) → not b ≡ true → b ≡ false
not_false true e = sym e
not_false false e = refl

-- the verdicts of the code at a write, and of no code elsewhere
step_judged : (view : Sight) (cells : Memory) (a : Action) → view.accessed ≡ accessed_by a → AccessesPointer a → AreSafe 1 (verdicts_of_code view (cond (fits_action place.Write a) code []) cells) ↔ (writes_x a ≡ false)
step_judged view cells (act.Write p v) e h = ((λ safe. not_false (writes_x (act.Write p v)) (sym truth ∙ safe.0 refl refl)), λ never. ((λ m k. truth ∙ ap not never), tt))
  where
    truth : holds (sight_with view cells) apart_from_x ≡ not (writes_x (act.Write p v))
    truth = ap said e ∙ said_of p v h
step_judged view cells (act.Enter g vs) e h = ((λ safe. refl), λ never. tt)
step_judged view cells (act.Call g) e h = ((λ safe. refl), λ never. tt)
step_judged view cells (act.Return g v) e h = ((λ safe. refl), λ never. tt)
step_judged view cells (act.Read p) e h = ((λ safe. refl), λ never. tt)
step_judged view cells act.Input e h = ((λ safe. refl), λ never. tt)
step_judged view cells (act.Output b) e h = ((λ safe. refl), λ never. tt)
step_judged view cells (act.Malloc n p k) e h = ((λ safe. refl), λ never. tt)
step_judged view cells (act.Free p) e h = ((λ safe. refl), λ never. tt)
step_judged view cells act.Turn e h = ((λ safe. refl), λ never. tt)
step_judged view cells (act.Halt f) e h = ((λ safe. refl), λ never. tt)

-- the two functions with a body
abbrev IsOne : ℕ → Type 0
IsOne g = (g ≡ 4) ⊎ (g ≡ 5)

abbrev pub with_body : Option Function → Bool
with_body None = false
with_body (Some f) = has_body f

is_one : (g : ℕ) → IsTrue (with_body (slice_get two_writes.functions g)) → IsOne g
is_one zero h = absurd (no h)
  where
    no : false ≡ true → ⊥
    no e = cc
is_one (suc zero) h = absurd (no h)
  where
    no : false ≡ true → ⊥
    no e = cc
is_one (suc (suc zero)) h = absurd (no h)
  where
    no : false ≡ true → ⊥
    no e = cc
is_one (suc (suc (suc zero))) h = absurd (no h)
  where
    no : false ≡ true → ⊥
    no e = cc
is_one (suc (suc (suc (suc zero)))) h = inl refl
is_one (suc (suc (suc (suc (suc zero))))) h = inr refl
is_one (suc (suc (suc (suc (suc (suc g)))))) h = absurd (no h)
  where
    no : false ≡ true → ⊥
    no e = cc

-- each of the two points has the code, at a write of its function
code_found : (g : ℕ) (b : Bool) → IsOne g → cond ((4 == g) && b) code [] ++ (cond ((5 == g) && b) code [] ++ []) ≡ cond b code []
code_found g true (inl e) = subst (λ g. cond ((4 == g) && true) code [] ++ (cond ((5 == g) && true) code [] ++ []) ≡ code) (sym e) refl
code_found g true (inr e) = subst (λ g. cond ((4 == g) && true) code [] ++ (cond ((5 == g) && true) code [] ++ []) ≡ code) (sym e) refl
code_found g false (inl e) = subst (λ g. cond ((4 == g) && false) code [] ++ (cond ((5 == g) && false) code [] ++ []) ≡ []) (sym e) refl
code_found g false (inr e) = subst (λ g. cond ((4 == g) && false) code [] ++ (cond ((5 == g) && false) code [] ++ []) ≡ []) (sym e) refl

-- ---- lists

before_step : (vs : List Verdict) (s : Step) (n : ℕ) (is : List Item) → verdicts_before (suc n) (map Judged vs ++ (Made s ∷ is)) ≡ vs ++ verdicts_before n is
before_step [] s n is = refl
before_step (v ∷ vs) s n is = ap (λ more. v ∷ more) (before_step vs s n is)

safe_parts : (vs ws : List Verdict) → AreSafe 1 (vs ++ ws) → AreSafe 1 vs × AreSafe 1 ws
safe_parts [] ws h = (tt, h)
safe_parts (v ∷ vs) ws h = let r = safe_parts vs ws h.1 in ((h.0, r.0), r.1)

safe_whole : (vs ws : List Verdict) → AreSafe 1 vs → AreSafe 1 ws → AreSafe 1 (vs ++ ws)
safe_whole [] ws h k = k
safe_whole (v ∷ vs) ws h k = (h.0, safe_whole vs ws h.1 k)

-- a step by one of the functions, whose access is at a pointer
abbrev IsKnown : Step → Type 0
IsKnown s = IsOne s.function × AccessesPointer s.action

judged_from : (ss more : List Step) (n : ℕ) (ghosts : Memory) → AllByRecursion IsKnown more → AreSafe 1 (verdicts_before n (fold_from two_writes keep_x ss ghosts more)) ↔ NeverWritesX (take n more)
judged_from ss more zero ghosts h = ((λ safe. tt), λ never. tt)
judged_from ss [] (suc n) ghosts h = ((λ safe. tt), λ never. tt)
judged_from ss (s ∷ more) (suc n) ghosts h = both (judged_from ss more n after h.1)
  where
    view : Sight
    view = sight_of two_writes ss s

    cells : Memory
    cells = cells_at two_writes keep_x s ghosts

    after : Memory
    after = ghosts_after_code view (code_at keep_x.points s) cells

    own : List Verdict
    own = verdicts_of_code view (code_at keep_x.points s) cells

    later : List Verdict
    later = verdicts_before n (fold_from two_writes keep_x ss after more)

    split : verdicts_before (suc n) (fold_from two_writes keep_x ss ghosts (s ∷ more)) ≡ own ++ later
    split = before_step own s n (fold_from two_writes keep_x ss after more)

    step : AreSafe 1 own ↔ (writes_x s.action ≡ false)
    step = subst (λ c. AreSafe 1 (verdicts_of_code view c cells) ↔ (writes_x s.action ≡ false)) (sym (code_found s.function (fits_action place.Write s.action) h.0.0)) (step_judged view cells s.action refl h.0.1)

    both : AreSafe 1 later ↔ NeverWritesX (take n more) → AreSafe 1 (verdicts_before (suc n) (fold_from two_writes keep_x ss ghosts (s ∷ more))) ↔ NeverWritesX (take (suc n) (s ∷ more))
    both rest = (
      (λ safe. let parts = safe_parts own later (subst (AreSafe 1) split safe) in (step.0 parts.0, rest.0 parts.1)),
      λ never. subst (AreSafe 1) (sym split) (safe_whole own later (step.1 never.0) (rest.1 never.1)),
    )

keep_x_judges : FoldJudges two_writes keep_x NeverWritesX
keep_x_judges = record { judged = λ ss traced n l. judged_from ss ss n (start_cells two_writes keep_x) (from_each IsKnown ss (λ i s e. let step = traced.each i s e in (is_one s.function (subst (λ o. IsTrue (with_body o)) (sym step.executed.1.0) step.executed.1.1), step.accesses))) }

-- ---- hooks that don't judge: a verdict that is always false, for a property that every list of steps meets

abbrev never_safe : Hooks
never_safe = hooks [] (point 4 place.Return [] (safe is.False ∷ []) ∷ [])

never_safe_judges : FoldJudges empty_main never_safe (λ ss. Unit {0}) → ⊥
never_safe_judges h = no ((h.judged (enter ∷ leave_in open_memory ∷ []) empty_main_traced 2 (lit≤ tt)).1 tt).0
  where
    no : (never_safe.monitor ≡ never_safe.monitor → Safe ≡ Safe → false ≡ true) → ⊥
    no k = differ (k refl refl)
      where
        differ : false ≡ true → ⊥
        differ e = cc
