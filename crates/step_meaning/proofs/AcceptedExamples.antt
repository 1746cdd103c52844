-- Hooks with an Accept verdict, and hooks without. Of the empty `main` the verdict at the Return of `main` says whether 0 is returned, for every traced list.
use Rattle.std.proofs.Common.{◌≡◌, ℕ, zero, suc, ◌<◌, Bool, true, false, ◌&&◌, ◌==◌, cond, List, [], ◌∷◌, ◌++◌, map, length, Option, Some, None, refl, sym, subst, ap, ◌∙◌, inl, arith}
use Rattle.std.specs.Prelude.{◌↔◌, pos, slice_get, IsTrue}
use Rattle.std.specs.List.{AllByRecursion}
use Rattle.step_meaning.specs.declared.value.Value.{Value}
use Rattle.step_meaning.specs.declared.value.Value.TheVariants as value
use Rattle.step_meaning.specs.declared.value.Action.{Action}
use Rattle.step_meaning.specs.declared.value.Action.TheVariants as act
use Rattle.step_meaning.specs.declared.expr.CompareOp.TheVariants as comparing
use Rattle.step_meaning.specs.declared.predicate.Term.TheVariants as t
use Rattle.step_meaning.specs.declared.predicate.Predicate.TheVariants as is
use Rattle.step_meaning.specs.declared.stmt.VerdictKind.TheVariants.{Safe, Accept}
use Rattle.step_meaning.specs.declared.stmt.Stmt.{Stmt}
use Rattle.step_meaning.specs.declared.stmt.Stmt.TheVariants as s
use Rattle.step_meaning.specs.declared.program.Hooks.{Hooks}
use Rattle.step_meaning.specs.declared.program.HookPlace.TheVariants as place
use Rattle.step_meaning.specs.Numbers.{compared_integers}
use Rattle.step_meaning.specs.Memory.{Memory}
use Rattle.step_meaning.specs.Steps.{Step, Item, Made, Judged}
use Rattle.step_meaning.specs.Views.{Sight}
use Rattle.step_meaning.specs.Terms.{Number, result_at}
use Rattle.step_meaning.specs.Predicates.{related}
use Rattle.step_meaning.specs.StepViews.{event_of, result_of, sight_of}
use Rattle.step_meaning.specs.Traced.{is_return, NamesOwn, At, IsTraced}
use Rattle.step_meaning.specs.Verdicts.{verdicts, HasNoAccept, HasOneAccept}
use Rattle.step_meaning.specs.Fold.{fits_action, code_at, verdicts_of_code, ghosts_after_code, cells_at, start_cells, fold_from, FoldHasNoAccept, FoldAccepts}
use Rattle.step_meaning.proofs.Examples.{empty_main}
use Rattle.step_meaning.proofs.FoldExamples.{point, hooks, safe, two_writes, apart_from_x, keep_x}
use Rattle.step_meaning.proofs.FoldPrefixes.{from_each}
use Rattle.step_meaning.proofs.JudgedExamples.{with_body}
use Rattle.step_meaning.proofs.Ranges.{false_is_not_true}

-- ---- no Accept verdict

abbrev keeping : List Stmt
keeping = safe apart_from_x ∷ []

safe_is_not_accept : Safe ≡ Accept → ⊥
safe_is_not_accept e = cc

-- what the two points of `keep_x` have at a step
none_of_points : (view : Sight) (cells : Memory) (b c : Bool) (is : List Item) → HasNoAccept 1 (verdicts is) → HasNoAccept 1 (verdicts (map Judged (verdicts_of_code view (cond b keeping [] ++ (cond c keeping [] ++ [])) cells) ++ is))
none_of_points view cells true true is h = ((λ m k. safe_is_not_accept k), ((λ m k. safe_is_not_accept k), h))
none_of_points view cells true false is h = ((λ m k. safe_is_not_accept k), h)
none_of_points view cells false true is h = ((λ m k. safe_is_not_accept k), h)
none_of_points view cells false false is h = h

none_from : (ss more : List Step) (ghosts : Memory) → HasNoAccept 1 (verdicts (fold_from two_writes keep_x ss ghosts more))
none_from ss [] ghosts = tt
none_from ss (s ∷ more) ghosts =
    none_of_points (sight_of two_writes ss s) (cells_at two_writes keep_x s ghosts) (4 == s.function && fits_action place.Write s.action) (5 == s.function && fits_action place.Write s.action)
    (Made s ∷ fold_from two_writes keep_x ss (ghosts_after_code (sight_of two_writes ss s) (code_at keep_x.points s) (cells_at two_writes keep_x s ghosts)) more)
    (none_from ss more (ghosts_after_code (sight_of two_writes ss s) (code_at keep_x.points s) (cells_at two_writes keep_x s ghosts)))

keep_x_accepts_nothing : FoldHasNoAccept two_writes keep_x
keep_x_accepts_nothing = record { none = λ ss. none_from ss ss (start_cells two_writes keep_x) }

-- ---- one Accept verdict: at the Return of `main`, `\result == 0`

abbrev accepting : List Stmt
accepting = s.Assert Accept 1 (is.Relation comparing.Equal (t.Result 4) (t.Int (pos 0))) ∷ []

abbrev returns_zero : Hooks
returns_zero = hooks [] (point 4 place.Return [] accepting ∷ [])

-- a Return gives back 0
abbrev gives_zero : Action → Bool
gives_zero (act.Return g (Some (value.Int z))) = compared_integers comparing.Equal z (pos 0)
gives_zero (act.Return g _) = false
gives_zero _ = true

abbrev ReturnsZero : List Step → Type 0
ReturnsZero ss = AllByRecursion (λ s. gives_zero s.action ≡ true) ss

result_zero : (a : Action) (g : ℕ) → IsTrue (is_return a) → NamesOwn a g → g ≡ 4 → related comparing.Equal (result_at (event_of a) 4 (result_of a)) (Some (Number (pos 0))) ≡ gives_zero a
result_zero (act.Return k v) g r own e = subst (λ k. related comparing.Equal (result_at (event_of (act.Return k v)) 4 v) (Some (Number (pos 0))) ≡ gives_zero (act.Return k v)) (sym (own ∙ e)) (of v)
  where
    of : (v : Option Value) → related comparing.Equal (result_at (event_of (act.Return 4 v)) 4 v) (Some (Number (pos 0))) ≡ gives_zero (act.Return 4 v)
    of None = refl
    of (Some (value.Int z)) = refl
    of (Some value.Null) = refl
    of (Some (value.Pointer n o)) = refl
result_zero (act.Enter k vs) g r own e = false_is_not_true r
result_zero (act.Call k) g r own e = false_is_not_true r
result_zero (act.Read p) g r own e = false_is_not_true r
result_zero (act.Write p v) g r own e = false_is_not_true r
result_zero act.Input g r own e = false_is_not_true r
result_zero (act.Output b) g r own e = false_is_not_true r
result_zero (act.Malloc n p k) g r own e = false_is_not_true r
result_zero (act.Free p) g r own e = false_is_not_true r
result_zero act.Turn g r own e = false_is_not_true r
result_zero (act.Halt f) g r own e = false_is_not_true r

-- an action that is no Return, and one that is
other_action : (a : Action) → is_return a ≡ false → (fits_action place.Return a ≡ false) × (gives_zero a ≡ true)
other_action (act.Return g v) e = false_is_not_true (sym e)
other_action (act.Enter g vs) e = (refl, refl)
other_action (act.Call g) e = (refl, refl)
other_action (act.Read p) e = (refl, refl)
other_action (act.Write p v) e = (refl, refl)
other_action act.Input e = (refl, refl)
other_action (act.Output b) e = (refl, refl)
other_action (act.Malloc n p k) e = (refl, refl)
other_action (act.Free p) e = (refl, refl)
other_action act.Turn e = (refl, refl)
other_action (act.Halt f) e = (refl, refl)

return_fits : (a : Action) → IsTrue (is_return a) → fits_action place.Return a ≡ true
return_fits (act.Return g v) e = refl
return_fits (act.Enter g vs) e = e
return_fits (act.Call g) e = e
return_fits (act.Read p) e = e
return_fits (act.Write p v) e = e
return_fits act.Input e = e
return_fits (act.Output b) e = e
return_fits (act.Malloc n p k) e = e
return_fits (act.Free p) e = e
return_fits act.Turn e = e
return_fits (act.Halt f) e = e

-- the code at a step of `main`
code_found : (g : ℕ) (b : Bool) (c : Bool) → g ≡ 4 → b ≡ c → cond (4 == g && b) accepting [] ++ [] ≡ cond c accepting []
code_found g b c e f = subst (λ g. cond (4 == g && b) accepting [] ++ [] ≡ cond c accepting []) (sym e) (subst (λ b. cond b accepting [] ++ [] ≡ cond c accepting []) (sym f) (of c))
  where
    of : (c : Bool) → cond c accepting [] ++ [] ≡ cond c accepting []
    of true = refl
    of false = refl

-- ---- a list whose last step alone is a Return

-- a step of `main` that is no Return
abbrev IsOther : Step → Type 0
IsOther s = (s.function ≡ 4) × (is_return s.action ≡ false)

zeros_last : (before : List Step) (s : Step) → AllByRecursion IsOther before → (gives_zero s.action ≡ true) ↔ ReturnsZero (before ++ (s ∷ []))
zeros_last [] s h = ((λ e. (e, tt)), λ r. r.0)
zeros_last (x ∷ xs) s h = let rest = zeros_last xs s h.1 in ((λ e. ((other_action x.action h.0.1).1, rest.0 e)), λ r. rest.1 r.1)

abbrev OneAccept : Type 0 → List Item → Type 0
OneAccept fact is = HasOneAccept 1 fact (verdicts is)

accept_last : (whole before : List Step) (s : Step) (ghosts : Memory) (fact : Type 0) → AllByRecursion IsOther before → s.function ≡ 4 → IsTrue (is_return s.action) → NamesOwn s.action s.function → (gives_zero s.action ≡ true) ↔ fact
    → OneAccept fact (fold_from empty_main returns_zero whole ghosts (before ++ (s ∷ [])))
accept_last whole [] s ghosts fact h own r names f =
    subst (λ c. OneAccept fact (map Judged (verdicts_of_code view c cells) ++ (Made s ∷ [])))
    (sym (code_found s.function (fits_action place.Return s.action) true own (return_fits s.action r)))
    (inl (refl, refl, ((λ e. f.0 (sym truth ∙ e)), λ x. truth ∙ f.1 x), tt))
  where
    view : Sight
    view = sight_of empty_main whole s

    cells : Memory
    cells = cells_at empty_main returns_zero s ghosts

    truth : related comparing.Equal (result_at (event_of s.action) 4 (result_of s.action)) (Some (Number (pos 0))) ≡ gives_zero s.action
    truth = result_zero s.action s.function r names own
accept_last whole (x ∷ xs) s ghosts fact h own r names f =
    subst (λ c. OneAccept fact (map Judged (verdicts_of_code (sight_of empty_main whole x) c (cells_at empty_main returns_zero x ghosts)) ++ (Made x ∷ fold_from empty_main returns_zero whole (ghosts_after_code (sight_of empty_main whole x) c (cells_at empty_main returns_zero x ghosts)) (xs ++ (s ∷ [])))))
    (sym (code_found x.function (fits_action place.Return x.action) false h.0.0 (other_action x.action h.0.1).0))
    (accept_last whole xs s (cells_at empty_main returns_zero x ghosts) fact h.1 own r names f)

-- ---- traced lists

is_main : (g : ℕ) → IsTrue (with_body (slice_get empty_main.functions g)) → g ≡ 4
is_main zero h = false_is_not_true h
is_main (suc zero) h = false_is_not_true h
is_main (suc (suc zero)) h = false_is_not_true h
is_main (suc (suc (suc zero))) h = false_is_not_true h
is_main (suc (suc (suc (suc zero)))) h = refl
is_main (suc (suc (suc (suc (suc g))))) h = false_is_not_true h

in_front : (xs ys : List Step) (i : ℕ) (x : Step) → At xs i x → (i < length xs) × At (xs ++ ys) i x
in_front [] ys i x e = absurd (no e)
  where
    no : None ≡ Some x → ⊥
    no e = cc
in_front (y ∷ xs) ys zero x e = (omega arith, e)
in_front (y ∷ xs) ys (suc i) x e = let r = in_front xs ys i x e in (let l : i < length xs = r.0 in omega arith, r.1)

at_end : (xs : List Step) (s : Step) → At (xs ++ (s ∷ [])) (length xs) s
at_end [] s = refl
at_end (x ∷ xs) s = at_end xs s

longer : (xs : List Step) (s : Step) → length (xs ++ (s ∷ [])) ≡ suc (length xs)
longer [] s = refl
longer (x ∷ xs) s = ap suc (longer xs s)

returns_zero_accepts : FoldAccepts empty_main returns_zero ReturnsZero
returns_zero_accepts = record { accepted = λ before s traced own r. accept_last (before ++ (s ∷ [])) before s (start_cells empty_main returns_zero) (ReturnsZero (before ++ (s ∷ []))) (others before s traced) own r (traced.each (length before) s (at_end before s)).own_function (zeros_last before s (others before s traced)) }
  where
    others : (before : List Step) (s : Step) → IsTraced empty_main (before ++ (s ∷ [])) → AllByRecursion IsOther before
    others before s traced = from_each IsOther before (λ i x e. other i x e)
      where
        other : (i : ℕ) (x : Step) → At before i x → IsOther x
        other i x e =
            let place = in_front before (s ∷ []) i x e in
            let step = traced.each i x place.1 in
            let main = is_main x.function (subst (λ o. IsTrue (with_body o)) (sym step.executed.1.0) step.executed.1.1) in
            let short : i < length before = place.0 in
            (main, by (is_return x.action) (λ r. let end : suc i ≡ length (before ++ (s ∷ [])) = traced.main_ends i x place.1 ((traced.main_alone i x place.1).1 main) r in let long : length (before ++ (s ∷ [])) ≡ suc (length before) = longer before s in omega arith))
          where
            by : (b : Bool) → (b ≡ true → ⊥) → b ≡ false
            by true k = absurd (k refl)
            by false k = refl
