-- Programs that agree, erase and simulate, and others that don't.
use Rattle.std.proofs.Common.{◌≡◌, ◌==◌, ◌<◌, ℕ, zero, suc, refl, sym, ap, List, [], ◌∷◌, map, length, Some, lit≤, lit<, arith}
use Rattle.std.specs.Prelude.{codes}
use Rattle.step_meaning.specs.declared.value.NameKind.TheVariants as names
use Rattle.step_meaning.specs.declared.stmt.Stmt.TheVariants as s
use Rattle.step_meaning.specs.declared.program.Hooks.{Hooks}
use Rattle.step_meaning.specs.declared.program.Function.{Function}
use Rattle.step_meaning.specs.declared.program.Core.{Core}
use Rattle.step_meaning.specs.Steps.{items, steps}
use Rattle.step_meaning.specs.Runs.{run}
use Rattle.step_meaning.specs.Erasure.{erased, Agrees}
use Rattle.step_meaning.specs.Verdicts.{verdicts}
use Rattle.step_meaning.specs.FoldSimulation.{FoldSimulates}
use Rattle.std.specs.List.{AllByRecursion, Contains}
use Rattle.step_meaning.proofs.AnnotationExamples.{false_is_not_true}
use Rattle.step_meaning.proofs.Examples.{int, declared, lit, local, load, invoke, return, function, program, empty_main}
use Rattle.step_meaning.proofs.FoldExamples.{two_writes}
use Rattle.step_meaning.proofs.FoldExamples as folds

-- ---- int f(void) { int a = 1; return a; } int main(void) { return f(); }

abbrev f : Function
f = record (function int (declared int ∷ []) (s.Init (record { kind = names.Local; index = 0 }) 0 int (lit 1) ∷ return (load (local 0)) ∷ [])) { name = codes "f" }

abbrev main : Function
main = record (function int [] (return (invoke 4) ∷ [])) { name = codes "main" }

abbrev named : Core
named = program [] [] (f ∷ main ∷ []) 5

-- an erased step shows the name of its function, and its memory as it is
names_shown : map (λ s. s.function) (erased named (items (run named [] 9))) ≡ (codes "main" ∷ codes "main" ∷ codes "f" ∷ codes "f" ∷ codes "f" ∷ codes "f" ∷ codes "main" ∷ [])
names_shown = refl

memories_shown : map (λ s. s.memory) (erased named (items (run named [] 9))) ≡ map (λ s. s.memory) (steps (run named [] 9))
memories_shown = refl

-- ---- agreement

-- a program whose functions stand in another order
abbrev main_first : Core
main_first = program [] [] (record main { body = Some (return (invoke 5) ∷ []) } ∷ f ∷ []) 4

numbers_may_differ : erased main_first (items (run main_first [] 9)) ≡ erased named (items (run named [] 9))
numbers_may_differ = refl

itself : (q : Core) → Agrees q q
itself q = record { same_end = λ i k. refl; same_items = λ i k. refl }

another : Agrees empty_main two_writes → ⊥
another a = false_is_not_true (sym (ap (λ is. length is == 2) (a.same_items [] 5)))

-- ---- simulation of folds

-- a text that is not woven doesn't simulate its source with hooks
not_woven : FoldSimulates two_writes (folds.keep_x ∷ []) two_writes → ⊥
not_woven f = false_is_not_true (((f.judged [] 5 6 folds.keep_x (0, lit< tt, refl) (lit≤ tt)).0 tt).1.0 refl refl)

-- a program simulates itself with no hooks
none_contained : {A : Type 0} (h : Hooks) → Contains [] h → A
none_contained h c = absurd (below c.0 c.1)
  where
    below : (n : ℕ) → n < 0 → ⊥
    below n l = omega arith

with_no_hooks : FoldSimulates empty_main [] empty_main
with_no_hooks = record {
  same_end = λ i k. refl;
  same_steps = λ i k. refl;
  judged = λ i k n h c l. none_contained h c;
  accepted = λ i k n h c l. none_contained h c;
  accepted_at_exit = λ i k v h c e. none_contained h c;
  theirs = λ i k. silent i k;
}
  where
    silent : (i : List ℕ) (k : ℕ) → AllByRecursion (λ v. (h : Hooks) × Contains [] h × (v.monitor ≡ h.monitor)) (verdicts (items (run empty_main i k)))
    silent i zero = tt
    silent i (suc k) = tt
