-- A woven core simulates its source with the hooks that were woven into it: the same run outside, and the verdicts of each hooks' fold along the source's steps.
use Rattle.std.specs.Prelude.{◌≡◌, ◌↔◌, ℤ, ℕ, ◌≤◌, List, length}
use Rattle.std.specs.List.{AllByRecursion, Contains}
use Rattle.step_meaning.specs.declared.program.Core.{Core}
use Rattle.step_meaning.specs.declared.program.Hooks.{Hooks}
use Rattle.step_meaning.specs.Steps.{Exit, items, steps, end}
use Rattle.step_meaning.specs.Runs.{run}
use Rattle.step_meaning.specs.Erasure.{erased}
use Rattle.step_meaning.specs.Verdicts.{verdicts, verdicts_before, AreSafe, accept_verdicts}
use Rattle.step_meaning.specs.Fold.{fold}

pub record FoldSimulates (source : Core) (hs : List Hooks) (woven : Core) : Type 0 where
  -- for every input and bound the same end and, functions by their names, the same steps
  pub same_end : (input : List ℕ) (k : ℕ) → end (run woven input k) ≡ end (run source input k)
  pub same_steps : (input : List ℕ) (k : ℕ) → erased woven (items (run woven input k)) ≡ erased source (items (run source input k))
  -- the Safe verdicts of a monitor before the n-th step are all true exactly where those of the fold are
  pub judged : (input : List ℕ) (k n : ℕ) (h : Hooks) → Contains hs h → n ≤ length (steps (run source input k))
      → AreSafe h.monitor (verdicts_before n (items (run woven input k))) ↔ AreSafe h.monitor (verdicts_before n (fold source h (steps (run source input k))))
  -- the Accept verdicts of a monitor before the n-th step are those of the fold, also in a run that doesn't exit
  pub accepted : (input : List ℕ) (k n : ℕ) (h : Hooks) → Contains hs h → n ≤ length (steps (run source input k))
      → accept_verdicts h.monitor (verdicts_before n (items (run woven input k))) ≡ accept_verdicts h.monitor (verdicts_before n (fold source h (steps (run source input k))))
  -- at the exit they are those of the whole fold
  pub accepted_at_exit : (input : List ℕ) (k : ℕ) (v : ℤ) (h : Hooks) → Contains hs h → end (run woven input k) ≡ Exit v
      → accept_verdicts h.monitor (verdicts (items (run woven input k))) ≡ accept_verdicts h.monitor (verdicts (fold source h (steps (run source input k))))
  -- each verdict is of the monitor of one of the hooks
  pub theirs : (input : List ℕ) (k : ℕ) → AllByRecursion (λ v. (h : Hooks) × Contains hs h × (v.monitor ≡ h.monitor)) (verdicts (items (run woven input k)))
