-- The first steps of a run, and its output.
use Rattle.std.specs.Prelude.{◌≡◌, ℕ, zero, suc, ◌+◌, ◌<◌, ◌≤◌, List, [], ◌∷◌, take, length}
use Rattle.step_meaning.specs.declared.value.Action.{Action}
use Rattle.step_meaning.specs.declared.value.Action.TheVariants.{Output}
use Rattle.step_meaning.specs.declared.program.Core.{Core}
use Rattle.step_meaning.specs.Steps.{Step, Made, Judged, More, Trace, Stop, Then, steps, end}
use Rattle.step_meaning.specs.Runs.{run}

-- the first n steps, or all where there are fewer
abbrev pub first_steps : Core → List ℕ → ℕ → List Step
first_steps q input n = take n (steps (run q input (n + 1)))

-- the bytes of the Output steps, in order
abbrev pub output_of : Action → List ℕ → List ℕ
output_of (Output b) bs = b ∷ bs
output_of _ bs = bs

abbrev pub output : List Step → List ℕ
output [] = []
output (s ∷ ss) = output_of s.action (output ss)

-- a run cut after its n-th step, with the verdicts before each step; the end is More where a step is left out
abbrev pub first_items : ℕ → Trace → Trace
first_items n (Stop e) = Stop e
first_items zero (Then (Made s) t) = Stop More
first_items zero (Then (Judged v) t) = first_items zero t
first_items (suc n) (Then (Made s) t) = Then (Made s) (first_items n t)
first_items (suc n) (Then (Judged v) t) = Then (Judged v) (first_items (suc n) t)

-- larger bounds give the same first steps: each turn and each activation makes a step
pub record SameFirstSteps : Type 0 where
  pub same_steps : (q : Core) (input : List ℕ) (n k : ℕ) → n < k → take n (steps (run q input k)) ≡ first_steps q input n
  -- with the verdicts before each, and the end
  pub same_items : (q : Core) (input : List ℕ) (n k : ℕ) → n < k → first_items n (run q input k) ≡ first_items n (run q input (n + 1))
  -- a run that spends its bound has made at least as many steps
  pub made_when_spent : (q : Core) (input : List ℕ) (n : ℕ) → end (run q input (n + 1)) ≡ More → n + 1 ≤ length (steps (run q input (n + 1)))
