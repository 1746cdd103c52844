-- A woven core simulates its source and judges the source's monitors.
-- Monitors have the numbers from 1. What a monitor asks of a list of steps is an argument, and for an automaton when it accepts one.
use Rattle.std.specs.Prelude.{◌≡◌, ◌↔◌, ℤ, ℕ, ◌≤◌, Bool, true, false, List, length, take}
use Rattle.std.specs.List.{AllByRecursion}
use Rattle.step_meaning.specs.declared.program.Core.{Core}
use Rattle.step_meaning.specs.Steps.{Step, Exit, items, steps, end}
use Rattle.step_meaning.specs.Runs.{run}
use Rattle.step_meaning.specs.Erasure.{erased}
use Rattle.step_meaning.specs.Verdicts.{verdicts, verdicts_before, AreSafe, HasNoAccept, HasOneAccept}

pub record IsMonitor (monitors j : ℕ) : Type 0 where
  pub from_one : 1 ≤ j
  pub to_last : j ≤ monitors

-- what is woven into a source: how many monitors, which of them are automata, what each asks, and when an automaton accepts
pub record Simulates (source woven : Core) (monitors : ℕ) (is_automaton : ℕ → Bool) (judge accepts : ℕ → List Step → Type 0) : Type 0 where
  pub same_end : (input : List ℕ) (k : ℕ) → end (run woven input k) ≡ end (run source input k)
  pub same_steps : (input : List ℕ) (k : ℕ) → erased woven (items (run woven input k)) ≡ erased source (items (run source input k))
  -- the Safe verdicts before the n-th step are all true exactly where the first n steps of the source meet the monitor
  pub judged : (input : List ℕ) (k n j : ℕ) → IsMonitor monitors j → n ≤ length (steps (run source input k))
      → AreSafe j (verdicts_before n (items (run woven input k))) ↔ judge j (take n (steps (run source input k)))
  -- at the exit an automaton has one Accept verdict, true exactly where it accepts all steps of the source
  pub accepted : (input : List ℕ) (k j : ℕ) (v : ℤ) → IsMonitor monitors j → is_automaton j ≡ true → end (run woven input k) ≡ Exit v
      → HasOneAccept j (accepts j (steps (run source input k))) (verdicts (items (run woven input k)))
  -- a property has none
  pub no_accept : (input : List ℕ) (k j : ℕ) → IsMonitor monitors j → is_automaton j ≡ false → HasNoAccept j (verdicts (items (run woven input k)))
  -- each verdict is of one of the monitors
  pub theirs : (input : List ℕ) (k : ℕ) → AllByRecursion (λ v. IsMonitor monitors v.monitor) (verdicts (items (run woven input k)))
