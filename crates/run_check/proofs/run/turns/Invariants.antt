-- The machine goes on, and less is left to do before its next step.
use Rattle.std.proofs.Common.{◌≡◌}
use Rattle.run_turns.specs.Weight.{load}
use Rattle.run_state.specs.Machine.{configuration_of, fixed_of}
use Rattle.run_check.specs.Going.{GoesTo}
use Rattle.run_check.proofs.run.turns.Given as goal

abbrev pub invariant-loop-part : goal.invariant-loop-part
invariant-loop-part l = record {
  steps : l.run.steps ≡ l.initial.run.steps;
  goes : GoesTo l.initial.run.steps (fixed_of l.initial.run.machine) (fixed_of l.run.machine) (configuration_of l.initial.run.machine) (configuration_of l.run.machine);
}

abbrev pub decreases-loop-part : goal.decreases-loop-part
decreases-loop-part l = load (configuration_of l.run.machine).work
