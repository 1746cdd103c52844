-- The machine has made steps, and hasn't stopped.
use Rattle.std.proofs.Common.{◌-◌, ◌≤◌}
use Rattle.run_check.specs.RunningTo.{Ran}
use Rattle.run_check.proofs.run_to.run_on.Given as goal

abbrev pub invariant-loop-machine : goal.invariant-loop-machine
invariant-loop-machine g l = record {
  ran : Ran l.initial.steps l.initial.machine l.machine (g.S.Source.left l.initial.input) (g.S.Source.left l.input) (g.K.Sink.held l.initial.out) (g.K.Sink.held l.out);
  read : g.S.Source.faults l.initial.input ≤ g.S.Source.faults l.input;
  written : g.K.Sink.faults l.initial.out ≤ g.K.Sink.faults l.out;
}

abbrev pub decreases-loop-machine : goal.decreases-loop-machine
decreases-loop-machine g l = l.steps - l.machine.steps
