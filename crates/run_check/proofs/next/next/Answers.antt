-- A plain step, or one that asks for more, after turns without a step.
use Rattle.std.proofs.Common.{◌+◌}
use Rattle.run_state.specs.Machine.{configuration_of, fixed_of, pending_of}
use Rattle.run_turns.specs.Turns.{pushed}
use Rattle.run_check.proofs.NextLaws.{advances_from, plain_advances}
use Rattle.run_check.proofs.next.next.Goals as goal

pub returns-in-None-clause-advances : goal.returns-in-None-clause-advances
returns-in-None-clause-advances g c =
    let x = c.args.run.now.machine in
    let y = c.turns.new.run.machine in
    plain_advances x.memory.chunk_limit x.memory.call_limit c.args.run.now.steps (c.turns.new.run.steps + 1) (fixed_of x) (configuration_of x) y (c.turns.ensures.made c.in-None.is) (g.S.Source.left c.args.input.now) (g.K.Sink.held c.args.out.now) c.after_step.result c.after_step.ensures.after

pub returns-in-Some-clause-advances : goal.returns-in-Some-clause-advances
returns-in-Some-clause-advances g c =
    let x = c.args.run.now.machine in
    let y = c.turns.new.run.machine in
    advances_from c.args.run.now.steps (fixed_of x) (fixed_of y) (configuration_of x) (pushed (pending_of y.core.now c.in-Some.part) (configuration_of y)) c.in-Some.ensures.comes (configuration_of c.asked.new.run.machine) (g.S.Source.left c.args.input.now) (g.S.Source.left c.asked.new.input) (g.K.Sink.held c.args.out.now) (g.K.Sink.held c.asked.new.out) c.asked.result c.asked.ensures.advances
