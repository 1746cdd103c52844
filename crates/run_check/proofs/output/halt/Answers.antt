-- The last step.
use Rattle.run_turns.specs.Pending as pending
use Rattle.run_state.specs.Machine.{configuration_of}
use Rattle.run_check.proofs.Pops.{one_free}
use Rattle.run_check.proofs.WriteLaws.{halt_made}
use Rattle.run_check.proofs.output.halt.Goals as goal

pub push-requires : goal.push-requires
push-requires c = one_free c.args.run.now.steps c.args.run.now.machine (pending.Halt c.args.fault) c.requires.runs

pub returns-clause-advances : goal.returns-clause-advances
returns-clause-advances c left held =
    let x = c.args.run.now.machine in
    rw c.push.ensures (halt_made x.memory.chunk_limit x.memory.call_limit x.core.now c.args.fault (configuration_of x) left held)
