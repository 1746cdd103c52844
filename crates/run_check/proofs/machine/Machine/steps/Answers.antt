-- A machine that hasn't stopped runs on.
use Rattle.run_check.proofs.ViewLaws.{is_going}
use Rattle.run_check.proofs.machine.Machine.steps.Goals as goal

pub returns-clause-going : goal.returns-clause-going
returns-clause-going c =
    let x = c.self.inside.run.machine in
    rw (← c.self.view_is) (λ e. is_going c.self.inside.run.steps x x.memory.chunk_limit x.memory.call_limit c.self.inside.stopped c.self.invariant.3 (c.self.invariant.1 e))
