-- The byte that was read, or a read that failed.
use Rattle.std.proofs.Common.{◌+◌, sym, subst}
use Rattle.step_meaning.specs.declared.value.Value.{Value}
use Rattle.run_turns.specs.Pending as pending
use Rattle.run_turns.specs.Turns.{giving, pushed}
use Rattle.run_state.specs.Machine.{configuration_of, fixed_of}
use Rattle.run_start.specs.Running.{Runs}
use Rattle.run_check.specs.Advancing.{Makes}
use Rattle.run_check.proofs.ReadLaws.{read_failed, read_made, runs_on}
use Rattle.run_check.proofs.advance.read.Goals as goal

pub returns-in-Err-clause-advances : goal.returns-in-Err-clause-advances
returns-in-Err-clause-advances g c held =
    let x = c.args.run.now.machine in
    read_failed c.args.run.now.steps (fixed_of x) (configuration_of x) c.requires.runs x.memory.chunk_limit x.memory.call_limit c.in-Err.field-0 _ _ c.in-Err.ensures.taken held

pub returns-in-Ok-clause-after : goal.returns-in-Ok-clause-after
returns-in-Ok-clause-after g c e =
    let x = c.args.run.now.machine in
    subst (λ (v : Value). Runs (c.args.run.now.steps + 1) (fixed_of x) (giving v (configuration_of x))) (sym c.byte_value.ensures.number)
    (runs_on c.args.run.now.steps (fixed_of x) (configuration_of x) c.requires.runs c.in-Ok.byte c.byte_value.ensures.byte)

pub returns-in-Ok-clause-advances : goal.returns-in-Ok-clause-advances
returns-in-Ok-clause-advances g c held =
    let x = c.args.run.now.machine in
    subst (λ (v : Value). Makes x.memory.chunk_limit x.memory.call_limit x.core.now (pushed pending.Input (configuration_of x)) (giving v (configuration_of x)) (g.S.Source.left c.args.input.now) (g.S.Source.left c.next_byte.new.self) held held) (sym c.byte_value.ensures.number)
    (read_made c.args.run.now.steps (fixed_of x) (configuration_of x) c.requires.runs x.memory.chunk_limit x.memory.call_limit c.in-Ok.byte c.byte_value.ensures.byte (g.S.Source.left c.args.input.now) (g.S.Source.left c.next_byte.new.self) held c.in-Ok.ensures.taken)
