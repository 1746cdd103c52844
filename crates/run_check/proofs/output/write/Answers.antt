-- The byte that was written, or a write that failed.
use Rattle.std.proofs.Common.{ℕ, ◌+◌, [], ◌∷◌, ◌++◌, Some, Err, ap, sym, subst, ◌∙◌}
use Rattle.std.specs.Prelude.{pos}
use Rattle.step_meaning.specs.declared.value.Value.{Value}
use Rattle.step_meaning.specs.declared.value.Value.TheVariants as value
use Rattle.weave_base.specs.Contents.{IsPut}
use Rattle.run_turns.specs.Pending as pending
use Rattle.run_turns.specs.Turns.{giving, pushed}
use Rattle.run_state.specs.Machine.{configuration_of, fixed_of, told_of}
use Rattle.run_start.specs.Running.{Runs}
use Rattle.run_check.specs.Advancing.{Makes}
use Rattle.run_check.proofs.TurnLaws.{few_steps}
use Rattle.run_check.proofs.WriteLaws.{write_failed, write_made, writes_on}
use Rattle.run_check.proofs.output.write.Goals as goal

pub returns-in-Err-clause-advances : goal.returns-in-Err-clause-advances
returns-in-Err-clause-advances g c left =
    let x = c.args.run.now.machine in
    write_failed c.args.run.now.steps (fixed_of x) (configuration_of x) c.requires.runs c.in-Gave.v (ap told_of c.in-Gave.is) x.memory.chunk_limit x.memory.call_limit c.in-Err.field-0 (g.K.Sink.held c.args.out.now) (g.K.Sink.held c.put.new.self)
    (λ bytes e. subst (λ (b : ℕ). IsPut bytes (b ∷ []) (Err c.in-Err.field-0) (g.K.Sink.held c.put.new.self)) c.output_byte-byte.ensures (c.in-Err.ensures.put bytes e))
    left

pub returns-in-Ok-clause-after : goal.returns-in-Ok-clause-after
returns-in-Ok-clause-after g c e =
    let x = c.args.run.now.machine in
    subst (λ (v : Value). Runs (c.args.run.now.steps + 1) (fixed_of x) (giving v (configuration_of x))) (sym (c.written.ensures ∙ ap (λ (b : ℕ). value.Int (pos b)) c.output_byte-byte.ensures))
    (writes_on c.args.run.now.steps (fixed_of x) (configuration_of x) c.requires.runs c.in-Gave.v (ap told_of c.in-Gave.is) (few_steps c.args.run.now.steps c.requires.few))

pub returns-in-Ok-clause-advances : goal.returns-in-Ok-clause-advances
returns-in-Ok-clause-advances g c left =
    let x = c.args.run.now.machine in
    subst (λ (v : Value). Makes x.memory.chunk_limit x.memory.call_limit x.core.now (pushed pending.Output (configuration_of x)) (giving v (configuration_of x)) left left (g.K.Sink.held c.args.out.now) (g.K.Sink.held c.put.new.self)) (sym (c.written.ensures ∙ ap (λ (b : ℕ). value.Int (pos b)) c.output_byte-byte.ensures))
    (write_made c.args.run.now.steps (fixed_of x) (configuration_of x) c.requires.runs c.in-Gave.v (ap told_of c.in-Gave.is) x.memory.chunk_limit x.memory.call_limit left (g.K.Sink.held c.args.out.now) (g.K.Sink.held c.put.new.self)
    (λ bytes e. c.in-Ok.ensures.put bytes e ∙ ap (λ (b : ℕ). Some (bytes ++ b ∷ [])) c.output_byte-byte.ensures))
