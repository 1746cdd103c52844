-- Something is left to do, or `main` has ended.
use Rattle.std.proofs.Common.{rules, ◌≡◌, ◌<◌, length, sym, ap, ◌∙◌, w32, arith}
use Rattle.std.specs.Prelude.{FitsSigned}
use Rattle.std.proofs.lemmas.Int.{to_z-of_z}
use Rattle.step_meaning.specs.declared.value.Value.TheVariants as value
use Rattle.run_state.specs.Machine.{told_of}
use Rattle.run_check.proofs.StepLaws.{exit_given, exits_with, something_left}
use Rattle.run_check.proofs.advance.after_step.Goals as goal

pub returns-then-len-gt0 : goal.returns-then-len-gt0
returns-then-len-gt0 c =
    let x = c.args.run.now.machine in
    let t = c.if-len-gt0.true in
    let l = c.len.ensures in
    let some : 0 < length x.work.0 = omega (arith, t, l) in
    record { after = c.requires.goes.runs (something_left x.core.now x.work.0 some) }

pub exit_value-requires : goal.exit_value-requires
exit_value-requires c =
    let x = c.args.run.now.machine in
    let t = c.if-len-gt0.false in
    let l = c.len.ensures in
    let none : length x.work.0 ≡ 0 = omega (arith, t, l) in
    record { given = exit_given x none c.in-Gave.v (ap told_of c.in-Gave.is) c.args.run.now.steps c.requires.goes }

pub returns : goal.returns
returns c =
    let x = c.args.run.now.machine in
    let t = c.if-len-gt0.false in
    let l = c.len.ensures in
    let none : length x.work.0 ≡ 0 = omega (arith, t, l) in
    let fits : FitsSigned w32 c.exit_value.result = search rules in
    record { after = exits_with x none c.in-Gave.v (ap told_of c.in-Gave.is) _ (c.exit_value.ensures ∙ ap value.Int (sym (to_z-of_z w32 c.exit_value.result fits))) }
