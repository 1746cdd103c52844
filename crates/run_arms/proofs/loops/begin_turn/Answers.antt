-- Each form of loop begins its turn as its definition says.
use Rattle.std.proofs.Common.{◌∙◌, sym}
use Rattle.run_state.specs.Machine.{configuration_of}
use Rattle.run_arms.proofs.StatementViews.{turning-Do, turning-For}
use Rattle.run_arms.proofs.loops.begin_turn.Goals as goal

pub returns-in-Do-clause-turned : goal.returns-in-Do-clause-turned
returns-in-Do-clause-turned c =
    let m = configuration_of c.args.machine.now in
    let i = c.in-Do in
    c.body_first.ensures.turned ∙ rw i.is (sym (turning-Do m i.body i.field-1))

pub returns-in-For-clause-turned : goal.returns-in-For-clause-turned
returns-in-For-clause-turned c =
    let m = configuration_of c.args.machine.now in
    let i = c.in-For in
    c.begin_for.ensures.turned ∙ rw i.is (sym (turning-For m i.condition i.field-1 i.body))
