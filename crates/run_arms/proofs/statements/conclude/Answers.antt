-- Each form goes on as its definition says.
use Rattle.std.proofs.Common.{◌∙◌, sym}
use Rattle.run_state.specs.Machine.{configuration_of}
use Rattle.run_arms.proofs.StatementViews.{concluded-If, concluded-While, concluded-For}
use Rattle.run_arms.proofs.statements.conclude.Goals as goal

pub returns-in-If-clause-turned : goal.returns-in-If-clause-turned
returns-in-If-clause-turned c =
    let m = configuration_of c.args.machine.now in
    let i = c.in-If in
    c.conclude_if.ensures.turned ∙ rw i.is (sym (concluded-If m i.field-0 i.first i.second c.args.v))

pub returns-in-While-clause-turned : goal.returns-in-While-clause-turned
returns-in-While-clause-turned c =
    let m = configuration_of c.args.machine.now in
    let i = c.in-While in
    c.conclude_while.ensures.turned ∙ rw i.is (sym (concluded-While m i.field-0 i.body c.args.v))

pub returns-in-For-clause-turned : goal.returns-in-For-clause-turned
returns-in-For-clause-turned c =
    let m = configuration_of c.args.machine.now in
    let i = c.in-For in
    c.conclude_for.ensures.turned ∙ rw i.is (sym (concluded-For m i.field-0 i.field-1 i.body c.args.v))
