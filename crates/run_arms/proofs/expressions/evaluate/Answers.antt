-- Each form begins as its definition says.
use Rattle.std.proofs.Common.{◌∙◌, ap, sym}
use Rattle.run_turns.specs.Turns.{evaluated}
use Rattle.run_state.specs.Machine.{configuration_of}
use Rattle.run_arms.proofs.ExpressionViews.{evaluated-Convert, evaluated-Unary, evaluated-Binary, evaluated-Compare, evaluated-Move, evaluated-Difference, evaluated-Both, evaluated-Either, evaluated-Choose, evaluated-Assign, evaluated-Update}
use Rattle.run_arms.proofs.expressions.evaluate.Goals as goal

pub returns-in-Convert-clause-turned : goal.returns-in-Convert-clause-turned
returns-in-Convert-clause-turned c =
    let m = configuration_of c.args.machine.now in
    let i = c.in-Convert in
    c.operate.ensures.turned ∙ sym (evaluated-Convert m i.k i.a) ∙ ap (λ x. evaluated x m) (sym i.is)

pub returns-in-Unary-clause-turned : goal.returns-in-Unary-clause-turned
returns-in-Unary-clause-turned c =
    let m = configuration_of c.args.machine.now in
    let i = c.in-Unary in
    c.operate-in-Unary.ensures.turned ∙ sym (evaluated-Unary m i.o i.k i.a) ∙ ap (λ x. evaluated x m) (sym i.is)

pub returns-in-Binary-clause-turned : goal.returns-in-Binary-clause-turned
returns-in-Binary-clause-turned c =
    let m = configuration_of c.args.machine.now in
    let i = c.in-Binary in
    c.operate_two.ensures.turned ∙ sym (evaluated-Binary m i.o i.k i.a i.b) ∙ ap (λ x. evaluated x m) (sym i.is)

pub returns-in-Compare-clause-turned : goal.returns-in-Compare-clause-turned
returns-in-Compare-clause-turned c =
    let m = configuration_of c.args.machine.now in
    let i = c.in-Compare in
    c.operate_two-in-Compare.ensures.turned ∙ sym (evaluated-Compare m i.o i.a i.b) ∙ ap (λ x. evaluated x m) (sym i.is)

pub returns-in-Move-clause-turned : goal.returns-in-Move-clause-turned
returns-in-Move-clause-turned c =
    let m = configuration_of c.args.machine.now in
    let i = c.in-Move in
    c.operate_two-in-Move.ensures.turned ∙ sym (evaluated-Move m i.a i.b i.size i.side) ∙ ap (λ x. evaluated x m) (sym i.is)

pub returns-in-Difference-clause-turned : goal.returns-in-Difference-clause-turned
returns-in-Difference-clause-turned c =
    let m = configuration_of c.args.machine.now in
    let i = c.in-Difference in
    c.operate_two-in-Difference.ensures.turned ∙ sym (evaluated-Difference m i.a i.b i.unit) ∙ ap (λ x. evaluated x m) (sym i.is)

pub returns-in-Both-clause-turned : goal.returns-in-Both-clause-turned
returns-in-Both-clause-turned c =
    let m = configuration_of c.args.machine.now in
    let i = c.in-Both in
    c.operate_two-in-Both.ensures.turned ∙ sym (evaluated-Both m i.a i.b) ∙ ap (λ x. evaluated x m) (sym i.is)

pub returns-in-Either-clause-turned : goal.returns-in-Either-clause-turned
returns-in-Either-clause-turned c =
    let m = configuration_of c.args.machine.now in
    let i = c.in-Either in
    c.operate_two-in-Either.ensures.turned ∙ sym (evaluated-Either m i.a i.b) ∙ ap (λ x. evaluated x m) (sym i.is)

pub returns-in-Choose-clause-turned : goal.returns-in-Choose-clause-turned
returns-in-Choose-clause-turned c =
    let m = configuration_of c.args.machine.now in
    let i = c.in-Choose in
    c.choose.ensures.turned ∙ sym (evaluated-Choose m i.a i.b i.c) ∙ ap (λ x. evaluated x m) (sym i.is)

pub returns-in-Assign-clause-turned : goal.returns-in-Assign-clause-turned
returns-in-Assign-clause-turned c =
    let m = configuration_of c.args.machine.now in
    let i = c.in-Assign in
    c.assign.ensures.turned ∙ sym (evaluated-Assign m i.p i.t i.a) ∙ ap (λ x. evaluated x m) (sym i.is)

pub returns-in-Update-clause-turned : goal.returns-in-Update-clause-turned
returns-in-Update-clause-turned c =
    let m = configuration_of c.args.machine.now in
    let i = c.in-Update in
    c.update.ensures.turned ∙ sym (evaluated-Update m i.p i.t i.o i.a i.w) ∙ ap (λ x. evaluated x m) (sym i.is)
