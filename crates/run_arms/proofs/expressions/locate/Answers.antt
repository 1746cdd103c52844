-- Each form begins as its definition says.
use Rattle.std.proofs.Common.{◌∙◌, ap, sym}
use Rattle.run_turns.specs.Turns.{located}
use Rattle.run_state.specs.Machine.{configuration_of}
use Rattle.run_arms.proofs.ExpressionViews.{located-Index}
use Rattle.run_arms.proofs.expressions.locate.Goals as goal

pub returns-in-Index-clause-turned : goal.returns-in-Index-clause-turned
returns-in-Index-clause-turned c =
    let m = configuration_of c.args.machine.now in
    let i = c.in-Index in
    c.element.ensures.turned ∙ sym (located-Index m i.q i.a i.size) ∙ ap (λ x. located x m) (sym i.is)
