use Rattle.std.proofs.Common.{◌≡◌, ◌-◌, ap, ◌∙◌, arith}
use Rattle.typing_rules.specs.Weights.{inits}
use Rattle.typing_nodes.proofs.InitParts.{inits-If, inits-While, inits-Do, inits-For}
use Rattle.typing_nodes.proofs.inits.+inits.Goals as goal

pub returns-in-If : goal.returns-in-If
returns-in-If t c =
    let one = c.inits.ensures ∙ ap (λ s. c.args.room - inits s) c.get-in-If.ensures in
    let two = c.inits-in-If.ensures ∙ ap (λ s. c.inits.result - inits s) c.get.ensures in
    let tree = ap inits c.in-If.is ∙ inits-If c.in-If.field-0 _ _ in
    omega (arith, one, two, tree)

pub returns-in-While : goal.returns-in-While
returns-in-While t c =
    let one = c.inits-in-While.ensures ∙ ap (λ s. c.args.room - inits s) c.get-in-While.ensures in
    let tree = ap inits c.in-While.is ∙ inits-While c.in-While.field-0 _ in
    omega (arith, one, tree)

pub returns-in-Do : goal.returns-in-Do
returns-in-Do t c =
    let one = c.inits-in-Do.ensures ∙ ap (λ s. c.args.room - inits s) c.get-in-Do.ensures in
    let tree = ap inits c.in-Do.is ∙ inits-Do _ _ in
    omega (arith, one, tree)

pub returns-in-For : goal.returns-in-For
returns-in-For t c =
    let one = c.inits-in-For.ensures ∙ ap (λ s. c.args.room - inits s) c.get-in-For.ensures in
    let tree = ap inits c.in-For.is ∙ inits-For c.in-For.field-0 c.in-For.field-1 _ in
    omega (arith, one, tree)
