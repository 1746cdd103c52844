use Rattle.typing_rules.specs.Operators.{cast}
use Rattle.typing_laws.specs.SmallTypes.{IsSmallOperand}
use Rattle.typing_laws.proofs.SmallRules.{cast_small}
use Rattle.typing_steps.proofs.Smallness.{small_result}
use Rattle.typing_steps.proofs.rule.cast_to.Goals as goal

pub returns-clause-small : goal.returns-clause-small
returns-clause-small c =
    let ls = c.args.known.now.layouts in
    let at = c.args.opening.now.token.place in
    small_result (IsSmallOperand ls) (cast at c.get.result.now c.args.v) c.cast.result c.cast.ensures (cast_small ls at c.get.result.now c.args.v c.requires)
