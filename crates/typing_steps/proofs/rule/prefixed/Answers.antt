use Rattle.typing_rules.specs.Operators.{address}
use Rattle.typing_laws.specs.SmallTypes.{IsSmallOperand}
use Rattle.typing_laws.proofs.SmallRules.{address_small}
use Rattle.typing_steps.proofs.Smallness.{small_result}
use Rattle.typing_steps.proofs.rule.prefixed.Goals as goal

pub returns-in-Ampersand-clause-small : goal.returns-in-Ampersand-clause-small
returns-in-Ampersand-clause-small c =
    let ls = c.args.known.now.layouts in
    let at = c.args.operator.now.token.place in
    small_result (IsSmallOperand ls) (address at c.args.a) c.address.result c.address.ensures (address_small ls at c.args.a c.requires.small)
