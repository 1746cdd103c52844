use Rattle.typing_rules.specs.Operands.{value}
use Rattle.typing_laws.specs.SmallTypes.{IsSmallValue}
use Rattle.typing_laws.proofs.SmallRules.{value_small}
use Rattle.typing_steps.proofs.Smallness.{small_result}
use Rattle.typing_steps.proofs.rule.valued.Goals as goal

pub returns-clause-small : goal.returns-clause-small
returns-clause-small c = let ls = c.args.known.now.layouts in small_result (IsSmallValue ls) (value c.args.a) c.value.result c.value.ensures (value_small ls c.args.a c.requires)
