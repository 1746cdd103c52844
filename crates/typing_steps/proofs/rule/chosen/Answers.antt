use Rattle.typing_rules.specs.Operators.{choice_of}
use Rattle.typing_laws.specs.SmallTypes.{IsSmallOperand}
use Rattle.typing_laws.proofs.SmallRules.{choice_small}
use Rattle.typing_steps.proofs.Smallness.{small_result}
use Rattle.typing_steps.proofs.rule.chosen.Goals as goal

pub returns-clause-small : goal.returns-clause-small
returns-clause-small c =
    let ls = c.args.known.now.layouts in
    let at = c.args.question.now.token.place in
    small_result (IsSmallOperand ls) (choice_of at c.args.first c.args.test c.args.second c.args.third) c.choice_of.result c.choice_of.ensures
    (choice_small ls at c.args.first c.args.test c.args.second c.args.third c.requires.second c.requires.third)
