use Rattle.typing_rules.specs.Operators.{combined}
use Rattle.typing_laws.specs.SmallTypes.{IsSmallOperand}
use Rattle.typing_laws.proofs.SmallRules.{combined_small}
use Rattle.typing_steps.proofs.Smallness.{moves, small_here}
use Rattle.typing_steps.proofs.rule.joined.Goals as goal

pub combined-requires-clause-first_moves : goal.combined-requires-clause-first_moves
combined-requires-clause-first_moves c = moves c.args.known.now.layouts c.as_slice-layouts.result.now c.as_slice-layouts.ensures c.requires.known.structs c.args.left.ctype c.requires.left

pub combined-requires-clause-second_moves : goal.combined-requires-clause-second_moves
combined-requires-clause-second_moves c = moves c.args.known.now.layouts c.as_slice-layouts.result.now c.as_slice-layouts.ensures c.requires.known.structs c.in_ok-right.right.ctype c.in_ok-right.ensures.small

pub returns-clause-small : goal.returns-clause-small
returns-clause-small c =
    let ls = c.args.known.now.layouts in
    let at = c.args.operator.now.token.place in
    small_here ls c.as_slice-layouts.result.now c.as_slice-layouts.ensures (IsSmallOperand ls) (λ ks. combined ks at c.operator_of.result c.args.left c.in_ok-right.right) c.combined.result c.combined.ensures
    (combined_small ls at c.operator_of.result c.args.left c.in_ok-right.right c.requires.left c.in_ok-right.ensures.small)
