use Rattle.std.proofs.Common.{◌≡◌, ◌≤◌, ◌+◌, ◌*◌, map, length}
use Rattle.std.specs.List.{AllByRecursion}
use Rattle.step_meaning.specs.declared.expr.Expr.{size-Expr}
use Rattle.typing_rules.specs.ConstantExpressions as rules
use Rattle.typing_constants.specs.Spines as spines
use Rattle.typing_constants.proofs.constant.+value.Given as goal

abbrev pub decreases-value_after : goal.decreases-value_after
decreases-value_after l = 2 * size-Expr l.x.now

abbrev pub decreases-value_of : goal.decreases-value_of
decreases-value_of l = 2 * size-Expr l.x.now + 1

abbrev pub invariant-value_of-loop-node : goal.invariant-value_of-loop-node
invariant-value_of-loop-node l =
    (rules.value_of l.fn.x ≡ spines.climbed (map (λ n. n.now) l.nodes.items) l.value)
    × (AllByRecursion (λ n. size-Expr n.now ≤ size-Expr l.fn.x) l.nodes.items)

abbrev pub decreases-value_of-loop-node : goal.decreases-value_of-loop-node
decreases-value_of-loop-node l = length l.nodes.items
