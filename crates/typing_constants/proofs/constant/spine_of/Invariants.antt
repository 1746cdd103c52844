use Rattle.std.proofs.Common.{◌≡◌, ◌≤◌, map}
use Rattle.std.specs.List.{AllByRecursion}
use Rattle.step_meaning.specs.declared.expr.Expr.{size-Expr}
use Rattle.typing_rules.specs.ConstantExpressions as rules
use Rattle.typing_constants.specs.Spines as spines
use Rattle.typing_constants.proofs.constant.spine_of.Given as goal

abbrev pub invariant-loop-nodes : goal.invariant-loop-nodes
invariant-loop-nodes l =
    (rules.value_of l.fn.x ≡ spines.climbed (map (λ n. n.now) l.nodes.items) (rules.value_of l.node))
    × (AllByRecursion (λ n. size-Expr n.now ≤ size-Expr l.fn.x) l.nodes.items)
    × (size-Expr l.node ≤ size-Expr l.fn.x)

abbrev pub decreases-loop-nodes : goal.decreases-loop-nodes
decreases-loop-nodes l = size-Expr l.node
