use Rattle.std.proofs.Common.{◌≡◌, ◌≤◌, ◌+◌, ◌*◌}
use Rattle.step_meaning.specs.declared.expr.Expr.{size-Expr}
use Rattle.typing_rules.specs.ConstantExpressions as rules
use Rattle.typing_constants.proofs.constant.+constant.Given as goal

abbrev pub decreases-are_others_constant : goal.decreases-are_others_constant
decreases-are_others_constant l = 2 * size-Expr l.x.now

abbrev pub decreases-is_constant : goal.decreases-is_constant
decreases-is_constant l = 2 * size-Expr l.x.now + 1

abbrev pub invariant-is_constant-loop-node : goal.invariant-is_constant-loop-node
invariant-is_constant-loop-node l = (rules.is_constant l.fn.x ≡ rules.is_constant l.node) × (size-Expr l.node ≤ size-Expr l.fn.x)

abbrev pub decreases-is_constant-loop-node : goal.decreases-is_constant-loop-node
decreases-is_constant-loop-node l = size-Expr l.node
