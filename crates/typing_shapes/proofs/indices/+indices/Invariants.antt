use Rattle.std.proofs.Common.{◌≡◌, map, drop}
use Rattle.typing_rules.specs.ConstantExpressions as rules
use Rattle.typing_rules.specs.Syntax.{Expression}
use Rattle.typing_rules.specs.TreesOfExpressions as trees
use Rattle.typing_shapes.proofs.indices.+indices.Given as goal

-- what stands before the suffixes that are left
abbrev pub invariant-indices_postfix-loop-suffix : goal.invariant-indices_postfix-loop-suffix
invariant-indices_postfix-loop-suffix l = (x : Expression) × ((rules.has_literal_indices x ≡ l.literal) × (trees.suffixed x (map trees.suffix (drop l.suffix-index l.suffix-items)) ≡ trees.postfix l.fn.e))
