use Rattle.std.proofs.Common.{◌≡◌, ◌-◌, drop, map, sum_by}
use Rattle.typing_rules.specs.Weights.{modifiers_weight, declared_weight}
use Rattle.typing_rules.specs.TreesOfDeclarations as trees
use Rattle.typing_nodes.specs.Counts.{declared_nodes}
use Rattle.typing_nodes.proofs.declarations.all_declared.Given as goal

abbrev pub invariant-loop-link : goal.invariant-loop-link
invariant-loop-link l = l.fn.room - declared_weight (map trees.declared (trees.operands l.fn.all)) ≡ l.left - declared_nodes (drop l.link-index l.link-items)
