use Rattle.std.proofs.Common.{◌≡◌, ◌-◌, drop, map, sum_by}
use Rattle.typing_rules.specs.Weights.{modifiers_weight}
use Rattle.typing_rules.specs.TreesOfDeclarations as trees
use Rattle.typing_nodes.specs.Counts.{declarator_nodes}
use Rattle.typing_nodes.proofs.items.declarators.Given as goal

abbrev pub invariant-loop-link : goal.invariant-loop-link
invariant-loop-link l = l.fn.room - sum_by (λ d. modifiers_weight d.modifiers) (map trees.declarator (trees.operands l.fn.all)) ≡ l.left - declarator_nodes (drop l.link-index l.link-items)
