use Rattle.std.proofs.Common.{◌≡◌, ◌-◌, drop, map, sum_by}
use Rattle.typing_rules.specs.Weights.{modifiers_weight, declared_weight}
use Rattle.typing_rules.specs.TreesOfDeclarations as trees
use Rattle.typing_nodes.specs.Counts.{parameter_nodes}
use Rattle.typing_nodes.proofs.declarations.parameters.Given as goal

abbrev pub invariant-loop-link : goal.invariant-loop-link
invariant-loop-link l = l.fn.room - sum_by (λ p. modifiers_weight p.modifiers) (trees.params l.fn.tree) ≡ l.left - parameter_nodes (drop l.link-index l.link-items)
