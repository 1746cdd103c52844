use Rattle.std.proofs.Common.{◌≡◌, ◌-◌, drop}
use Rattle.typing_rules.specs.Weights.{initialiser_nodes}
use Rattle.typing_rules.specs.TreesOfDeclarations as trees
use Rattle.typing_nodes.specs.Counts.{elements_nodes}
use Rattle.typing_nodes.proofs.declarations.+initialiser.Given as goal

abbrev pub invariant-loop-link : goal.invariant-loop-link
invariant-loop-link l = l.fn.room - initialiser_nodes (trees.init l.fn.tree) ≡ l.left - elements_nodes (drop l.link-index l.link-items)
