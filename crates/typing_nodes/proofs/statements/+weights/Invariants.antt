use Rattle.std.proofs.Common.{◌≡◌, ◌-◌, drop}
use Rattle.typing_rules.specs.Weights.{statements_weight}
use Rattle.typing_rules.specs.TreesOfDeclarations as trees
use Rattle.typing_nodes.specs.Counts.{parts_weight}
use Rattle.typing_nodes.proofs.statements.+weights.Given as goal

abbrev pub invariant-block-loop-next : goal.invariant-block-loop-next
invariant-block-loop-next l = l.fn.room - statements_weight (trees.block l.fn.tree) ≡ l.left - parts_weight (drop l.next-index l.next-items)
