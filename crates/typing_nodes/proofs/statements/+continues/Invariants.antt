use Rattle.std.proofs.Common.{◌≡◌, ◌-◌, ◌*◌, drop}
use Rattle.typing_rules.specs.Nodes.{nodes}
use Rattle.typing_rules.specs.Weights.{all_continues}
use Rattle.typing_rules.specs.TreesOfExpressions as expressions
use Rattle.typing_rules.specs.TreesOfDeclarations as trees
use Rattle.typing_nodes.specs.Counts.{parts_continues}
use Rattle.typing_nodes.proofs.statements.+continues.Given as goal

abbrev pub invariant-in_block-loop-part : goal.invariant-in_block-loop-part
invariant-in_block-loop-part l = l.fn.room - all_continues (trees.block l.fn.tree) * nodes (expressions.assign l.fn.value) ≡ l.left - parts_continues (drop l.part-index l.part-items) * nodes (expressions.assign l.fn.value)
