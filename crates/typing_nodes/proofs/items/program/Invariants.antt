use Rattle.std.proofs.Common.{◌≡◌, ◌-◌, drop}
use Rattle.typing_nodes.specs.Counts.{item_nodes}
use Rattle.typing_nodes.proofs.items.program.Given as goal

abbrev pub invariant-loop-next : goal.invariant-loop-next
invariant-loop-next l = l.fn.room - item_nodes l.fn.tree.items ≡ l.left - item_nodes (drop l.next-index l.next-items)
