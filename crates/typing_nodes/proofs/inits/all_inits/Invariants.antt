use Rattle.std.proofs.Common.{◌≡◌, ◌-◌, drop}
use Rattle.typing_nodes.specs.Counts.{function_nodes}
use Rattle.typing_nodes.proofs.inits.all_inits.Given as goal

abbrev pub invariant-loop-next : goal.invariant-loop-next
invariant-loop-next l = l.fn.room - function_nodes l.fn.functions ≡ l.left - function_nodes (drop l.next-index l.fn.functions)
