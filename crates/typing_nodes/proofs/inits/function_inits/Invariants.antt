use Rattle.std.proofs.Common.{◌≡◌, ◌-◌, drop}
use Rattle.typing_rules.specs.Weights.{init_cells}
use Rattle.typing_nodes.specs.Counts.{init_nodes}
use Rattle.typing_nodes.proofs.inits.function_inits.Given as goal

abbrev pub invariant-loop-next : goal.invariant-loop-next
invariant-loop-next l = l.fn.room - init_cells l.fn.function ≡ l.left - init_nodes (drop l.next-index l.next-items)
