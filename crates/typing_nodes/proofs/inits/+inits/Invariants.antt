use Rattle.std.proofs.Common.{◌≡◌, ◌-◌, drop}
use Rattle.typing_rules.specs.Weights.{inits}
use Rattle.typing_nodes.specs.Counts.{init_nodes}
use Rattle.typing_nodes.proofs.inits.+inits.Given as goal

abbrev pub invariant-loop-next : goal.invariant-loop-next
invariant-loop-next l = l.fn.room - inits l.fn.tree ≡ l.left - init_nodes (drop l.next-index l.next-items)
