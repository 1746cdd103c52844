use Rattle.std.proofs.Common.{◌≡◌, ◌-◌, drop}
use Rattle.typing_nodes.specs.Counts.{member_nodes}
use Rattle.typing_nodes.proofs.items.members.Given as goal

abbrev pub invariant-loop-member : goal.invariant-loop-member
invariant-loop-member l = l.fn.room - member_nodes l.fn.all ≡ l.left - member_nodes (drop l.member-index l.fn.all)
