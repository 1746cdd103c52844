use Rattle.std.proofs.Common.{◌≡◌, ◌-◌, ◌≤◌, length, arith}
use Rattle.typing_nodes.proofs.ItemParts.{members_first, no_member}
use Rattle.typing_nodes.proofs.items.members.Goals as goal

pub returns : goal.returns
returns c =
    let all = members_first c.args.all.now in
    let none = no_member c.args.all.now c.loop-member.member-index (omega (arith, c.loop-member-test.false)) in
    omega (arith, c.loop-member.invariant, all, none)
