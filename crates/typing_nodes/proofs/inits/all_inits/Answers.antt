use Rattle.std.proofs.Common.{◌≡◌, ◌-◌, ◌≤◌, length, arith}
use Rattle.typing_nodes.proofs.InitParts.{functions_first, no_function}
use Rattle.typing_nodes.proofs.inits.all_inits.Goals as goal

pub returns : goal.returns
returns c =
    let all = functions_first c.args.functions.now in
    let none = no_function c.args.functions.now c.loop-next.next-index (omega (arith, c.loop-next-test.false)) in
    omega (arith, c.loop-next.invariant, all, none)
