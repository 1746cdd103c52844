use Rattle.std.proofs.Common.{arith}
use Rattle.typing_files.proofs.CellSums.{declared_first, none_declared}
use Rattle.typing_files.proofs.sizes.room_beside.Goals as goal

pub returns : goal.returns
returns c =
    let all = declared_first c.args.layouts.now c.args.all.now in
    let none = none_declared c.args.layouts.now c.args.all.now c.loop-next.next-index (omega (arith, c.loop-next-test.false)) in
    omega (arith, c.loop-next.invariant, all, none)
