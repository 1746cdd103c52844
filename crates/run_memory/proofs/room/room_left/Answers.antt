use Rattle.std.proofs.Common.{ap, arith}
use Rattle.std.proofs.lemmas.List.{take_all}
use Rattle.run_memory.specs.Storage.{variables_chunks}
use Rattle.run_memory.proofs.RoomLaws.{one_more_variable}
use Rattle.run_memory.proofs.room.room_left.Goals as goal

pub loop-variable-init : goal.loop-variable-init
loop-variable-init c = omega arith

pub returns-then-wanted-left : goal.returns-then-wanted-left
returns-then-wanted-left c =
    let w = one_more_variable c.args.layouts.now c.args.variables.now c.loop-variable.variable-index c.variable-item.result c.chunks_of-wanted.result c.loop-variable-test.true c.variable-item.is c.chunks_of-wanted.ensures in
    omega (arith, c.loop-variable.invariant, w.0, w.1)

pub loop-variable-preserved : goal.loop-variable-preserved
loop-variable-preserved c =
    let w = one_more_variable c.args.layouts.now c.args.variables.now c.loop-variable.variable-index c.variable-item.result c.chunks_of-wanted.result c.loop-variable-test.true c.variable-item.is c.chunks_of-wanted.ensures in
    omega (arith, c.loop-variable.invariant, w.0)

pub returns : goal.returns
returns c =
    let e = ap (variables_chunks c.args.layouts.now) (take_all c.loop-variable.variable-index c.args.variables.now (omega arith)) in
    omega (arith, c.loop-variable.invariant, e)
