use Rattle.std.proofs.Common.{◌≡◌, ◌-◌, drop}
use Rattle.typing_files.specs.CellSums.{declared_cells}
use Rattle.typing_files.proofs.sizes.room_beside.Given as goal

abbrev pub invariant-loop-next : goal.invariant-loop-next
invariant-loop-next l = l.fn.room - declared_cells l.fn.layouts l.fn.all ≡ l.left - declared_cells l.fn.layouts (drop l.next-index l.fn.all)
