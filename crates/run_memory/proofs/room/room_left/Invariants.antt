use Rattle.std.proofs.Common.{◌≡◌, ◌+◌, take}
use Rattle.run_memory.specs.Storage.{variables_chunks}
use Rattle.run_memory.proofs.room.room_left.Given as goal

abbrev pub invariant-loop-variable : goal.invariant-loop-variable
invariant-loop-variable l = l.left + variables_chunks l.layouts (take l.variable-index l.variables) ≡ l.room
