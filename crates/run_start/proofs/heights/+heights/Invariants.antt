use Rattle.std.proofs.Common.{◌≡◌, ◌≤◌, drop, length}
use Rattle.run_turns.specs.Room as room
use Rattle.run_start.specs.Heights.{capped}
use Rattle.run_start.proofs.heights.+heights.Given as goal

-- the statements from this one on
abbrev pub invariant-height_of_all-loop-left : goal.invariant-height_of_all-loop-left
invariant-height_of_all-loop-left l = (l.left ≤ length l.fn.statements) × (l.all ≡ capped (room.height_all (drop l.left l.fn.statements)))

abbrev pub decreases-height_of_all-loop-left : goal.decreases-height_of_all-loop-left
decreases-height_of_all-loop-left l = l.left
