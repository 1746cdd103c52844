use Rattle.std.proofs.Common.{◌≡◌, ◌≤◌, drop, length}
use Rattle.run_turns.specs.Room as room
use Rattle.run_start.specs.Heights.{capped}
use Rattle.run_start.proofs.depths.+depths.Given as goal

-- the arguments from this one on
abbrev pub invariant-depth_of_all-loop-left : goal.invariant-depth_of_all-loop-left
invariant-depth_of_all-loop-left l = (l.left ≤ length l.fn.arguments) × (l.all ≡ capped (room.depth_all (drop l.left l.fn.arguments)))

abbrev pub decreases-depth_of_all-loop-left : goal.decreases-depth_of_all-loop-left
decreases-depth_of_all-loop-left l = l.left
