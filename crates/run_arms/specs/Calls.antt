-- A machine with an activation that may end.
use Rattle.std.specs.Prelude.{◌<◌, Bool, true, false, length}
use Rattle.run_state.specs.declared.machine.Machine.{Machine}
use Rattle.run_state.specs.Machine.{Fixed, ended}

-- an activation is open, with its frames and its caller
pub record IsOpen (m : Machine) : Type 0 where
  pub frame : 0 < length m.memory.memory.frames
  pub ghosts : 0 < length m.ghosts.memory.frames
  pub caller : 0 < length m.callers.0

-- where it has ended
abbrev pub ended_where : Bool → Fixed → Fixed
ended_where true f = ended f
ended_where false f = f
