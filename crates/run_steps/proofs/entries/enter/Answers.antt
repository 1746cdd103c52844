-- What is asked of the variables of the function is asked with the structs of the program.
use Rattle.run_steps.proofs.entries.enter.Goals as goal

pub open-requires-clause-sized : goal.open-requires-clause-sized
open-requires-clause-sized c = rw c.as_slice-layouts.ensures c.requires.may.sized

pub open_ghosts-requires-clause-sized : goal.open_ghosts-requires-clause-sized
open_ghosts-requires-clause-sized c = rw c.as_slice-layouts.ensures c.requires.may.ghosts_sized
