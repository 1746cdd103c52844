-- Each ghost variable has one chunk.
use Rattle.std.proofs.Common.{arith}
use Rattle.run_memory.proofs.SizedTypes.{scalars_sized}
use Rattle.run_start.proofs.VariableChunks.{scalars_chunks}
use Rattle.run_start.proofs.make.ghosts.Goals as goal

pub make_ghosts-requires-clause-sized : goal.make_ghosts-requires-clause-sized
make_ghosts-requires-clause-sized c = scalars_sized c.args.core.now.layouts c.requires.formed.structs c.args.core.now.ghosts c.requires.formed.ghosts

pub make_ghosts-requires-clause-room : goal.make_ghosts-requires-clause-room
make_ghosts-requires-clause-room c = rw (scalars_chunks c.args.core.now.layouts c.args.core.now.ghosts c.requires.formed.ghosts) (omega arith)
