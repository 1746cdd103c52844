-- Each variable of file scope has a chunk, so that more of them than chunks have no room.
use Rattle.std.proofs.Common.{refl, arith}
use Rattle.run_memory.proofs.SizedTypes.{all_sized}
use Rattle.run_start.proofs.FirstValues.{initial_of}
use Rattle.run_start.proofs.VariableChunks.{no_more_globals}
use Rattle.run_start.proofs.make.memory.Goals as goal

pub returns-then-len-chunks-clause-full : goal.returns-then-len-chunks-clause-full
returns-then-len-chunks-clause-full c = (λ e. (let m = no_more_globals c.args.core.now.layouts c.args.core.now.globals in omega arith), λ h. refl)

pub make-requires-clause-sized : goal.make-requires-clause-sized
make-requires-clause-sized c = all_sized c.args.core.now.layouts c.requires.formed.structs c.args.core.now.globals c.requires.formed.globals

pub make-requires-clause-initial : goal.make-requires-clause-initial
make-requires-clause-initial c = initial_of c.args.core.now c.requires.formed (omega arith)
