use Rattle.cell_pool.specs.Inside.{AreBlankFrom}
use Rattle.cell_pool.proofs.chunks.clear_chunk.Given as goal

abbrev pub invariant-loop-i : goal.invariant-loop-i
invariant-loop-i g l = AreBlankFrom l.initial.cells l.cells l.start l.i l.blank
