use Rattle.std.proofs.Common.{◌≡◌}
use Rattle.cell_pool.specs.Chains.{chunk_after}
use Rattle.cell_pool.specs.Inside.{IsCleared}
use Rattle.cell_pool.proofs.chunks.clear.Given as goal

abbrev pub invariant-loop-i : goal.invariant-loop-i
invariant-loop-i g l = (l.at ≡ chunk_after l.next l.first l.i) × IsCleared l.initial.cells l.cells l.next l.first l.i l.blank
