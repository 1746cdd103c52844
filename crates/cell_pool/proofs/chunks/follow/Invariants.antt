use Rattle.std.proofs.Common.{◌≡◌}
use Rattle.cell_pool.specs.Chains.{chunk_after}
use Rattle.cell_pool.proofs.chunks.follow.Given as goal

abbrev pub invariant-loop-i : goal.invariant-loop-i
invariant-loop-i l = l.at ≡ chunk_after l.next l.first l.i
