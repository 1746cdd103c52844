use Rattle.std.proofs.Common.{sym, ◌∙◌, ap, ◌*◌, get_or}
use Rattle.cell_pool.proofs.Chains.{chunk_after-more}
use Rattle.cell_pool.proofs.Clearing.{cleared_more}
use Rattle.cell_pool.proofs.chunks.clear.Goals as goal

pub loop-i-preserved : goal.loop-i-preserved
loop-i-preserved g c = (
  ap (λ chunk. get_or c.args.next.now chunk 0) c.loop-i.invariant.0 ∙ sym (chunk_after-more c.args.next.now c.args.first c.loop-i.i),
  cleared_more c.args.cells.now c.loop-i.cells c.clear_chunk.new.cells c.args.next.now c.args.first c.loop-i.i (c.loop-i.at * 16) c.args.blank c.loop-i.invariant.1 c.clear_chunk.ensures (ap (λ chunk. chunk * 16) c.loop-i.invariant.0),
)
