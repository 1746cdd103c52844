use Rattle.std.proofs.Common.{◌∙◌, sym}
use Rattle.run_memory.specs.Cells.{seen}
use Rattle.run_memory.proofs.Seeing.{seen_live}
use Rattle.run_memory.proofs.ChunkLaws.{chunks_are}
use Rattle.run_memory.proofs.store.Store.chunks.Goals as goal

pub returns : goal.returns
returns c =
    rw (← c.self.view_is)
    (c.live_chunks.ensures ∙ sym (seen_live c.self.inside.pool) ∙ sym (chunks_are (seen c.self.inside.pool) c.self.inside.globals.0 c.self.inside.named.0 c.self.inside.locals.0 c.self.inside.activations.0 c.self.inside.starts.0 c.self.inside.numbers.0 c.self.inside.heap.0 c.self.invariant.store))
