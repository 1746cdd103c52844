-- What is true of a store stays where the region keeps its chunks.
use Rattle.std.proofs.Common.{◌≡◌, ℕ, List, length, arith}
use Rattle.cell_pool.specs.Region.{Region}
use Rattle.run_memory.specs.declared.cell.PoolCell.{PoolCell}
use Rattle.run_memory.specs.Cells.{seen}
use Rattle.run_memory.specs.Inside.{IsStore}
use Rattle.run_memory.specs.Storage.{IsKept}

pub still_kept : (p p' : Region PoolCell) (g nm lo ac st nu he nm' lo' ac' st' nu' he' : List ℕ) (calls a b c d e f : ℕ) → IsKept p g nm lo ac st nu he calls a b c d e f
    → IsStore (seen p') g nm' lo' ac' st' nu' he' → length p'.blocks ≡ length p.blocks → IsKept p' g nm' lo' ac' st' nu' he' calls a b c d e f
still_kept p p' g nm lo ac st nu he nm' lo' ac' st' nu' he' calls a b c d e f k s l =
    record {
      store = s;
      chunks_fit = omega (arith, k.chunks_fit, l);
      name_fits = omega (arith, k.name_fits, l);
      local_fits = omega (arith, k.local_fits, l);
      activation_fits = k.activation_fits;
      start_fits = k.start_fits;
      number_fits = omega (arith, k.number_fits, l);
      heap_fits = omega (arith, k.heap_fits, l);
    }
