-- A store in which there are variables of file scope alone.
use Rattle.std.specs.Prelude.{ℕ, List, [], ◌∷◌}
use Rattle.step_meaning.specs.declared.value.Value.{Value}
use Rattle.step_meaning.specs.Memory.{Block, filled}
use Rattle.cell_pool.specs.Region.{Region}
use Rattle.run_memory.specs.declared.cell.PoolCell.{PoolCell}
use Rattle.run_memory.specs.Cells.{seen}
use Rattle.run_memory.specs.View.{blocks_at}
use Rattle.run_memory.specs.Inside.{IsStore}

abbrev pub IsStart : Region PoolCell → List ℕ → Type 0
IsStart p globals = IsStore (seen p) globals [] [] [] [] [] []

-- their blocks
abbrev pub start_blocks : Region PoolCell → List ℕ → List Block
start_blocks p globals = blocks_at (seen p) globals

-- the blocks with these values in the first cells of each
abbrev pub all_filled : List Block → List (List Value) → List Block
all_filled [] vss = []
all_filled (b ∷ bs) [] = b ∷ all_filled bs []
all_filled (b ∷ bs) (vs ∷ vss) = filled b vs ∷ all_filled bs vss
