-- What holds of every region, whatever it holds.
use Rattle.std.specs.Prelude.{◌≡◌, ℕ, ◌<◌, ◌⊎◌, ◌≢◌, Some, IsSome, Option, length, replicate}
use Rattle.cell_pool.specs.Region.{Block, Region, block_of, cell_of, with_block, with_cell}

-- a cell reads as what was last put there, or as blank if nothing was, and other cells stay as they are
pub record KeepsCells (C : Type 0) : Type 0 where
  pub put : (region : Region C) (slot name offset : ℕ) (value : C) → IsSome (cell_of region slot name offset) → cell_of (with_cell region slot name offset value) slot name offset ≡ Some value
  pub put_elsewhere : (region : Region C) (slot name offset : ℕ) (value : C) (slot' name' offset' : ℕ) → (slot ≢ slot') ⊎ ((name ≢ name') ⊎ (offset ≢ offset')) → cell_of (with_cell region slot name offset value) slot' name' offset' ≡ cell_of region slot' name' offset'
  pub taken : (region : Region C) (slot name cells offset : ℕ) → slot < length region.blocks → offset < cells → cell_of (with_block region slot (Some (record { name = name; cells = replicate cells region.blank }))) slot name offset ≡ Some region.blank
  pub taken_elsewhere : (region : Region C) (slot : ℕ) (block : Option (Block C)) (slot' name' offset' : ℕ) → slot ≢ slot' → cell_of (with_block region slot block) slot' name' offset' ≡ cell_of region slot' name' offset'
  pub live : (region : Region C) (slot name offset : ℕ) (value : C) (slot' name' : ℕ) → IsSome (block_of region slot' name') → IsSome (block_of (with_cell region slot name offset value) slot' name')
