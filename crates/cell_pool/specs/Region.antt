-- A region of cells as its callers see it: blocks, each with a name, by the number of the chunk in which they begin.
use Rattle.std.specs.Prelude.{ℕ, max, cond, nat_eq, List, Option, Some, None, length, is_some, slice_get, slice_index_or, slice_set, sum_by}
use Rattle.std.specs.Int.{div_ceil}

-- a block: its name, and its cells in order
pub record Block (C : Type 0) : Type 0 where
  pub name : ℕ
  pub cells : List C

-- a region: what a cell of a new block holds, and for each chunk the block that begins in it, if one does.
-- The number of that chunk is the block's slot.
pub record Region (C : Type 0) : Type 0 where
  pub blank : C
  pub blocks : List (Option (Block C))

-- how many chunks, of 16 cells each, a block of so many cells has
abbrev pub chunks_of : ℕ → ℕ
chunks_of cells = max 1 (div_ceil cells 16)

abbrev pub chunks_in : {C : Type 0} → Option (Block C) → ℕ
chunks_in None = 0
chunks_in (Some block) = chunks_of (length block.cells)

-- how many chunks belong to blocks
abbrev pub live_chunks : {C : Type 0} → Region C → ℕ
live_chunks region = sum_by chunks_in region.blocks

-- the block, if it has this name
abbrev pub if_named : {C : Type 0} → ℕ → Option (Block C) → Option (Block C)
if_named name None = None
if_named name (Some block) = cond (nat_eq block.name name) (Some block) None

-- the live block with this slot and name, if there is one
abbrev pub block_of : {C : Type 0} → Region C → ℕ → ℕ → Option (Block C)
block_of region slot name = if_named name (slice_index_or region.blocks slot None)

abbrev pub cell_in : {C : Type 0} → ℕ → Option (Block C) → Option C
cell_in offset None = None
cell_in offset (Some block) = slice_get block.cells offset

-- what the cell at an offset of the live block with this slot and name holds, if there is such a cell
abbrev pub cell_of : {C : Type 0} → Region C → ℕ → ℕ → ℕ → Option C
cell_of region slot name offset = cell_in offset (block_of region slot name)

-- the region with this block, or none, at a slot
abbrev pub with_block : {C : Type 0} → Region C → ℕ → Option (Block C) → Region C
with_block region slot block = record { blank = region.blank; blocks = slice_set region.blocks slot block }

abbrev pub with_cell_in : {C : Type 0} → ℕ → C → Option (Block C) → Option (Block C)
with_cell_in offset value None = None
with_cell_in offset value (Some block) = Some (record { name = block.name; cells = slice_set block.cells offset value })

-- the region with one cell changed, where there is such a cell, and else the region as it is
abbrev pub with_cell : {C : Type 0} → Region C → ℕ → ℕ → ℕ → C → Region C
with_cell region slot name offset value =
    cond
    (is_some (cell_of region slot name offset))
    (with_block region slot (with_cell_in offset value (block_of region slot name)))
    region
