-- How a region lies in memory, and what is true of it at every moment.
use Rattle.std.specs.Prelude.{◌≡◌, ℕ, zero, suc, ◌+◌, ◌*◌, ◌/◌, ◌%◌, ◌^◌, ◌<◌, ◌≤◌, List, Option, Some, None, length, map, slice_index, slice_index_or, sum_by}
use Rattle.std.specs.List.{range_with_len}
use Rattle.cell_pool.specs.Region.{Block, Region}
use Rattle.cell_pool.specs.Chains.{chunk_after, first_of, held, count_of, IsChained}

-- where the cell at an offset of the block at a slot lies
abbrev pub place_of : List ℕ → ℕ → ℕ → ℕ
place_of next slot offset = chunk_after next slot (offset / 16) * 16 + offset % 16

unfoldable pub cells_from : {C : Type 0} → C → List C → List ℕ → ℕ → ℕ → List C
cells_from blank cells next slot size =
    map (λ i. slice_index_or cells (place_of next slot i) blank) (range_with_len 0 size)

-- the block at a slot, which has so many cells
unfoldable pub block_from : {C : Type 0} → C → List C → List ℕ → ℕ → ℕ → ℕ → Option (Block C)
block_from blank cells next name slot zero = None
block_from blank cells next name slot (suc size) =
    Some (record { name = name; cells = cells_from blank cells next slot (suc size) })

unfoldable pub blocks_from : {C : Type 0} → C → List C → List ℕ → List ℕ → List ℕ → List (Option (Block C))
blocks_from blank cells next sizes names =
    map (λ s. block_from blank cells next (slice_index names s) s (slice_index sizes s)) (range_with_len 0 (length sizes))

-- the region that these lists hold
abbrev pub region_from : {C : Type 0} → C → List C → List ℕ → List ℕ → List ℕ → Region C
region_from blank cells next sizes names =
    record { blank = blank; blocks = blocks_from blank cells next sizes names }

pub record IsPool (next sizes names : List ℕ) (cells head free : ℕ) : Type 0 where
  pub chained : IsChained next (first_of head) (count_of free sizes)
  pub sized : length sizes ≡ length next
  pub named : length names ≡ length next
  pub celled : cells ≡ length next * 16
  pub counted : free + sum_by held sizes ≡ length next
  pub small : length next ≤ 2 ^ 20

-- the block at a slot has this name, and a cell at this offset
pub record HasCell (sizes names : List ℕ) (slot name offset : ℕ) : Type 0 where
  pub is_named : slice_index names slot ≡ name
  pub is_below : offset < slice_index sizes slot

-- so many cells from one place on are blank, and the others are as they were
pub record AreBlankFrom {C : Type 0} (old new : List C) (start count : ℕ) (blank : C) : Type 0 where
  pub as_long : length new ≡ length old
  pub inside : (k : ℕ) → k < count → slice_index_or new (start + k) blank ≡ blank
  pub before : (k : ℕ) → k < start → slice_index_or new k blank ≡ slice_index_or old k blank
  pub after : (k : ℕ) → start + count ≤ k → slice_index_or new k blank ≡ slice_index_or old k blank

-- the cells of a chain's first chunks are blank, and those of other chunks are as they were
pub record IsCleared {C : Type 0} (old new : List C) (next : List ℕ) (first count : ℕ) (blank : C) : Type 0 where
  pub as_long : length new ≡ length old
  pub inside : (i k : ℕ) → i < count → k < 16 → slice_index_or new (chunk_after next first i * 16 + k) blank ≡ blank
  pub others : (c k : ℕ) → k < 16 → ((i : ℕ) → i < count → chunk_after next first i ≡ c → ⊥) → slice_index_or new (c * 16 + k) blank ≡ slice_index_or old (c * 16 + k) blank
