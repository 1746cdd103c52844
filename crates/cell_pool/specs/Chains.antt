-- Chains of chunks: each chunk leads to the next. There is one chain of free chunks, and one for each block.
use Rattle.std.specs.Prelude.{◌≡◌, ℕ, zero, suc, ◌<◌, List, length, slice_index}
use Rattle.cell_pool.specs.Region.{chunks_of}

-- the chunk that comes so many chunks after the first
unfoldable pub chunk_after : List ℕ → ℕ → ℕ → ℕ
chunk_after next first zero = first
chunk_after next first (suc i) = slice_index next (chunk_after next first i)

-- Chain 0 is that of the free chunks, and chain s + 1 that of the block at slot s.
abbrev pub first_of : ℕ → ℕ → ℕ
first_of head zero = head
first_of head (suc slot) = slot

-- how many chunks a block of so many cells has, where a slot without block has no cells
abbrev pub held : ℕ → ℕ
held zero = 0
held (suc cells) = chunks_of (suc cells)

abbrev pub count_of : ℕ → List ℕ → ℕ → ℕ
count_of free sizes zero = free
count_of free sizes (suc slot) = held (slice_index sizes slot)

-- each chain's chunks are within the region, and no chunk stands twice in one chain or in two
pub record IsChained (next : List ℕ) (first count : ℕ → ℕ) : Type 0 where
  pub within : (q i : ℕ) → i < count q → chunk_after next (first q) i < length next
  pub apart : (q i r j : ℕ) → i < count q → j < count r → chunk_after next (first q) i ≡ chunk_after next (first r) j → (q ≡ r) × (i ≡ j)
