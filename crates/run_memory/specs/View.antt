-- The memory that a region of cells and a few lists hold: for each variable and heap block the slot at which its block begins.
use Rattle.std.specs.Prelude.{◌≡◌, ℕ, ◌-◌, ◌<◌, ◌≤◌, cond, nat_le, List, [], ◌∷◌, ◌++◌, map, take, drop, reverse, Option, Some, None, slice_index_or}
use Rattle.step_meaning.specs.declared.value.NameKind.TheVariants as names
use Rattle.step_meaning.specs.Memory.{Slot, Block, Frame, HeapBlock, Memory}
use Rattle.cell_pool.specs.Region as pool
use Rattle.run_memory.specs.Numbering.{name_number}

-- ---- a block of the region by its slot

abbrev pub cells_in : Option (pool.Block Slot) → Block
cells_in None = []
cells_in (Some b) = b.cells

-- its cells, and none where no block begins there
abbrev pub cells_at : pool.Region Slot → ℕ → Block
cells_at r slot = cells_in (slice_index_or r.blocks slot None)

abbrev pub name_in : Option (pool.Block Slot) → Option ℕ
name_in None = None
name_in (Some b) = Some b.name

-- the number of its name
abbrev pub name_at : pool.Region Slot → ℕ → Option ℕ
name_at r slot = name_in (slice_index_or r.blocks slot None)

abbrev pub blocks_at : pool.Region Slot → List ℕ → List Block
blocks_at r slots = map (cells_at r) slots

-- ---- the open activations, the innermost first

-- each has a number, and the place among all locals at which its own begin; they end where those of the next one begin
abbrev pub frames_of : List ℕ → List ℕ → List Block → List Frame
frames_of [] starts locals = []
frames_of (n ∷ ns) [] locals = []
frames_of (n ∷ ns) (b ∷ bs) locals = record { activation = n; locals = drop b locals } ∷ frames_of ns bs (take b locals)

-- the number of the name of the local at a place, and 0 where there is none
abbrev pub local_at : List ℕ → List ℕ → ℕ → ℕ
local_at [] starts k = 0
local_at (n ∷ ns) [] k = 0
local_at (n ∷ ns) (b ∷ bs) k = cond (nat_le b k) (name_number names.Local n (k - b)) (local_at ns bs k)

-- numbers below m that fall, and places up to l that don't rise: each of so many places belongs to an activation
abbrev pub AreOpen : ℕ → ℕ → List ℕ → List ℕ → Type 0
AreOpen m l [] [] = l ≡ 0
AreOpen m l [] (b ∷ bs) = ⊥
AreOpen m l (n ∷ ns) [] = ⊥
AreOpen m l (n ∷ ns) (b ∷ bs) = (n < m) × (b ≤ l) × AreOpen n b ns bs

-- ---- the heap, where the oldest block is given first

abbrev pub heap_of : List ℕ → List Block → List HeapBlock
heap_of [] bs = []
heap_of (n ∷ ns) [] = []
heap_of (n ∷ ns) (b ∷ bs) = heap_of ns bs ++ record { number = n; cells = b } ∷ []

-- ---- the memory

abbrev pub memory_of : pool.Region Slot → List ℕ → List ℕ → List ℕ → List ℕ → List ℕ → List ℕ → Memory
memory_of r globals locals activations starts numbers heap =
    record {
      globals = blocks_at r globals;
      frames = frames_of (reverse activations) (reverse starts) (blocks_at r locals);
      heap = heap_of numbers (blocks_at r heap);
    }
