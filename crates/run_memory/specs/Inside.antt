-- What is true of a store's lists at every moment: where the block of each name begins, and that no other blocks are there.
use Rattle.std.specs.Prelude.{◌≡◌, ℕ, suc, ◌+◌, ◌<◌, ◌≤◌, List, [], ◌∷◌, length, reverse, sum_by, Some, slice_index_or}
use Rattle.step_meaning.specs.declared.value.NameKind.{NameKind}
use Rattle.step_meaning.specs.declared.value.NameKind.TheVariants as names
use Rattle.step_meaning.specs.Memory.{Slot}
use Rattle.step_meaning.specs.Limits.{chunks_of}
use Rattle.cell_pool.specs.Region.{Region, live_chunks}
use Rattle.run_memory.specs.Numbering.{name_number}
use Rattle.run_memory.specs.View.{name_at, blocks_at, local_at, AreOpen}

-- the blocks that begin at these slots have the names with these numbers, by their places
pub record Held (r : Region Slot) (numbers : ℕ → ℕ) (slots : List ℕ) : Type 0 where
  pub named : (k : ℕ) → k < length slots → name_at r (slice_index_or slots k 0) ≡ Some (numbers k)

abbrev pub global_at : ℕ → ℕ
global_at k = name_number names.Global 0 k

abbrev pub heap_at : List ℕ → ℕ → ℕ
heap_at numbers k = name_number names.Heap (slice_index_or numbers k 0) 0

-- numbers from m on, that rise
abbrev pub Rise : ℕ → List ℕ → Type 0
Rise m [] = Unit {0}
Rise m (n ∷ ns) = (m ≤ n) × Rise (suc n) ns

-- ---- the slot at which the block of a name begins, as the lists tell

-- of a variable of file scope by its place
abbrev pub LocatedGlobal : List ℕ → ℕ → ℕ → ℕ → Type 0
LocatedGlobal globals a i s = (a ≡ 0) × (i < length globals) × (slice_index_or globals i 0 ≡ s)

-- of a local by the number of its name
abbrev pub LocatedLocal : List ℕ → List ℕ → ℕ → ℕ → ℕ → Type 0
LocatedLocal named locals a i s =
    (a < 1099511627776) × (i < 4194304) × ((k : ℕ) × (k < length locals) × (slice_index_or named k 0 ≡ name_number names.Local a i) × (slice_index_or locals k 0 ≡ s))

-- of a heap block by its number
abbrev pub LocatedHeap : List ℕ → List ℕ → ℕ → ℕ → ℕ → Type 0
LocatedHeap numbers heap a i s = (i ≡ 0) × ((k : ℕ) × (k < length numbers) × (slice_index_or numbers k 0 ≡ a) × (slice_index_or heap k 0 ≡ s))

abbrev pub LocatedIn : List ℕ → List ℕ → List ℕ → List ℕ → List ℕ → NameKind → ℕ → ℕ → ℕ → Type 0
LocatedIn globals named locals numbers heap names.Global a i s = LocatedGlobal globals a i s
LocatedIn globals named locals numbers heap names.Local a i s = LocatedLocal named locals a i s
LocatedIn globals named locals numbers heap names.Heap a i s = LocatedHeap numbers heap a i s
LocatedIn globals named locals numbers heap _ a i s = ⊥

-- numbers that don't fall
abbrev pub DontFall : List ℕ → Type 0
DontFall ns = (j k : ℕ) → j ≤ k → k < length ns → slice_index_or ns j 0 ≤ slice_index_or ns k 0

-- chunks of blocks
abbrev pub chunks_at : Region Slot → List ℕ → ℕ
chunks_at r slots = sum_by chunks_of (blocks_at r slots)

pub record IsStore (r : Region Slot) (globals named locals activations starts numbers heap : List ℕ) : Type 0 where
  pub globals_held : Held r global_at globals
  pub few_globals : length globals ≤ 4194304
  pub locals_held : Held r (local_at (reverse activations) (reverse starts)) locals
  pub few_locals : length locals ≤ 4194304
  -- the number of each local's name is kept
  pub as_many_names : length named ≡ length locals
  pub locals_named : (k : ℕ) → k < length locals → slice_index_or named k 0 ≡ local_at (reverse activations) (reverse starts) k
  pub opened : AreOpen 1099511627776 (length locals) (reverse activations) (reverse starts)
  pub heap_held : Held r (heap_at numbers) heap
  pub as_many_numbers : length numbers ≡ length heap
  pub heap_rises : Rise 0 numbers
  pub heap_below : (k : ℕ) → k < length numbers → slice_index_or numbers k 0 < 1099511627776
  -- no chunk belongs to another block
  pub counted : chunks_at r globals + (chunks_at r locals + chunks_at r heap) ≡ live_chunks r
