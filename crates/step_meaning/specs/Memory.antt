-- Memory (C11 6.2.4, 6.2.6.1, 6.5, 7; 7.22.3): the live variables and heap blocks, each with its cells, and the accesses that are allowed.
-- A memory is a finite map from names to lists of cells: `block` is that map. A variable of file scope is live in the whole run, a parameter or local from its activation's start to its end, a heap block from its `malloc` to its `free`.
-- Two such maps are kept apart, that of the program's own variables and heap blocks and that of the ghost variables; both have this form. Registers are in neither.
use Rattle.std.specs.Prelude.{ℕ, zero, suc, Bool, ◌&&◌, if◌then◌else◌, ◌==◌, List, [], ◌∷◌, map, length, slice_get, Option, Some, None, option_and_then, option_map, is_some}
use Rattle.step_meaning.specs.declared.value.CType.{CType}
use Rattle.step_meaning.specs.declared.value.NameKind.{NameKind}
use Rattle.step_meaning.specs.declared.value.NameKind.TheVariants as names
use Rattle.step_meaning.specs.declared.value.Name.{Name}
use Rattle.step_meaning.specs.declared.value.Value.{Value}
use Rattle.step_meaning.specs.declared.value.Value.TheVariants as value
use Rattle.step_meaning.specs.declared.value.Cell.{Cell}
use Rattle.step_meaning.specs.declared.value.Cell.TheVariants.{Nothing, Holds}
use Rattle.step_meaning.specs.declared.program.Layout.{Layout}
use Rattle.step_meaning.specs.declared.program.Declared.{Declared}
use Rattle.step_meaning.specs.Names.{same_kind}
use Rattle.step_meaning.specs.Types.{same_type, object_cells}

-- ---- blocks

-- a cell with its declared scalar type
pub record Slot : Type 0 where
  pub declared : CType
  pub cell : Cell

-- the cells of one variable
abbrev pub Block : Type 0
Block = List Slot

-- cells of these types that hold nothing
abbrev pub unset_cells : List CType → Block
unset_cells ts = map (λ t. record { declared = t; cell = Nothing }) ts

abbrev pub empty_block : List Layout → Declared → Block
empty_block layouts d = unset_cells (object_cells layouts d.ctype)

-- the block with these values in its first cells
abbrev pub filled : Block → List Value → Block
filled [] vs = []
filled (s ∷ b) [] = s ∷ b
filled (s ∷ b) (v ∷ vs) = record s { cell = Holds v } ∷ filled b vs

-- ---- memory

-- the variables of one open activation
pub record Frame : Type 0 where
  pub activation : ℕ
  pub locals : List Block

-- a live block of the heap, with its number
pub record HeapBlock : Type 0 where
  pub number : ℕ
  pub cells : Block

pub record Memory : Type 0 where
  pub globals : List Block
  -- the innermost activation first
  pub frames : List Frame
  -- the newest block first
  pub heap : List HeapBlock

abbrev pub frame_of : ℕ → List Frame → Option Frame
frame_of a [] = None
frame_of a (f ∷ fs) = if f.activation == a then Some f else frame_of a fs

-- a variable of file scope
abbrev pub file_block : Memory → ℕ → ℕ → Option Block
file_block memory zero i = slice_get memory.globals i
file_block memory (suc a) i = None

-- a variable of an activation
abbrev pub frame_block : Memory → ℕ → ℕ → Option Block
frame_block memory a i = option_and_then (λ f. slice_get f.locals i) (frame_of a memory.frames)

abbrev pub block_of : ℕ → List HeapBlock → Option Block
block_of n [] = None
block_of n (b ∷ bs) = if b.number == n then Some b.cells else block_of n bs

-- the heap block with number n
abbrev pub heap_block : Memory → ℕ → ℕ → Option Block
heap_block memory n zero = block_of n memory.heap
heap_block memory n (suc i) = None

abbrev pub block_in : Memory → NameKind → ℕ → ℕ → Option Block
block_in memory names.Global a i = file_block memory a i
block_in memory names.Local a i = frame_block memory a i
block_in memory names.Heap a i = heap_block memory a i
block_in memory _ a i = None

-- the cells of a variable or heap block, and none where it isn't live
abbrev pub block : Memory → Name → Option Block
block memory n = block_in memory n.kind n.activation n.index

-- their number, and none where it isn't live
abbrev pub room : Memory → Name → Option ℕ
room memory n = option_map length (block memory n)

-- the same for what a pointer names
abbrev pub room_at : Memory → Value → Option ℕ
room_at memory (value.Pointer n o) = room memory n
room_at memory _ = None

-- ---- accesses

-- the cell that an access of this type reaches in a slot: the declared scalar type has to be the accessed one
abbrev pub typed : Option Slot → CType → Option Cell
typed None t = None
typed (Some s) t = if same_type s.declared t then Some s.cell else None

abbrev pub slot_at : Option Block → ℕ → Option Slot
slot_at b o = option_and_then (λ b. slice_get b o) b

-- the cell that an access at a pointer reaches, and none where the access isn't allowed:
-- the variable or block is live, the offset is below its cells, and the cell has the accessed type
abbrev pub reached : Memory → Value → CType → Option Cell
reached memory (value.Pointer n o) t = typed (slot_at (block memory n) o) t
reached memory _ t = None

-- ---- changes

abbrev pub set_cell : Cell → ℕ → Block → Block
set_cell c o [] = []
set_cell c zero (s ∷ b) = record s { cell = c } ∷ b
set_cell c (suc o) (s ∷ b) = s ∷ set_cell c o b

abbrev pub at_block : (Block → Block) → ℕ → List Block → List Block
at_block f i [] = []
at_block f zero (b ∷ bs) = f b ∷ bs
at_block f (suc i) (b ∷ bs) = b ∷ at_block f i bs

abbrev pub at_frame : (List Block → List Block) → ℕ → List Frame → List Frame
at_frame f a [] = []
at_frame f a (r ∷ rs) = if r.activation == a then record r { locals = f r.locals } ∷ rs else r ∷ at_frame f a rs

abbrev pub at_heap : (Block → Block) → ℕ → List HeapBlock → List HeapBlock
at_heap f n [] = []
at_heap f n (b ∷ bs) = if b.number == n then record b { cells = f b.cells } ∷ bs else b ∷ at_heap f n bs

-- the memory with the cells of one variable or heap block changed
abbrev pub changed : Memory → NameKind → ℕ → ℕ → (Block → Block) → Memory
changed memory names.Global a i f = record memory { globals = at_block f i memory.globals }
changed memory names.Local a i f = record memory { frames = at_frame (at_block f i) a memory.frames }
changed memory names.Heap a zero f = record memory { heap = at_heap f a memory.heap }
changed memory _ a i f = memory

-- the memory with one cell changed
abbrev pub put : Memory → Name → ℕ → Cell → Memory
put memory n o c = changed memory n.kind n.activation n.index (set_cell c o)

-- the memory with the cell changed that a pointer names
abbrev pub stored : Memory → Value → Cell → Memory
stored memory (value.Pointer n o) c = put memory n o c
stored memory _ c = memory

-- ---- the heap (C11 7.22.3)

-- the memory with one more block, which has this number
abbrev pub with_block : ℕ → Block → Memory → Memory
with_block n b memory = record memory { heap = record { number = n; cells = b } ∷ memory.heap }

abbrev pub without : ℕ → List HeapBlock → List HeapBlock
without n [] = []
without n (b ∷ bs) = if b.number == n then bs else b ∷ without n bs

-- offset 0 of a live heap block
abbrev pub begins_block : Memory → Name → ℕ → Bool
begins_block memory n o = same_kind n.kind names.Heap && (o == 0 && is_some (block memory n))

-- the memory after `free` of this pointer: null does nothing, and at offset 0 of a live heap block the block ends. None where the pointer is neither (C11 7.22.3.3)
abbrev pub freed : Memory → Value → Option Memory
freed memory value.Null = Some memory
freed memory (value.Pointer n o) = if begins_block memory n o then Some (record memory { heap = without n.activation memory.heap }) else None
freed memory (value.Int z) = None
