-- A property of values that doesn't see offsets, and that the variables and new blocks of a program have, stays with a machine's values from turn to turn.
use Rattle.std.proofs.Common.{ℕ, zero, suc, Bool, true, false, cond, List, [], ◌∷◌, map, drop, Option, Some, None, Result, Ok, Err}
use Rattle.std.specs.Prelude.{ℤ, pos, negsuc, ◌+ℤ◌, nat_le, ◌==◌, slice_get, option_and_then}
use Rattle.std.specs.List.{AllByRecursion}
use Rattle.step_meaning.specs.declared.value.CType.{CType}
use Rattle.step_meaning.specs.declared.value.NameKind.{NameKind}
use Rattle.step_meaning.specs.declared.value.NameKind.TheVariants as names
use Rattle.step_meaning.specs.declared.value.Name.{Name}
use Rattle.step_meaning.specs.declared.value.Value.{Value}
use Rattle.step_meaning.specs.declared.value.Value.TheVariants as value
use Rattle.step_meaning.specs.declared.value.Cell.TheVariants.{Holds}
use Rattle.step_meaning.specs.declared.value.RunFault.{RunFault}
use Rattle.step_meaning.specs.declared.value.RunFault.TheVariants as fault
use Rattle.step_meaning.specs.Names.{within, moved as moved_pointer, of_truth}
use Rattle.step_meaning.specs.Memory.{Memory, Slot, Block, Frame, HeapBlock, block, block_in, frame_of, block_of, slot_at, typed, reached, set_cell, at_block, at_frame, at_heap, changed, stored, without, begins_block, freed, unset_cells, empty_block, filled}
use Rattle.step_meaning.specs.State.{Registers, register_at, set_register, unset_registers}
use Rattle.step_meaning.specs.Types.{same_type}
use Rattle.step_meaning.specs.declared.program.Declared.{Declared}
use Rattle.step_meaning.specs.declared.program.Layout.{Layout}
use Rattle.step_meaning.specs.Calls.{with_arguments, without_frame}
use Rattle.run_turns.specs.Values.{CellHas, BlockHas, BlocksHave, MemoryHas, RegistersHave}

-- ints, null, and with a pointer each into the same variable or block
pub record IgnoresOffsets (P : Value → Type 0) : Type 0 where
  pub integers : (z : ℤ) → P (value.Int z)
  pub null : P value.Null
  pub offsets : (n : Name) (o i : ℕ) → P (value.Pointer n o) → P (value.Pointer n i)

abbrev Each : {A : Type 0} → (A → Type 0) → List A → Type 0
Each P xs = AllByRecursion P xs

abbrev pub WhereSome : {A : Type 0} → (A → Type 0) → Option A → Type 0
WhereSome P None = Unit {0}
WhereSome P (Some a) = P a

get_has : {A : Type 0} (P : A → Type 0) (xs : List A) (i : ℕ) → Each P xs → WhereSome P (slice_get xs i)
get_has P [] i h = tt
get_has P (x ∷ xs) zero h = h.0
get_has P (x ∷ xs) (suc i) h = get_has P xs i h.1

module _ (P : Value → Type 0) (closed : IgnoresOffsets P) where
  abbrev pub OkHas : Result Value RunFault → Type 0
  OkHas (Ok v) = P v
  OkHas (Err x) = Unit {0}

  pub truth_has : (b : Bool) → P (of_truth b)
  truth_has true = closed.integers (pos 1)
  truth_has false = closed.integers (pos 0)

  pub moved_has : (v : Value) (room : Option ℕ) (by : ℤ) → P v → OkHas (moved_pointer v room by)
  moved_has (value.Int z) room by h = tt
  moved_has value.Null room (pos zero) h = closed.null
  moved_has value.Null room (pos (suc n)) h = tt
  moved_has value.Null room (negsuc n) h = tt
  moved_has (value.Pointer n o) None by h = tt
  moved_has (value.Pointer n o) (Some room) by h = at (pos o +ℤ by)
    where
      at : (z : ℤ) → OkHas (within n (Some room) z)
      at (negsuc i) = tt
      at (pos i) = on (nat_le i room)
        where
          on : (c : Bool) → OkHas (cond c (Ok (value.Pointer n i)) (Err fault.Pointer))
          on true = closed.offsets n o i h
          on false = tt

  -- ---- cells

  set_has : (v : Value) (o : ℕ) (b : Block) → P v → BlockHas P b → BlockHas P (set_cell (Holds v) o b)
  set_has v o [] g h = tt
  set_has v zero (s ∷ b) g h = (g, h.1)
  set_has v (suc o) (s ∷ b) g h = (h.0, set_has v o b g h.1)

  blocks_have : (v : Value) (o i : ℕ) (bs : List Block) → P v → BlocksHave P bs → BlocksHave P (at_block (set_cell (Holds v) o) i bs)
  blocks_have v o i [] g h = tt
  blocks_have v o zero (b ∷ bs) g h = (set_has v o b g h.0, h.1)
  blocks_have v o (suc i) (b ∷ bs) g h = (h.0, blocks_have v o i bs g h.1)

  frames_have : (v : Value) (o i a : ℕ) (fs : List Frame) → P v → Each (λ f. BlocksHave P f.locals) fs → Each (λ f. BlocksHave P f.locals) (at_frame (at_block (set_cell (Holds v) o) i) a fs)
  frames_have v o i a [] g h = tt
  frames_have v o i a (r ∷ rs) g h = by (r.activation == a) (frames_have v o i a rs g h.1)
    where
      by : (b : Bool) → Each (λ f. BlocksHave P f.locals) (at_frame (at_block (set_cell (Holds v) o) i) a rs) → Each (λ f. BlocksHave P f.locals) (cond b (record r { locals = at_block (set_cell (Holds v) o) i r.locals } ∷ rs) (r ∷ at_frame (at_block (set_cell (Holds v) o) i) a rs))
      by true k = (blocks_have v o i r.locals g h.0, h.1)
      by false k = (h.0, k)

  heap_has : (v : Value) (o n : ℕ) (bs : List HeapBlock) → P v → Each (λ b. BlockHas P b.cells) bs → Each (λ b. BlockHas P b.cells) (at_heap (set_cell (Holds v) o) n bs)
  heap_has v o n [] g h = tt
  heap_has v o n (b ∷ bs) g h = by (b.number == n) (heap_has v o n bs g h.1)
    where
      by : (d : Bool) → Each (λ b. BlockHas P b.cells) (at_heap (set_cell (Holds v) o) n bs) → Each (λ b. BlockHas P b.cells) (cond d (record b { cells = set_cell (Holds v) o b.cells } ∷ bs) (b ∷ at_heap (set_cell (Holds v) o) n bs))
      by true k = (set_has v o b.cells g h.0, h.1)
      by false k = (h.0, k)

  pub stored_has : (memory : Memory) (p v : Value) → P v → MemoryHas P memory → MemoryHas P (stored memory p (Holds v))
  stored_has memory (value.Int z) v g h = h
  stored_has memory value.Null v g h = h
  stored_has memory (value.Pointer n o) v g h = by n.kind n.activation n.index
    where
      by : (k : NameKind) (a i : ℕ) → MemoryHas P (changed memory k a i (set_cell (Holds v) o))
      by names.Global a i = (blocks_have v o i memory.globals g h.0, h.1, h.2)
      by names.Local a i = (h.0, frames_have v o i a memory.frames g h.1, h.2)
      by names.Heap a zero = (h.0, h.1, heap_has v o a memory.heap g h.2)
      by names.Heap a (suc i) = h
      by names.Register a i = h
      by names.GhostGlobal a i = h
      by names.GhostLocal a i = h

  -- ---- reads

  slot_has : (b : Option Block) (o : ℕ) → WhereSome (BlockHas P) b → WhereSome (λ s. CellHas P s.cell) (slot_at b o)
  slot_has None o h = tt
  slot_has (Some b) o h = get_has (λ s. CellHas P s.cell) b o h

  typed_has : (s : Option Slot) (t : CType) → WhereSome (λ s. CellHas P s.cell) s → WhereSome (CellHas P) (typed s t)
  typed_has None t h = tt
  typed_has (Some s) t h = by (same_type s.declared t)
    where
      by : (b : Bool) → WhereSome (CellHas P) (cond b (Some s.cell) None)
      by true = h
      by false = tt

  frame_has : (a : ℕ) (fs : List Frame) → Each (λ f. BlocksHave P f.locals) fs → WhereSome (λ f. BlocksHave P f.locals) (frame_of a fs)
  frame_has a [] h = tt
  frame_has a (f ∷ fs) h = by (f.activation == a) (frame_has a fs h.1)
    where
      by : (b : Bool) → WhereSome (λ f. BlocksHave P f.locals) (frame_of a fs) → WhereSome (λ f. BlocksHave P f.locals) (cond b (Some f) (frame_of a fs))
      by true k = h.0
      by false k = k

  numbered_has : (n : ℕ) (bs : List HeapBlock) → Each (λ b. BlockHas P b.cells) bs → WhereSome (BlockHas P) (block_of n bs)
  numbered_has n [] h = tt
  numbered_has n (b ∷ bs) h = by (b.number == n) (numbered_has n bs h.1)
    where
      by : (c : Bool) → WhereSome (BlockHas P) (block_of n bs) → WhereSome (BlockHas P) (cond c (Some b.cells) (block_of n bs))
      by true k = h.0
      by false k = k

  block_has : (memory : Memory) (n : Name) → MemoryHas P memory → WhereSome (BlockHas P) (block memory n)
  block_has memory n h = by n.kind n.activation n.index
    where
      local : (i : ℕ) (f : Option Frame) → WhereSome (λ f. BlocksHave P f.locals) f → WhereSome (BlockHas P) (option_and_then (λ f. slice_get f.locals i) f)
      local i None h = tt
      local i (Some f) h = get_has (BlockHas P) f.locals i h

      by : (k : NameKind) (a i : ℕ) → WhereSome (BlockHas P) (block_in memory k a i)
      by names.Global zero i = get_has (BlockHas P) memory.globals i h.0
      by names.Global (suc a) i = tt
      by names.Local a i = local i (frame_of a memory.frames) (frame_has a memory.frames h.1)
      by names.Heap a zero = numbered_has a memory.heap h.2
      by names.Heap a (suc i) = tt
      by names.Register a i = tt
      by names.GhostGlobal a i = tt
      by names.GhostLocal a i = tt

  pub reached_has : (memory : Memory) (p : Value) (t : CType) → MemoryHas P memory → WhereSome (CellHas P) (reached memory p t)
  reached_has memory (value.Pointer n o) t h = typed_has (slot_at (block memory n) o) t (slot_has (block memory n) o (block_has memory n h))
  reached_has memory value.Null t h = tt
  reached_has memory (value.Int z) t h = tt

  -- ---- registers

  pub register_has : (r : Registers) (i : ℕ) (t : CType) → RegistersHave P r → WhereSome (CellHas P) (register_at r i t)
  register_has r i t h = typed_has (slice_get r i) t (get_has (λ s. CellHas P s.cell) r i h)

  pub set_register_has : (r : Registers) (i : ℕ) (v : Value) → P v → RegistersHave P r → RegistersHave P (set_register r i v)
  set_register_has [] i v g h = tt
  set_register_has (s ∷ r) zero v g h = (g, h.1)
  set_register_has (s ∷ r) (suc i) v g h = (h.0, set_register_has r i v g h.1)

  pub unset_has : (ts : List CType) → BlockHas P (unset_cells ts)
  unset_has [] = tt
  unset_has (t ∷ ts) = (tt, unset_has ts)

  pub unset_registers_have : (ds : List Declared) → RegistersHave P (unset_registers ds)
  unset_registers_have [] = tt
  unset_registers_have (d ∷ ds) = (tt, unset_registers_have ds)

  -- ---- blocks that begin and end

  without_has : (n : ℕ) (bs : List HeapBlock) → Each (λ b. BlockHas P b.cells) bs → Each (λ b. BlockHas P b.cells) (without n bs)
  without_has n [] h = tt
  without_has n (b ∷ bs) h = by (b.number == n) (without_has n bs h.1)
    where
      by : (c : Bool) → Each (λ b. BlockHas P b.cells) (without n bs) → Each (λ b. BlockHas P b.cells) (cond c bs (b ∷ without n bs))
      by true k = h.1
      by false k = (h.0, k)

  pub freed_has : (memory : Memory) (p : Value) → MemoryHas P memory → WhereSome (MemoryHas P) (freed memory p)
  freed_has memory value.Null h = h
  freed_has memory (value.Int z) h = tt
  freed_has memory (value.Pointer n o) h = by (begins_block memory n o)
    where
      by : (b : Bool) → WhereSome (MemoryHas P) (cond b (Some (record memory { heap = without n.activation memory.heap })) None)
      by true = (h.0, h.1, without_has n.activation memory.heap h.2)
      by false = tt

  all_empty_have : (layouts : List Layout) (ds : List Declared) → BlocksHave P (map (empty_block layouts) ds)
  all_empty_have layouts [] = tt
  all_empty_have layouts (d ∷ ds) = (unset_has _, all_empty_have layouts ds)

  filled_has : (b : Block) (v : Value) → P v → BlockHas P b → BlockHas P (filled b (v ∷ []))
  filled_has [] v g h = tt
  filled_has (s ∷ b) v g h = by b h.1
    where
      by : (b : Block) → BlockHas P b → P v × BlockHas P (filled b [])
      by [] h = (g, tt)
      by (s ∷ b) h = (g, h)

  pub arguments_have : (layouts : List Layout) (ds : List Declared) (vs : List Value) → Each P vs → BlocksHave P (with_arguments (map (empty_block layouts) ds) vs)
  arguments_have layouts ds [] h = all_empty_have layouts ds
  arguments_have layouts [] (v ∷ vs) h = tt
  arguments_have layouts (d ∷ ds) (v ∷ vs) h = (filled_has (empty_block layouts d) v h.0 (unset_has _), arguments_have layouts ds vs h.1)

  pub tail_has : (memory : Memory) → MemoryHas P memory → MemoryHas P (without_frame memory)
  tail_has memory h = (h.0, rest memory.frames h.1, h.2)
    where
      rest : (fs : List Frame) → Each (λ f. BlocksHave P f.locals) fs → Each (λ f. BlocksHave P f.locals) (drop 1 fs)
      rest [] h = tt
      rest (f ∷ fs) h = h.1
