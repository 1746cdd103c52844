-- Memories whose cells hold values of their types stay so, and an access gives a value of its type.
use Rattle.std.proofs.Common.{◌≡◌, ℕ, zero, suc, ◌<◌, ◌^◌, Bool, true, false, cond, List, [], ◌∷◌, length, map, drop, Option, Some, None, refl, sym, ap, subst, ◌∙◌, arith}
use Rattle.std.specs.Prelude.{slice_get, option_and_then, option_map, ◌==◌}
use Rattle.std.specs.List.{AllByRecursion}
use Rattle.step_meaning.specs.declared.value.CType.{CType}
use Rattle.step_meaning.specs.declared.value.NameKind.{NameKind}
use Rattle.step_meaning.specs.declared.value.NameKind.TheVariants as names
use Rattle.step_meaning.specs.declared.value.Name.{Name}
use Rattle.step_meaning.specs.declared.value.Value.{Value}
use Rattle.step_meaning.specs.declared.value.Value.TheVariants as value
use Rattle.step_meaning.specs.declared.value.Cell.{Cell}
use Rattle.step_meaning.specs.declared.value.Cell.TheVariants.{Nothing, Holds}
use Rattle.step_meaning.specs.Types.{same_type}
use Rattle.step_meaning.specs.Memory.{Slot, Block, Frame, HeapBlock, Memory, filled, typed, slot_at, block, block_in, frame_of, block_of, heap_block, room_at, reached, set_cell, at_block, at_frame, at_heap, changed, stored, with_block, without, begins_block, freed}
use Rattle.step_meaning.specs.Traced.{HasType, CellHasType, SlotTyped, PointsIntoProgram}
use Rattle.step_meaning.specs.TracedRuns.{cells_declared}
use Rattle.step_meaning.proofs.Falling.{Falls, falls_more}
use Rattle.step_meaning.proofs.SameTypes.{same_type_equal, same_itself}
pub use Rattle.step_meaning.proofs.SameTypes.{number_same}

-- ---- lists and options

abbrev pub Each : {A : Type 0} → (A → Type 0) → List A → Type 0
Each P xs = AllByRecursion P xs

abbrev pub WhereSome : {A : Type 0} → (A → Type 0) → Option A → Type 0
WhereSome P None = Unit {0}
WhereSome P (Some a) = P a

pub get_fits : {A : Type 0} (P : A → Type 0) (xs : List A) (i : ℕ) → Each P xs → WhereSome P (slice_get xs i)
get_fits P [] i h = tt
get_fits P (x ∷ xs) zero h = h.0
get_fits P (x ∷ xs) (suc i) h = get_fits P xs i h.1

abbrev pub is_empty : {A : Type 0} → List A → Bool
is_empty [] = true
is_empty (x ∷ xs) = false

pub is_empty_map : {A B : Type 0} (f : A → B) (xs : List A) → is_empty (map f xs) ≡ is_empty xs
is_empty_map f [] = refl
is_empty_map f (x ∷ xs) = refl

pub drop_map : {A B : Type 0} (f : A → B) (xs : List A) → map f (drop 1 xs) ≡ drop 1 (map f xs)
drop_map f [] = refl
drop_map f (x ∷ xs) = refl

-- ---- types of values

-- values of a type have each type that is the same
pub has_same_type : (t u : CType) (v : Value) → same_type t u ≡ true → HasType t v → HasType u v
has_same_type t u v e h = subst (λ t. HasType t v) (same_type_equal t u e) h

pub same_type_turned : (t u : CType) → same_type t u ≡ true → same_type u t ≡ true
same_type_turned t u e = subst (λ v. same_type v t ≡ true) (same_type_equal t u e) (same_itself t)

-- a value in a cell of the type
abbrev pub InCell : CType → Value → Type 0
InCell t v = HasType t v × PointsIntoProgram v

-- ---- blocks

-- the cells hold values of their types, and their number has 32 bits
abbrev pub BlockFits : Block → Type 0
BlockFits b = Each SlotTyped b × (length b < 2 ^ 32)

pub slot_fits : (b : Option Block) (o : ℕ) → WhereSome BlockFits b → WhereSome SlotTyped (slot_at b o)
slot_fits None o h = tt
slot_fits (Some b) o h = get_fits SlotTyped b o h.0

-- what an access at a type reaches is a cell of the type
pub typed_fits : (s : Option Slot) (t : CType) → WhereSome SlotTyped s → WhereSome (CellHasType t) (typed s t)
typed_fits None t h = tt
typed_fits (Some s) t h = by (same_type s.declared t) refl
  where
    cell : (c : Cell) → same_type s.declared t ≡ true → CellHasType s.declared c → CellHasType t c
    cell Nothing e h = tt
    cell (Holds v) e h = (has_same_type s.declared t v e h.0, h.1)

    by : (b : Bool) → same_type s.declared t ≡ b → WhereSome (CellHasType t) (cond b (Some s.cell) None)
    by true e = cell s.cell e h
    by false e = tt

-- a slot takes this content
abbrev pub Takes : Cell → Slot → Type 0
Takes c s = CellHasType s.declared c

-- where an access at the type is allowed, the slot takes a value of the type
pub takes_typed : (s : Option Slot) (t : CType) (v : Value) (c : Cell) → typed s t ≡ Some c → InCell t v → WhereSome (Takes (Holds v)) s
takes_typed None t v c e h = tt
takes_typed (Some s) t v c e h = by (same_type s.declared t) refl e
  where
    by : (b : Bool) → same_type s.declared t ≡ b → cond b (Some s.cell) None ≡ Some c → Takes (Holds v) s
    by true f e = (has_same_type t s.declared v (same_type_turned s.declared t f) h.0, h.1)
    by false f e = absurd (none_is_not_some e)
      where
        none_is_not_some : None ≡ Some c → ⊥
        none_is_not_some e = cc

pub set_fits : (c : Cell) (o : ℕ) (b : Block) → WhereSome (Takes c) (slice_get b o) → Each SlotTyped b → Each SlotTyped (set_cell c o b)
set_fits c o [] f h = tt
set_fits c zero (s ∷ b) f h = (f, h.1)
set_fits c (suc o) (s ∷ b) f h = (h.0, set_fits c o b f h.1)

pub set_length : (c : Cell) (o : ℕ) (b : Block) → length (set_cell c o b) ≡ length b
set_length c o [] = refl
set_length c zero (s ∷ b) = refl
set_length c (suc o) (s ∷ b) = ap suc (set_length c o b)

pub set_declared : (c : Cell) (o : ℕ) (b : Block) → cells_declared (set_cell c o b) ≡ cells_declared b
set_declared c o [] = refl
set_declared c zero (s ∷ b) = refl
set_declared c (suc o) (s ∷ b) = ap (λ ts. s.declared ∷ ts) (set_declared c o b)

pub blocks_fit : (c : Cell) (o i : ℕ) (bs : List Block) → WhereSome (Takes c) (slot_at (slice_get bs i) o) → Each BlockFits bs → Each BlockFits (at_block (set_cell c o) i bs)
blocks_fit c o i [] f h = tt
blocks_fit c o zero (b ∷ bs) f h = ((set_fits c o b f h.0.0, rw (set_length c o b) h.0.1), h.1)
blocks_fit c o (suc i) (b ∷ bs) f h = (h.0, blocks_fit c o i bs f h.1)

pub blocks_declared : (c : Cell) (o i : ℕ) (bs : List Block) → map cells_declared (at_block (set_cell c o) i bs) ≡ map cells_declared bs
blocks_declared c o i [] = refl
blocks_declared c o zero (b ∷ bs) = ap (λ ts. ts ∷ map cells_declared bs) (set_declared c o b)
blocks_declared c o (suc i) (b ∷ bs) = ap (λ ts. cells_declared b ∷ ts) (blocks_declared c o i bs)

pub filled_declared : (b : Block) (vs : List Value) → cells_declared (filled b vs) ≡ cells_declared b
filled_declared [] vs = refl
filled_declared (s ∷ b) [] = refl
filled_declared (s ∷ b) (v ∷ vs) = ap (λ ts. s.declared ∷ ts) (filled_declared b vs)

-- ---- frames

-- an activation, and the declared types of its variables' cells
pub record Shape : Type 0 where
  pub activation : ℕ
  pub cells : List (List CType)

abbrev pub shape_of : Frame → Shape
shape_of f = record { activation = f.activation; cells = map cells_declared f.locals }

abbrev pub FrameFits : Frame → Type 0
FrameFits f = Each BlockFits f.locals

pub frame_fits : (a : ℕ) (fs : List Frame) → Each FrameFits fs → WhereSome FrameFits (frame_of a fs)
frame_fits a [] h = tt
frame_fits a (f ∷ fs) h = by (f.activation == a) (frame_fits a fs h.1)
  where
    by : (b : Bool) → WhereSome FrameFits (frame_of a fs) → WhereSome FrameFits (cond b (Some f) (frame_of a fs))
    by true rest = h.0
    by false rest = rest

abbrev pub local_of : ℕ → Option Frame → Option Block
local_of i f = option_and_then (λ f. slice_get f.locals i) f

local_fits : (i : ℕ) (f : Option Frame) → WhereSome FrameFits f → WhereSome BlockFits (local_of i f)
local_fits i None h = tt
local_fits i (Some f) h = get_fits BlockFits f.locals i h

pub frames_fit : (c : Cell) (o i a : ℕ) (fs : List Frame) → WhereSome (Takes c) (slot_at (local_of i (frame_of a fs)) o) → Each FrameFits fs → Each FrameFits (at_frame (at_block (set_cell c o) i) a fs)
frames_fit c o i a [] f h = tt
frames_fit c o i a (r ∷ rs) f h = by (r.activation == a) f (λ g. frames_fit c o i a rs g h.1)
  where
    by : (b : Bool) → WhereSome (Takes c) (slot_at (local_of i (cond b (Some r) (frame_of a rs))) o) → (WhereSome (Takes c) (slot_at (local_of i (frame_of a rs)) o) → Each FrameFits (at_frame (at_block (set_cell c o) i) a rs)) → Each FrameFits (cond b (record r { locals = at_block (set_cell c o) i r.locals } ∷ rs) (r ∷ at_frame (at_block (set_cell c o) i) a rs))
    by true f rest = (blocks_fit c o i r.locals f h.0, h.1)
    by false f rest = (h.0, rest f)

pub frames_shaped : (c : Cell) (o i a : ℕ) (fs : List Frame) → map shape_of (at_frame (at_block (set_cell c o) i) a fs) ≡ map shape_of fs
frames_shaped c o i a [] = refl
frames_shaped c o i a (r ∷ rs) = by (r.activation == a) (frames_shaped c o i a rs)
  where
    by : (b : Bool) → map shape_of (at_frame (at_block (set_cell c o) i) a rs) ≡ map shape_of rs → map shape_of (cond b (record r { locals = at_block (set_cell c o) i r.locals } ∷ rs) (r ∷ at_frame (at_block (set_cell c o) i) a rs)) ≡ map shape_of (r ∷ rs)
    by true rest = ap (λ ts. record { activation = r.activation; cells = ts } ∷ map shape_of rs) (blocks_declared c o i r.locals)
    by false rest = ap (λ ss. shape_of r ∷ ss) rest

-- ---- heap blocks

abbrev pub HeapFits : HeapBlock → Type 0
HeapFits b = BlockFits b.cells

abbrev pub heap_numbers : List HeapBlock → List ℕ
heap_numbers bs = map (λ b. b.number) bs

pub block_of_fits : (n : ℕ) (bs : List HeapBlock) → Each HeapFits bs → WhereSome BlockFits (block_of n bs)
block_of_fits n [] h = tt
block_of_fits n (b ∷ bs) h = by (b.number == n) (block_of_fits n bs h.1)
  where
    by : (c : Bool) → WhereSome BlockFits (block_of n bs) → WhereSome BlockFits (cond c (Some b.cells) (block_of n bs))
    by true rest = h.0
    by false rest = rest

pub heap_fits : (c : Cell) (o n : ℕ) (bs : List HeapBlock) → WhereSome (Takes c) (slot_at (block_of n bs) o) → Each HeapFits bs → Each HeapFits (at_heap (set_cell c o) n bs)
heap_fits c o n [] f h = tt
heap_fits c o n (b ∷ bs) f h = by (b.number == n) f (λ g. heap_fits c o n bs g h.1)
  where
    by : (d : Bool) → WhereSome (Takes c) (slot_at (cond d (Some b.cells) (block_of n bs)) o) → (WhereSome (Takes c) (slot_at (block_of n bs) o) → Each HeapFits (at_heap (set_cell c o) n bs)) → Each HeapFits (cond d (record b { cells = set_cell c o b.cells } ∷ bs) (b ∷ at_heap (set_cell c o) n bs))
    by true f rest = ((set_fits c o b.cells f h.0.0, rw (set_length c o b.cells) h.0.1), h.1)
    by false f rest = (h.0, rest f)

pub heap_numbered : (f : Block → Block) (n : ℕ) (bs : List HeapBlock) → heap_numbers (at_heap f n bs) ≡ heap_numbers bs
heap_numbered f n [] = refl
heap_numbered f n (b ∷ bs) = by (b.number == n) (heap_numbered f n bs)
  where
    by : (c : Bool) → heap_numbers (at_heap f n bs) ≡ heap_numbers bs → heap_numbers (cond c (record b { cells = f b.cells } ∷ bs) (b ∷ at_heap f n bs)) ≡ heap_numbers (b ∷ bs)
    by true rest = refl
    by false rest = ap (λ ns. b.number ∷ ns) rest

-- the blocks that are left when one ends
pub without_fits : (n : ℕ) (bs : List HeapBlock) → Each HeapFits bs → Each HeapFits (without n bs)
without_fits n [] h = tt
without_fits n (b ∷ bs) h = by (b.number == n) (without_fits n bs h.1)
  where
    by : (c : Bool) → Each HeapFits (without n bs) → Each HeapFits (cond c bs (b ∷ without n bs))
    by true rest = h.1
    by false rest = (h.0, rest)

pub without_falls : (n : ℕ) (bs : List HeapBlock) (m : ℕ) → Falls (heap_numbers bs) m → Falls (heap_numbers (without n bs)) m
without_falls n [] m h = tt
without_falls n (b ∷ bs) m h = by (b.number == n) (without_falls n bs b.number h.1)
  where
    by : (c : Bool) → Falls (heap_numbers (without n bs)) b.number → Falls (heap_numbers (cond c bs (b ∷ without n bs))) m
    by true rest = falls_more (heap_numbers bs) b.number m (let l : b.number < m = h.0 in omega arith) h.1
    by false rest = (h.0, rest)

-- ---- memories

pub record MemoryFits (globals : List (List CType)) (frames : List Shape) (memory : Memory) : Type 0 where
  pub globals_declared : map cells_declared memory.globals ≡ globals
  pub frames_declared : map shape_of memory.frames ≡ frames
  pub globals_fit : Each BlockFits memory.globals
  pub locals_fit : Each FrameFits memory.frames
  pub heap_fit : Each HeapFits memory.heap

module _ {globals : List (List CType)} {frames : List Shape} {memory : Memory} (h : MemoryFits globals frames memory) where
  pub block_fits : (n : Name) → WhereSome BlockFits (block memory n)
  block_fits n = by n.kind n.activation
    where
      by : (k : NameKind) (a : ℕ) → WhereSome BlockFits (block_in memory k a n.index)
      by names.Global zero = get_fits BlockFits memory.globals n.index h.globals_fit
      by names.Global (suc a) = tt
      by names.Local a = local_fits n.index (frame_of a memory.frames) (frame_fits a memory.frames h.locals_fit)
      by names.Heap a = heap a n.index
        where
          heap : (a i : ℕ) → WhereSome BlockFits (heap_block memory a i)
          heap a zero = block_of_fits a memory.heap h.heap_fit
          heap a (suc i) = tt
      by names.Register a = tt
      by names.GhostGlobal a = tt
      by names.GhostLocal a = tt

  -- what an access reaches is a cell of its type
  pub reached_fits : (p : Value) (t : CType) → WhereSome (CellHasType t) (reached memory p t)
  reached_fits (value.Pointer n o) t = typed_fits (slot_at (block memory n) o) t (slot_fits (block memory n) o (block_fits n))
  reached_fits value.Null t = tt
  reached_fits (value.Int z) t = tt

  -- the number of cells of a variable has 32 bits
  pub room_fits : (p : Value) → WhereSome (λ r. r < 2 ^ 32) (room_at memory p)
  room_fits (value.Pointer n o) = by (block memory n) (block_fits n)
    where
      by : (b : Option Block) → WhereSome BlockFits b → WhereSome (λ r. r < 2 ^ 32) (option_map length b)
      by None h = tt
      by (Some b) h = h.1
  room_fits value.Null = tt
  room_fits (value.Int z) = tt

  -- where an access at the type is allowed, a value of the type is stored
  pub stored_fits : (p : Value) (t : CType) (v : Value) (c : Cell) → reached memory p t ≡ Some c → InCell t v → MemoryFits globals frames (stored memory p (Holds v))
  stored_fits (value.Pointer n o) t v c e k = by n.kind n.activation n.index e (takes_typed (slot_at (block memory n) o) t v c e k)
    where
      none_is_not_some : None ≡ Some c → ⊥
      none_is_not_some e = cc

      by : (k : NameKind) (a i : ℕ) → typed (slot_at (block_in memory k a i) o) t ≡ Some c → WhereSome (Takes (Holds v)) (slot_at (block_in memory k a i) o) → MemoryFits globals frames (changed memory k a i (set_cell (Holds v) o))
      by names.Global zero i e f = record { globals_declared = blocks_declared (Holds v) o i memory.globals ∙ h.globals_declared; frames_declared = h.frames_declared; globals_fit = blocks_fit (Holds v) o i memory.globals f h.globals_fit; locals_fit = h.locals_fit; heap_fit = h.heap_fit }
      by names.Global (suc a) i e f = absurd (none_is_not_some e)
      by names.Local a i e f = record { globals_declared = h.globals_declared; frames_declared = frames_shaped (Holds v) o i a memory.frames ∙ h.frames_declared; globals_fit = h.globals_fit; locals_fit = frames_fit (Holds v) o i a memory.frames f h.locals_fit; heap_fit = h.heap_fit }
      by names.Heap a zero e f = record { globals_declared = h.globals_declared; frames_declared = h.frames_declared; globals_fit = h.globals_fit; locals_fit = h.locals_fit; heap_fit = heap_fits (Holds v) o a memory.heap f h.heap_fit }
      by names.Heap a (suc i) e f = absurd (none_is_not_some e)
      by names.Register a i e f = h
      by names.GhostGlobal a i e f = h
      by names.GhostLocal a i e f = h
  stored_fits value.Null t v c e k = h
  stored_fits (value.Int z) t v c e k = h

  -- with a new block
  pub block_begins : (n : ℕ) (b : Block) → BlockFits b → MemoryFits globals frames (with_block n b memory)
  block_begins n b k = record { globals_declared = h.globals_declared; frames_declared = h.frames_declared; globals_fit = h.globals_fit; locals_fit = h.locals_fit; heap_fit = (k, h.heap_fit) }

  -- and without one that ends
  pub freed_fits : (p : Value) → WhereSome (MemoryFits globals frames) (freed memory p)
  freed_fits value.Null = h
  freed_fits (value.Int z) = tt
  freed_fits (value.Pointer n o) = by (begins_block memory n o)
    where
      by : (b : Bool) → WhereSome (MemoryFits globals frames) (cond b (Some (record memory { heap = without n.activation memory.heap })) None)
      by true = record { globals_declared = h.globals_declared; frames_declared = h.frames_declared; globals_fit = h.globals_fit; locals_fit = h.locals_fit; heap_fit = without_fits n.activation memory.heap h.heap_fit }
      by false = tt

-- ---- numbers of heap blocks

-- they fall, and are below the count of blocks that were made
abbrev pub HeapFalls : Memory → ℕ → Type 0
HeapFalls memory n = Falls (heap_numbers memory.heap) n

pub stored_falls : (memory : Memory) (p : Value) (c : Cell) (n : ℕ) → HeapFalls memory n → HeapFalls (stored memory p c) n
stored_falls memory value.Null c n h = h
stored_falls memory (value.Int z) c n h = h
stored_falls memory (value.Pointer m o) c n h = by m.kind m.index
  where
    by : (k : NameKind) (i : ℕ) → HeapFalls (changed memory k m.activation i (set_cell c o)) n
    by names.Heap zero = subst (λ ns. Falls ns n) (sym (heap_numbered (set_cell c o) m.activation memory.heap)) h
    by names.Heap (suc i) = h
    by names.Global i = h
    by names.Local i = h
    by names.Register i = h
    by names.GhostGlobal i = h
    by names.GhostLocal i = h

pub freed_falls : (memory : Memory) (p : Value) (n : ℕ) → HeapFalls memory n → WhereSome (λ x. HeapFalls x n) (freed memory p)
freed_falls memory value.Null n h = h
freed_falls memory (value.Int z) n h = tt
freed_falls memory (value.Pointer m o) n h = by (begins_block memory m o)
  where
    by : (b : Bool) → WhereSome (λ x. HeapFalls x n) (cond b (Some (record memory { heap = without m.activation memory.heap })) None)
    by true = without_falls m.activation memory.heap n h
    by false = tt
