-- Memories whose cells hold no pointer to a register or a ghost variable, and values of terms that are none.
use Rattle.std.proofs.Common.{◌≡◌, ℕ, zero, suc, Bool, true, false, cond, ◌==◌, List, [], ◌∷◌, slice_get, Option, Some, None}
use Rattle.std.specs.Prelude.{IsTrue, option_and_then}
use Rattle.std.specs.List.{AllByRecursion}
use Rattle.step_meaning.specs.declared.value.CType.{CType}
use Rattle.step_meaning.specs.declared.value.NameKind.{NameKind}
use Rattle.step_meaning.specs.declared.value.NameKind.TheVariants as names
use Rattle.step_meaning.specs.declared.value.Value.TheVariants as value
use Rattle.step_meaning.specs.declared.value.Cell.{Cell}
use Rattle.step_meaning.specs.declared.value.Cell.TheVariants.{Nothing, Holds}
use Rattle.step_meaning.specs.Types.{same_type}
use Rattle.step_meaning.specs.Memory.{HeapBlock, block_of, heap_block, Memory, Frame, Slot, Block, typed, slot_at, file_block, frame_block, frame_of}
use Rattle.step_meaning.specs.Terms.{TermValue, Number, NullPointer, PointerInto, value_in_cell}
use Rattle.step_meaning.specs.Traced.{is_program_kind, PointsIntoProgram}

-- ---- cells that hold no pointer to a register or a ghost variable

abbrev pub WhereSome : {A : Type 0} → (A → Type 0) → Option A → Type 0
WhereSome P None = Unit {0}
WhereSome P (Some a) = P a

pub get_each : {A : Type 0} (P : A → Type 0) (xs : List A) (i : ℕ) → AllByRecursion P xs → WhereSome P (slice_get xs i)
get_each P [] i h = tt
get_each P (x ∷ xs) zero h = h.0
get_each P (x ∷ xs) (suc i) h = get_each P xs i h.1

abbrev pub CellInside : Cell → Type 0
CellInside Nothing = Unit {0}
CellInside (Holds v) = PointsIntoProgram v

abbrev pub BlockInside : Block → Type 0
BlockInside b = AllByRecursion (λ s. CellInside s.cell) b

abbrev pub FrameInside : Frame → Type 0
FrameInside f = AllByRecursion BlockInside f.locals

pub record MemoryInside (m : Memory) : Type 0 where
  pub globals : AllByRecursion BlockInside m.globals
  pub frames : AllByRecursion FrameInside m.frames
  pub heap : AllByRecursion (λ (b : HeapBlock). BlockInside b.cells) m.heap

pub typed_inside : (s : Option Slot) (u : CType) → WhereSome (λ (s : Slot). CellInside s.cell) s → WhereSome CellInside (typed s u)
typed_inside None u h = tt
typed_inside (Some s) u h = by (same_type s.declared u)
  where
    by : (b : Bool) → WhereSome CellInside (cond b (Some s.cell) None)
    by true = h
    by false = tt

pub slot_inside : (b : Option Block) (o : ℕ) → WhereSome BlockInside b → WhereSome (λ (s : Slot). CellInside s.cell) (slot_at b o)
slot_inside None o h = tt
slot_inside (Some b) o h = get_each _ b o h

frame_inside : (a : ℕ) (fs : List Frame) → AllByRecursion FrameInside fs → WhereSome FrameInside (frame_of a fs)
frame_inside a [] h = tt
frame_inside a (f ∷ fs) h = by (f.activation == a) (frame_inside a fs h.1)
  where
    by : (b : Bool) → WhereSome FrameInside (frame_of a fs) → WhereSome FrameInside (cond b (Some f) (frame_of a fs))
    by true rest = h.0
    by false rest = rest

local_inside : (i : ℕ) (f : Option Frame) → WhereSome FrameInside f → WhereSome BlockInside (option_and_then (λ (f : Frame). slice_get f.locals i) f)
local_inside i None h = tt
local_inside i (Some f) h = get_each BlockInside f.locals i h

pub file_inside : (m : Memory) → MemoryInside m → (a i : ℕ) → WhereSome BlockInside (file_block m a i)
file_inside m h zero i = get_each BlockInside m.globals i h.globals
file_inside m h (suc a) i = tt

pub framed_inside : (m : Memory) → MemoryInside m → (a i : ℕ) → WhereSome BlockInside (frame_block m a i)
framed_inside m h a i = local_inside i (frame_of a m.frames) (frame_inside a m.frames h.frames)

chosen_inside : (b : Bool) (x : Block) (o : Option Block) → BlockInside x → WhereSome BlockInside o → WhereSome BlockInside (cond b (Some x) o)
chosen_inside true x o h k = h
chosen_inside false x o h k = k

numbered_inside : (n : ℕ) (bs : List HeapBlock) → AllByRecursion (λ (b : HeapBlock). BlockInside b.cells) bs → WhereSome BlockInside (block_of n bs)
numbered_inside n [] h = tt
numbered_inside n (b ∷ bs) h = chosen_inside (b.number == n) b.cells (block_of n bs) h.0 (numbered_inside n bs h.1)

pub heaped_inside : (m : Memory) → MemoryInside m → (n i : ℕ) → WhereSome BlockInside (heap_block m n i)
heaped_inside m h n zero = numbered_inside n m.heap h.heap
heaped_inside m h n (suc i) = tt

-- ---- values of terms and places

abbrev pub TermInside : Option TermValue → Type 0
TermInside (Some (PointerInto n o)) = IsTrue (is_program_kind n.kind)
TermInside _ = Unit {0}

pub value_inside : (c : Option Cell) → WhereSome CellInside c → TermInside (value_in_cell c)
value_inside None h = tt
value_inside (Some Nothing) h = tt
value_inside (Some (Holds (value.Int z))) h = tt
value_inside (Some (Holds value.Null)) h = tt
value_inside (Some (Holds (value.Pointer n o))) h = h

-- a name that the woven program and the fold read alike: no register, and of the ghosts of activations those of this one
abbrev pub IsSeenKind : Bool → ℕ → NameKind → ℕ → Type 0
IsSeenKind w a names.Register b = ⊥
IsSeenKind w a names.GhostGlobal b = IsTrue w
IsSeenKind w a names.GhostLocal b = b ≡ a
IsSeenKind w a _ b = Unit {0}

abbrev pub PlaceSeen : Bool → ℕ → Option TermValue → Type 0
PlaceSeen w a (Some (PointerInto n o)) = IsSeenKind w a n.kind n.activation
PlaceSeen w a _ = Unit {0}

pub inside_seen : (w : Bool) (a : ℕ) (v : Option TermValue) → TermInside v → PlaceSeen w a v
inside_seen w a None h = tt
inside_seen w a (Some (Number z)) h = tt
inside_seen w a (Some NullPointer) h = tt
inside_seen w a (Some (PointerInto n o)) h = by n.kind h
  where
    by : (k : NameKind) → IsTrue (is_program_kind k) → IsSeenKind w a k n.activation
    by names.Global h = tt
    by names.Local h = tt
    by names.Heap h = tt
    by names.Register h = absurd (no h)
      where
        no : false ≡ true → ⊥
        no e = cc
    by names.GhostGlobal h = absurd (no h)
      where
        no : false ≡ true → ⊥
        no e = cc
    by names.GhostLocal h = absurd (no h)
      where
        no : false ≡ true → ⊥
        no e = cc
