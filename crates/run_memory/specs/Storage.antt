-- The memory of a running program as its callers see it: the memory itself, and its limits.
use Rattle.std.specs.Prelude.{◌≡◌, ℕ, ◌<◌, ◌≤◌, List, [], ◌∷◌, ◌++◌, length, take, sum_by, slice_index_or, Option, Some, None}
use Rattle.step_meaning.specs.declared.value.CType.{CType}
use Rattle.step_meaning.specs.declared.value.Value.{Value}
use Rattle.step_meaning.specs.declared.value.Name.{Name}
use Rattle.step_meaning.specs.declared.value.NameKind.TheVariants as names
use Rattle.std.specs.List.{AllByRecursion}
use Rattle.step_meaning.specs.declared.program.Layout.{Layout}
use Rattle.step_meaning.specs.declared.program.Declared.{Declared}
use Rattle.step_meaning.specs.Limits.{chunks_for}
use Rattle.step_meaning.specs.Memory.{Block, Frame, HeapBlock, Memory, unset_cells, filled, at_block}
use Rattle.step_meaning.specs.Types.{object_cells}
use Rattle.cell_pool.specs.Region.{Region}
use Rattle.run_memory.specs.declared.cell.PoolCell.{PoolCell}
use Rattle.run_memory.specs.Cells.{seen, ValueIsNumbered}
use Rattle.run_memory.specs.View.{memory_of}
use Rattle.run_memory.specs.Inside.{IsStore}

pub record Storage : Type 0 where
  pub memory : Memory
  -- how many chunks of cells there are
  pub chunk_limit : ℕ
  -- how many activations may be open
  pub call_limit : ℕ

abbrev pub storage_of : Region PoolCell → List ℕ → List ℕ → List ℕ → List ℕ → List ℕ → List ℕ → ℕ → Storage
storage_of p globals locals activations starts numbers heap calls =
    record { memory = memory_of (seen p) globals locals activations starts numbers heap; chunk_limit = length p.blocks; call_limit = calls }

-- what is true of a store at every moment; each list has room for all that may come
pub record IsKept (p : Region PoolCell) (globals named locals activations starts numbers heap : List ℕ) (calls : ℕ) (name_room local_room activation_room start_room number_room heap_room : ℕ) : Type 0 where
  pub store : IsStore (seen p) globals named locals activations starts numbers heap
  pub chunks_fit : length p.blocks ≤ 1048576
  pub name_fits : length p.blocks ≤ name_room
  pub local_fits : length p.blocks ≤ local_room
  pub activation_fits : calls ≤ activation_room
  pub start_fits : calls ≤ start_room
  pub number_fits : length p.blocks ≤ number_room
  pub heap_fits : length p.blocks ≤ heap_room

-- ---- changes

-- the memory with one local more of the innermost activation
abbrev pub add_local : Block → List Frame → List Frame
add_local b [] = []
add_local b (f ∷ fs) = record { activation = f.activation; locals = f.locals ++ b ∷ [] } ∷ fs

abbrev pub with_local : Block → Memory → Memory
with_local b memory = record memory { frames = add_local b memory.frames }

-- the memory with the last local of the innermost activation gone, where n stay
abbrev pub keep_locals : ℕ → List Frame → List Frame
keep_locals n [] = []
keep_locals n (f ∷ fs) = record { activation = f.activation; locals = take n f.locals } ∷ fs

abbrev pub with_locals : ℕ → Memory → Memory
with_locals n memory = record memory { frames = keep_locals n memory.frames }

-- a local with its argument, if it has one
abbrev pub first_local : List Layout → CType → Option Value → Block
first_local layouts t None = unset_cells (object_cells layouts t)
first_local layouts t (Some v) = filled (unset_cells (object_cells layouts t)) (v ∷ [])

-- the innermost activation has a number below this
abbrev pub IsNewer : ℕ → List Frame → Type 0
IsNewer a [] = Unit {0}
IsNewer a (f ∷ fs) = f.activation < a

-- the newest heap block has a number below this
abbrev pub IsNewerBlock : ℕ → List HeapBlock → Type 0
IsNewerBlock n [] = Unit {0}
IsNewerBlock n (b ∷ bs) = b.number < n

-- how many locals the innermost activation has
abbrev pub locals_in : List Frame → ℕ
locals_in [] = 0
locals_in (f ∷ fs) = length f.locals

-- an object of the type has a cell or more, and no more than a block may have
pub record IsBlockSized (layouts : List Layout) (t : CType) : Type 0 where
  pub some : 1 ≤ length (object_cells layouts t)
  pub few : length (object_cells layouts t) ≤ 65536

-- the memory where there is one, and else the one before
abbrev pub or_same : Option Memory → Memory → Memory
or_same None memory = memory
or_same (Some after) memory = after

-- a pointer is to the beginning of the heap block whose number stands at a place
pub record BeginsAt (numbers : List ℕ) (n : Name) (offset place : ℕ) : Type 0 where
  pub in_heap : n.kind ≡ names.Heap
  pub first_index : n.index ≡ 0
  pub first_cell : offset ≡ 0
  pub there : place < length numbers
  pub number_is : slice_index_or numbers place 0 ≡ n.activation

-- ---- room

-- the chunks of the variables of an activation or of file scope
abbrev pub variables_chunks : List Layout → List Declared → ℕ
variables_chunks layouts ds = sum_by (λ d. chunks_for (length (object_cells layouts d.ctype))) ds

-- ---- the start

-- the values that a variable of file scope starts with
pub record AreInitial (vs : List Value) : Type 0 where
  pub few : length vs ≤ 65536
  pub numbered : AllByRecursion ValueIsNumbered vs

-- the memory with the first cells of a variable of file scope filled
abbrev pub with_initial : ℕ → List Value → Memory → Memory
with_initial i vs memory = record memory { globals = at_block (λ b. filled b vs) i memory.globals }

-- the memory with one variable of file scope more
abbrev pub with_global : Block → Memory → Memory
with_global b memory = record memory { globals = memory.globals ++ b ∷ [] }
