-- What a predicate sees of a step, and what a view answers.
use Rattle.std.specs.Prelude.{ℕ, zero, suc, Bool, if◌then◌else◌, ◌==◌, List, [], ◌∷◌, slice_get, Option, Some, None, option_map, is_some}
use Rattle.step_meaning.specs.declared.value.CType.{CType}
use Rattle.step_meaning.specs.declared.value.NameKind.{NameKind}
use Rattle.step_meaning.specs.declared.value.NameKind.TheVariants as names
use Rattle.step_meaning.specs.declared.value.Name.{Name}
use Rattle.step_meaning.specs.declared.value.Value.{Value}
use Rattle.step_meaning.specs.declared.value.Cell.{Cell}
use Rattle.step_meaning.specs.declared.value.Cell.TheVariants.{Nothing, Holds}
use Rattle.step_meaning.specs.declared.predicate.Event.{Event}
use Rattle.step_meaning.specs.declared.program.Layout.{Layout}
use Rattle.step_meaning.specs.Memory.{Memory, Block, file_block, frame_block, block, slot_at, typed}
use Rattle.step_meaning.specs.State.{Registers}

-- what a predicate sees
pub record Sight : Type 0 where
  pub layouts : List Layout
  -- the step's own memory, and beside it what ghost code sees
  pub memory : Memory
  pub ghosts : Memory
  pub registers : Registers
  -- the memory of the Enter step of the step's activation
  pub before : Memory
  pub activation : ℕ
  -- what the step has: the pointer of its access, the function that it calls, the event that it is, its arguments, its value
  pub accessed : Option Value
  pub called : Option ℕ
  pub event : Event
  pub arguments : List Value
  pub result : Option Value

-- a memory without variables and heap blocks
abbrev pub no_memory : Memory
no_memory = record { globals = []; frames = []; heap = [] }

-- the cell that a read reaches at an offset of a variable, at a type, and none where the access isn't allowed
abbrev pub Reads : Type 0
Reads = Name → ℕ → CType → Option Cell

-- a register is a block of one cell, and is seen in its own activation alone
abbrev pub register_block : Sight → ℕ → ℕ → Option Block
register_block s a i = if a == s.activation then option_map (λ r. r ∷ []) (slice_get s.registers i) else None

abbrev pub visible_block : Sight → NameKind → Name → Option Block
visible_block s names.Global n = block s.memory n
visible_block s names.Local n = block s.memory n
visible_block s names.Heap n = block s.memory n
visible_block s names.Register n = register_block s n.activation n.index
visible_block s names.GhostGlobal n = file_block s.ghosts n.activation n.index
visible_block s names.GhostLocal n = frame_block s.ghosts n.activation n.index

-- reads in the step's own memory
abbrev pub now : Sight → Reads
now s n o t = typed (slot_at (visible_block s n.kind n) o) t

-- reads in the memory of the Enter step, which has no registers and no ghost variables
abbrev pub at_enter : Sight → Reads
at_enter s n o t = typed (slot_at (block s.before n) o) t

-- ---- what a view answers

abbrev pub or_nothing : Option Cell → Cell
or_nothing None = Nothing
or_nothing (Some c) = c

abbrev pub cell_now : Sight → Name → ℕ → CType → Cell
cell_now s n o t = or_nothing (now s n o t)

abbrev pub is_allowed_now : Sight → Name → ℕ → CType → Bool
is_allowed_now s n o t = is_some (now s n o t)

abbrev pub cell_at_enter : Sight → Name → ℕ → CType → Cell
cell_at_enter s n o t = or_nothing (at_enter s n o t)

abbrev pub cell_of : Option Value → Cell
cell_of None = Nothing
cell_of (Some v) = Holds v

abbrev pub nth_cell : List Value → ℕ → Cell
nth_cell [] i = Nothing
nth_cell (v ∷ vs) zero = Holds v
nth_cell (v ∷ vs) (suc i) = nth_cell vs i
