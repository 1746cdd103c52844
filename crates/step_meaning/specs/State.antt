-- What a run carries along, the registers of an activation, and what an lvalue designates (C11 6.3.2.1, 6.7.1).
-- Registers and ghost variables are no memory: they stand apart from it, so that the memory of a step has the program's own variables alone.
use Rattle.std.specs.Prelude.{ℕ, zero, suc, cond, List, [], ◌∷◌, map, slice_get, Option}
use Rattle.step_meaning.specs.declared.value.CType.{CType}
use Rattle.step_meaning.specs.declared.value.Value.{Value}
use Rattle.step_meaning.specs.declared.value.Value.TheVariants as value
use Rattle.step_meaning.specs.declared.value.Cell.{Cell}
use Rattle.step_meaning.specs.declared.value.Cell.TheVariants.{Nothing, Holds}
use Rattle.step_meaning.specs.declared.expr.Variable.{Variable}
use Rattle.step_meaning.specs.declared.program.Declared.{Declared}
use Rattle.step_meaning.specs.Names.{is_register_variable, name_in}
use Rattle.step_meaning.specs.Memory.{Memory, Slot, typed}

pub record State : Type 0 where
  pub memory : Memory
  -- the ghost variables
  pub ghosts : Memory
  -- the bytes not read yet
  pub input : List ℕ
  -- how many activations were made
  pub made : ℕ
  -- how many heap blocks were made
  pub allocated : ℕ

-- who acts: a function, and the number of its activation
pub record Here : Type 0 where
  pub function : ℕ
  pub activation : ℕ

-- the registers of one activation, one scalar each
abbrev pub Registers : Type 0
Registers = List Slot

abbrev pub unset_registers : List Declared → Registers
unset_registers ds = map (λ d. record { declared = d.ctype; cell = Nothing }) ds

-- the cell of a register that is used at this type, and none where there is no such register or it has another type
abbrev pub register_at : Registers → ℕ → CType → Option Cell
register_at r i t = typed (slice_get r i) t

abbrev pub set_register : Registers → ℕ → Value → Registers
set_register [] i v = []
set_register (s ∷ r) zero v = record s { cell = Holds v } ∷ r
set_register (s ∷ r) (suc i) v = s ∷ set_register r i v

-- what an lvalue designates: a register of the activation, or the object at a pointer.
-- The lvalue itself says which, and no pointer designates a register
pub data Lvalue : Type 0 where
  InRegister : ℕ → Lvalue
  At : Value → Lvalue

-- what a variable of the text with an offset designates
abbrev pub designated : ℕ → Variable → ℕ → Lvalue
designated activation v o = cond (is_register_variable v) (InRegister v.index) (At (value.Pointer (name_in activation v) o))
