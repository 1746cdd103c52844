-- The values that a machine holds: what was told, those on the stack, the arguments, registers and cells.
use Rattle.std.specs.Prelude.{◌≡◌, ℕ, ◌<◌, List, Option, Some, None}
use Rattle.std.specs.List.{AllByRecursion}
use Rattle.step_meaning.specs.declared.value.NameKind.{NameKind}
use Rattle.step_meaning.specs.declared.value.NameKind.TheVariants as names
use Rattle.step_meaning.specs.declared.value.Value.{Value}
use Rattle.step_meaning.specs.declared.value.Value.TheVariants as value
use Rattle.step_meaning.specs.declared.value.Cell.{Cell}
use Rattle.step_meaning.specs.declared.value.Cell.TheVariants.{Nothing, Holds}
use Rattle.step_meaning.specs.Memory.{Block, Memory}
use Rattle.step_meaning.specs.State.{Registers, Lvalue, InRegister, At}
use Rattle.step_meaning.specs.Statements.{Completion, Returned}
use Rattle.run_turns.specs.Pending as pending
use Rattle.run_turns.specs.Turns.{Configuration}

-- each value has the property
module _ (P : Value → Type 0) where
  abbrev pub LvalueHas : Lvalue → Type 0
  LvalueHas (At p) = P p
  LvalueHas (InRegister i) = Unit {0}

  abbrev pub OptionHas : Option Value → Type 0
  OptionHas None = Unit {0}
  OptionHas (Some v) = P v

  abbrev pub CompletionHas : Completion → Type 0
  CompletionHas (Returned v) = OptionHas v
  CompletionHas l = Unit {0}

  abbrev pub ToldHas : pending.Told → Type 0
  ToldHas (pending.Gave v) = P v
  ToldHas (pending.Found l) = LvalueHas l
  ToldHas (pending.Left l) = CompletionHas l

  abbrev pub OperandHas : pending.Operand → Type 0
  OperandHas (pending.BinaryNow o k v) = P v
  OperandHas (pending.CompareNow o v) = P v
  OperandHas (pending.MoveNow size side v) = P v
  OperandHas (pending.DifferenceNow unit v) = P v
  OperandHas (pending.Store t l) = LvalueHas l
  OperandHas (pending.UpdateRight t o e w l) = LvalueHas l
  OperandHas (pending.UpdateNow t o w l v) = LvalueHas l × P v
  OperandHas (pending.Instead v) = P v
  OperandHas o = Unit {0}

  abbrev pub DesignationHas : pending.Designation → Type 0
  DesignationHas (pending.ElementNow l size) = LvalueHas l
  DesignationHas pending.Dereference = Unit {0}

  abbrev pub PartHas : pending.Pending → Type 0
  PartHas (pending.Operate o) = OperandHas o
  PartHas (pending.Designate x) = DesignationHas x
  PartHas p = Unit {0}

  abbrev pub CellHas : Cell → Type 0
  CellHas Nothing = Unit {0}
  CellHas (Holds v) = P v

  abbrev pub BlockHas : Block → Type 0
  BlockHas b = AllByRecursion (λ s. CellHas s.cell) b

  abbrev pub BlocksHave : List Block → Type 0
  BlocksHave bs = AllByRecursion BlockHas bs

  abbrev pub MemoryHas : Memory → Type 0
  MemoryHas memory = BlocksHave memory.globals × AllByRecursion (λ f. BlocksHave f.locals) memory.frames × AllByRecursion (λ b. BlockHas b.cells) memory.heap

  abbrev pub RegistersHave : Registers → Type 0
  RegistersHave r = BlockHas r

  -- what stays beside the stack
  pub record KeptHas (arguments : List Value) (registers : Registers) (callers : List pending.Caller) (memory : Memory) : Type 0 where
    pub arguments_have : AllByRecursion P arguments
    pub registers_have : RegistersHave registers
    pub callers_have : AllByRecursion (λ c. RegistersHave c.registers) callers
    pub memory_has : MemoryHas memory

  abbrev pub StateHas : Configuration → Type 0
  StateHas m = ToldHas m.told × AllByRecursion PartHas m.work × KeptHas m.context.arguments m.context.registers m.context.callers m.memory

-- ---- names that came to be

-- of a variable of file scope, of a local of an activation that was made, of a heap block that was made: with so many variables of file scope, activations, locals of a function at most, and blocks
abbrev pub IsMade : ℕ → ℕ → ℕ → ℕ → NameKind → ℕ → ℕ → Type 0
IsMade globals made locals allocated names.Global a i = (a ≡ 0) × (i < globals)
IsMade globals made locals allocated names.Local a i = (a < made) × (i < locals)
IsMade globals made locals allocated names.Heap a i = (a < allocated) × (i ≡ 0)
IsMade globals made locals allocated k a i = ⊥

abbrev pub PointsAtMade : ℕ → ℕ → ℕ → ℕ → Value → Type 0
PointsAtMade globals made locals allocated (value.Pointer n o) = IsMade globals made locals allocated n.kind n.activation n.index
PointsAtMade globals made locals allocated v = Unit {0}
