-- Lists of steps that are traced for a core: conditions on the activations, memories and values of a list of steps. A list that meets them need not be one of a run.
-- A law about monitors speaks of all such lists.
use Rattle.std.specs.Prelude.{◌≡◌, ◌≢◌, ◌↔◌, ℕ, suc, ◌≤◌, ◌<◌, ◌^◌, Bool, true, false, List, [], ◌∷◌, map, length, slice_get, Option, Some, None, option_map, IsTrue, All, AllPairs}
use Rattle.step_meaning.specs.declared.value.CType.{CType}
use Rattle.step_meaning.specs.declared.value.CType.TheVariants as type
use Rattle.step_meaning.specs.declared.value.NameKind.{NameKind}
use Rattle.step_meaning.specs.declared.value.NameKind.TheVariants as names
use Rattle.step_meaning.specs.declared.value.Value.{Value}
use Rattle.step_meaning.specs.declared.value.Value.TheVariants as value
use Rattle.step_meaning.specs.declared.value.Cell.{Cell}
use Rattle.step_meaning.specs.declared.value.Cell.TheVariants.{Nothing, Holds}
use Rattle.step_meaning.specs.declared.value.Action.{Action}
use Rattle.step_meaning.specs.declared.value.Action.TheVariants as act
use Rattle.step_meaning.specs.declared.program.Core.{Core}
use Rattle.step_meaning.specs.declared.program.Function.{Function}
use Rattle.step_meaning.specs.Numbers.{is_in_range}
use Rattle.step_meaning.specs.Memory.{Memory, Slot, Block, block}
use Rattle.step_meaning.specs.Steps.{Step}
use Rattle.step_meaning.specs.Limits.{is_enter}
use Rattle.step_meaning.specs.ExpressionTypes.{has_body, parameter_types}

-- ---- values

-- no pointer to a register or a ghost variable
abbrev pub is_program_kind : NameKind → Bool
is_program_kind names.Global = true
is_program_kind names.Local = true
is_program_kind names.Heap = true
is_program_kind _ = false

abbrev pub PointsIntoProgram : Value → Type 0
PointsIntoProgram (value.Pointer n o) = IsTrue (is_program_kind n.kind)
PointsIntoProgram _ = Unit {0}

-- an integer in its type's range, or a pointer for a pointer type, with an offset of 32 bits
abbrev pub HasType : CType → Value → Type 0
HasType (type.Int k) (value.Int z) = IsTrue (is_in_range k z)
HasType (type.Pointer' b t) value.Null = Unit {0}
HasType (type.Pointer' b t) (value.Pointer n o) = o < 2 ^ 32
HasType _ _ = ⊥

-- null, or a pointer whose offset has 32 bits
abbrev pub IsPointer : Value → Type 0
IsPointer (value.Int z) = ⊥
IsPointer value.Null = Unit {0}
IsPointer (value.Pointer n o) = o < 2 ^ 32

abbrev pub HaveTypes : List CType → List Value → Type 0
HaveTypes [] [] = Unit {0}
HaveTypes (t ∷ ts) (v ∷ vs) = HasType t v × HaveTypes ts vs
HaveTypes _ _ = ⊥

-- ---- memories

abbrev pub CellHasType : CType → Cell → Type 0
CellHasType t Nothing = Unit {0}
CellHasType t (Holds v) = HasType t v × PointsIntoProgram v

abbrev pub SlotTyped : Slot → Type 0
SlotTyped s = CellHasType s.declared s.cell

abbrev pub BlocksTyped : List Block → Type 0
BlocksTyped bs = All (All SlotTyped) bs

-- a memory has as many variables of file scope as the core; each cell holds nothing or a value of the type that the memory declares for it; an activation has one frame, and a number one heap block.
-- It isn't asked that the cells of a variable are those of its type in the core
pub record IsProgramMemory (q : Core) (memory : Memory) : Type 0 where
  pub globals : length memory.globals ≡ length q.globals
  pub globals_typed : BlocksTyped memory.globals
  pub locals_typed : All (λ f. BlocksTyped f.locals) memory.frames
  pub heap_typed : All (λ b. All SlotTyped b.cells) memory.heap
  pub one_frame_each : AllPairs (λ f g. f.activation ≢ g.activation) memory.frames
  pub one_block_each : AllPairs (λ b c. b.number ≢ c.number) memory.heap

-- ---- actions

abbrev pub is_return : Action → Bool
is_return (act.Return g v) = true
is_return _ = false

-- the function that an Enter or a Return names is the step's own
abbrev pub NamesOwn : Action → ℕ → Type 0
NamesOwn (act.Enter g vs) f = g ≡ f
NamesOwn (act.Return g v) f = g ≡ f
NamesOwn _ f = Unit {0}

-- no argument, result or accessed pointer, and no pointer of a Malloc or Free, points to a name of another kind
abbrev pub PointsOnlyIntoProgram : Action → Type 0
PointsOnlyIntoProgram (act.Enter g vs) = All PointsIntoProgram vs
PointsOnlyIntoProgram (act.Return g (Some v)) = PointsIntoProgram v
PointsOnlyIntoProgram (act.Read p) = PointsIntoProgram p
PointsOnlyIntoProgram (act.Write p v) = PointsIntoProgram p
PointsOnlyIntoProgram (act.Malloc n p k) = PointsIntoProgram p
PointsOnlyIntoProgram (act.Free p) = PointsIntoProgram p
PointsOnlyIntoProgram _ = Unit {0}

-- an access is at a pointer; so is a `free`, and `malloc` gives one
abbrev pub AccessesPointer : Action → Type 0
AccessesPointer (act.Read p) = IsPointer p
AccessesPointer (act.Write p v) = IsPointer p
AccessesPointer (act.Malloc n p k) = IsPointer p
AccessesPointer (act.Free p) = IsPointer p
AccessesPointer _ = Unit {0}

-- the function with a body that executes the step
abbrev pub IsFunctionOf : Core → ℕ → Function → Type 0
IsFunctionOf q g f = (slice_get q.functions g ≡ Some f) × IsTrue (has_body f)

-- a function has a result exactly where its type isn't `void`
abbrev pub ResultHasType : CType → Option Value → Type 0
ResultHasType type.Void None = Unit {0}
ResultHasType type.Void (Some v) = ⊥
ResultHasType t None = ⊥
ResultHasType t (Some v) = HasType t v

-- arguments and results have the function's types
abbrev pub ActionHasTypes : Function → Action → Type 0
ActionHasTypes f (act.Enter g vs) = HaveTypes (parameter_types f) vs
ActionHasTypes f (act.Return g v) = ResultHasType f.result v
ActionHasTypes f _ = Unit {0}

abbrev pub contents : Block → List Cell
contents b = map (λ s. s.cell) b

-- the memory of an Enter holds the arguments in the parameters: the i-th local of the new activation has one cell, with the i-th argument.
-- Other locals aren't asked, and where there are no arguments no frame is asked
abbrev pub ParametersHold : Action → ℕ → Memory → Type 0
ParametersHold (act.Enter g vs) a memory = (i : ℕ) (v : Value) → slice_get vs i ≡ Some v → option_map contents (block memory (record { kind = names.Local; activation = a; index = i })) ≡ Some (Holds v ∷ [])
ParametersHold _ a memory = Unit {0}

-- ---- steps

-- the step as it stands alone
pub record IsStepOf (q : Core) (s : Step) : Type 0 where
  pub memory : IsProgramMemory q s.memory
  pub own_function : NamesOwn s.action s.function
  pub pointers : PointsOnlyIntoProgram s.action
  pub accesses : AccessesPointer s.action
  pub executed : (f : Function) × IsFunctionOf q s.function f × ActionHasTypes f s.action
  -- of other steps than an Enter it isn't asked that the memory has a frame for the activation
  pub parameters_hold : ParametersHold s.action s.activation s.memory

abbrev pub At : List Step → ℕ → Step → Type 0
At ss i s = slice_get ss i ≡ Some s

pub record IsTraced (q : Core) (ss : List Step) : Type 0 where
  pub each : (i : ℕ) (s : Step) → At ss i s → IsStepOf q s
  -- activation 0 comes first; it is that of `main`, which has no other
  pub first : (s : Step) → At ss 0 s → s.activation ≡ 0
  pub main_alone : (i : ℕ) (s : Step) → At ss i s → (s.activation ≡ 0) ↔ (s.function ≡ q.start)
  -- an activation has one function, and one Enter, which is its first step
  pub one_function : (i j : ℕ) (s t : Step) → At ss i s → At ss j t → s.activation ≡ t.activation → s.function ≡ t.function
  pub entered : (i : ℕ) (s : Step) → At ss i s → (j : ℕ) × (t : Step) × (j ≤ i) × At ss j t × (t.activation ≡ s.activation) × IsTrue (is_enter t.action)
  pub enters_first : (i j : ℕ) (s t : Step) → At ss i s → At ss j t → s.activation ≡ t.activation → IsTrue (is_enter s.action) → (i ≤ j) × (IsTrue (is_enter t.action) → i ≡ j)
  -- it has at most one Return, which is its last step
  pub returns_last : (i j : ℕ) (s t : Step) → At ss i s → At ss j t → s.activation ≡ t.activation → IsTrue (is_return s.action) → j ≤ i
  -- the Return of `main` is the last step of the list
  pub main_ends : (i : ℕ) (s : Step) → At ss i s → s.activation ≡ 0 → IsTrue (is_return s.action) → suc i ≡ length ss
