-- What is true of each step of a run, as far as its memory and its action show it: cells hold values of their types, accesses are at addresses, and arguments and results have the function's types.
use Rattle.std.proofs.Common.{◌≡◌, ◌==◌, ℕ, ◌<◌, ◌^◌, List, [], ◌∷◌, map, drop, Option, Some, None}
use Rattle.std.specs.Prelude.{slice_get, IsTrue}
use Rattle.step_meaning.specs.declared.value.CType.{CType}
use Rattle.step_meaning.specs.declared.value.CType.TheVariants as type
use Rattle.step_meaning.specs.declared.value.Value.{Value}
use Rattle.step_meaning.specs.declared.value.Value.TheVariants as value
use Rattle.step_meaning.specs.declared.value.Cell.TheVariants.{Holds}
use Rattle.step_meaning.specs.declared.value.Action.{Action}
use Rattle.step_meaning.specs.declared.value.Action.TheVariants as act
use Rattle.step_meaning.specs.declared.program.Core.{Core}
use Rattle.step_meaning.specs.declared.program.Function.{Function}
use Rattle.step_meaning.specs.Memory.{Frame, Block}
use Rattle.step_meaning.specs.Steps.{Step, Item, Made, Judged}
use Rattle.step_meaning.specs.ExpressionTypes.{parameter_types}
use Rattle.step_meaning.specs.Traced.{is_program_kind, contents}
use Rattle.step_meaning.specs.TracedRuns.{cells_declared, cells_of_each}
use Rattle.step_meaning.proofs.TypedMemory.{Each, is_empty, InCell, BlockFits, FrameFits, HeapFits, HeapFalls}

-- ---- values

-- null, or a pointer into a variable of the program with an offset of 32 bits
abbrev pub IsAddress : Value → Type 0
IsAddress (value.Int z) = ⊥
IsAddress value.Null = Unit {0}
IsAddress (value.Pointer n o) = (o < 2 ^ 32) × IsTrue (is_program_kind n.kind)

-- arguments of these types
abbrev pub InCells : List CType → List Value → Type 0
InCells [] [] = Unit {0}
InCells (t ∷ ts) (v ∷ vs) = InCell t v × InCells ts vs
InCells [] (v ∷ vs) = ⊥
InCells (t ∷ ts) [] = ⊥

-- a value that is given back
abbrev pub ReturnFits : CType → Option Value → Type 0
ReturnFits type.Void None = Unit {0}
ReturnFits type.Void (Some v) = ⊥
ReturnFits t None = ⊥
ReturnFits t (Some v) = InCell t v

-- ---- actions

-- the first blocks hold the arguments, one each
abbrev pub HoldArguments : List Block → List Value → Type 0
HoldArguments bs [] = Unit {0}
HoldArguments [] (v ∷ vs) = ⊥
HoldArguments (b ∷ bs) (v ∷ vs) = (contents b ≡ (Holds v ∷ [])) × HoldArguments bs vs

-- the innermost frame holds the arguments
abbrev pub InnermostHolds : List Frame → List Value → Type 0
InnermostHolds [] vs = ⊥
InnermostHolds (r ∷ rs) vs = HoldArguments r.locals vs

pub record EnterFits (q : Core) (frames : List Frame) (g : ℕ) (vs : List Value) : Type 0 where
  pub function : Function
  pub found : slice_get q.functions g ≡ Some function
  pub arguments : InCells (parameter_types function) vs
  pub hold : InnermostHolds frames vs
  -- the first activation is that of `main`, which has no other
  pub main_alone : (g == q.start) ≡ is_empty (drop 1 frames)

pub record LeaveFits (q : Core) (g : ℕ) (v : Option Value) : Type 0 where
  pub function : Function
  pub found : slice_get q.functions g ≡ Some function
  pub result : ReturnFits function.result v

abbrev pub ActionFits : Core → List Frame → Action → Type 0
ActionFits q frames (act.Read p) = IsAddress p
ActionFits q frames (act.Write p v) = IsAddress p
ActionFits q frames (act.Malloc n p k) = IsAddress p
ActionFits q frames (act.Free p) = IsAddress p
ActionFits q frames (act.Enter g vs) = EnterFits q frames g vs
ActionFits q frames (act.Return g v) = LeaveFits q g v
ActionFits q frames _ = Unit {0}

-- ---- steps

-- the types of the cells of the variables of file scope
abbrev pub global_cells : Core → List (List CType)
global_cells q = cells_of_each q.layouts q.globals

pub record StepFits (q : Core) (s : Step) : Type 0 where
  pub globals_declared : map cells_declared s.memory.globals ≡ global_cells q
  pub globals_fit : Each BlockFits s.memory.globals
  pub locals_fit : Each FrameFits s.memory.frames
  pub heap_fit : Each HeapFits s.memory.heap
  pub heap_falls : (n : ℕ) × HeapFalls s.memory n
  pub action : ActionFits q s.memory.frames s.action

abbrev pub ItemFits : Core → Item → Type 0
ItemFits q (Made s) = StepFits q s
ItemFits q (Judged v) = Unit {0}
