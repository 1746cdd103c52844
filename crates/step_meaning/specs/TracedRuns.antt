-- The steps of a run of a well-formed program are traced: what is said of all traced lists of steps is said of each run, up to each bound.
-- Ghost code and assertions make no step, and ghost variables stand apart from the memory, so the steps are those of the program's own code.
use Rattle.std.specs.Prelude.{◌≡◌, ℕ, List, map, slice_get, Some}
use Rattle.step_meaning.specs.declared.value.CType.{CType}
use Rattle.step_meaning.specs.declared.program.Layout.{Layout}
use Rattle.step_meaning.specs.declared.program.Declared.{Declared}
use Rattle.step_meaning.specs.declared.program.Core.{Core}
use Rattle.step_meaning.specs.declared.program.Function.{Function}
use Rattle.step_meaning.specs.Memory.{Block, Frame, empty_block, frame_of}
use Rattle.step_meaning.specs.Steps.{Step, steps}
use Rattle.step_meaning.specs.Runs.{run}
use Rattle.step_meaning.specs.WellFormed.{IsWellFormed}
use Rattle.step_meaning.specs.Traced.{At, IsTraced}

abbrev pub cells_declared : Block → List CType
cells_declared b = map (λ s. s.declared) b

-- the types of the cells of each of these variables, as it is declared
abbrev pub cells_of_each : List Layout → List Declared → List (List CType)
cells_of_each layouts ds = map (λ d. cells_declared (empty_block layouts d)) ds

-- what the memory of each step of a run has, and no law about traced lists asks
pub record HasVariables (q : Core) (s : Step) : Type 0 where
  -- the variables of file scope with the core's cells and types
  pub globals : map cells_declared s.memory.globals ≡ cells_of_each q.layouts q.globals
  -- a frame for the step's own activation, also after Enter, with the function's parameters and locals, their cells and types
  pub own_frame : (f : Function) × (r : Frame) × (slice_get q.functions s.function ≡ Some f) × (frame_of s.activation s.memory.frames ≡ Some r) × (map cells_declared r.locals ≡ cells_of_each q.layouts f.locals)

abbrev pub EachHasVariables : Core → List Step → Type 0
EachHasVariables q ss = (i : ℕ) (s : Step) → At ss i s → HasVariables q s

abbrev pub WellFormedTraced : Type 0
WellFormedTraced = (q : Core) → IsWellFormed q → (input : List ℕ) (k : ℕ) → IsTraced q (steps (run q input k)) × EachHasVariables q (steps (run q input k))
