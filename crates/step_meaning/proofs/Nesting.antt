-- Steps nest as calls do: an Enter opens an activation with the next number, each step is made by the innermost open one, and a Return closes it.
-- Each open activation has one frame, with its function's variables.
use Rattle.std.proofs.Common.{◌≡◌, ℕ, suc, List, [], ◌∷◌, map, drop, Option, Some, None, refl, ap, ◌∙◌}
use Rattle.std.specs.Prelude.{slice_get, IsTrue}
use Rattle.step_meaning.specs.declared.value.CType.{CType}
use Rattle.step_meaning.specs.declared.value.Action.{Action}
use Rattle.step_meaning.specs.declared.value.Action.TheVariants as act
use Rattle.step_meaning.specs.declared.program.Core.{Core}
use Rattle.step_meaning.specs.declared.program.Function.{Function}
use Rattle.step_meaning.specs.Memory.{Memory, Frame}
use Rattle.step_meaning.specs.Steps.{Step}
use Rattle.step_meaning.specs.State.{Here}
use Rattle.step_meaning.specs.Limits.{is_enter}
use Rattle.step_meaning.specs.Traced.{NamesOwn, IsFunctionOf}
use Rattle.step_meaning.specs.TracedRuns.{cells_of_each}
use Rattle.step_meaning.proofs.TypedMemory.{Shape, shape_of}

-- who makes a step
abbrev pub maker : Step → Here
maker s = record { function = s.function; activation = s.activation }

abbrev pub numbers : List Here → List ℕ
numbers hs = map (λ h. h.activation) hs

-- the activations that have a frame
abbrev pub frame_numbers : Memory → List ℕ
frame_numbers memory = map (λ f. f.activation) memory.frames

-- ---- shapes of frames

-- the types of the cells of a function's locals
abbrev pub local_cells : Core → Option Function → List (List CType)
local_cells q None = []
local_cells q (Some f) = cells_of_each q.layouts f.locals

-- the shape of the frame of an activation
abbrev pub shape_for : Core → Here → Shape
shape_for q h = record { activation = h.activation; cells = local_cells q (slice_get q.functions h.function) }

abbrev pub shapes : Core → List Here → List Shape
shapes q hs = map (shape_for q) hs

abbrev pub frame_shapes : Memory → List Shape
frame_shapes memory = map shape_of memory.frames

abbrev shape_numbers : List Shape → List ℕ
shape_numbers [] = []
shape_numbers (s ∷ ss) = s.activation ∷ shape_numbers ss

-- frames of these shapes have the numbers of the activations
pub numbers_of_shapes : (q : Core) (fs : List Frame) (hs : List Here) → map shape_of fs ≡ shapes q hs → map (λ f. f.activation) fs ≡ numbers hs
numbers_of_shapes q fs hs e = of_frames fs ∙ (ap shape_numbers e ∙ of_activations hs)
  where
    of_frames : (fs : List Frame) → map (λ f. f.activation) fs ≡ shape_numbers (map shape_of fs)
    of_frames [] = refl
    of_frames (f ∷ fs) = ap (λ ns. f.activation ∷ ns) (of_frames fs)

    of_activations : (hs : List Here) → shape_numbers (shapes q hs) ≡ numbers hs
    of_activations [] = refl
    of_activations (h ∷ hs) = ap (λ ns. h.activation ∷ ns) (of_activations hs)

-- ---- steps

-- the open activations, innermost first, at a step, where these are open before it. An Enter's own is open
abbrev pub open_at : Action → Here → List Here → List Here
open_at (act.Enter g vs) h hs = h ∷ hs
open_at _ h hs = hs

-- the same after the step
abbrev pub open_after : Action → Here → List Here → List Here
open_after (act.Enter g vs) h hs = h ∷ hs
open_after (act.Return g v) h hs = drop 1 hs
open_after _ h hs = hs

-- how many activations were made after the step
abbrev pub made_after : Action → ℕ → ℕ
made_after (act.Enter g vs) n = suc n
made_after _ n = n

-- a step where these activations are open and so many were made
pub record IsNext (q : Core) (hs : List Here) (n : ℕ) (s : Step) : Type 0 where
  pub function : (f : Function) × IsFunctionOf q s.function f
  pub names_own : NamesOwn s.action s.function
  -- each open activation has one frame, in their order, with the variables of its function
  pub frames : frame_shapes s.memory ≡ shapes q (open_at s.action (maker s) hs)
  -- the innermost makes the step
  pub innermost : (outer : List Here) × (open_at s.action (maker s) hs ≡ (maker s ∷ outer))
  -- an Enter is that of the next activation. Where none is open, it is the first
  pub is_new : IsTrue (is_enter s.action) → (s.activation ≡ n) × (hs ≡ [] → n ≡ 0)

-- the steps from there on
abbrev pub Nest : Core → List Here → ℕ → List Step → Type 0
Nest q hs n [] = Unit {0}
Nest q hs n (s ∷ ss) = IsNext q hs n s × Nest q (open_after s.action (maker s) hs) (made_after s.action n) ss
