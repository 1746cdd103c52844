-- What is true of a machine at every moment of a run until the run ends: its program may be run, it has the room that the program needs, and its state is typed, and nested as calls are.
use Rattle.std.specs.Prelude.{◌≡◌, ℕ, ◌+◌, ◌*◌, ◌≤◌, List, [], ◌∷◌, length, IsTrue}
use Rattle.std.specs.List.{list_all, AllByRecursion}
use Rattle.step_meaning.specs.declared.program.Core.{Core}
use Rattle.step_meaning.specs.declared.program.Function.{Function}
use Rattle.step_meaning.specs.Limits.{chunks}
use Rattle.step_meaning.specs.Sources.{is_bare}
use Rattle.step_meaning.specs.WellFormed.{IsWellFormed, OfBody}
use Rattle.step_meaning.proofs.Falling.{Falls}
use Rattle.run_memory.specs.Cells.{ValueIsNumbered}
use Rattle.run_turns.specs.Activations.{Activations, activations_of, numbers}
use Rattle.run_turns.specs.Pending as pending
use Rattle.run_turns.specs.Room.{Roomy, AreCounted, height_all, open_ends}
use Rattle.run_turns.specs.Turns.{Configuration}
use Rattle.run_turns.specs.Typed.{IsTyped}
use Rattle.run_turns.specs.Values.{StateHas}
use Rattle.run_state.specs.declared.machine.Machine.{Machine}
use Rattle.run_state.specs.Machine.{Fixed, configuration_of, fixed_of}

-- ---- the program

-- it is well formed, and has no ghost variable of a function, no ghost code and no assertion
pub record IsRunnable (q : Core) : Type 0 where
  pub formed : IsWellFormed q
  pub bare : AllByRecursion (λ f. OfBody (λ ss. IsTrue (list_all is_bare ss)) f.body) q.functions
  pub without_ghosts : AllByRecursion (λ f. f.ghosts ≡ []) q.functions

-- ---- room, which was taken before the first step

-- no function's body is higher than this on the stack, and none has more registers, and there is room for as many activations as may be open
pub record HasSpace (height registers : ℕ) (f : Fixed) : Type 0 where
  pub bodies : AllByRecursion (λ g. OfBody (λ ss. height_all ss ≤ height) g.body) f.core.functions
  pub few_registers : AllByRecursion (λ g. length g.registers ≤ registers) f.core.functions
  -- what begins the run has a place beside the activations
  pub work : height * (f.calls + 1) ≤ f.work
  pub arguments : height * (f.calls + 1) ≤ f.arguments
  pub callers : f.calls ≤ f.callers
  pub registers_fit : registers * f.calls ≤ f.registers
  pub register_calls : f.calls ≤ f.register_calls
  pub ghost_calls : f.calls ≤ f.ghost_calls
  pub few_chunks : f.chunks ≤ 1048576
  -- the names of the variables of file scope are within the numbers
  pub few_globals : length f.core.globals ≤ 4194304

-- ---- the activations that are open

-- those of these functions, the innermost first, with so many registers each
pub record AreNested (registers : ℕ) (functions : List Function) (f : Fixed) (a : Activations) : Type 0 where
  pub within : length functions ≤ f.calls
  -- each has a frame, a frame of ghost variables, registers and a caller, where what begins the run is the caller of `main`
  pub frames : length a.frames ≡ length functions
  pub ghost_frames : numbers a.ghosts.frames ≡ a.frames
  pub sizes : length f.sizes ≡ length functions
  pub callers : length a.callers ≡ length functions
  pub few_registers : AllByRecursion (λ n. n ≤ registers) f.sizes
  -- the names of their variables are within the numbers
  pub few_locals : AllByRecursion (λ g. length g.locals ≤ 4194304) functions
  -- their numbers are those of activations that were made, the newest first
  pub falls : Falls a.frames a.made
  pub acts : a.here.activation ≤ a.made
  pub acted : AllByRecursion (λ h. h.activation ≤ a.made) a.callers
  pub ghosts_fit : chunks a.ghosts ≤ f.ghost_chunks

-- as many of them end on the stack as are open; where a fault is due, the end of the innermost one may be gone
abbrev pub EndAll : ℕ → List pending.Pending → Type 0
EndAll n (pending.Halt x ∷ ps) = open_ends ps ≤ n
EndAll n ps = open_ends ps ≡ n

-- something is left to do
abbrev pub IsLeft : List pending.Pending → Type 0
IsLeft [] = ⊥
IsLeft (p ∷ ps) = Unit {0}

-- ---- the machine

-- after so many steps
pub record Runs (steps : ℕ) (f : Fixed) (m : Configuration) : Type 0 where
  pub program : IsRunnable f.core
  -- the room of an activation on the stack, and for its registers
  pub height : ℕ
  pub registers : ℕ
  pub space : HasSpace height registers f
  -- the functions of the open activations, the innermost first
  pub functions : List Function
  pub nested : AreNested registers functions f (activations_of m)
  pub typed : IsTyped f.core functions m
  -- each pointer's name is within the numbers
  pub numbered : StateHas ValueIsNumbered m
  pub roomy : Roomy height m.work m.context.arguments
  pub counted : AreCounted m.work m.context.arguments
  pub ends : EndAll (length functions) m.work
  pub left : IsLeft m.work
  pub made : m.made ≤ steps
  pub allocated : m.allocated ≤ steps

abbrev pub IsRunning : ℕ → Machine → Type 0
IsRunning steps m = Runs steps (fixed_of m) (configuration_of m)
