-- A machine on the way to its next step.
use Rattle.std.specs.Prelude.{◌≡◌, ℕ, suc, Bool, true, false, List}
use Rattle.step_meaning.specs.declared.value.Action.{Action}
use Rattle.step_meaning.specs.Flow.{step_by}
use Rattle.step_meaning.specs.Memory.{Memory}
use Rattle.step_meaning.specs.State.{Here}
use Rattle.step_meaning.specs.Steps.{Then}
use Rattle.run_turns.specs.Pending as pending
use Rattle.run_turns.specs.Rest.{rest}
use Rattle.run_turns.specs.Turns.{Configuration}
use Rattle.run_state.specs.Machine.{Fixed}
use Rattle.run_laws.specs.Actions.{IsPlain}
use Rattle.run_laws.specs.Ends.{GoesOn}
use Rattle.run_start.specs.Running.{Runs}
use Rattle.run_check.specs.Showing.{ShowsMemory}

-- a part that asks for a byte of the outside or for room, and a fault that is due
abbrev pub is_asking : pending.Pending → Bool
is_asking pending.Input = true
is_asking pending.Output = true
is_asking (pending.Enter g n) = true
is_asking (pending.Halt x) = true
is_asking (pending.Operate (pending.Allocate t)) = true
is_asking p = false

-- the program and the limits are the same
pub record SameProgram (f g : Fixed) : Type 0 where
  pub core : f.core ≡ g.core
  pub chunks : f.chunks ≡ g.chunks
  pub calls : f.calls ≡ g.calls

-- the other machine's run is the same
pub record GoesTo (steps : ℕ) (f g : Fixed) (old new : Configuration) : Type 0 where
  pub program : SameProgram f g
  pub runs : Runs steps g new
  pub same : (input : List ℕ) (n : ℕ) → rest f.core old input n ≡ rest f.core new input n

-- the other machine's run follows a plain step
pub record MakesPlain (steps : ℕ) (f g : Fixed) (old new : Configuration) : Type 0 where
  pub program : SameProgram f g
  pub goes : GoesOn (suc steps) g new
  pub here : Here
  pub memory : Memory
  pub action : Action
  pub plain : IsPlain action
  pub shows : ShowsMemory action → new.memory ≡ memory
  pub follows : (input : List ℕ) (n : ℕ) → rest f.core old input (suc n) ≡ Then (step_by here action memory) (rest f.core new input n)
