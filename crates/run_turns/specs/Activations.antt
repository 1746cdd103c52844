-- The activations that are open in a machine.
use Rattle.std.specs.Prelude.{ℕ, List, map}
use Rattle.step_meaning.specs.Memory.{Memory, Frame}
use Rattle.step_meaning.specs.State.{Here}
use Rattle.run_turns.specs.Pending as pending
use Rattle.run_turns.specs.Turns.{Configuration}
use Rattle.run_turns.specs.Room.{open_ends}

abbrev pub numbers : List Frame → List ℕ
numbers fs = map (λ f. f.activation) fs

-- what only the start and the end of an activation change
pub record Activations : Type 0 where
  pub here : Here
  -- the innermost first
  pub callers : List Here
  -- the numbers of the frames
  pub frames : List ℕ
  pub ghosts : Memory
  pub made : ℕ
  -- how many ends are on the stack
  pub ends : ℕ

abbrev pub activations_of : Configuration → Activations
activations_of m =
    record { here = m.context.here; callers = map (λ c. c.here) m.context.callers; frames = numbers m.memory.frames; ghosts = m.ghosts; made = m.made; ends = open_ends m.work }
