-- What a turn makes of a machine that runs.
use Rattle.std.specs.Prelude.{◌≡◌, ℕ, ◌+◌, ◌<◌, is_some, None}
use Rattle.run_turns.specs.Pending as pending
use Rattle.run_turns.specs.Turns.{Configuration, pushed, turn_at}
use Rattle.run_turns.specs.Weight.{load, weight}
use Rattle.run_state.specs.Machine.{Fixed}
use Rattle.run_laws.specs.Ends.{Goes}
use Rattle.run_laws.specs.Follows.{Follows}

-- the turn at the part, which was taken off the stack
pub record Turned (steps : ℕ) (f : Fixed) (p : pending.Pending) (m : Configuration) : Type 0 where
  -- the machine runs on, or `main` has ended
  pub goes : Goes (is_some (turn_at f.core p m.told m).step) steps f p (turn_at f.core p m.told m).after
  -- its step is a step of the run, and else the run is the same
  pub follows : Follows f.core (turn_at f.core p m.told m).step (pushed p m) m.context.here m.memory (turn_at f.core p m.told m).after
  -- without a step, less is left to do before the next one
  pub falls : (turn_at f.core p m.told m).step ≡ None → load (turn_at f.core p m.told m).after.work < weight p + load m.work
