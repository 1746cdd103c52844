-- What a turn asks of a machine, as the types of a program and the room of its stacks give it.
use Rattle.std.specs.Prelude.{ℕ, ◌+◌, ◌<◌, ◌≤◌, Bool, [], ◌∷◌, length, take}
use Rattle.std.specs.List.{AllByRecursion}
use Rattle.step_meaning.specs.declared.program.Function.{Function}
use Rattle.step_meaning.specs.Limits.{chunks}
use Rattle.run_memory.specs.Cells.{ValueIsNumbered}
use Rattle.run_memory.specs.Storage.{IsNewer, IsBlockSized, variables_chunks}
use Rattle.run_turns.specs.Lists.{reversed_onto}
use Rattle.run_state.specs.Registers.{total}
use Rattle.run_turns.specs.Pending as pending
use Rattle.run_state.specs.declared.machine.Machine.{Machine}
use Rattle.run_state.specs.Machine.{Fixed}
use Rattle.run_arms.specs.Calls.{IsOpen, ended_where}
use Rattle.run_values.specs.Operands.{MayDesignate, MayOperate, MaySelect}

-- there is room for an argument more, beside those of the call
pub record MayArgue (m : Machine) (n : ℕ) : Type 0 where
  pub room : length m.arguments.0 < m.arguments.1
  pub counted : n ≤ length m.arguments.0

-- the part on top, at what was told
abbrev pub MayTurn : Machine → pending.Pending → pending.Told → Type 0
MayTurn m (pending.Operate o) (pending.Gave v) = MayOperate m o v
MayTurn m (pending.Designate x) (pending.Gave v) = MayDesignate x v
MayTurn m (pending.Select x) (pending.Found l) = MaySelect x l
MayTurn m (pending.Argument f es n) (pending.Gave v) = MayArgue m n
MayTurn m (pending.Leave g t) (pending.Left l) = IsOpen m
MayTurn m p t = Unit {0}

-- what else a machine has after a turn that made a step or none
abbrev pub fixed_after : pending.Pending → Bool → Fixed → Fixed
fixed_after (pending.Leave g t) made f = ended_where made f
fixed_after p made f = f

-- ---- the start of an activation

-- a machine in which an activation of the function may begin with the top n arguments
pub record MayEnter (m : Machine) (f : Function) (n : ℕ) : Type 0 where
  pub counted : n ≤ length m.arguments.0
  pub numbered : AllByRecursion ValueIsNumbered (reversed_onto (take n m.arguments.0) [])
  -- its number is above those of the open ones
  pub newer : IsNewer m.made m.memory.memory.frames
  pub newer_ghosts : IsNewer m.made m.ghosts.memory.frames
  pub small : m.made < 1099511627776
  -- one more may be open
  pub calls : length m.memory.memory.frames < m.memory.call_limit
  pub ghost_calls : length m.ghosts.memory.frames < m.ghosts.call_limit
  pub register_calls : length m.registers.activations < m.registers.calls
  pub callers : length m.callers.0 < m.callers.1
  -- its variables have room
  pub sized : AllByRecursion (λ d. IsBlockSized m.core.now.layouts d.ctype) f.locals
  pub room : chunks m.memory.memory + variables_chunks m.core.now.layouts f.locals ≤ m.memory.chunk_limit
  pub ghosts_sized : AllByRecursion (λ d. IsBlockSized m.core.now.layouts d.ctype) f.ghosts
  pub ghost_room : chunks m.ghosts.memory + variables_chunks m.core.now.layouts f.ghosts ≤ m.ghosts.chunk_limit
  pub register_room : total m.registers.activations + length f.registers ≤ m.registers.room

-- what else a machine has after the start of an activation with so many registers
abbrev pub begun : ℕ → Fixed → Fixed
begun n f = record f { sizes = n ∷ f.sizes }
