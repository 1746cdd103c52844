-- The room that is taken for a run before its first step.
use Rattle.std.specs.Prelude.{◌≡◌, ℕ, ◌+◌, ◌*◌, ◌≤◌, [], length}
use Rattle.std.specs.List.{AllByRecursion}
use Rattle.step_meaning.specs.declared.program.Core.{Core}
use Rattle.step_meaning.specs.declared.program.Function.{Function}
use Rattle.step_meaning.specs.WellFormed.{OfBody}
use Rattle.run_turns.specs.Room.{height_all}
use Rattle.run_memory.specs.Storage.{Storage}
use Rattle.run_state.specs.Machine.{Fixed}
use Rattle.run_start.specs.declared.rooms.Rooms.{Rooms}
use Rattle.run_start.specs.declared.stacks.Stacks.{Stacks}

-- as much as the functions of the program need with so many activations open
pub record AreRooms (q : Core) (calls : ℕ) (r : Rooms) : Type 0 where
  pub bodies : AllByRecursion (λ (f : Function). OfBody (λ ss. height_all ss ≤ r.height) f.body) q.functions
  pub least : 3 ≤ r.height
  pub work : r.work ≡ r.height * (calls + 1)
  pub few_registers : AllByRecursion (λ (f : Function). length f.registers ≤ r.most_registers) q.functions
  pub registers : r.registers ≡ r.most_registers * calls

-- what stays the same in a run of a machine with these rooms
abbrev pub fixed_at : Core → Rooms → Storage → Storage → ℕ → Fixed
fixed_at q r memory ghosts calls =
    record {
      core = q;
      work = r.work;
      callers = calls;
      arguments = r.work;
      chunks = memory.chunk_limit;
      calls = memory.call_limit;
      ghost_chunks = ghosts.chunk_limit;
      ghost_calls = ghosts.call_limit;
      registers = r.registers;
      register_calls = calls;
      sizes = [];
    }

-- stacks with these rooms are empty, and no activation is open
pub record AreEmpty (r : Rooms) (calls : ℕ) (s : Stacks) : Type 0 where
  pub work : s.work ≡ ([], r.work)
  pub callers : s.callers ≡ ([], calls)
  pub arguments : s.arguments ≡ ([], r.work)
  pub registers : s.registers ≡ record { activations = []; room = r.registers; calls = calls }
