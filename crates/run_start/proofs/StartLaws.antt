-- A machine that has its rooms runs before its first step.
use Rattle.std.proofs.Common.{◌≡◌, ℕ, ◌+◌, ◌*◌, ◌≤◌, [], length, refl, arith}
use Rattle.step_meaning.specs.declared.program.Core.{Core}
use Rattle.step_meaning.specs.Limits.{chunks}
use Rattle.step_meaning.specs.Runs.{start_ghosts}
use Rattle.run_memory.specs.Storage.{Storage, variables_chunks}
use Rattle.run_memory.proofs.CountLaws.{chunks_counted}
use Rattle.run_turns.specs.Turns as turns
use Rattle.run_turns.specs.Activations.{activations_of}
use Rattle.run_turns.proofs.StartTyped.{start_typed}
use Rattle.run_start.specs.Running.{IsRunnable, HasSpace, AreNested, Runs}
use Rattle.run_start.specs.declared.rooms.Rooms.{Rooms}
use Rattle.run_start.specs.Rooms.{AreRooms, fixed_at}
use Rattle.run_start.proofs.FirstValues.{initial_of, globals_have}
use Rattle.run_start.proofs.VariableChunks.{scalars_chunks}

room_of_activations : (room h c f : ℕ) → room ≡ h * (c + 1) → f ≡ c → h * (f + 1) ≤ room
room_of_activations room h c f e d = rw (e, d) (omega arith)

registers_of : (room h c f : ℕ) → room ≡ h * c → f ≡ c → h * f ≤ room
registers_of room h c f e d = rw (e, d) (omega arith)

has_space : (q : Core) (r : Rooms) (memory ghosts : Storage) (calls : ℕ) → length q.globals ≤ 1048576 → AreRooms q calls r → memory.chunk_limit ≤ 1048576 → memory.call_limit ≡ calls
    → ghosts.call_limit ≡ calls → HasSpace r.height r.most_registers (fixed_at q r memory ghosts calls)
has_space q r memory ghosts calls n a c d g =
    record {
      bodies = a.bodies;
      few_registers = a.few_registers;
      few_globals = omega arith;
      work = room_of_activations r.work r.height calls memory.call_limit a.work d;
      arguments = room_of_activations r.work r.height calls memory.call_limit a.work d;
      callers = omega arith;
      registers_fit = registers_of r.registers r.most_registers calls memory.call_limit a.registers d;
      register_calls = omega arith;
      ghost_calls = omega arith;
      few_chunks = c;
    }

few_ghosts : (s v n k : ℕ) → s ≡ v → v ≡ n → n ≤ k → s ≤ k
few_ghosts s v n k e f h = omega arith

nothing_open : (q : Core) (r : Rooms) (memory ghosts : Storage) (calls : ℕ) → IsRunnable q → length q.ghosts ≤ ghosts.chunk_limit → AreNested r.most_registers [] (fixed_at q r memory ghosts calls) (activations_of (turns.start q))
nothing_open q r memory ghosts calls h k =
    record {
      within = omega arith;
      frames = refl;
      ghost_frames = refl;
      sizes = refl;
      callers = refl;
      few_registers = tt;
      few_locals = tt;
      falls = tt;
      acts = omega arith;
      acted = tt;
      ghosts_fit = few_ghosts (chunks (start_ghosts q)) (variables_chunks q.layouts q.ghosts) (length q.ghosts) ghosts.chunk_limit (chunks_counted.of_ghosts q) (scalars_chunks q.layouts q.ghosts h.formed.ghosts) k;
    }

some_room : (h : ℕ) → 3 ≤ h → 0 + 0 + 3 ≤ h * 1
some_room h k = omega arith

pub start_runs : (q : Core) (r : Rooms) (memory ghosts : Storage) (calls : ℕ) → IsRunnable q → length q.globals ≤ 1048576 → AreRooms q calls r → memory.chunk_limit ≤ 1048576 → memory.call_limit ≡ calls
    → ghosts.call_limit ≡ calls → length q.ghosts ≤ ghosts.chunk_limit → Runs 0 (fixed_at q r memory ghosts calls) (turns.start q)
start_runs q r memory ghosts calls h n a c d g k =
    record {
      program = h;
      height = r.height;
      registers = r.most_registers;
      space = has_space q r memory ghosts calls n a c d g;
      functions = [];
      nested = nothing_open q r memory ghosts calls h k;
      typed = start_typed q h.formed;
      numbered = (tt, (tt, tt), record { arguments_have = tt; registers_have = tt; callers_have = tt; memory_has = (globals_have q q.globals q.initial (initial_of q h.formed n), tt, tt) });
      roomy = (some_room r.height a.least, tt);
      counted = (omega arith, tt);
      ends = refl;
      left = tt;
      made = omega arith;
      allocated = omega arith;
    }
