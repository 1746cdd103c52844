-- Chunks by the variables: what a limit on the chunks of a memory comes to.
use Rattle.std.specs.Prelude.{◌≡◌, ℕ, List}
use Rattle.step_meaning.specs.declared.value.Value.{Value}
use Rattle.step_meaning.specs.declared.program.Core.{Core}
use Rattle.step_meaning.specs.declared.program.Function.{Function}
use Rattle.step_meaning.specs.declared.program.Layout.{Layout}
use Rattle.step_meaning.specs.Calls.{first_frame}
use Rattle.step_meaning.specs.Limits.{chunks, frame_chunks}
use Rattle.step_meaning.specs.Runs.{start_memory, start_ghosts}
use Rattle.run_memory.specs.Storage.{variables_chunks}

pub record ChunksCounted : Type 0 where
  -- those of a new activation, whatever its arguments
  pub of_frames : (layouts : List Layout) (f : Function) (activation : ℕ) (arguments : List Value) → frame_chunks (first_frame layouts f activation arguments) ≡ variables_chunks layouts f.locals
  -- those of the start
  pub of_start : (q : Core) → chunks (start_memory q) ≡ variables_chunks q.layouts q.globals
  -- those of the ghost variables at the start
  pub of_ghosts : (q : Core) → chunks (start_ghosts q) ≡ variables_chunks q.layouts q.ghosts
