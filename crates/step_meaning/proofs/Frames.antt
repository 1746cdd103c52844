-- What opening and closing an activation's frame does to the names that are live.
use Rattle.std.proofs.Common.{◌≡◌, ◌≢◌, ℕ, Bool, true, false, cond, Some, None, refl, sym, ap, ◌==◌}
use Rattle.std.specs.Prelude.{slice_get, option_and_then}
use Rattle.std.proofs.lemmas.Bool.{eqb-true}
use Rattle.step_meaning.specs.Memory.{Memory, Frame, frame_of, frame_block}
use Rattle.step_meaning.specs.Calls.{with_frame, without_frame}

-- closing the frame that was opened last gives the memory before, as far as the frames go
pub closed_again : (f : Frame) (memory : Memory) → without_frame (with_frame f memory) ≡ memory
closed_again f memory = refl

-- a frame of another activation stays
pub others_stay : (f : Frame) (memory : Memory) (a : ℕ) → f.activation ≢ a → frame_of a (with_frame f memory).frames ≡ frame_of a memory.frames
others_stay f memory a other = by (f.activation == a) refl
  where
    by : (b : Bool) → (f.activation == a) ≡ b → cond b (Some f) (frame_of a memory.frames) ≡ frame_of a memory.frames
    by true e = absurd (other (eqb-true f.activation a e))
    by false e = refl

-- the names of the activation whose frame is closed go, where it had one frame
pub own_go : (f : Frame) (memory : Memory) (i : ℕ) → frame_of f.activation memory.frames ≡ None → frame_block (without_frame (with_frame f memory)) f.activation i ≡ None
own_go f memory i alone = ap (option_and_then (λ r. slice_get r.locals i)) alone

-- and no others do
pub others_keep : (f : Frame) (memory : Memory) (a i : ℕ) → f.activation ≢ a → frame_block (without_frame (with_frame f memory)) a i ≡ frame_block (with_frame f memory) a i
others_keep f memory a i other = sym (ap (option_and_then (λ r. slice_get r.locals i)) (others_stay f memory a other))
