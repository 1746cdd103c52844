-- Input, and the ends of a machine's run.
use Rattle.std.proofs.Common.{◌≡◌, ℕ, suc, List, [], ◌∷◌, refl, ap, ◌∙◌}
use Rattle.step_meaning.specs.declared.value.Value.{Value}
use Rattle.step_meaning.specs.declared.value.Action.TheVariants as act
use Rattle.step_meaning.specs.declared.value.RunFault.{RunFault}
use Rattle.step_meaning.specs.declared.program.Core.{Core}
use Rattle.step_meaning.specs.Steps.{Stop, Then, Fault}
use Rattle.step_meaning.specs.Flow.{step_by, RestingCall}
use Rattle.step_meaning.specs.First.{first_items}
use Rattle.step_meaning.specs.Runs.{exit_of}
use Rattle.run_turns.specs.Pending as pending
use Rattle.run_turns.specs.Turns.{Configuration, rest_of, pushed, ready, telling, giving, byte_read, after_byte}
use Rattle.run_turns.specs.Rest.{rest}
use Rattle.run_turns.proofs.Steps.{calls_at, one_less}

-- `getchar` takes the first byte that is left
read_makes : (q : Core) (call : ℕ → List Value → RestingCall) (k : ℕ) (m : Configuration) (input : List ℕ) →
    rest_of q call k (pushed pending.Input (ready m)) input ≡ Then (step_by m.context.here act.Input m.memory) (rest_of q call k (giving (byte_read input) m) (after_byte input))
read_makes q call k m [] = refl
read_makes q call k m (b ∷ bs) = refl

pub input_makes : (q : Core) (m : Configuration) (input : List ℕ) (n : ℕ) →
    rest q (pushed pending.Input (ready m)) input (suc n) ≡ Then (step_by m.context.here act.Input m.memory) (rest q (giving (byte_read input) m) (after_byte input) n)
unfolding rest
input_makes q m input n =
    ap (first_items (suc n)) (read_makes q (calls_at q (suc (suc n)) (suc (suc n))) (suc (suc n)) m input) ∙ ap (Then (step_by m.context.here act.Input m.memory)) (one_less q n (giving (byte_read input) m) (after_byte input))

-- ---- the ends

-- the end of `main`
pub exit_ends : (q : Core) (m : Configuration) (v : Value) (input : List ℕ) (n : ℕ) → m.work ≡ [] → rest q (giving v m) input n ≡ Stop (exit_of v)
unfolding rest
exit_ends q m v input n e = ap (λ ps. first_items n (pending.resume q (calls_at q (suc n) (suc n)) (suc n) ps (pending.Gave v) m.context (Rattle.run_turns.specs.Turns.state_of m input))) e

-- a fault that was told
pub fault_ends : (q : Core) (m : Configuration) (f : RunFault) (input : List ℕ) (n : ℕ) → rest q (pushed (pending.Over f) m) input n ≡ Stop (Fault f)
unfolding rest
fault_ends q m f input n = refl
