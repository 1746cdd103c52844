-- A machine whose run goes on with another's, after a step or none.
use Rattle.std.specs.Prelude.{◌≡◌, ℕ, suc, List, Option, Some, None}
use Rattle.step_meaning.specs.declared.value.Action.{Action}
use Rattle.step_meaning.specs.declared.program.Core.{Core}
use Rattle.step_meaning.specs.Flow.{step_by}
use Rattle.step_meaning.specs.Memory.{Memory}
use Rattle.step_meaning.specs.State.{Here}
use Rattle.step_meaning.specs.Steps.{Then}
use Rattle.run_turns.specs.Rest.{rest}
use Rattle.run_turns.specs.Turns.{Configuration}

-- the step is made by this activation with this memory
abbrev pub Follows : Core → Option Action → Configuration → Here → Memory → Configuration → Type 0
Follows q None old here memory new = (input : List ℕ) (n : ℕ) → rest q old input n ≡ rest q new input n
Follows q (Some a) old here memory new = (input : List ℕ) (n : ℕ) → rest q old input (suc n) ≡ Then (step_by here a memory) (rest q new input n)
