-- The next steps of a machine's run.
use Rattle.std.specs.Prelude.{ℕ, suc, List}
use Rattle.step_meaning.specs.declared.program.Core.{Core}
use Rattle.step_meaning.specs.Steps.{Trace}
use Rattle.step_meaning.specs.Flow.{resting}
use Rattle.step_meaning.specs.Calls.{calls}
use Rattle.step_meaning.specs.First.{first_items}
use Rattle.run_turns.specs.Turns.{Configuration, rest_of}

-- the next n steps, or all where there are fewer, with the verdicts before each, and the end, which is More where the list is cut
unfoldable pub rest : Core → Configuration → List ℕ → ℕ → Trace
rest q m input n = first_items n (rest_of q (calls resting q (suc n) (suc n)) (suc n) m input)
