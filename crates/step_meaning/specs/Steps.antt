-- The steps of a run, and what its trace has beside them (C11 5.1.2.3: the states of the abstract machine that can be seen).
use Rattle.std.specs.Prelude.{ℕ, Bool, ℤ, List, [], ◌∷◌}
use Rattle.step_meaning.specs.declared.value.Action.{Action}
use Rattle.step_meaning.specs.declared.value.RunFault.{RunFault}
use Rattle.step_meaning.specs.declared.stmt.VerdictKind.{VerdictKind}
use Rattle.step_meaning.specs.Memory.{Memory}

-- a step: what is done, by which function in which activation, and the memory before its effect.
-- The memory of an Enter step already holds the new activation's variables, the parameters with their arguments; that of a Return step still holds them
pub record Step : Type 0 where
  pub action : Action
  pub function : ℕ
  pub activation : ℕ
  pub memory : Memory

-- what an assertion found. It belongs to the step that follows it
pub record Verdict : Type 0 where
  pub monitor : ℕ
  pub kind : VerdictKind
  pub truth : Bool

pub data Item : Type 0 where
  Made : Step → Item
  Judged : Verdict → Item

-- how a run ends: `main` has returned this value, there was a fault, or the bound on turns and open activations is spent
pub data End : Type 0 where
  Exit : ℤ → End
  Fault : RunFault → End
  More : End

-- a run: its items in order, and its end
pub data Trace : Type 0 where
  Stop : End → Trace
  Then : Item → Trace → Trace

abbrev pub items : Trace → List Item
items (Stop e) = []
items (Then i t) = i ∷ items t

abbrev pub end : Trace → End
end (Stop e) = e
end (Then i t) = end t

abbrev pub steps : Trace → List Step
steps (Stop e) = []
steps (Then (Made s) t) = s ∷ steps t
steps (Then (Judged v) t) = steps t
