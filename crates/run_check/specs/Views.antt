-- A machine as its callers see it, and what going on to its next step makes of it.
use Rattle.std.specs.Prelude.{◌≡◌, ℕ, suc, List, Option, Some, None}
use Rattle.step_meaning.specs.declared.program.Core.{Core}
use Rattle.step_meaning.specs.Steps.{Made, More, Step, Stop, Then, Trace}
use Rattle.run_turns.specs.Rest.{rest}
use Rattle.run_turns.specs.Turns.{Configuration, start}
use Rattle.run_check.specs.declared.advance.Advance.{Advance}
use Rattle.run_check.specs.declared.advance.Advance.TheVariants as advance
use Rattle.run_check.specs.Advancing.{Advances, steps_by}

pub record View : Type 0 where
  pub core : Core
  -- what is left to do, and the memory
  pub now : Configuration
  -- the limits: chunks of 16 cells, and activations that may be open
  pub chunks : ℕ
  pub calls : ℕ
  -- how many steps were made or attempted
  pub steps : ℕ
  -- the answer at which it stopped
  pub stopped : Option Advance

-- a machine before its first step
abbrev pub fresh : Core → ℕ → ℕ → View
fresh q chunks calls = record { core = q; now = start q; chunks = chunks; calls = calls; steps = 0; stopped = None }

-- the next n steps of a machine, or all where there are fewer, and the end, which is More where the list is cut
abbrev pub Rest : View → List ℕ → ℕ → Trace
Rest m input n = rest m.core m.now input n

-- there is a step to come
pub record IsGoing (m : View) : Type 0 where
  pub cut : (bytes : List ℕ) → Rest m bytes 0 ≡ Stop More
  pub next : (bytes : List ℕ) (n : ℕ) → (s : Step) × (t : Trace) × (Rest m bytes (suc n) ≡ Then (Made s) t)

-- every answer but that of a step that others follow stops a machine
abbrev pub stop_of : Advance → Option Advance
stop_of advance.Step = None
stop_of a = Some a

-- an answer that stops a machine, if there is one
abbrev pub IsStop : Option Advance → Type 0
IsStop (Some advance.Step) = ⊥
IsStop o = Unit {0}

-- the program and the limits are the same
pub record IsSameRun (old new : View) : Type 0 where
  pub core : new.core ≡ old.core
  pub chunks : new.chunks ≡ old.chunks
  pub calls : new.calls ≡ old.calls

-- a machine that hadn't stopped has gone on to its next step
pub record Advanced (old new : View) (left left' held held' : Option (List ℕ)) (a : Advance) : Type 0 where
  pub advances : Advances old.chunks old.calls old.core old.now new.now left left' held held' a
  pub same : IsSameRun old new
  pub steps : new.steps ≡ steps_by a old.steps
  pub stopped : new.stopped ≡ stop_of a
