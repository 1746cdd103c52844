-- A run up to a number of steps: a list of steps, and what ended it.
use Rattle.std.specs.Prelude.{◌≡◌, ℕ, ◌+◌, ◌-◌, ◌<◌, ◌≤◌, ◌||◌, max, IsFalse, List, [], ◌∷◌, ◌++◌, length, Option, Some, None, nat_lt}
use Rattle.std.specs.List.{AllByRecursion}
use Rattle.step_meaning.specs.declared.program.Core.{Core}
use Rattle.step_meaning.specs.First.{first_steps, output}
use Rattle.step_meaning.specs.Runs.{start_memory}
use Rattle.step_meaning.specs.Limits.{CallsFull, CellsFull, Exited, Faulted, IsOutcome, LimitedEnd, Spent, chunks as chunks_in, outcome_of, passes_calls, passes_cells}
use Rattle.step_meaning.specs.Steps.{Made, Step, Then, Trace}
use Rattle.run_check.specs.declared.advance.Advance.{Advance}
use Rattle.run_check.specs.declared.advance.Advance.TheVariants as advance
use Rattle.run_check.specs.declared.run_to.RunEnd.{RunEnd}
use Rattle.run_check.specs.declared.run_to.RunEnd.TheVariants as end
use Rattle.run_check.specs.Advancing.{taken_by}
use Rattle.run_check.specs.Views.{Advanced, IsSameRun, Rest, View, fresh}

-- ---- several steps

-- the input after them
abbrev pub taken_by_all : List Step → List ℕ → List ℕ
taken_by_all [] bytes = bytes
taken_by_all (s ∷ ss) bytes = taken_by_all ss (taken_by s.action bytes)

-- they come before what follows
abbrev pub and_then : List Step → Trace → Trace
and_then [] t = t
and_then (s ∷ ss) t = Then (Made s) (and_then ss t)

-- a machine that hadn't stopped has made steps within the limits, as long as fewer than so many were made, and hasn't stopped
pub record Ran (limit : ℕ) (old new : View) (left left' held held' : Option (List ℕ)) : Type 0 where
  pub made : List Step
  pub within : AllByRecursion (λ s. IsFalse (passes_calls old.calls s || passes_cells old.chunks s)) made
  pub taken : (bytes : List ℕ) → left ≡ Some bytes → left' ≡ Some (taken_by_all made bytes)
  pub follows : (bytes : List ℕ) → left ≡ Some bytes → (n : ℕ) → Rest old bytes (length made + n) ≡ and_then made (Rest new (taken_by_all made bytes) n)
  pub written : (bytes : List ℕ) → held ≡ Some bytes → held' ≡ Some (bytes ++ output made)
  pub same : IsSameRun old new
  pub counted : new.steps ≡ old.steps + length made
  pub few : new.steps ≤ max old.steps limit
  pub going : new.stopped ≡ None

-- ---- the ends

-- that of a machine which stopped so
abbrev pub last_end : Advance → Option RunEnd
last_end advance.Step = None
last_end (advance.Exit z) = Some (end.Exit z)
last_end (advance.Fault x) = Some (end.Fault x)
last_end advance.CellsFull = Some end.Cells
last_end advance.CallsFull = Some end.Calls
last_end advance.ReadFault = Some end.ReadFault
last_end advance.WriteFault = Some end.WriteFault

pub data RunsTo (limit : ℕ) (old new : View) (left left' held held' : Option (List ℕ)) : RunEnd → Type 0 where
  -- the steps are spent
  Enough : Ran limit old new left left' held held' → limit ≤ new.steps → RunsTo limit old new left left' held held' end.More
  -- the machine stopped at the next one
  Ended : (mid : View) (l h : Option (List ℕ)) (a : Advance) (e : RunEnd) → Ran limit old mid left l held h → mid.steps < limit → Advanced mid new l left' h held' a → last_end a ≡ Some e → RunsTo limit old new left left' held held' e

-- ---- the outcome

-- of an end that no device made
abbrev pub limited_end : RunEnd → Option LimitedEnd
limited_end (end.Exit z) = Some (Exited z)
limited_end (end.Fault x) = Some (Faulted x)
limited_end end.More = Some Spent
limited_end end.Cells = Some CellsFull
limited_end end.Calls = Some CallsFull
limited_end end.ReadFault = None
limited_end end.WriteFault = None

-- so many steps more and this end are the outcome of the rest of the run
abbrev pub GivesOutcome : ℕ → View → View → List ℕ → RunEnd → Type 0
GivesOutcome limit old new bytes e = (o : LimitedEnd) → limited_end e ≡ Some o → outcome_of old.chunks old.calls (limit - old.steps) (Rest old bytes (limit - old.steps)) ≡ record { made = new.steps - old.steps; end = o }

-- ---- a fresh machine

-- it has made so many steps of the program's run on the bytes, within the limits, and this is the outcome; their output was added, and for each Input step a byte was taken while one was left
pub record Performed (q : Core) (bytes : List ℕ) (limit chunks calls made : ℕ) (left' held held' : Option (List ℕ)) (o : LimitedEnd) : Type 0 where
  pub outcome : IsOutcome q bytes limit chunks calls (record { made = made; end = o })
  pub written : (before : List ℕ) → held ≡ Some before → held' ≡ Some (before ++ output (first_steps q bytes made))
  pub taken : left' ≡ Some (taken_by_all (first_steps q bytes made) bytes)

-- where the machine was fresh, its source told the bytes, and no device failed
abbrev pub PerformsFresh : ℕ → View → View → Option (List ℕ) → Option (List ℕ) → Option (List ℕ) → Option (List ℕ) → RunEnd → Type 0
PerformsFresh limit old new left left' held held' e =
    (q : Core) (chunks calls : ℕ) (bytes : List ℕ) → old ≡ fresh q chunks calls → IsFalse (nat_lt chunks (chunks_in (start_memory q))) → left ≡ Some bytes → (o : LimitedEnd) → limited_end e ≡ Some o → Performed q bytes limit chunks calls new.steps left' held held' o
