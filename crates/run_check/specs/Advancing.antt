-- What a machine has become that was to go on to its next step: the step was made, or it stopped before it or in it.
use Rattle.std.specs.Prelude.{◌≡◌, ℕ, suc, ◌+◌, ◌<◌, ◌||◌, Bool, not, nat_le, IsTrue, IsFalse, ℤ, pos, negsuc, List, [], ◌∷◌, ◌++◌, Option, Some, None}
use Rattle.step_meaning.specs.declared.value.Action.{Action}
use Rattle.step_meaning.specs.declared.value.Action.TheVariants as act
use Rattle.step_meaning.specs.declared.program.Core.{Core}
use Rattle.step_meaning.specs.Allocation.{is_block_size}
use Rattle.step_meaning.specs.Limits.{chunks_for, passes_calls, passes_cells}
use Rattle.step_meaning.specs.Steps.{End, Exit, Fault, Made, Step, Stop, Then, Trace}
use Rattle.run_turns.specs.Rest.{rest}
use Rattle.run_turns.specs.Turns.{Configuration, after_byte}
use Rattle.run_state.specs.declared.machine.Machine.{Machine}
use Rattle.run_state.specs.Machine.{configuration_of}
use Rattle.run_start.specs.Running.{IsRunning}
use Rattle.run_check.specs.Showing.{ShowsMemory}
use Rattle.run_check.specs.declared.advance.Advance.{Advance}
use Rattle.run_check.specs.declared.advance.Advance.TheVariants as advance

-- ---- what a step takes and writes

-- the input after it
abbrev pub taken_by : Action → List ℕ → List ℕ
taken_by act.Input bytes = after_byte bytes
taken_by a bytes = bytes

-- the bytes that it writes
abbrev pub written_by : Action → List ℕ
written_by (act.Output b) = b ∷ []
written_by a = []

-- the number of a byte that was read, or that of the end
abbrev pub byte_number : Option ℕ → ℤ
byte_number None = negsuc 0
byte_number (Some b) = pos b

abbrev pub IsByte : Option ℕ → Type 0
IsByte None = Unit {0}
IsByte (Some b) = b < 256

-- ---- a step that was made

module _ (chunks calls : ℕ) (q : Core) (old : Configuration) where
  -- it is within the limits, and what follows it in the run is the run of the new machine on the input that is left. What the source and the sink hold is known where they tell it
  pub record Makes (new : Configuration) (left left' held held' : Option (List ℕ)) : Type 0 where
    pub step : Step
    pub within : IsFalse (passes_calls calls step || passes_cells chunks step)
    pub taken : (bytes : List ℕ) → left ≡ Some bytes → left' ≡ Some (taken_by step.action bytes)
    pub follows : (bytes : List ℕ) → left ≡ Some bytes → (n : ℕ) → rest q old bytes (suc n) ≡ Then (Made step) (rest q new (taken_by step.action bytes) n)
    pub written : (bytes : List ℕ) → held ≡ Some bytes → held' ≡ Some (bytes ++ written_by step.action)
    -- the new machine has the memory of the step, but after a return, a write, and a change of the heap
    pub shows : ShowsMemory step.action → new.memory ≡ step.memory

  -- it is the last one
  pub record MakesLast (e : End) (new : Configuration) (left left' held held' : Option (List ℕ)) : Type 0 where
    pub made : Makes new left left' held held'
    pub last : (bytes : List ℕ) (n : ℕ) → rest q new bytes n ≡ Stop e

  -- ---- a step that wasn't made

  -- whatever the input, this step comes next
  abbrev pub IsNext : Step → Type 0
  IsNext s = (bytes : List ℕ) (n : ℕ) → (t : Trace) × (rest q old bytes (suc n) ≡ Then (Made s) t)

  -- what follows is the same as before
  abbrev pub Stays : Configuration → Type 0
  Stays new = (bytes : List ℕ) (n : ℕ) → rest q new bytes n ≡ rest q old bytes n

  pub record StopsForCalls (new : Configuration) (left left' held held' : Option (List ℕ)) : Type 0 where
    pub kept_input : left' ≡ left
    pub kept_output : held' ≡ held
    pub stays : Stays new
    pub step : Step
    pub next : IsNext step
    pub passes : IsTrue (passes_calls calls step)

  pub record StopsForCells (new : Configuration) (left left' held held' : Option (List ℕ)) : Type 0 where
    pub kept_input : left' ≡ left
    pub kept_output : held' ≡ held
    pub stays : Stays new
    pub step : Step
    pub next : IsNext step
    pub calls_fit : IsFalse (passes_calls calls step)
    pub passes : IsTrue (passes_cells chunks step)

  -- ---- a step that was attempted

  pub record Reads (left left' held held' : Option (List ℕ)) : Type 0 where
    pub kept_output : held' ≡ held
    pub step : Step
    pub next : IsNext step
    pub is_input : step.action ≡ act.Input
    pub same : (bytes : List ℕ) → left ≡ Some bytes → left' ≡ Some bytes

  pub record Writes (left left' held held' : Option (List ℕ)) : Type 0 where
    pub kept_input : left' ≡ left
    pub step : Step
    pub next : IsNext step
    pub byte : ℕ
    pub is_output : step.action ≡ act.Output byte
    -- a prefix of its byte was written
    pub prefix : (bytes : List ℕ) → held ≡ Some bytes → (some others : List ℕ) × (byte ∷ [] ≡ some ++ others) × (held' ≡ Some (bytes ++ some))

-- ---- the answers

abbrev pub Advances : ℕ → ℕ → Core → Configuration → Configuration → Option (List ℕ) → Option (List ℕ) → Option (List ℕ) → Option (List ℕ) → Advance → Type 0
Advances chunks calls q old new left left' held held' advance.Step = Makes chunks calls q old new left left' held held'
Advances chunks calls q old new left left' held held' (advance.Exit z) = MakesLast chunks calls q old (Exit z) new left left' held held'
Advances chunks calls q old new left left' held held' (advance.Fault x) = MakesLast chunks calls q old (Fault x) new left left' held held'
Advances chunks calls q old new left left' held held' advance.CallsFull = StopsForCalls chunks calls q old new left left' held held'
Advances chunks calls q old new left left' held held' advance.CellsFull = StopsForCells chunks calls q old new left left' held held'
Advances chunks calls q old new left left' held held' advance.ReadFault = Reads chunks calls q old left left' held held'
Advances chunks calls q old new left left' held held' advance.WriteFault = Writes chunks calls q old left left' held held'

-- a machine after a step: it runs on, or the step was the last one
abbrev pub IsAfter : Advance → ℕ → Machine → Type 0
IsAfter advance.Step steps m = IsRunning steps m
IsAfter (advance.Exit z) steps m = (bytes : List ℕ) (n : ℕ) → rest m.core.now (configuration_of m) bytes n ≡ Stop (Exit z)
IsAfter a steps m = ⊥

-- how many steps there are after the answer: a step that passes a limit isn't made
abbrev pub steps_by : Advance → ℕ → ℕ
steps_by advance.CallsFull n = n
steps_by advance.CellsFull n = n
steps_by a n = n + 1

-- so many cells are no block, or one that has room beside the chunks that are used
abbrev pub block_fits : ℕ → ℕ → ℕ → Bool
block_fits total used limit = not (is_block_size total) || nat_le (used + chunks_for total) limit
