-- A run within limits: on the steps, on the chunks of cells that are live, and on the activations that are open.
-- `IsOutcome` says what the outcome is; `outcome` computes it along the run. That the one is the other is a law.
use Rattle.std.specs.Prelude.{◌≡◌, ℕ, zero, suc, ◌+◌, ◌/◌, ◌≤◌, ◌<◌, max, Bool, true, false, ◌&&◌, ◌||◌, not, cond, ◌==◌, nat_lt, IsTrue, IsFalse, ℤ, List, sum_by, length, slice_get, Option, Some, None}
use Rattle.step_meaning.specs.declared.value.Action.{Action}
use Rattle.step_meaning.specs.declared.value.Action.TheVariants.{Enter, Malloc}
use Rattle.step_meaning.specs.declared.value.RunFault.{RunFault}
use Rattle.step_meaning.specs.declared.program.Core.{Core}
use Rattle.step_meaning.specs.Memory.{Memory, Frame, HeapBlock, Block}
use Rattle.step_meaning.specs.Steps.{Step, Made, Judged, End, Exit, Fault, More, Trace, Stop, Then, steps, end}
use Rattle.step_meaning.specs.Runs.{run, start_memory}

-- ---- chunks of 16 cells

-- those of a variable or heap block with so many cells: the larger of 1 and the cells divided by 16, rounded up
abbrev pub chunks_for : ℕ → ℕ
chunks_for n = max 1 ((n + 15) / 16)

abbrev pub chunks_of : Block → ℕ
chunks_of b = chunks_for (length b)

abbrev pub frame_chunks : Frame → ℕ
frame_chunks f = sum_by chunks_of f.locals

abbrev pub heap_chunks : HeapBlock → ℕ
heap_chunks b = chunks_of b.cells

-- those of all variables and heap blocks of the memory
abbrev pub chunks : Memory → ℕ
chunks memory = sum_by chunks_of memory.globals + (sum_by frame_chunks memory.frames + sum_by heap_chunks memory.heap)

-- ---- limits at a step

abbrev pub is_enter : Action → Bool
is_enter (Enter g vs) = true
is_enter _ = false

-- an Enter that makes more than d activations open
abbrev pub passes_calls : ℕ → Step → Bool
passes_calls d s = is_enter s.action && nat_lt d (length s.memory.frames)

-- the memory of an Enter, which has the new activation's variables, has more than c chunks, or that of a Malloc with its new block
abbrev pub are_too_many : ℕ → Action → Memory → Bool
are_too_many c (Enter g vs) memory = nat_lt c (chunks memory)
are_too_many c (Malloc n p (suc k)) memory = nat_lt c (chunks memory + chunks_for (suc k))
are_too_many c _ memory = false

abbrev pub passes_cells : ℕ → Step → Bool
passes_cells c s = are_too_many c s.action s.memory

-- ---- the outcome

pub data LimitedEnd : Type 0 where
  Exited : ℤ → LimitedEnd
  Faulted : RunFault → LimitedEnd
  -- the steps are spent
  Spent : LimitedEnd
  CellsFull : LimitedEnd
  CallsFull : LimitedEnd

pub record Outcome : Type 0 where
  -- how many steps were made
  pub made : ℕ
  pub end : LimitedEnd

abbrev pub own_end : End → LimitedEnd
own_end (Exit v) = Exited v
own_end (Fault f) = Faulted f
own_end More = Spent

abbrev pub stops_calls : ℕ → Option Step → Bool
stops_calls d None = false
stops_calls d (Some s) = passes_calls d s

-- at most c chunks, d open activations and n steps
module _ (c d n : ℕ) where
  -- m is up to n, the first m steps exist, and none of them passes a limit
  pub record MayMake (ss : List Step) (m : ℕ) : Type 0 where
    pub up_to : m ≤ n
    pub exist : m ≤ length ss
    pub within : (i : ℕ) (s : Step) → i < m → slice_get ss i ≡ Some s → IsFalse (passes_calls d s || passes_cells c s)

  -- the end after m steps. Where step m ends the run, it is the run's own; else, where m is n, the steps are spent; else step m + 1 passes a limit: an Enter that of the activations, or else an Enter or a Malloc that of the chunks
  abbrev pub end_after : Trace → ℕ → LimitedEnd
  end_after t m = cond (m == length (steps t)) (own_end (end t)) (cond (m == n) Spent (cond (stops_calls d (slice_get (steps t) m)) CallsFull CellsFull))

  -- m is the greatest number of steps that may be made
  pub record IsOutcomeOf (t : Trace) (o : Outcome) : Type 0 where
    pub made : MayMake (steps t) o.made
    pub greatest : (k : ℕ) → MayMake (steps t) k → k ≤ o.made
    pub ends : o.end ≡ end_after t o.made

-- the outcome of the program on the input with at most n steps, c chunks and d open activations
pub record IsOutcome (q : Core) (input : List ℕ) (n c d : ℕ) (o : Outcome) : Type 0 where
  -- where the chunks of the variables of file scope pass the limit, nothing is run
  pub globals_full : IsTrue (nat_lt c (chunks (start_memory q))) → o ≡ record { made = 0; end = CellsFull }
  pub runs : IsFalse (nat_lt c (chunks (start_memory q))) → IsOutcomeOf c d n (run q input (n + 1)) o

-- ---- the same, step by step

abbrev pub one_more : Outcome → Outcome
one_more o = record { made = suc o.made; end = o.end }

abbrev pub outcome_of : ℕ → ℕ → ℕ → Trace → Outcome
outcome_of c d n (Stop e) = record { made = 0; end = own_end e }
outcome_of c d n (Then (Judged v) t) = outcome_of c d n t
outcome_of c d zero (Then (Made s) t) = record { made = 0; end = Spent }
outcome_of c d (suc n) (Then (Made s) t) =
    cond (passes_calls d s) (record { made = 0; end = CallsFull }) (cond (passes_cells c s) (record { made = 0; end = CellsFull }) (one_more (outcome_of c d n t)))

abbrev pub outcome : Core → List ℕ → ℕ → ℕ → ℕ → Outcome
outcome q input n c d = cond (nat_lt c (chunks (start_memory q))) (record { made = 0; end = CellsFull }) (outcome_of c d n (run q input (n + 1)))

-- ---- why the run ends after m steps

module _ (c d n : ℕ) (t : Trace) (m : ℕ) where
  -- step m + 1 is there and passes a test
  abbrev pub NextStep : (Step → Bool) → Type 0
  NextStep test = (s : Step) × (slice_get (steps t) m ≡ Some s) × IsTrue (test s)

  abbrev pub EndsBy : LimitedEnd → Type 0
  EndsBy (Exited v) = (length (steps t) ≡ m) × (end t ≡ Exit v)
  EndsBy (Faulted f) = (length (steps t) ≡ m) × (end t ≡ Fault f)
  EndsBy Spent = (m ≡ n) × (n < length (steps t))
  EndsBy CallsFull = (m < n) × NextStep (passes_calls d)
  EndsBy CellsFull = (m < n) × NextStep (λ s. not (passes_calls d s) && passes_cells c s)

-- the outcome is there, it is this one and no other
pub record OutcomeComputed : Type 0 where
  pub is_outcome : (q : Core) (input : List ℕ) (n c d : ℕ) → IsOutcome q input n c d (outcome q input n c d)
  pub unique : (q : Core) (input : List ℕ) (n c d : ℕ) (o : Outcome) → IsOutcome q input n c d o → o ≡ outcome q input n c d
  -- where the run begins, it ends by its own end after its last step, with n steps made and one more to come, or before an Enter or a Malloc that passes a limit
  pub ends_by : (q : Core) (input : List ℕ) (n c d : ℕ) → IsFalse (nat_lt c (chunks (start_memory q))) → EndsBy c d n (run q input (n + 1)) (outcome q input n c d).made (outcome q input n c d).end
