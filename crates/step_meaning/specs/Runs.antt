-- The run of a program on an input up to a bound (C11 5.1.2.3).
use Rattle.std.specs.Prelude.{◌≡◌, ℕ, pos, List, [], ◌∷◌, map}
use Rattle.step_meaning.specs.declared.value.CType.{CType}
use Rattle.step_meaning.specs.declared.value.CType.TheVariants as type
use Rattle.step_meaning.specs.declared.value.Value.{Value}
use Rattle.step_meaning.specs.declared.value.Value.TheVariants as value
use Rattle.step_meaning.specs.declared.value.RunFault.TheVariants as fault
use Rattle.step_meaning.specs.declared.program.Core.{Core}
use Rattle.step_meaning.specs.declared.program.Layout.{Layout}
use Rattle.step_meaning.specs.declared.program.Declared.{Declared}
use Rattle.step_meaning.specs.Memory.{Memory, Block, empty_block, filled}
use Rattle.step_meaning.specs.Steps.{Item, End, Exit, Fault, Trace, Stop, Then}
use Rattle.step_meaning.specs.State.{State}
use Rattle.step_meaning.specs.Flow.{resting, direct, World, CallGives, Returned, Ended}
use Rattle.step_meaning.specs.Calls.{calls}

-- ---- the start

-- the variables of file scope with their initial values (C11 6.7.9)
abbrev pub global_blocks : List Layout → List Declared → List (List Value) → List Block
global_blocks layouts [] vss = []
global_blocks layouts (d ∷ ds) [] = empty_block layouts d ∷ global_blocks layouts ds []
global_blocks layouts (d ∷ ds) (vs ∷ vss) = filled (empty_block layouts d) vs ∷ global_blocks layouts ds vss

abbrev pub start_memory : Core → Memory
start_memory q = record { globals = global_blocks q.layouts q.globals q.initial; frames = []; heap = [] }

-- a ghost variable of file scope starts with 0 or null
abbrev pub ghost_start : CType → Value
ghost_start (type.Int k) = value.Int (pos 0)
ghost_start _ = value.Null

abbrev pub ghost_block : List Layout → Declared → Block
ghost_block layouts d = filled (empty_block layouts d) (ghost_start d.ctype ∷ [])

abbrev pub start_ghosts : Core → Memory
start_ghosts q = record { globals = map (ghost_block q.layouts) q.ghosts; frames = []; heap = [] }

abbrev pub start_state : Core → List ℕ → State
start_state q input = record { memory = start_memory q; ghosts = start_ghosts q; input = input; made = 0; allocated = 0 }

-- ---- the run

-- `main` gives back an integer (C11 5.1.2.2.1)
abbrev pub exit_of : Value → End
exit_of (value.Int z) = Exit z
exit_of _ = Fault fault.Invalid

-- a call of `main` without arguments, where each loop makes at most k turns and at most k activations are open
abbrev pub run : Core → List ℕ → ℕ → Trace
run q input k = calls resting q k k q.start [] (λ v s. Stop (exit_of v)) (start_state q input)

-- ---- the same run, with a log

-- the items, the newest first, and the end
pub record Logged : Type 0 where
  pub log : List Item
  pub ends : End

abbrev pub logged_by : CallGives → Logged
logged_by (Returned v w) = record { log = w.log; ends = exit_of v }
logged_by (Ended e l) = record { log = l; ends = e }

abbrev pub start_world : State → World
start_world s = record { memory = s.memory; ghosts = s.ghosts; input = s.input; made = s.made; allocated = s.allocated; log = [] }

abbrev pub direct_run : Core → List ℕ → ℕ → Logged
direct_run q input k = logged_by (calls direct q k k q.start [] (start_world (start_state q input)))

-- the trace that has these items, the newest first, before it
abbrev pub after_log : List Item → Trace → Trace
after_log [] t = t
after_log (i ∷ l) t = after_log l (Then i t)

abbrev pub trace_of : Logged → Trace
trace_of t = after_log t.log (Stop t.ends)

-- the two instances of the flow give one run
abbrev pub FlowsAgree : Type 0
FlowsAgree = (q : Core) (input : List ℕ) (k : ℕ) → run q input k ≡ trace_of (direct_run q input k)
