-- What a run shows outside: its steps, with functions by their names.
-- Memories have the variables of file scope, the locals and the heap blocks alone, since registers and ghost variables stand apart from them; so erasure has only the verdicts to drop and the numbers of functions to replace. These numbers may differ between a program and its woven text, which drops unused prototypes.
use Rattle.std.specs.Prelude.{◌≡◌, ℕ, List, [], ◌∷◌, map, slice_get, Option, Some, None}
use Rattle.step_meaning.specs.declared.value.Value.{Value}
use Rattle.step_meaning.specs.declared.value.RunFault.{RunFault}
use Rattle.step_meaning.specs.declared.value.Action.{Action}
use Rattle.step_meaning.specs.declared.value.Action.TheVariants as act
use Rattle.step_meaning.specs.declared.program.Core.{Core}
use Rattle.step_meaning.specs.declared.program.Function.{Function}
use Rattle.step_meaning.specs.Memory.{Memory}
use Rattle.step_meaning.specs.Steps.{Step, Verdict, Item, Made, Judged, items, end}
use Rattle.step_meaning.specs.Runs.{run}

-- an action, with the function's name in place of its number
pub data ShownAction : Type 0 where
  Enter : List ℕ → List Value → ShownAction
  Call : List ℕ → ShownAction
  Return : List ℕ → Option Value → ShownAction
  Read : Value → ShownAction
  Write : Value → Value → ShownAction
  Input : ShownAction
  Output : ℕ → ShownAction
  Malloc : ℕ → Value → ℕ → ShownAction
  Free : Value → ShownAction
  Turn : ShownAction
  Halt : RunFault → ShownAction

pub record ShownStep : Type 0 where
  pub action : ShownAction
  pub function : List ℕ
  pub activation : ℕ
  pub memory : Memory

abbrev pub name_if_any : Option Function → List ℕ
name_if_any None = []
name_if_any (Some f) = f.name

-- the bytes of the function's name
abbrev pub function_name : Core → ℕ → List ℕ
function_name q g = name_if_any (slice_get q.functions g)

abbrev pub shown_action : Core → Action → ShownAction
shown_action q (act.Enter g vs) = Enter (function_name q g) vs
shown_action q (act.Call g) = Call (function_name q g)
shown_action q (act.Return g v) = Return (function_name q g) v
shown_action q (act.Read p) = Read p
shown_action q (act.Write p v) = Write p v
shown_action q act.Input = Input
shown_action q (act.Output b) = Output b
shown_action q (act.Malloc n p k) = Malloc n p k
shown_action q (act.Free p) = Free p
shown_action q act.Turn = Turn
shown_action q (act.Halt f) = Halt f

abbrev pub shown_step : Core → Step → ShownStep
shown_step q s = record { action = shown_action q s.action; function = function_name q s.function; activation = s.activation; memory = s.memory }

-- the steps alone
abbrev pub erased : Core → List Item → List ShownStep
erased q [] = []
erased q (Made s ∷ is) = shown_step q s ∷ erased q is
erased q (Judged v ∷ is) = erased q is

-- the same with the verdicts kept
pub data ShownItem : Type 0 where
  ShownMade : ShownStep → ShownItem
  ShownJudged : Verdict → ShownItem

abbrev pub shown_item : Core → Item → ShownItem
shown_item q (Made s) = ShownMade (shown_step q s)
shown_item q (Judged v) = ShownJudged v

-- two programs have the same runs: for every input and bound the same end and, shown, the same items
pub record Agrees (p q : Core) : Type 0 where
  pub same_end : (input : List ℕ) (k : ℕ) → end (run p input k) ≡ end (run q input k)
  pub same_items : (input : List ℕ) (k : ℕ) → map (shown_item p) (items (run p input k)) ≡ map (shown_item q) (items (run q input k))
