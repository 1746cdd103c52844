-- The view that a step of a list gives: what a predicate about the step sees.
use Rattle.std.specs.Prelude.{ℕ, ◌&&◌, cond, ◌==◌, List, [], ◌∷◌, Option, Some, None}
use Rattle.step_meaning.specs.declared.value.Value.{Value}
use Rattle.step_meaning.specs.declared.value.Action.{Action}
use Rattle.step_meaning.specs.declared.value.Action.TheVariants as act
use Rattle.step_meaning.specs.declared.predicate.Event.{Event}
use Rattle.step_meaning.specs.declared.predicate.Event.TheVariants as event
use Rattle.step_meaning.specs.declared.program.Core.{Core}
use Rattle.step_meaning.specs.Memory.{Memory}
use Rattle.step_meaning.specs.Steps.{Step}
use Rattle.step_meaning.specs.Views.{Sight, no_memory}
use Rattle.step_meaning.specs.Limits.{is_enter}

abbrev pub accessed_by : Action → Option Value
accessed_by (act.Read p) = Some p
accessed_by (act.Write p v) = Some p
accessed_by _ = None

-- `getchar`, `putchar`, `malloc` and `free` are the functions 0 to 3
abbrev pub called_by : Action → Option ℕ
called_by (act.Call g) = Some g
called_by act.Input = Some 0
called_by (act.Output b) = Some 1
called_by (act.Malloc n p k) = Some 2
called_by (act.Free p) = Some 3
called_by _ = None

abbrev pub event_of : Action → Event
event_of (act.Enter g vs) = event.Enter g
event_of (act.Return g v) = event.Return g
event_of _ = event.Nothing

abbrev pub arguments_of : Action → List Value
arguments_of (act.Enter g vs) = vs
arguments_of _ = []

abbrev pub result_of : Action → Option Value
result_of (act.Return g v) = v
result_of _ = None

-- the memory of the Enter step of the activation, found in the list
abbrev pub enter_memory : List Step → ℕ → Memory
enter_memory [] a = no_memory
enter_memory (s ∷ ss) a = cond (is_enter s.action && s.activation == a) s.memory (enter_memory ss a)

-- the view of a step of the list. A program's own step has no registers and no ghost variables in view
abbrev pub sight_of : Core → List Step → Step → Sight
sight_of q ss s =
    record {
      layouts = q.layouts;
      memory = s.memory;
      ghosts = no_memory;
      registers = [];
      before = enter_memory ss s.activation;
      activation = s.activation;
      accessed = accessed_by s.action;
      called = called_by s.action;
      event = event_of s.action;
      arguments = arguments_of s.action;
      result = result_of s.action;
    }
