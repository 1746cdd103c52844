-- What a predicate or term may speak of besides the variables in view: the memory of the Enter step, the step's access, the function that it calls, its event, and what an event carries.
use Rattle.std.specs.Prelude.{ℕ, Bool, false, slice_get, Option, None, option_and_then, option_map}
use Rattle.step_meaning.specs.declared.value.CType.{CType}
use Rattle.step_meaning.specs.declared.program.Core.{Core}
use Rattle.step_meaning.specs.ExpressionTypes.{parameter_types}

pub record Allowed : Type 0 where
  -- `\at(place, Pre)`
  pub at_enter : Bool
  -- `\written` or `\read`
  pub accessed : Bool
  -- the functions that `\called` may be compared with
  pub called : ℕ → Bool
  -- the functions whose events may be named
  pub event : ℕ → Bool
  -- the type of a parameter of a function, by the numbers of both, and none where it may not be named
  pub parameter_type : ℕ → ℕ → Option CType
  -- the type of a function's result, and none where it may not be named
  pub result_type : ℕ → Option CType

-- the variables alone
abbrev pub nothing_else : Allowed
nothing_else = record { at_enter = false; accessed = false; called = λ f. false; event = λ f. false; parameter_type = λ f i. None; result_type = λ f. None }

-- ---- the types of a core's functions

abbrev pub type_of_parameter : Core → ℕ → ℕ → Option CType
type_of_parameter q f i = option_and_then (λ fn. slice_get (parameter_types fn) i) (slice_get q.functions f)

abbrev pub type_of_result : Core → ℕ → Option CType
type_of_result q f = option_map (λ fn. fn.result) (slice_get q.functions f)
