-- The law that predicates and terms which fit are bounded, in each view whose cells, parameters and result hold values of their types.
use Rattle.std.specs.Prelude.{◌≡◌, ℕ, List, slice_get, Some}
use Rattle.step_meaning.specs.declared.value.CType.{CType}
use Rattle.step_meaning.specs.declared.value.Name.{Name}
use Rattle.step_meaning.specs.declared.value.Value.{Value}
use Rattle.step_meaning.specs.declared.value.Cell.TheVariants.{Holds}
use Rattle.step_meaning.specs.declared.predicate.Event.TheVariants as event
use Rattle.step_meaning.specs.declared.predicate.Term.{Term}
use Rattle.step_meaning.specs.declared.predicate.Predicate.{Predicate}
use Rattle.step_meaning.specs.declared.program.Core.{Core}
use Rattle.step_meaning.specs.Steps.{Step}
use Rattle.step_meaning.specs.StepViews.{sight_of}
use Rattle.step_meaning.specs.Settings.{Setting}
use Rattle.step_meaning.specs.Views.{Sight, Reads, now, at_enter}
use Rattle.step_meaning.specs.Traced.{HasType, IsPointer, At, IsTraced}
use Rattle.step_meaning.specs.Bounded.{TermBounded, IsBounded}
use Rattle.step_meaning.specs.Intervals.{TermLimited}
use Rattle.step_meaning.specs.TermKinds.{Kind, term_kind}
use Rattle.step_meaning.specs.Allowances.{Allowed, type_of_parameter, type_of_result}
use Rattle.step_meaning.specs.Annotations.{PredicateFits}

-- a cell that may be read at a type holds nothing or a value of the type
abbrev pub AreTyped : Reads → Type 0
AreTyped reads = (n : Name) (o : ℕ) (u : CType) (v : Value) → reads n o u ≡ Some (Holds v) → HasType u v

pub record IsTypedSight (g : Setting) (a : Allowed) (s : Sight) : Type 0 where
  pub layouts : s.layouts ≡ g.layouts
  pub cells : AreTyped (now s)
  pub cells_at_enter : AreTyped (at_enter s)
  pub access : (v : Value) → s.accessed ≡ Some v → IsPointer v
  -- what is allowed of parameters and results is named with the type that it has
  pub parameters : (f i : ℕ) (u : CType) (v : Value) → s.event ≡ event.Enter f → slice_get s.arguments i ≡ Some v → a.parameter_type f i ≡ Some u → HasType u v
  pub result : (f : ℕ) (u : CType) (v : Value) → s.event ≡ event.Return f → s.result ≡ Some v → a.result_type f ≡ Some u → HasType u v

-- the types that are allowed are those of the core's functions
pub record AllowsOwnTypes (q : Core) (a : Allowed) : Type 0 where
  pub parameters : (f i : ℕ) (u : CType) → a.parameter_type f i ≡ Some u → type_of_parameter q f i ≡ Some u
  pub result : (f : ℕ) (u : CType) → a.result_type f ≡ Some u → type_of_result q f ≡ Some u

-- each step of a traced list gives such a view
pub record TracedSightsTyped : Type 0 where
  pub sights : (q : Core) (ss : List Step) → IsTraced q ss → (i : ℕ) (s : Step) → At ss i s → (g : Setting) (a : Allowed) → q.layouts ≡ g.layouts → AllowsOwnTypes q a → IsTypedSight g a (sight_of q ss s)

pub record FitsBounded : Type 0 where
  pub terms : (g : Setting) (a : Allowed) (s : Sight) (e : Term) (k : Kind) → IsTypedSight g a s → term_kind g a e ≡ Some k → TermLimited a e → TermBounded s e (now s)
  pub predicates : (g : Setting) (a : Allowed) (s : Sight) (r : Predicate) → IsTypedSight g a s → PredicateFits g a r → IsBounded s r
