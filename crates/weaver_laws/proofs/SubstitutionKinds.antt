-- What a substitution has to give for the parts of a step, so that code keeps its kinds and intervals, and terms in which it changes what has a kind alone.
use Rattle.std.proofs.Common.{◌≡◌, ℕ, Option, Some, None, refl, sym, subst, ap, ◌∙◌, false}
use Rattle.std.specs.Prelude.{option_and_then, IsTrue, if◌then◌else◌}
use Rattle.step_meaning.specs.declared.predicate.Term.{Term, end_of-Term, more_of-Term}
use Rattle.step_meaning.specs.declared.predicate.Term.TheVariants as t
use Rattle.step_meaning.specs.declared.predicate.TermPlace.TheVariants as p
use Rattle.step_meaning.specs.declared.program.Core.{Core}
use Rattle.step_meaning.specs.declared.program.HookPoint.{HookPoint}
use Rattle.step_meaning.specs.declared.value.CType.{CType}
use Rattle.step_meaning.specs.declared.expr.Variable.{Variable}
use Rattle.step_meaning.specs.Settings.{Setting, variable_type}
use Rattle.step_meaning.specs.Allowances.{Allowed, nothing_else}
use Rattle.step_meaning.specs.Fit.{hook_allowed, is_access_place}
use Rattle.step_meaning.specs.Intervals.{interval, IsLimited, TermLimited, interval_if_any}
use Rattle.step_meaning.specs.TermKinds.{term_kind, kind_of_read, PointerTo, kind_of_type}
use Rattle.step_meaning.specs.TermParts.{Conditions, EachInTerm, no_condition}
use Rattle.weaver_laws.specs.Weaving.{Substitution, is_accessed}
use Rattle.weaver_laws.proofs.PlainKinds.{HasKind, same_itself}

-- ---- what stands for the parts of the step

-- the value of a variable of this type
pub record IsVariable (g : Setting) (u : CType) (e : Term) : Type 0 where
  pub variable : Variable
  pub is_value : e ≡ t.Load (p.Own variable) u
  pub typed : variable_type g variable ≡ Some u

-- a pointer to the object of an access
pub record IsPointer (g : Setting) (u : CType) (e : Term) : Type 0 where
  pub kind : term_kind g nothing_else e ≡ Some (PointerTo u)
  pub limited : TermLimited nothing_else e

pub record SubstitutionFits (q : Core) (pt : HookPoint) (g : Setting) (st : Substitution) : Type 0 where
  pub accessed : IsTrue (is_access_place pt.place) → IsPointer g st.object st.accessed
  pub parameter : (f i : ℕ) (u : CType) → (hook_allowed q pt).parameter_type f i ≡ Some u → HasKind (kind_of_type u) → IsVariable g u (st.parameter i)
  pub result : (f : ℕ) (u : CType) → (hook_allowed q pt).result_type f ≡ Some u → HasKind (kind_of_type u) → IsVariable g u st.result

value_kind : (g : Setting) (u : CType) (e : Term) → IsVariable g u e → term_kind g nothing_else e ≡ kind_of_type u
value_kind g u e x = ap (λ f. term_kind g nothing_else f) x.is_value ∙ ap (λ w. kind_of_read g nothing_else w u) x.typed ∙ ap (λ b. if b then kind_of_type u else None) (same_itself u)

pub value_kind_of : (g : Setting) (w : Option CType) (e : Term) → ((u : CType) → w ≡ Some u → HasKind (kind_of_type u) → IsVariable g u e) → HasKind (option_and_then kind_of_type w) → term_kind g nothing_else e ≡ option_and_then kind_of_type w
value_kind_of g None e x y = absurd y
value_kind_of g (Some u) e x y = value_kind g u e (x u refl y)

pub value_interval : (g : Setting) (w : Option CType) (e : Term) → ((u : CType) → w ≡ Some u → HasKind (kind_of_type u) → IsVariable g u e) → HasKind (option_and_then kind_of_type w) → interval nothing_else e ≡ interval_if_any w
value_interval g None e x y = absurd y
value_interval g (Some u) e x y = ap (λ f. interval nothing_else f) (x u refl y).is_value

pub value_limited : (g : Setting) (w : Option CType) (e : Term) → ((u : CType) → w ≡ Some u → HasKind (kind_of_type u) → IsVariable g u e) → HasKind (option_and_then kind_of_type w) → IsLimited (interval_if_any w) → TermLimited nothing_else e
value_limited g None e x y z = absurd y
value_limited g (Some u) e x y z = subst (λ f. TermLimited nothing_else f) (sym (x u refl y).is_value) (z, tt)

value_register : (g : Setting) (u : CType) (e : Term) → IsVariable g u e → is_accessed e ≡ false
value_register g u e x = ap is_accessed x.is_value

-- ---- terms that have a kind

module _ (a : Allowed) where
  abbrev pub IsPlain : Term → Type 0
  IsPlain t.Accessed = ⊥
  IsPlain (t.AtPre q u) = ⊥
  IsPlain (t.Parameter f i) = HasKind (option_and_then kind_of_type (a.parameter_type f i))
  IsPlain (t.Result f) = HasKind (option_and_then kind_of_type (a.result_type f))
  IsPlain e = Unit {0}

  abbrev pub plain : Conditions
  plain = record no_condition { on_term = IsPlain }

pub not_accessed : (a : Allowed) (e : Term) → EachInTerm (plain a) e → is_accessed e ≡ false
not_accessed a t.Accessed x = absurd x
not_accessed a (t.Load q u) x = refl
not_accessed a (t.Address q u) x = refl
not_accessed a (t.Neg' b (more_of-Term e end_of-Term)) x = refl
not_accessed a (t.Arith' o b (more_of-Term e end_of-Term) k (more_of-Term f end_of-Term)) x = refl
not_accessed a (t.Move' b (more_of-Term e end_of-Term) k (more_of-Term f end_of-Term) size) x = refl
not_accessed a (t.AtPre q u) x = refl
not_accessed a (t.Int z) x = refl
not_accessed a t.Null x = refl
not_accessed a (t.Parameter f i) x = refl
not_accessed a (t.Result f) x = refl
