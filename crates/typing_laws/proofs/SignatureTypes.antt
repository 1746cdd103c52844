-- Types of results and parameters, where the rules on functions are kept.
use Rattle.std.proofs.Common.{◌≡◌, ℕ, zero, suc, Bool, true, false, ◌&&◌, ◌||◌, not, List, [], ◌∷◌, length, Option, Some, None, refl, sym, subst}
use Rattle.std.specs.List.{AllByRecursion}
use Rattle.std.specs.Prelude.{IsTrue}
use Rattle.c_words.specs.declared.word.Leaf.{Leaf}
use Rattle.c_grammar.specs.declared.types.Specifier.{Specifier}
use Rattle.c_grammar.specs.declared.types.Specifier.TheVariants as sp
use Rattle.step_meaning.specs.declared.value.CType.{CType, end_of-CType, more_of-CType}
use Rattle.step_meaning.specs.declared.value.CType.TheVariants as type
use Rattle.step_meaning.specs.declared.program.Declared.{Declared as Named}
use Rattle.step_meaning.specs.declared.program.Layout.{Layout}
use Rattle.step_meaning.specs.TypeRules.{is_scalar, is_spelled, keeps_rules, is_scalar_type, is_result_type}
use Rattle.step_meaning.specs.ExpressionTypes.{pointer_to, is_void}
use Rattle.step_meaning.specs.Identifiers.{is_name}
use Rattle.step_meaning.proofs.Ranges.{false_is_not_true, and_true, left_of_and}
use Rattle.typing_rules.specs.Checked.{kept}
use Rattle.typing_rules.specs.Syntax.{Spelled, Parameter}
use Rattle.typing_rules.specs.Environment.{Environment, is_reserved, specified, with_stars, spelled_type}
use Rattle.typing_rules.specs.Declarations.{layers, layered, is_complete, is_within_limit, is_struct, is_complete_in}
use Rattle.typing_rules.specs.FileScope.{Program, seen_now}
use Rattle.typing_rules.specs.Functions.{adjusted, name_of, place_of_parameter, is_repeated, with_parameters, is_wrong_parameter, parameter, parameters}
use Rattle.typing_rules.proofs.ObjectTypes.{has_elements}
use Rattle.typing_laws.specs.SmallTypes.{WhereOk}
use Rattle.typing_laws.specs.ParsedSyntax.{HasName, IsNamed}
use Rattle.typing_laws.proofs.CheckedValues.{then_holds, then_known}
use Rattle.typing_laws.proofs.EachOf.{each_append}
use Rattle.typing_laws.proofs.DeclaredNames.{declared_then}
use Rattle.typing_laws.proofs.DeclaredTypes.{HaveSizes, layers_fit, layered_elements, specified_elements, declared_keeps}
use Rattle.typing_laws.proofs.SmallPrograms.{tags_counted}
use Rattle.typing_laws.proofs.TypedValues.{is_value_type, scalar_valued}

-- ---- results

-- there is no array in it
abbrev pub no_array : CType → Bool
no_array (type.Pointer' b (more_of-CType t end_of-CType)) = no_array t
no_array (type.Array' b t n) = false
no_array t = true

stars_no_array : (n : ℕ) (t : CType) → no_array t ≡ true → no_array (with_stars n t) ≡ true
unfolding with_stars
stars_no_array zero t h = h
stars_no_array (suc n) t h = stars_no_array n (pointer_to t) h

specified_no_array : (g : Environment) (x : Specifier) → WhereOk (λ t. no_array t ≡ true) (specified g x)
unfolding specified
specified_no_array g (sp.Integer x) = refl
specified_no_array g (sp.Void t) = refl
specified_no_array g (sp.Struct t tag) = then_known (λ (t : CType). no_array t ≡ true) (kept _ _) _ (λ n e. refl)

pub spelled_no_array : (g : Environment) (x : Spelled) → WhereOk (λ t. no_array t ≡ true) (spelled_type g x)
unfolding spelled_type
spelled_no_array g x = then_holds (λ (t : CType). no_array t ≡ true) (λ (t : CType). no_array t ≡ true) (specified g x.specifier) _ (specified_no_array g x.specifier) (λ t h. stars_no_array x.stars t h)

elements_of_spelled : (t : CType) → no_array t ≡ true → has_elements t ≡ true
elements_of_spelled type.Void h = refl
elements_of_spelled (type.Int k) h = refl
elements_of_spelled (type.Pointer' b (more_of-CType t end_of-CType)) h = elements_of_spelled t h
elements_of_spelled (type.Array' b t n) h = false_is_not_true h
elements_of_spelled (type.Struct n) h = refl

within_of_spelled : (ls : List Layout) (t : CType) → no_array t ≡ true → is_within_limit ls t ≡ true
unfolding is_within_limit
within_of_spelled ls type.Void h = refl
within_of_spelled ls (type.Int k) h = refl
within_of_spelled ls (type.Pointer' b (more_of-CType t end_of-CType)) h = within_of_spelled ls t h
within_of_spelled ls (type.Array' b t n) h = false_is_not_true h
within_of_spelled ls (type.Struct n) h = refl

-- a complete type without an array is one that a type name spells
complete_spelled : (c k : ℕ) (t : CType) → no_array t ≡ true → is_complete c k t ≡ true → is_spelled t ≡ true
unfolding is_complete
complete_spelled c k type.Void h e = e
complete_spelled c k (type.Int i) h e = refl
complete_spelled c k (type.Pointer' b (more_of-CType type.Void end_of-CType)) h e = e
complete_spelled c k (type.Pointer' b (more_of-CType (type.Int i) end_of-CType)) h e = refl
complete_spelled c k (type.Pointer' b (more_of-CType (type.Pointer' d t) end_of-CType)) h e = complete_spelled c k (type.Pointer' d t) h e
complete_spelled c k (type.Pointer' b (more_of-CType (type.Array' d t n) end_of-CType)) h e = false_is_not_true h
complete_spelled c k (type.Pointer' b (more_of-CType (type.Struct n) end_of-CType)) h e = refl
complete_spelled c k (type.Array' b t n) h e = false_is_not_true h
complete_spelled c k (type.Struct n) h e = refl

scalar_of_complete : (c k : ℕ) (t : CType) → no_array t ≡ true → is_complete c k t ≡ true → is_struct t ≡ false → is_scalar t ≡ true
unfolding is_complete
scalar_of_complete c k type.Void h e s = e
scalar_of_complete c k (type.Int i) h e s = refl
scalar_of_complete c k (type.Pointer' b t) h e s = refl
scalar_of_complete c k (type.Array' b t n) h e s = h
scalar_of_complete c k (type.Struct n) h e s = sym s

-- a result that may be declared, where no pointer to `void` may
pub record ResultRight (ls : List Layout) (r : CType) : Type 0 where
  pub result : is_result_type ls r ≡ true
  pub valued : is_value_type (length ls) r ≡ true

complete_result : (ls : List Layout) (r : CType) → no_array r ≡ true → is_complete (length ls) (length ls) r ≡ true → is_struct r ≡ false → ResultRight ls r
complete_result ls r h e s =
    let scalar : is_scalar r ≡ true = scalar_of_complete (length ls) (length ls) r h e s in
    let keep : keeps_rules ls r ≡ true = declared_keeps ls (length ls) r (elements_of_spelled r h) e (within_of_spelled ls r h) in
    record { result = by r (and_true (and_true scalar keep) (complete_spelled (length ls) (length ls) r h e)); valued = scalar_valued (length ls) r scalar e }
  where
    by : (t : CType) → (is_scalar_type ls t && is_spelled t) ≡ true → is_result_type ls t ≡ true
    by type.Void e = refl
    by (type.Int k) e = e
    by (type.Pointer' b t) e = e
    by (type.Array' b t n) e = e
    by (type.Struct n) e = e

void_result : (ls : List Layout) (r : CType) → is_void r ≡ true → ResultRight ls r
void_result ls type.Void e = record { result = refl; valued = refl }
void_result ls (type.Int k) e = false_is_not_true e
void_result ls (type.Pointer' b t) e = false_is_not_true e
void_result ls (type.Array' b t n) e = false_is_not_true e
void_result ls (type.Struct n) e = false_is_not_true e

pub result_right : (ls : List Layout) (r : CType) → no_array r ≡ true → not (is_void r || (is_complete (length ls) (length ls) r || false)) ≡ false → is_struct r ≡ false → ResultRight ls r
result_right ls r h e s = by (is_void r) refl (is_complete (length ls) (length ls) r) refl e
  where
    by : (v : Bool) → is_void r ≡ v → (c : Bool) → is_complete (length ls) (length ls) r ≡ c → not (v || (c || false)) ≡ false → ResultRight ls r
    by true v c i e = void_result ls r v
    by false v true i e = complete_result ls r h i s
    by false v false i e = absurd (cc e)

-- ---- parameters

pub record ParameterRight (ls : List Layout) (d : Named) : Type 0 where
  pub scalar : is_scalar d.ctype ≡ true
  pub keep : keeps_rules ls d.ctype ≡ true

adjusted_scalar : (c k : ℕ) (t : CType) → is_complete c k (adjusted t) ≡ true → is_struct (adjusted t) ≡ false → is_scalar (adjusted t) ≡ true
unfolding is_complete
adjusted_scalar c k type.Void e s = e
adjusted_scalar c k (type.Int i) e s = refl
adjusted_scalar c k (type.Pointer' b t) e s = refl
adjusted_scalar c k (type.Array' b (more_of-CType t end_of-CType) n) e s = refl
adjusted_scalar c k (type.Struct n) e s = sym s

adjusted_elements : (t : CType) → has_elements t ≡ true → has_elements (adjusted t) ≡ true
adjusted_elements type.Void h = h
adjusted_elements (type.Int i) h = h
adjusted_elements (type.Pointer' b t) h = h
adjusted_elements (type.Array' b (more_of-CType t end_of-CType) n) h = left_of_and _ _ h
adjusted_elements (type.Struct n) h = h

-- parameters that are declared where no pointer to `void` may be
abbrev pub ParametersRight : List Layout → List Named → Type 0
ParametersRight ls ps = AllByRecursion (ParameterRight ls) ps

parameter_right : (p : Program) (ps : List Named) (x : Parameter) → ParametersRight p.layouts ps → WhereOk (ParametersRight p.layouts) (parameter p false ps x)
unfolding parameter
parameter_right p ps x h =
    let Q : List Named → Type 0 = ParametersRight p.layouts in
    then_holds (λ (t : CType). has_elements t ≡ true) Q (specified (seen_now p) x.specifier) _ (specified_elements (seen_now p) x.specifier) (λ base b.
    then_holds HaveSizes Q (layers (with_parameters (seen_now p) ps) 1 x.modifiers) _ (layers_fit (with_parameters (seen_now p) ps) 1 x.modifiers refl) (λ ls sizes.
    let name : List ℕ = name_of p x.name in
    let t : CType = layered ls base in
    declared_then Q (seen_now p) (place_of_parameter x) (is_repeated ps name) (is_wrong_parameter (seen_now p) false t) true (is_reserved (seen_now p) name) (adjusted t) _ (λ may.
    let complete : is_complete (length p.layouts) (length p.layouts) (adjusted t) ≡ true = subst (λ n. is_complete (length p.layouts) n (adjusted t) ≡ true) (tags_counted p) (or_false (is_complete_in (seen_now p) (adjusted t)) may.right) in
    each_append (ParameterRight p.layouts) ps _ h (
      record {
        scalar = adjusted_scalar (length p.layouts) (length p.layouts) t complete may.value;
        keep = declared_keeps p.layouts (length p.layouts) (adjusted t) (adjusted_elements t (layered_elements ls base sizes b)) complete may.small;
      },
      tt,
    ))))
  where
    or_false : (b : Bool) → not (b || false) ≡ false → b ≡ true
    or_false true e = refl
    or_false false e = absurd (cc e)

pub parameters_right : (p : Program) (ps : List Named) (xs : List Parameter) → ParametersRight p.layouts ps → WhereOk (ParametersRight p.layouts) (parameters p false ps xs)
unfolding parameters
parameters_right p ps [] h = h
parameters_right p ps (x ∷ xs) h = then_holds (ParametersRight p.layouts) (ParametersRight p.layouts) (parameter p false ps x) _ (parameter_right p ps x h) (λ qs k. parameters_right p qs xs k)

-- ---- names of parameters

abbrev pub HaveNames : List Named → Type 0
HaveNames ps = AllByRecursion (λ d. IsTrue (is_name d.name)) ps

parameter_named : (p : Program) (allocation : Bool) (ps : List Named) (x : Parameter) → IsNamed p.text x → HaveNames ps → WhereOk HaveNames (parameter p allocation ps x)
unfolding parameter
parameter_named p allocation ps x i h =
    then_known HaveNames (specified (seen_now p) x.specifier) _ (λ base e.
    then_known HaveNames (layers (with_parameters (seen_now p) ps) 1 x.modifiers) _ (λ ls k.
    let name : List ℕ = name_of p x.name in
    let t : CType = layered ls base in
    declared_then HaveNames (seen_now p) (place_of_parameter x) (is_repeated ps name) (is_wrong_parameter (seen_now p) allocation t) true (is_reserved (seen_now p) name) (adjusted t) _ (λ may.
    each_append (λ d. IsTrue (is_name d.name)) ps _ h (by x.name i, tt))))
  where
    by : (o : Option Leaf) → HasName p.text o → IsTrue (is_name (name_of p o))
    by None i = absurd i
    by (Some t) i = i

pub parameters_named : (p : Program) (allocation : Bool) (ps : List Named) (xs : List Parameter) → AllByRecursion (IsNamed p.text) xs → HaveNames ps → WhereOk HaveNames (parameters p allocation ps xs)
unfolding parameters
parameters_named p allocation ps [] i h = h
parameters_named p allocation ps (x ∷ xs) i h = then_holds HaveNames HaveNames (parameter p allocation ps x) _ (parameter_named p allocation ps x i.0 h) (λ qs k. parameters_named p allocation qs xs i.1 k)
