-- The type of a parameter, step by step.
use Rattle.std.proofs.Common.{◌≡◌, Bool, true, false, ◌&&◌, ◌||◌, not, List, [], ◌∷◌, map, Ok, refl, sym, ap, ◌∙◌}
use Rattle.std.specs.List.{AllByRecursion}
use Rattle.c_lexer.specs.declared.token.Place.{Place}
use Rattle.c_grammar.specs.declared.types.Specifier.{Specifier}
use Rattle.c_grammar.specs.declared.types.Specifier.TheVariants as spec
use Rattle.step_meaning.specs.declared.value.CType.{CType}
use Rattle.step_meaning.specs.declared.value.CType.TheVariants as type
use Rattle.step_meaning.specs.declared.program.Declared.{Declared as Named}
use Rattle.step_meaning.specs.Library.{void_pointer}
use Rattle.step_meaning.proofs.SameTypes.{same_type_equal}
use Rattle.typing_rules.specs.Checked.{Checked, ◌>>=◌}
use Rattle.typing_rules.specs.Syntax.{Parameter}
use Rattle.typing_rules.specs.Environment.{Environment, is_reserved, specified}
use Rattle.typing_rules.specs.Declarations.{Layer, Pointing, Sized, layers, layered, is_complete, is_complete_in, declarable}
use Rattle.typing_rules.specs.FileScope.{Program, seen_now}
use Rattle.typing_rules.specs.Functions.{adjusted, name_of, place_of_parameter, is_repeated, with_parameters, is_wrong_parameter, is_void_pointer, parameter, parameters}
use Rattle.typing_laws.specs.SmallTypes.{WhereOk}
use Rattle.typing_laws.proofs.CheckedValues.{then_known}
use Rattle.typing_laws.proofs.DeclaredNames.{declared_then}
use Rattle.typing_declarators.specs.declared.name.DeclaredName.{DeclaredName}
use Rattle.typing_declarators.specs.Layers.{counted}
use Rattle.typing_declarators.specs.Names.{object_type}
use Rattle.typing_declarators.specs.Types.{is_specified, HasElements}
use Rattle.typing_files.specs.Runs.{run}
use Rattle.typing_files.proofs.Outcomes.{then_same, then_then}
use Rattle.typing_scopes.specs.declared.known.Known.{Known}
use Rattle.typing_scopes.specs.Known.{program, known}
use Rattle.typing_functions.proofs.ParameterScopes.{sees_parameters}
use Rattle.typing_functions.specs.Parameters.{IsInFunction, decayed, parameter_name, adjusted_type, parameter_type, whole_type, void_pointer_type, IsPlain, MayBeParameter, with_parameter}

-- ---- an array decays

adjusted_plain : (t : CType) → is_specified t ≡ true → t ≡ adjusted t
adjusted_plain type.Void e = refl
adjusted_plain (type.Int k) e = refl
adjusted_plain (type.Struct n) e = refl
adjusted_plain (type.Pointer' b t) e = absurd (cc e)
adjusted_plain (type.Array' b t n) e = absurd (cc e)

pub decays : (ls : List Layer) (base : CType) → is_specified base ≡ true → layered (decayed ls) base ≡ adjusted (layered ls base)
unfolding layered
decays [] base s = adjusted_plain base s
decays (Pointing ∷ ls) base s = refl
decays (Sized n ∷ ls) base s = refl

pub decayed_counted : (ls : List Layer) → map counted (decayed ls) ≡ decayed (map counted ls)
decayed_counted [] = refl
decayed_counted (l ∷ ls) = refl

pub decayed_elements : (ls : List Layer) → AllByRecursion HasElements ls → AllByRecursion HasElements (decayed ls)
decayed_elements [] h = tt
decayed_elements (l ∷ ls) h = (tt, h.1)

-- counting changes no pointer
pub void_counted : (ls : List Layer) (base : CType) → is_void_pointer (layered (map counted ls) base) ≡ is_void_pointer (layered ls base)
unfolding layered
void_counted [] base = refl
void_counted (Pointing ∷ []) base = refl
void_counted (Pointing ∷ (Pointing ∷ ls)) base = refl
void_counted (Pointing ∷ (Sized n ∷ ls)) base = refl
void_counted (Sized n ∷ ls) base = refl

or_false : (b : Bool) → (b || false) ≡ b
or_false true = refl
or_false false = refl

module _ (g : Environment) (n : DeclaredName) (base : CType) (ls : List Layer) where
  abbrev judged : Bool → Bool → CType → Checked CType
  judged wrong is_value t = declarable g n.place n.again wrong is_value n.reserved t >>= (λ u. Ok t)

  pub object_adjusted : (allocation : Bool) → IsPlain n → is_specified base ≡ true → (allocation && is_void_pointer (layered ls base)) ≡ false → object_type g n (decayed ls) base ≡ adjusted_type g allocation n ls base
  unfolding object_type adjusted_type
  object_adjusted allocation plain s e =
      ap (λ t. judged (n.wrong || not (is_complete_in g t)) n.is_value t) (decays ls base s)
      ∙ ap (λ w. judged (w || not (is_complete_in g (adjusted (layered ls base)))) n.is_value (adjusted (layered ls base))) plain.right
      ∙ ap (λ v. judged (not (is_complete_in g (adjusted (layered ls base)))) v (adjusted (layered ls base))) plain.value
      ∙ ap (λ c. judged (not c) true (adjusted (layered ls base))) (sym (or_false (is_complete_in g (adjusted (layered ls base)))) ∙ ap (λ c. is_complete_in g (adjusted (layered ls base)) || c) (sym e))

  pub void_adjusted : is_void_pointer (layered ls base) ≡ true → void_pointer_type g n ≡ adjusted_type g true n ls base
  unfolding void_pointer_type adjusted_type is_complete
  void_adjusted e = ap (λ t. judged (is_wrong_parameter g true t) true (adjusted t)) (sym (same_type_equal (layered ls base) void_pointer e))

-- ---- a parameter is its type and then its name

pub parameter_by : (p : Program) (allocation : Bool) (ps : List Named) (x : Parameter) → parameter p allocation ps x ≡ (whole_type p allocation ps x >>= (λ t. Ok (with_parameter p x t ps)))
unfolding parameter whole_type parameter_type adjusted_type
parameter_by p allocation ps x =
    then_same (specified (seen_now p) x.specifier) (λ base. found base >>= (λ ls. judged (layered ls base) >>= (λ u. made (adjusted (layered ls base))))) (λ base. (found base >>= (λ ls. judged (layered ls base) >>= (λ u. Ok (adjusted (layered ls base))))) >>= made) (λ base.
    then_same (found base) (λ ls. judged (layered ls base) >>= (λ u. made (adjusted (layered ls base)))) (λ ls. (judged (layered ls base) >>= (λ u. Ok (adjusted (layered ls base)))) >>= made) (λ ls. sym (then_then (judged (layered ls base)) (λ u. Ok (adjusted (layered ls base))) made))
    ∙ sym (then_then (found base) (λ ls. judged (layered ls base) >>= (λ u. Ok (adjusted (layered ls base)))) made))
    ∙ sym (then_then (specified (seen_now p) x.specifier) (λ base. found base >>= (λ ls. judged (layered ls base) >>= (λ u. Ok (adjusted (layered ls base))))) made)
  where
    found : CType → Checked (List Layer)
    found base = layers (with_parameters (seen_now p) ps) 1 x.modifiers

    judged : CType → Checked (Unit {0})
    judged t = declarable (seen_now p) (place_of_parameter x) (is_repeated ps (name_of p x.name)) (is_wrong_parameter (seen_now p) allocation t) true (is_reserved (seen_now p) (name_of p x.name)) (adjusted t)

    made : CType → Checked (List Named)
    made t = Ok (with_parameter p x t ps)

pub parameter_may : (p : Program) (allocation : Bool) (ps : List Named) (x : Parameter) → WhereOk (MayBeParameter p ps x) (whole_type p allocation ps x)
unfolding whole_type parameter_type adjusted_type
parameter_may p allocation ps x =
    let P : CType → Type 0 = MayBeParameter p ps x in
    then_known P (specified (seen_now p) x.specifier) _ (λ base e.
    then_known P (layers (with_parameters (seen_now p) ps) 1 x.modifiers) _ (λ ls i.
    declared_then P (seen_now p) (place_of_parameter x) (is_repeated ps (name_of p x.name)) (is_wrong_parameter (seen_now p) allocation (layered ls base)) true (is_reserved (seen_now p) (name_of p x.name)) (adjusted (layered ls base)) _ (λ may.
    record { new = may.new; small = may.small })))

pub parameters_run : (p : Program) (allocation : Bool) (xs : List Parameter) (ps : List Named) → parameters p allocation ps xs ≡ run (λ x ps. parameter p allocation ps x) xs ps
unfolding parameters run
parameters_run p allocation [] ps = refl
parameters_run p allocation (x ∷ xs) ps = then_same (parameter p allocation ps x) (λ qs. parameters p allocation qs xs) (run (λ x ps. parameter p allocation ps x) xs) (λ qs. parameters_run p allocation xs qs)

-- ---- what the rules see besides the parameters

pub seen_specified : (g : Environment) (ps : List Named) (x : Specifier) → specified (with_parameters g ps) x ≡ specified g x
unfolding specified
seen_specified g ps (spec.Integer i) = refl
seen_specified g ps (spec.Void t) = refl
seen_specified g ps (spec.Struct t tag) = refl

pub seen_adjusted : (g : Environment) (ps : List Named) (allocation : Bool) (n : DeclaredName) (ls : List Layer) (base : CType) → adjusted_type (with_parameters g ps) allocation n ls base ≡ adjusted_type g allocation n ls base
unfolding adjusted_type
seen_adjusted g ps allocation n ls base = refl

pub parameter_type_by : (k : Known) (allocation : Bool) (x : Parameter) (n : DeclaredName) (base : CType) → IsInFunction k → n ≡ parameter_name (program k) k.locals x → (layers (known k) 1 x.modifiers >>= (λ ls. adjusted_type (known k) allocation n ls base)) ≡ parameter_type (program k) allocation k.locals x base
unfolding parameter_type
parameter_type_by k allocation x n base at same =
    let g : Environment = with_parameters (seen_now (program k)) k.locals in
    ap (λ g. layers g 1 x.modifiers >>= (λ ls. adjusted_type g allocation n ls base)) (sees_parameters k at)
    ∙ then_same (layers g 1 x.modifiers) (λ ls. adjusted_type g allocation n ls base) (λ ls. adjusted_type (seen_now (program k)) allocation n ls base) (λ ls. seen_adjusted (seen_now (program k)) k.locals allocation n ls base)
    ∙ ap (λ n. layers g 1 x.modifiers >>= (λ ls. adjusted_type (seen_now (program k)) allocation n ls base)) same

pub specified_at : (k : Known) (x : Specifier) → IsInFunction k → specified (known k) x ≡ specified (seen_now (program k)) x
specified_at k x at = ap (λ g. specified g x) (sees_parameters k at) ∙ seen_specified (seen_now (program k)) k.locals x

pub whole_by : (p : Program) (allocation : Bool) (ps : List Named) (x : Parameter) → whole_type p allocation ps x ≡ (specified (seen_now p) x.specifier >>= parameter_type p allocation ps x)
unfolding whole_type
whole_by p allocation ps x = refl

pub same_name : (p : Program) (ps : List Named) (x : Parameter) (place : Place) (again reserved : Bool) → place ≡ place_of_parameter x → again ≡ is_repeated ps (name_of p x.name) → reserved ≡ is_reserved (seen_now p) (name_of p x.name) → record { place = place; again = again; wrong = false; is_value = true; reserved = reserved } ≡ parameter_name p ps x
same_name p ps x place again reserved e f h =
    ap (λ y. named y again reserved) e ∙ ap (λ y. named (place_of_parameter x) y reserved) f ∙ ap (λ y. named (place_of_parameter x) (is_repeated ps (name_of p x.name)) y) h
  where
    named : Place → Bool → Bool → DeclaredName
    named place again reserved = record { place = place; again = again; wrong = false; is_value = true; reserved = reserved }
