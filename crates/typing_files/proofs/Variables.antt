-- Variables of file scope, step by step, and what each keeps.
use Rattle.std.proofs.Common.{◌≡◌, ℕ, ◌≤◌, true, false, ◌||◌, not, List, [], ◌∷◌, length, Ok, Err, refl, sym, ap, subst, ◌∙◌}
use Rattle.std.proofs.lemmas.Bool.{le-leb}
use Rattle.c_words.specs.declared.word.Leaf.{Leaf}
use Rattle.c_grammar.specs.declared.types.Specifier.{Specifier}
use Rattle.c_grammar.specs.declared.types.Specifier.TheVariants as spec
use Rattle.step_meaning.specs.declared.value.CType.{CType}
use Rattle.step_meaning.specs.declared.value.CType.TheVariants as type
use Rattle.step_meaning.specs.declared.value.Value.{Value}
use Rattle.step_meaning.specs.TypeRules.{keeps_rules}
use Rattle.typing_rules.specs.declared.fault.TypeFault.TheVariants.{Unknown}
use Rattle.typing_rules.specs.Checked.{Checked, ◌>>=◌, kept}
use Rattle.typing_rules.specs.Syntax.{Declared, Declarator}
use Rattle.typing_rules.specs.Environment.{Environment, place_of, bytes_in, is_reserved, tag_number, specified}
use Rattle.typing_rules.specs.Declarations.{Layer, layers, layered, count_of, is_complete, is_complete_in, declarable}
use Rattle.typing_rules.specs.FileScope.{Program, seen_now, bytes, is_known, is_main_name, first_values, with_variable, with_values, variable, variables}
use Rattle.typing_rules.proofs.ObjectTypes.{has_elements}
use Rattle.typing_laws.specs.SmallTypes.{WhereOk}
use Rattle.typing_laws.proofs.CheckedValues.{then_holds}
use Rattle.typing_laws.proofs.EachOf.{each_append}
use Rattle.typing_laws.proofs.DeclaredNames.{declared_then}
use Rattle.typing_laws.proofs.DeclaredTypes.{HaveSizes, layers_fit, layered_elements, declared_keeps}
use Rattle.typing_laws.proofs.SmallPrograms.{tags_counted, right_of_or, with_variable_small, with_values_small}
use Rattle.typing_declarators.specs.declared.name.DeclaredName.{DeclaredName}
use Rattle.typing_declarators.specs.Names.{declared_type, object_type}
use Rattle.typing_declarators.specs.Types.{is_specified}
use Rattle.typing_scopes.specs.declared.known.Known.{Known}
use Rattle.typing_scopes.specs.Known.{program, known, state}
use Rattle.typing_files.specs.Points.{IsSteady, IsAtFile}
use Rattle.typing_files.specs.Runs.{run}
use Rattle.typing_files.proofs.Outcomes.{then_same}
use Rattle.typing_files.proofs.Points.{sees, still_at}
use Rattle.typing_files.specs.Variables.{variable_name, variable_type, variable_of, MayBeVariable}

-- ---- a variable is its type and then its values

pub variable_by : (base : CType) (d : Declared) (p : Program) → variable base d p ≡ (variable_type p base d >>= (λ t. variable_of d t p))
unfolding variable variable_type declared_type object_type variable_of
variable_by base d p = by (layers (seen_now p) (count_of d.initialiser) d.declarator.modifiers)
  where
    judged : CType → Checked (Unit {0})
    judged t = declarable (seen_now p) (place_of d.declarator.name) (is_known p (bytes p d.declarator.name)) (is_main_name (bytes p d.declarator.name) || not (is_complete_in (seen_now p) t)) false (is_reserved (seen_now p) (bytes p d.declarator.name)) t

    after : (t : CType) (c : Checked (Unit {0})) → (c >>= (λ u. variable_of d t p)) ≡ ((c >>= (λ u. Ok t)) >>= (λ t. variable_of d t p))
    after t (Ok u) = refl
    after t (Err e) = refl

    by : (c : Checked (List Layer)) → (c >>= (λ ls. judged (layered ls base) >>= (λ u. variable_of d (layered ls base) p))) ≡ ((c >>= (λ ls. judged (layered ls base) >>= (λ u. Ok (layered ls base)))) >>= (λ t. variable_of d t p))
    by (Ok ls) = after (layered ls base) (judged (layered ls base))
    by (Err e) = refl

-- ---- what a variable keeps

pub specified_elements : (t : CType) → is_specified t ≡ true → has_elements t ≡ true
specified_elements type.Void e = refl
specified_elements (type.Int k) e = refl
specified_elements (type.Struct n) e = refl
specified_elements (type.Pointer' b t) e = absurd (cc e)
specified_elements (type.Array' b t n) e = absurd (cc e)

pub specified_is : (g : Environment) (x : Specifier) → WhereOk (λ t. is_specified t ≡ true) (specified g x)
unfolding specified
specified_is g (spec.Integer i) = refl
specified_is g (spec.Void t) = refl
specified_is g (spec.Struct t tag) = by (kept (Unknown (place_of tag)) (tag_number g.tags (bytes_in g tag)))
  where
    by : (c : Checked ℕ) → WhereOk (λ t. is_specified t ≡ true) (c >>= (λ n. Ok (type.Struct n)))
    by (Ok n) = refl
    by (Err e) = tt

pub variable_may : (p : Program) (base : CType) (d : Declared) → is_specified base ≡ true → 1 ≤ count_of d.initialiser → WhereOk (MayBeVariable p d.declarator.name) (variable_type p base d)
unfolding variable_type declared_type object_type
variable_may p base d b some =
    let name : List ℕ = bytes p d.declarator.name in
    let P : CType → Type 0 = MayBeVariable p d.declarator.name in
    then_holds HaveSizes P (layers (seen_now p) (count_of d.initialiser) d.declarator.modifiers) _ (layers_fit (seen_now p) (count_of d.initialiser) d.declarator.modifiers (le-leb 1 (count_of d.initialiser) some)) (λ ls sizes.
    let t : CType = layered ls base in
    declared_then P (seen_now p) (place_of d.declarator.name) (is_known p name) (is_main_name name || not (is_complete_in (seen_now p) t)) false (is_reserved (seen_now p) name) t _ (λ may.
    let complete : is_complete_in (seen_now p) t ≡ true = right_of_or (is_main_name name) (is_complete_in (seen_now p) t) may.right in
    record {
      new = may.new;
      complete = complete;
      small = may.small;
      keep = declared_keeps p.layouts (length p.layouts) t (layered_elements ls base sizes (specified_elements base b)) (subst (λ n. is_complete (length p.layouts) n t ≡ true) (tags_counted p) complete) may.small;
    }))

pub with_variable_steady : (p : Program) (name : Leaf) (t : CType) → MayBeVariable p name t → IsSteady p → IsSteady (with_variable p (bytes p name) t)
with_variable_steady p name t may h = record {
  small = with_variable_small p (bytes p name) t may.complete may.small h.small;
  structs = h.structs;
  globals = each_append (λ d. keeps_rules p.layouts d.ctype ≡ true) p.globals _ h.globals (may.keep, tt);
  names = h.names;
}

pub with_values_steady : (p : Program) (vs : List Value) → IsSteady p → IsSteady (with_values p vs)
with_values_steady p vs h = record { small = with_values_small p vs h.small; structs = h.structs; globals = h.globals; names = h.names }

-- ---- a declaration of several variables

pub variables_run : (base : CType) (ds : List Declared) (p : Program) → variables base ds p ≡ run (variable base) ds p
unfolding variables run
variables_run base [] p = refl
variables_run base (d ∷ ds) p = then_same (variable base d p) (variables base ds) (run (variable base) ds) (λ q. variables_run base ds q)

-- ---- what code makes

pub variable_of_by : (d : Declared) (t : CType) (p q : Program) → q ≡ with_variable p (bytes p d.declarator.name) t → variable_of d t p ≡ (first_values q t d.initialiser >>= (λ vs. Ok (with_values q vs)))
unfolding variable_of
variable_of_by d t p q e = ap (λ q. first_values q t d.initialiser >>= (λ vs. Ok (with_values q vs))) (sym e)

pub variable_at : (k k' : Known) (name : Leaf) (bs : List ℕ) (t u : CType) → state k' ≡ record (state k) { program = with_variable (program k) bs u } → bs ≡ bytes (program k) name → u ≡ t → MayBeVariable (program k) name t → IsAtFile k → IsAtFile k'
variable_at k k' name bs t u e named same may at =
    let p : Program = program k in
    let added : state k' ≡ record (state k) { program = with_variable p (bytes p name) t } = e ∙ ap (λ bs. record (state k) { program = with_variable p bs u }) named ∙ ap (λ u. record (state k) { program = with_variable p (bytes p name) u }) same in
    still_at k k' (with_variable p (bytes p name) t) added refl at (with_variable_steady p name t may at.steady)

pub values_at : (k k' : Known) (vs : List Value) → state k' ≡ record (state k) { program = with_values (program k) vs } → IsAtFile k → IsAtFile k'
values_at k k' vs e at = still_at k k' (with_values (program k) vs) e refl at (with_values_steady (program k) vs at.steady)

pub type_of_variable : (k : Known) (base : CType) (d : Declared) (n : DeclaredName) (count : ℕ) (x : Declarator) → IsAtFile k → n ≡ variable_name (program k) d.declarator.name → count ≡ count_of d.initialiser → d.declarator ≡ x → declared_type (known k) n count x.modifiers base ≡ variable_type (program k) base d
unfolding variable_type
type_of_variable k base d n count x at named counted declarator =
    ap (λ g. declared_type g n count x.modifiers base) (sees k at)
    ∙ ap (λ n. declared_type (seen_now (program k)) n count x.modifiers base) named
    ∙ ap (λ c. declared_type (seen_now (program k)) (variable_name (program k) d.declarator.name) c x.modifiers base) counted
    ∙ ap (λ y. declared_type (seen_now (program k)) (variable_name (program k) d.declarator.name) (count_of d.initialiser) y.modifiers base) (sym declarator)
