-- Variables of file scope keep a program good.
use Rattle.std.proofs.Common.{◌≡◌, ℕ, suc, ◌+◌, true, false, ◌||◌, not, List, [], ◌∷◌, ◌++◌, length, Option, Some, None, Ok, Err, refl, sym, ap, subst, ◌∙◌, arith, length-append}
use Rattle.step_meaning.specs.declared.value.CType.{CType}
use Rattle.step_meaning.specs.declared.value.Value.{Value}
use Rattle.step_meaning.specs.declared.program.Core.{Core}
use Rattle.step_meaning.specs.declared.program.Declared.{Declared as Named}
use Rattle.step_meaning.specs.Settings.{Setting}
use Rattle.step_meaning.specs.Types.{object_cells}
use Rattle.step_meaning.specs.TypeRules.{is_scalar, keeps_rules}
use Rattle.step_meaning.specs.InitialValues.{IsInitialValue, AreInitialValues, AllInitialised}
use Rattle.step_meaning.proofs.LaterLayouts.{same_cells}
use Rattle.typing_rules.specs.Checked.{Checked, kept}
use Rattle.typing_rules.specs.Syntax.{Declared, Initialiser}
use Rattle.typing_rules.specs.Environment.{place_of, is_reserved}
use Rattle.typing_rules.specs.Declarations.{layers, layered, count_of, is_complete, is_complete_in}
use Rattle.typing_rules.specs.Initialisers.{zero_value, given_value, initial_values, uninitialised}
use Rattle.typing_rules.specs.FileScope.{Program, seen_now, bytes, is_known, is_main_name, first_values, with_variable, variable, variables}
use Rattle.typing_rules.specs.declared.fault.TypeFault.TheVariants.{BadInitialiser}
use Rattle.typing_rules.proofs.ObjectTypes.{has_elements}
use Rattle.typing_laws.specs.SmallTypes.{WhereOk}
use Rattle.typing_laws.specs.ParsedSyntax.{IfThere, InitialiserParsed, DeclaredParsed, AllDeclaredParsed}
use Rattle.typing_laws.proofs.CheckedValues.{then_holds, then_known, weaker, where_ok}
use Rattle.typing_laws.proofs.EachOf.{each_append}
use Rattle.typing_laws.proofs.DeclaredNames.{declared_then}
use Rattle.typing_laws.proofs.DeclaredTypes.{HaveSizes, layers_fit, layered_elements, declared_keeps, count_positive}
use Rattle.typing_laws.proofs.SmallPrograms.{tags_counted, right_of_or}
use Rattle.typing_laws.proofs.ObjectParts.{cells_scalar}
use Rattle.typing_laws.proofs.FilledCells.{AreCells, cells_mapped, cells_fit}
use Rattle.typing_laws.proofs.InitialConstants.{given_initial, zero_initial, cells_initial}
use Rattle.typing_laws.proofs.Completion.{IsRight, Completes, file_agrees}
use Rattle.typing_laws.proofs.GrowingPrograms.{SoundIn, Good, Goes, variable_leads, values_lead}

-- what file scope sees of a core
abbrev pub file_setting : Core → Setting
file_setting q = record { layouts = q.layouts; globals = q.globals; locals = []; registers = []; file_ghosts = []; ghosts = [] }

initialised_append : (q : Core) (i : ℕ) (ds : List Named) (vss : List (List Value)) (d : Named) (vs : List Value) → AllInitialised q i ds vss → AreInitialValues q (i + length ds) (object_cells q.layouts d.ctype) vs
    → AllInitialised q i (ds ++ (d ∷ [])) (vss ++ (vs ∷ []))
initialised_append q i [] [] d vs h k = (subst (λ n. AreInitialValues q n (object_cells q.layouts d.ctype) vs) (zero_more i) k, tt)
  where
    zero_more : (i : ℕ) → i + 0 ≡ i
    zero_more i = omega arith
initialised_append q i (x ∷ ds) (y ∷ vss) d vs h k = (h.0, initialised_append q (suc i) ds vss d vs h.1 (subst (λ n. AreInitialValues q n (object_cells q.layouts d.ctype) vs) (next i (length ds)) k))
  where
    next : (i n : ℕ) → i + suc n ≡ suc i + n
    next i n = omega arith
initialised_append q i [] (y ∷ vss) d vs h k = absurd h
initialised_append q i (x ∷ ds) [] d vs h k = absurd h

-- ---- the values that a variable starts with

module _ (p : Program) (right : IsRight p) (name : List ℕ) (t : CType) (keep : keeps_rules p.layouts t ≡ true) where
  abbrev after : Program
  after = with_variable p name t

  pub variable_right : IsRight after
  variable_right = record { structs = right.structs; globals = each_append (λ d. keeps_rules p.layouts d.ctype ≡ true) p.globals _ right.globals (keep, tt); results = right.results; library = right.library }

  -- in each core that the program with this variable becomes
  abbrev StartsWith : List Value → Type 0
  StartsWith vs = (q : Core) → Completes q after → AreInitialValues q (length p.globals) (object_cells q.layouts t) vs

  module _ (q : Core) (done : Completes q after) where
    last : length after.globals ≡ suc (length p.globals)
    last = omega (arith, length-append p.globals (record { name = name; ctype = t } ∷ []))

    cells_stay : object_cells p.layouts t ≡ object_cells q.layouts t
    cells_stay = sym (ap (λ ls. object_cells ls t) done.layouts ∙ same_cells p.layouts done.more_layouts (length p.layouts) t keep)

    zero_fits : (t : CType) → is_scalar t ≡ true → IsInitialValue q (length p.globals) t (zero_value t)
    zero_fits t i = zero_initial q (file_setting q) after.globals done.more_globals p.layouts done.more_layouts right.structs variable_right.globals done.layouts done.globals refl (length p.globals) last t i

    in_order : (vs : List Value) → AreCells (λ t v. IsInitialValue q (length p.globals) t v) (object_cells p.layouts t) vs → AreInitialValues q (length p.globals) (object_cells q.layouts t) vs
    in_order vs h = subst (λ ts. AreInitialValues q (length p.globals) ts vs) cells_stay (cells_initial q (file_setting q) after.globals done.more_globals p.layouts done.more_layouts right.structs variable_right.globals done.layouts done.globals refl (length p.globals) last (object_cells p.layouts t) vs h)

    nothing_fits : AreInitialValues q (length p.globals) (object_cells q.layouts t) (uninitialised (seen_now after) t)
    nothing_fits = in_order (uninitialised (seen_now after) t) (cells_mapped (λ t v. IsInitialValue q (length p.globals) t v) zero_value (object_cells p.layouts t) zero_fits (cells_scalar p.layouts t))

    values_fit : (x : Initialiser) → InitialiserParsed p.text x → WhereOk (AreInitialValues q (length p.globals) (object_cells q.layouts t)) (initial_values (seen_now after) after.globals t x)
    values_fit x c =
        weaker (AreCells (λ t v. IsInitialValue q (length p.globals) t v) (object_cells p.layouts t)) (AreInitialValues q (length p.globals) (object_cells q.layouts t)) (initial_values (seen_now after) after.globals t x) in_order
        (cells_fit q (file_setting q) (seen_now after) (file_agrees q (file_setting q) after variable_right done refl refl) right.structs Value (λ x at t y. kept (BadInitialiser at) (given_value (seen_now after) after.globals x t y)) zero_value (λ t v. IsInitialValue q (length p.globals) t v)
        (λ x at t y i k h. given_initial q (file_setting q) after.globals done.more_globals p.layouts done.more_layouts right.structs variable_right.globals done.layouts done.globals refl (length p.globals) last x at t y i h) zero_fits x c t keep)

  each_core : (c : Checked (List Value)) → ((q : Core) → Completes q after → WhereOk (AreInitialValues q (length p.globals) (object_cells q.layouts t)) c) → WhereOk StartsWith c
  each_core (Ok vs) h = h
  each_core (Err e) h = tt

  pub first_values_fit : (x : Option Initialiser) → IfThere (InitialiserParsed p.text) x → WhereOk StartsWith (first_values after t x)
  first_values_fit None c = λ q done. nothing_fits q done
  first_values_fit (Some x) c = each_core (initial_values (seen_now after) after.globals t x) (λ q done. values_fit q done x c)

-- ---- declarations

pub variable_text : (base : CType) (d : Declared) (p : Program) → WhereOk (λ p'. p'.text ≡ p.text) (variable base d p)
unfolding variable
variable_text base d p =
    then_known (λ (p' : Program). p'.text ≡ p.text) (layers (seen_now p) (count_of d.initialiser) d.declarator.modifiers) _ (λ ls e.
    let name : List ℕ = bytes p d.declarator.name in
    let t : CType = layered ls base in
    declared_then (λ (p' : Program). p'.text ≡ p.text) (seen_now p) (place_of d.declarator.name) (is_known p name) (is_main_name name || not (is_complete_in (seen_now p) t)) false (is_reserved (seen_now p) name) t _ (λ may.
    then_known (λ (p' : Program). p'.text ≡ p.text) (first_values (with_variable p name t) t d.initialiser) _ (λ vs i. refl)))

pub variable_good : (base : CType) (d : Declared) (p : Program) → has_elements base ≡ true → DeclaredParsed p.text d → Good p → WhereOk (Goes p) (variable base d p)
unfolding variable
variable_good base d p b c h =
    then_holds HaveSizes (Goes p) (layers (seen_now p) (count_of d.initialiser) d.declarator.modifiers) _ (layers_fit (seen_now p) (count_of d.initialiser) d.declarator.modifiers (count_positive p.text d.initialiser c.1)) (λ ls sizes.
    let name : List ℕ = bytes p d.declarator.name in
    let t : CType = layered ls base in
    declared_then (Goes p) (seen_now p) (place_of d.declarator.name) (is_known p name) (is_main_name name || not (is_complete_in (seen_now p) t)) false (is_reserved (seen_now p) name) t _ (λ may.
    let complete : is_complete (length p.layouts) (length p.layouts) t ≡ true = subst (λ n. is_complete (length p.layouts) n t ≡ true) (tags_counted p) (right_of_or (is_main_name name) (is_complete_in (seen_now p) t) may.right) in
    let keep : keeps_rules p.layouts t ≡ true = declared_keeps p.layouts (length p.layouts) t (layered_elements ls base sizes b) complete may.small in
    then_holds (StartsWith p h.right name t keep) (Goes p) (first_values (with_variable p name t) t d.initialiser) _ (first_values_fit p h.right name t keep d.initialiser c.1) (λ vs starts.
    let right : IsRight (with_variable p name t) = variable_right p h.right name t keep in
    record {
      good = record {
        right = record { structs = right.structs; globals = right.globals; results = right.results; library = right.library };
        rest = h.rest;
        functions = h.functions;
        sound = λ q done.
            let earlier : SoundIn q p h.rest = h.sound q (variable_leads p name t q (values_lead (with_variable p name t) vs q done)) in
            record {
              initial = initialised_append q 0 p.globals p.initial (record { name = name; ctype = t }) vs earlier.initial (subst (λ n. AreInitialValues q n (object_cells q.layouts t) vs) (zero_plus (length p.globals)) (starts q (values_lead (with_variable p name t) vs q done)));
              functions = earlier.functions;
            };
      };
      leads = λ q done. variable_leads p name t q (values_lead (with_variable p name t) vs q done);
    })))
  where
    zero_plus : (n : ℕ) → n ≡ 0 + n
    zero_plus n = omega arith

pub variables_good : (base : CType) (ds : List Declared) (p : Program) → has_elements base ≡ true → AllDeclaredParsed p.text ds → Good p → WhereOk (Goes p) (variables base ds p)
unfolding variables
variables_good base [] p b c h = record { good = h; leads = λ q done. done }
variables_good base (d ∷ ds) p b c h =
    then_known (Goes p) (variable base d p) _ (λ p' e.
    let step : Goes p p' = where_ok (Goes p) (variable base d p) p' e (variable_good base d p b c.0 h) in
    let same : p'.text ≡ p.text = where_ok (λ p'. p'.text ≡ p.text) (variable base d p) p' e (variable_text base d p) in
    weaker (Goes p') (Goes p) (variables base ds p') (λ p'' k. record { good = k.good; leads = λ q done. step.leads q (k.leads q done) })
    (variables_good base ds p' b (subst (λ text. AllDeclaredParsed text ds) (sym same) c.1) step.good))
