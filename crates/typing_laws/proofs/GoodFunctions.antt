-- Declarations and definitions of functions keep a program good.
use Rattle.std.proofs.Common.{◌≡◌, ℕ, zero, suc, Bool, true, false, ◌&&◌, ◌||◌, not, List, [], ◌∷◌, ◌++◌, map, take, length, Option, Some, None, Ok, refl, sym, ap, subst, ◌∙◌, append_assoc}
use Rattle.std.specs.Prelude.{slice_get, codes, is_some}
use Rattle.std.specs.List.{AllByRecursion}
use Rattle.std.specs.Str.{bytes_eq}
use Rattle.c_words.specs.declared.word.Leaf.{Leaf}
use Rattle.step_meaning.specs.declared.value.CType.{CType}
use Rattle.step_meaning.specs.declared.stmt.Stmt.{Stmt}
use Rattle.step_meaning.specs.declared.program.Core.{Core}
use Rattle.step_meaning.specs.declared.program.Declared.{Declared as Named}
use Rattle.step_meaning.specs.declared.program.Function.{Function as CoreFunction}
use Rattle.step_meaning.specs.Types.{same_type}
use Rattle.step_meaning.specs.ExpressionTypes.{is_void, parameter_types, has_body}
use Rattle.step_meaning.specs.WellFormed.{IsWellFormedFunction}
use Rattle.step_meaning.specs.Library.{int}
use Rattle.step_meaning.proofs.Ranges.{false_is_not_true, left_of_and, right_of_and}
use Rattle.step_meaning.proofs.SameTypes.{same_type_equal}
use Rattle.step_meaning.proofs.TypedMemory.{get_fits}
use Rattle.typing_laws.proofs.GrownFrames.{Longer, statements_grow}
use Rattle.typing_rules.specs.Checked.{Checked, ◌>>=◌}
use Rattle.typing_rules.specs.Syntax.{Spelled, Parameter, Statements}
use Rattle.typing_rules.specs.Environment.{is_reserved, spelled_type}
use Rattle.typing_rules.specs.Declarations.{is_struct, is_complete}
use Rattle.typing_rules.specs.Statements.{Frame, statements}
use Rattle.typing_rules.specs.FileScope.{Program, seen_now, bytes}
use Rattle.typing_rules.specs.Functions.{is_library, declares_allocation, parameters, function_number, types_of, are_same, contradicts, contradicts_earlier, is_variable, is_other_main, is_wrong_result, declarable_function, prototype, defined_function, with_function, number_or, replaced, defined_as, function}
use Rattle.typing_rules.specs.Programs.{library}
use Rattle.typing_laws.specs.SmallTypes.{WhereOk}
use Rattle.typing_laws.specs.ParsedSyntax.{BodyParsed, StatementsParsed}
use Rattle.typing_laws.proofs.CheckedValues.{then_holds, then_known, weaker, where_ok, where_some}
use Rattle.typing_laws.proofs.EachOf.{each_append, each_take, each_drop}
use Rattle.typing_laws.proofs.DeclaredNames.{not_false, none_then, none_left}
use Rattle.typing_laws.proofs.SmallPrograms.{tags_counted}
use Rattle.typing_laws.proofs.Positions.{FoundAt, found_at, none_passes, any_none, false_or_left, false_or_right}
use Rattle.typing_laws.proofs.TypedValues.{is_value_type}
use Rattle.typing_laws.proofs.SignatureTypes.{no_array, spelled_no_array, ResultRight, result_right, ParametersRight, parameters_right, HaveNames, parameters_named}
use Rattle.typing_laws.proofs.Completion.{IsLibrary, IsRight, Completes, bytes_same, bytes_itself, get_at}
use Rattle.typing_laws.proofs.GrowingPrograms.{SoundIn, Good, Goes, SameSignature, prototype_leads, replaced_leads}
use Rattle.typing_laws.proofs.FormedFunctions.{prototype_types, first_types, types_equal, prototype_formed, start_frame, defined_formed}

-- ---- the rules on a declared function

pub record MayBeFunction (p : Program) (name : List ℕ) (r : CType) (ps : List Named) (defined : Bool) : Type 0 where
  pub no_variable : is_variable p name ≡ false
  pub agrees : contradicts_earlier p name r ps defined ≡ false
  pub main : is_other_main name r ps ≡ false
  pub result : is_wrong_result p (declares_allocation name defined) r ≡ false
  pub no_struct : is_struct r ≡ false

pub declarable_function_holds : (p : Program) (t : Leaf) (r : CType) (ps : List Named) (defined : Bool) → WhereOk (λ (u : Unit {0}). MayBeFunction p (bytes p t) r ps defined) (declarable_function p t r ps defined)
unfolding declarable_function
declarable_function_holds p t r ps defined =
    let name : List ℕ = bytes p t in
    let A : Type 0 = MayBeFunction p name r ps defined in
    none_then A (is_variable p name || contradicts_earlier p name r ps defined) _ _ (λ first.
    none_then A (is_other_main name r ps || is_wrong_result p (declares_allocation name defined) r) _ _ (λ second.
    none_then A (is_struct r) _ _ (λ third.
    none_then A (is_reserved (seen_now p) name) _ _ (λ fourth.
    none_left A (record {
      no_variable = false_or_left (is_variable p name) _ first;
      agrees = false_or_right (is_variable p name) _ first;
      main = false_or_left (is_other_main name r ps) _ second;
      result = false_or_right (is_other_main name r ps) _ second;
      no_struct = third;
    })))))

-- ---- the functions of the library

pub library_of : (fs rest : List CoreFunction) → fs ≡ library ++ rest → IsLibrary fs
library_of fs rest e = subst IsLibrary (sym e) (record { getchar = (refl, refl); putchar = (refl, refl) })

-- a function of another name than those of the library stands after them
pub record AfterLibrary (rest : List CoreFunction) (n : ℕ) (f : CoreFunction) : Type 0 where
  pub place : ℕ
  pub number : n ≡ suc (suc (suc (suc place)))
  pub there : slice_get rest place ≡ Some f

some_same : {A : Type 0} {a b : A} → Some a ≡ Some b → a ≡ b
some_same e = cc

library_name : {A : Type 0} (g f : CoreFunction) → Some g ≡ Some f → is_library g.name ≡ true → is_library f.name ≡ false → A
library_name g f e l o = false_is_not_true (sym o ∙ ap (λ f. is_library f.name) (sym (some_same e)) ∙ l)

after_library : (rest : List CoreFunction) (n : ℕ) (f : CoreFunction) → slice_get (library ++ rest) n ≡ Some f → is_library f.name ≡ false → AfterLibrary rest n f
after_library rest zero f e o = library_name (prototype (codes "getchar") int []) f e refl o
after_library rest (suc zero) f e o = library_name _ f e refl o
after_library rest (suc (suc zero)) f e o = library_name _ f e refl o
after_library rest (suc (suc (suc zero))) f e o = library_name _ f e refl o
after_library rest (suc (suc (suc (suc n)))) f e o = record { place = n; number = refl; there = e }

-- ---- prototypes

prototype_right : (p : Program) (h : Good p) (name : List ℕ) (r : CType) (ps : List Named) → ResultRight p.layouts r → IsRight (with_function p name r ps None)
prototype_right p h name r ps a = record {
  structs = h.right.structs;
  globals = h.right.globals;
  results = each_append (λ f. is_value_type (length p.layouts) f.result ≡ true) p.functions _ h.right.results (a.valued, tt);
  library = library_of (p.functions ++ (prototype name r ps ∷ [])) (h.rest ++ (prototype name r ps ∷ [])) (ap (λ fs. fs ++ (prototype name r ps ∷ [])) h.functions ∙ append_assoc library h.rest (prototype name r ps ∷ []));
}

pub prototype_good : (p : Program) (h : Good p) (name : List ℕ) (r : CType) (ps : List Named) → ResultRight p.layouts r → ParametersRight p.layouts ps → Goes p (with_function p name r ps None)
prototype_good p h name r ps a b = record {
  good = record {
    right = prototype_right p h name r ps a;
    rest = h.rest ++ (prototype name r ps ∷ []);
    functions = ap (λ fs. fs ++ (prototype name r ps ∷ [])) h.functions ∙ append_assoc library h.rest (prototype name r ps ∷ []);
    sound = λ q done.
        let before : Completes q p = prototype_leads p name r ps None q done in
        let earlier : SoundIn q p h.rest = h.sound q before in
        record { initial = earlier.initial; functions = each_append (IsWellFormedFunction q) h.rest _ earlier.functions (prototype_formed q p.layouts before.more_layouts before.layouts name r ps a b, tt) };
  };
  leads = prototype_leads p name r ps None;
}

-- ---- definitions

each_replaced : {A : Type 0} (P : A → Type 0) (n : ℕ) (x : A) (xs : List A) → AllByRecursion P xs → P x → AllByRecursion P (replaced n x xs)
unfolding replaced
each_replaced P n x xs h k = each_append P (take n xs) _ (each_take P n xs h) (k, each_drop P (suc n) xs h)

replaced_after : (m : ℕ) (f : CoreFunction) (rest : List CoreFunction) → replaced (suc (suc (suc (suc m)))) f (library ++ rest) ≡ library ++ replaced m f rest
unfolding replaced
replaced_after m f rest = refl

module _ (p : Program) (h : Good p) (n : ℕ) (f g : CoreFunction) (there : slice_get p.functions n ≡ Some f) (after : AfterLibrary h.rest n f) (same : SameSignature f g) (valued : is_value_type (length p.layouts) g.result ≡ true)
    (formed : (q : Core) → Completes q p → IsWellFormedFunction q g) where
  replaced_rest : replaced n g p.functions ≡ library ++ replaced after.place g h.rest
  replaced_rest = ap (λ fs. replaced n g fs) h.functions ∙ ap (λ n. replaced n g (library ++ h.rest)) after.number ∙ replaced_after after.place g h.rest

  replaced_good : Goes p (record p { functions = replaced n g p.functions })
  replaced_good = record {
    good = record {
      right = record {
        structs = h.right.structs;
        globals = h.right.globals;
        results = each_replaced (λ f. is_value_type (length p.layouts) f.result ≡ true) n g p.functions h.right.results valued;
        library = library_of (replaced n g p.functions) (replaced after.place g h.rest) replaced_rest;
      };
      rest = replaced after.place g h.rest;
      functions = replaced_rest;
      sound = λ q done.
          let before : Completes q p = replaced_leads p n f g there same q done in
          let earlier : SoundIn q p h.rest = h.sound q before in
          record { initial = earlier.initial; functions = each_replaced (IsWellFormedFunction q) after.place g h.rest earlier.functions (formed q before) };
    };
    leads = replaced_leads p n f g there same;
  }

-- ---- the place of a function that is declared again

-- a function with this name and type
pub record PlaceOf (p : Program) (rest : List CoreFunction) (n : ℕ) (name : List ℕ) (r : CType) (ps : List Named) : Type 0 where
  pub earlier : CoreFunction
  pub there : slice_get p.functions n ≡ Some earlier
  pub after : AfterLibrary rest n earlier
  pub named : earlier.name ≡ name
  pub result : earlier.result ≡ r
  pub parameters : parameter_types earlier ≡ types_of ps

new_place : (p : Program) (h : Good p) (name : List ℕ) (r : CType) (ps : List Named) → PlaceOf (with_function p name r ps None) (h.rest ++ (prototype name r ps ∷ [])) (length p.functions) name r ps
new_place p h name r ps = record {
  earlier = prototype name r ps;
  there = get_at p.functions (prototype name r ps) [];
  after = record { place = length h.rest; number = ap length h.functions; there = get_at h.rest (prototype name r ps) [] };
  named = refl;
  result = refl;
  parameters = prototype_types ps;
}

old_place : (p : Program) (h : Good p) (name : List ℕ) (r : CType) (ps : List Named) (n : ℕ) → function_number p.functions name ≡ Some n → MayBeFunction p name r ps true → PlaceOf p h.rest n name r ps
old_place p h name r ps n e may =
    let at : FoundAt (λ f. bytes_eq name f.name) p.functions n = found_at (λ f. bytes_eq name f.name) p.functions n e in
    let f : CoreFunction = at.element in
    let named : f.name ≡ name = sym (bytes_same name f.name at.passes) in
    let rules : contradicts f r ps true ≡ false = agreed f named (where_some (λ f. (bytes_eq f.name name && contradicts f r ps true) ≡ false) (slice_get p.functions n) f at.there (get_fits (λ f. (bytes_eq f.name name && contradicts f r ps true) ≡ false) p.functions n (any_none (λ f. bytes_eq f.name name && contradicts f r ps true) p.functions may.agrees))) in
    let types : (same_type f.result r && are_same (parameter_types f) (types_of ps)) ≡ true = not_false (same_type f.result r && are_same (parameter_types f) (types_of ps)) (false_or_left (not (same_type f.result r && are_same (parameter_types f) (types_of ps))) _ rules) in
    record {
      earlier = f;
      there = at.there;
      after = after_library h.rest n f (subst (λ fs. slice_get fs n ≡ Some f) h.functions at.there) (false_or_right (has_body f) (is_library f.name) (false_or_right (not (same_type f.result r && are_same (parameter_types f) (types_of ps))) _ rules));
      named = named;
      result = same_type_equal f.result r (left_of_and _ _ types);
      parameters = types_equal (parameter_types f) (types_of ps) (right_of_and _ _ types);
    }
  where
    agreed : (f : CoreFunction) → f.name ≡ name → (bytes_eq f.name name && contradicts f r ps true) ≡ false → contradicts f r ps true ≡ false
    agreed f e h = subst (λ b. (b && contradicts f r ps true) ≡ false) (subst (λ n. bytes_eq n name ≡ true) (sym e) (bytes_itself name)) h

module _ (p : Program) (h : Good p) (n : ℕ) (name : List ℕ) (r : CType) (ps : List Named) (place : PlaceOf p h.rest n name r ps) (a : ResultRight p.layouts r) (b : ParametersRight p.layouts ps) (i : HaveNames ps) (body : Statements) (parsed : StatementsParsed p.text body) where
  definition_good : WhereOk (Goes p) (defined_as p n name r ps (Some body))
  unfolding defined_as
  definition_good =
      then_known (Goes p) (statements (seen_now p) r false body (start_frame ps)) _ (λ done made.
      let fn : CoreFunction = defined_function name r ps done.1 done.0 in
      replaced_good p h n place.earlier fn place.there place.after
      (record { name = sym place.named; result = sym place.result; parameters = signature done made ∙ sym place.parameters }) a.valued
      (defined_formed p h.right name r ps a b i body parsed done.0 done.1 made))
    where
      signature : (done : List Stmt × Frame) → statements (seen_now p) r false body (start_frame ps) ≡ Ok done → parameter_types (defined_function name r ps done.1 done.0) ≡ types_of ps
      signature done made =
          let grown : Longer (start_frame ps) done.1 = where_ok (λ r. Longer (start_frame ps) r.1) (statements (seen_now p) r false body (start_frame ps)) done made (statements_grow (seen_now p) r body false (start_frame ps)) in
          ap (λ ds. map (λ d. d.ctype) (take (length ps) ds)) grown.whole ∙ first_types ps grown.more

-- ---- declarations

-- where a name has no function yet, it is that of none of the library
no_allocation : (p : Program) (h : Good p) (name : List ℕ) → function_number p.functions name ≡ None → declares_allocation name false ≡ false
no_allocation p h name e =
    let none : AllByRecursion (λ f. bytes_eq name f.name ≡ false) (library ++ h.rest) = subst (AllByRecursion (λ f. bytes_eq name f.name ≡ false)) h.functions (none_passes (λ f. bytes_eq name f.name) p.functions e) in
    rw (none.1.1.0, none.1.1.1.0) refl

right_result : (p : Program) (r : CType) → no_array r ≡ true → is_wrong_result p false r ≡ false → is_struct r ≡ false → ResultRight p.layouts r
right_result p r spelled e s = result_right p.layouts r spelled (subst (λ n. not (is_void r || (is_complete (length p.layouts) n r || false)) ≡ false) (tags_counted p) e) s

-- what is made of a declared function with the place that its name has
abbrev declared_with : Program → Leaf → List Parameter → Option Statements → CType → Option ℕ → Checked Program
declared_with p t xs body r n =
    parameters p (declares_allocation (bytes p t) (is_some body)) [] xs
    >>= (λ ps. declarable_function p t r ps (is_some body) >>= (λ u. defined_as (with_function p (bytes p t) r ps n) (number_or n (length p.functions)) (bytes p t) r ps body))

declared_good : (t : Leaf) (xs : List Parameter) (body : Option Statements) (p : Program) → BodyParsed p.text xs body → (h : Good p) → (r : CType) → no_array r ≡ true → (n : Option ℕ) → function_number p.functions (bytes p t) ≡ n → WhereOk (Goes p) (declared_with p t xs body r n)
unfolding defined_as prototype_good
declared_good t xs None p c h r spelled (Some n) e =
    then_known (Goes p) (parameters p (declares_allocation (bytes p t) false) [] xs) _ (λ ps i.
    then_known (Goes p) (declarable_function p t r ps false) _ (λ u j. record { good = h; leads = λ q done. done }))
declared_good t xs None p c h r spelled None e =
    let none : declares_allocation (bytes p t) false ≡ false = no_allocation p h (bytes p t) e in
    then_holds (ParametersRight p.layouts) (Goes p) (parameters p (declares_allocation (bytes p t) false) [] xs) _ (subst (λ b. WhereOk (ParametersRight p.layouts) (parameters p b [] xs)) (sym none) (parameters_right p [] xs tt)) (λ ps b.
    then_holds (λ (u : Unit {0}). MayBeFunction p (bytes p t) r ps false) (Goes p) (declarable_function p t r ps false) _ (declarable_function_holds p t r ps false) (λ u may.
    prototype_good p h (bytes p t) r ps (right_result p r spelled (subst (λ b. is_wrong_result p b r ≡ false) none may.result) may.no_struct) b))
declared_good t xs (Some body) p c h r spelled n e =
    then_known (Goes p) (parameters p false [] xs) _ (λ ps i.
    let b : ParametersRight p.layouts ps = where_ok (ParametersRight p.layouts) (parameters p false [] xs) ps i (parameters_right p [] xs tt) in
    let names : HaveNames ps = where_ok HaveNames (parameters p false [] xs) ps i (parameters_named p false [] xs c.0 tt) in
    then_holds (λ (u : Unit {0}). MayBeFunction p (bytes p t) r ps true) (Goes p) (declarable_function p t r ps true) _ (declarable_function_holds p t r ps true) (λ u may.
    defined_good n e ps b names may (right_result p r spelled may.result may.no_struct)))
  where
    defined_good : (n : Option ℕ) → function_number p.functions (bytes p t) ≡ n → (ps : List Named) → ParametersRight p.layouts ps → HaveNames ps → MayBeFunction p (bytes p t) r ps true → ResultRight p.layouts r
        → WhereOk (Goes p) (defined_as (with_function p (bytes p t) r ps n) (number_or n (length p.functions)) (bytes p t) r ps (Some body))
    defined_good (Some n) e ps b names may a = definition_good p h n (bytes p t) r ps (old_place p h (bytes p t) r ps n e may) a b names body c.1
    defined_good None e ps b names may a =
        let first : Goes p (with_function p (bytes p t) r ps None) = prototype_good p h (bytes p t) r ps a b in
        weaker (Goes (with_function p (bytes p t) r ps None)) (Goes p) (defined_as (with_function p (bytes p t) r ps None) (length p.functions) (bytes p t) r ps (Some body))
        (λ p' k. record { good = k.good; leads = λ q done. first.leads q (k.leads q done) })
        (definition_good (with_function p (bytes p t) r ps None) first.good (length p.functions) (bytes p t) r ps (new_place p h (bytes p t) r ps) a b names body c.1)

pub function_good : (result : Spelled) (t : Leaf) (xs : List Parameter) (body : Option Statements) (p : Program) → BodyParsed p.text xs body → Good p → WhereOk (Goes p) (function result t xs body p)
unfolding function
function_good result t xs body p c h =
    then_holds (λ r. no_array r ≡ true) (Goes p) (spelled_type (seen_now p) result) _ (spelled_no_array (seen_now p) result) (λ r spelled.
    declared_good t xs body p c h r spelled (function_number p.functions (bytes p t)) refl)
