-- Each function whose name has a body so far has it, and a function with the name `main` is `int main(void)`.
use Rattle.std.proofs.Common.{◌≡◌, ℕ, zero, suc, Bool, true, false, ◌&&◌, ◌||◌, not, List, [], ◌∷◌, ◌++◌, take, length, Option, Some, None, refl, sym, ap, subst, ◌∙◌}
use Rattle.std.specs.Prelude.{slice_get, codes, is_some}
use Rattle.std.specs.List.{list_any, AllByRecursion}
use Rattle.std.specs.Str.{bytes_eq}
use Rattle.c_words.specs.declared.word.Leaf.{Leaf}
use Rattle.step_meaning.specs.declared.value.CType.{CType}
use Rattle.step_meaning.specs.declared.program.Declared.{Declared as Named}
use Rattle.step_meaning.specs.declared.program.Function.{Function as CoreFunction}
use Rattle.step_meaning.specs.Types.{same_type}
use Rattle.step_meaning.specs.ExpressionTypes.{parameter_types, has_body}
use Rattle.step_meaning.specs.Identifiers.{are_distinct}
use Rattle.step_meaning.specs.Library.{int}
use Rattle.step_meaning.specs.WellFormed.{declared_names}
use Rattle.step_meaning.proofs.Ranges.{left_of_and, right_of_and, false_is_not_true}
use Rattle.step_meaning.proofs.SameTypes.{same_type_equal}
use Rattle.typing_rules.specs.Syntax.{Spelled, Parameter, Statements}
use Rattle.typing_rules.specs.Environment.{contains}
use Rattle.typing_rules.specs.FileScope.{Program, bytes}
use Rattle.typing_rules.specs.Functions.{types_of, are_same, is_other_main, replaced, function}
use Rattle.typing_laws.specs.SmallTypes.{WhereOk}
use Rattle.typing_laws.proofs.EachOf.{each_append, each_weaker, each_take, each_drop}
use Rattle.typing_laws.proofs.DeclaredNames.{not_false}
use Rattle.typing_laws.proofs.Positions.{false_or_left, false_or_right}
use Rattle.typing_laws.proofs.Completion.{bytes_same, bytes_itself}
use Rattle.typing_laws.proofs.FormedFunctions.{types_equal}
use Rattle.typing_laws.proofs.FunctionSteps.{IsDeclared, function_steps}
use Rattle.typing_laws.proofs.DistinctNames.{differ_turned, IsNew, distinct_last, function_names, replaced_names}
use Rattle.typing_laws.proofs.NamedPrograms.{HasNames, no_function}

-- the name `main` is that of `int main(void)`
pub record MainRight (f : CoreFunction) : Type 0 where
  pub result : f.result ≡ int
  pub count : f.params ≡ 0
  pub parameters : parameter_types f ≡ []

abbrev pub IfMain : CoreFunction → Type 0
IfMain f = bytes_eq f.name (codes "main") ≡ true → MainRight f

-- where these are the names that have a body so far
abbrev pub IfDefined : List (List ℕ) → CoreFunction → Type 0
IfDefined done f = contains done f.name ≡ true → has_body f ≡ true

pub record Defined (done : List (List ℕ)) (fs : List CoreFunction) : Type 0 where
  pub bodies : AllByRecursion (IfDefined done) fs
  pub there : AllByRecursion (λ name. contains (function_names fs) name ≡ true) done
  pub mains : AllByRecursion IfMain fs

-- ---- names among others

any_first : (test : List ℕ → Bool) (xs ys : List (List ℕ)) → list_any test xs ≡ true → list_any test (xs ++ ys) ≡ true
any_first test [] ys h = false_is_not_true h
any_first test (x ∷ xs) ys h = by (test x) (list_any test xs) (list_any test (xs ++ ys)) h (any_first test xs ys)
  where
    by : (a b c : Bool) → (a || b) ≡ true → (b ≡ true → c ≡ true) → (a || c) ≡ true
    by true b c h k = refl
    by false b c h k = k h

any_last : (test : List ℕ → Bool) (xs : List (List ℕ)) (y : List ℕ) → test y ≡ true → list_any test (xs ++ (y ∷ [])) ≡ true
any_last test [] y h = rw h refl
any_last test (x ∷ xs) y h = rw (any_last test xs y h) (or_true (test x))
  where
    or_true : (a : Bool) → (a || true) ≡ true
    or_true true = refl
    or_true false = refl

-- a property of names that some of these has
of_first : (P : List ℕ → Type 0) (name x : List ℕ) (b rest : Bool) → bytes_eq name x ≡ b → (b || rest) ≡ true → P x → (rest ≡ true → P name) → P name
of_first P name x true rest e h k l = subst P (sym (bytes_same name x e)) k
of_first P name x false rest e h k l = l h

of_some : (P : List ℕ → Type 0) (name : List ℕ) (done : List (List ℕ)) → contains done name ≡ true → AllByRecursion P done → P name
of_some P name [] h k = false_is_not_true h
of_some P name (x ∷ xs) h k = of_first P name x (bytes_eq name x) (contains xs name) refl h k.0 (λ l. of_some P name xs l k.1)

no_both : {A : Type 0} (b : Bool) → b ≡ true → b ≡ false → A
no_both b h k = false_is_not_true (sym k ∙ h)

-- ---- `main`

main_right : (f : CoreFunction) (name : List ℕ) (r : CType) (ps : List Named) (defined : Bool) → IsDeclared f name r ps defined → is_other_main name r ps ≡ false → IfMain f
main_right f name r ps defined d other e =
    let types : (same_type r int && are_same (types_of ps) []) ≡ true = by (bytes_eq name (codes "main")) (same_type r int && are_same (types_of ps) []) (subst (λ n. bytes_eq n (codes "main") ≡ true) d.name e) other in
    let none : types_of ps ≡ [] = types_equal (types_of ps) [] (right_of_and _ _ types) in
    record {
      result = d.result ∙ same_type_equal r int (left_of_and _ _ types);
      count = d.count ∙ empty ps none;
      parameters = d.parameters ∙ none;
    }
  where
    by : (a b : Bool) → a ≡ true → (a && not b) ≡ false → b ≡ true
    by true b e h = not_false b h
    by false b e h = false_is_not_true e

    empty : (ps : List Named) → types_of ps ≡ [] → length ps ≡ 0
    empty [] e = refl
    empty (d ∷ ds) e = absurd (cc e)

-- ---- one more function, or one in place of its prototype

-- the names with a body, after a function with this name
abbrev pub with_defined : Bool → List ℕ → List (List ℕ) → List (List ℕ)
with_defined true name done = name ∷ done
with_defined false name done = done

functions_append : (fs : List CoreFunction) (f : CoreFunction) → function_names (fs ++ (f ∷ [])) ≡ function_names fs ++ (f.name ∷ [])
functions_append [] f = refl
functions_append (x ∷ fs) f = ap (λ ws. x.name ∷ ws) (functions_append fs f)

-- functions of other names have the bodies that they had
others_defined : (name : List ℕ) (done : List (List ℕ)) (fs : List CoreFunction) → IsNew name (function_names fs) → AllByRecursion (IfDefined done) fs → AllByRecursion (IfDefined (name ∷ done)) fs
others_defined name done [] n h = tt
others_defined name done (f ∷ fs) n h = ((λ e. h.0 (subst (λ b. (b || contains done f.name) ≡ true) (differ_turned name f.name (false_or_left (bytes_eq name f.name) _ n)) e)), others_defined name done fs (false_or_right (bytes_eq name f.name) _ n) h.1)

there_append : (done : List (List ℕ)) (fs : List CoreFunction) (f : CoreFunction) → AllByRecursion (λ name. contains (function_names fs) name ≡ true) done → AllByRecursion (λ name. contains (function_names (fs ++ (f ∷ []))) name ≡ true) done
there_append done fs f h = each_weaker _ _ done (λ name k. subst (λ ws. contains ws name ≡ true) (sym (functions_append fs f)) (any_first (bytes_eq name) (function_names fs) (f.name ∷ []) k)) h

more_defined : (done : List (List ℕ)) (fs : List CoreFunction) (f : CoreFunction) (defined : Bool) → has_body f ≡ defined → IsNew f.name (function_names fs) → IfMain f → Defined done fs → Defined (with_defined defined f.name done) (fs ++ (f ∷ []))
more_defined done fs f true b n m h = record {
  bodies = each_append (IfDefined (f.name ∷ done)) fs _ (others_defined f.name done fs n h.bodies) ((λ e. b), tt);
  there = (subst (λ ws. contains ws f.name ≡ true) (sym (functions_append fs f)) (any_last (bytes_eq f.name) (function_names fs) f.name (bytes_itself f.name)), there_append done fs f h.there);
  mains = each_append IfMain fs _ h.mains (m, tt);
}
more_defined done fs f false b n m h = record {
  bodies = each_append (IfDefined done) fs _ h.bodies ((λ e. no_both (contains (function_names fs) f.name) (of_some (λ name. contains (function_names fs) name ≡ true) f.name done e h.there) n), tt);
  there = there_append done fs f h.there;
  mains = each_append IfMain fs _ h.mains (m, tt);
}

-- in place of a function with its name
instead_bodies : (name : List ℕ) (done : List (List ℕ)) (n : ℕ) (f g : CoreFunction) (fs : List CoreFunction) → are_distinct (function_names fs) ≡ true → slice_get fs n ≡ Some f → f.name ≡ name → has_body g ≡ true → AllByRecursion (IfDefined done) fs
    → AllByRecursion (IfDefined (name ∷ done)) (replaced n g fs)
unfolding replaced
instead_bodies name done n f g [] d e s b h = absurd (no e)
  where
    no : None ≡ Some f → ⊥
    no e = cc
instead_bodies name done zero f g (x ∷ fs) d e s b h =
    let new : IsNew name (function_names fs) = subst (λ w. IsNew w (function_names fs)) (ap (λ f. f.name) (same e) ∙ s) (not_true (list_any (bytes_eq x.name) (function_names fs)) (left_of_and _ _ d)) in
    ((λ e. b), others_defined name done fs new h.1)
  where
    same : Some x ≡ Some f → x ≡ f
    same e = cc

    not_true : (b : Bool) → not b ≡ true → b ≡ false
    not_true false h = refl
    not_true true h = absurd (cc h)
instead_bodies name done (suc n) f g (x ∷ fs) d e s b h =
    let apart : bytes_eq x.name name ≡ false = subst (λ w. bytes_eq x.name w ≡ false) s (at fs n e (not_true (list_any (bytes_eq x.name) (function_names fs)) (left_of_and _ _ d))) in
    ((λ i. h.0 (subst (λ b. (b || contains done x.name) ≡ true) apart i)), instead_bodies name done n f g fs (right_of_and _ _ d) e s b h.1)
  where
    not_true : (b : Bool) → not b ≡ true → b ≡ false
    not_true false h = refl
    not_true true h = absurd (cc h)

    at : (fs : List CoreFunction) (n : ℕ) → slice_get fs n ≡ Some f → list_any (bytes_eq x.name) (function_names fs) ≡ false → bytes_eq x.name f.name ≡ false
    at [] n e h = absurd (no e)
      where
        no : None ≡ Some f → ⊥
        no e = cc
    at (y ∷ fs) zero e h = subst (λ f. bytes_eq x.name f.name ≡ false) (same e) (false_or_left (bytes_eq x.name y.name) _ h)
      where
        same : Some y ≡ Some f → y ≡ f
        same e = cc
    at (y ∷ fs) (suc n) e h = at fs n e (false_or_right (bytes_eq x.name y.name) _ h)

pub each_instead : (P : CoreFunction → Type 0) (n : ℕ) (g : CoreFunction) (fs : List CoreFunction) → P g → AllByRecursion P fs → AllByRecursion P (replaced n g fs)
unfolding replaced
each_instead P n g fs k h = each_append P (take n fs) _ (each_take P n fs h) (k, each_drop P (suc n) fs h)

named_there : (name : List ℕ) (n : ℕ) (f : CoreFunction) (fs : List CoreFunction) → slice_get fs n ≡ Some f → f.name ≡ name → contains (function_names fs) name ≡ true
named_there name n f [] e s = absurd (no e)
  where
    no : None ≡ Some f → ⊥
    no e = cc
named_there name zero f (x ∷ fs) e s = rw (subst (λ w. bytes_eq name w ≡ true) (sym (ap (λ f. f.name) (same e) ∙ s)) (bytes_itself name)) refl
  where
    same : Some x ≡ Some f → x ≡ f
    same e = cc
named_there name (suc n) f (x ∷ fs) e s = rw (named_there name n f fs e s) (or_true (bytes_eq name x.name))
  where
    or_true : (a : Bool) → (a || true) ≡ true
    or_true true = refl
    or_true false = refl

instead_defined : (name : List ℕ) (done : List (List ℕ)) (n : ℕ) (f g : CoreFunction) (fs : List CoreFunction) → are_distinct (function_names fs) ≡ true → slice_get fs n ≡ Some f → f.name ≡ name → g.name ≡ name → has_body g ≡ true → IfMain g → Defined done fs
    → Defined (name ∷ done) (replaced n g fs)
instead_defined name done n f g fs d e s t b m h =
    let same : function_names (replaced n g fs) ≡ function_names fs = replaced_names n f g fs e (t ∙ sym s) in
    record {
      bodies = instead_bodies name done n f g fs d e s b h.bodies;
      there = subst (λ ws. AllByRecursion (λ name. contains ws name ≡ true) (name ∷ done)) (sym same) (named_there name n f fs e s, h.there);
      mains = each_instead IfMain n g fs m h.mains;
    }

pub function_defined : (result : Spelled) (t : Leaf) (xs : List Parameter) (body : Option Statements) (p : Program) (done : List (List ℕ)) → HasNames p → Defined done p.functions
    → WhereOk (λ p'. Defined (with_defined (is_some body) (bytes p t) done) p'.functions) (function result t xs body p)
function_defined result t xs None p done names h =
    function_steps (λ p'. Defined done p'.functions) result t xs p None (record {
      same = λ e. h;
      more = λ f r ps d may e. more_defined done p.functions f false d.body (subst (λ w. IsNew w (function_names p.functions)) (sym d.name) (no_function p.functions (bytes p t) e)) (main_right f (bytes p t) r ps false d may.main) h;
      instead = λ n f g r ps there named d may e. false_is_not_true e;
    })
function_defined result t xs (Some body) p done names h =
    function_steps (λ p'. Defined (bytes p t ∷ done) p'.functions) result t xs p (Some body) (record {
      same = λ e. false_is_not_true (sym e);
      more = λ f r ps d may e.
          subst (λ w. Defined (w ∷ done) (p.functions ++ (f ∷ []))) d.name
          (more_defined done p.functions f true d.body (subst (λ w. IsNew w (function_names p.functions)) (sym d.name) (no_function p.functions (bytes p t) e)) (main_right f (bytes p t) r ps true d may.main) h);
      instead = λ n f g r ps there named d may e.
          instead_defined (bytes p t) done n f g p.functions (distinct_last (declared_names p.globals) (function_names p.functions) names.distinct) there named d.name d.body (main_right g (bytes p t) r ps true d may.main) h;
    })
