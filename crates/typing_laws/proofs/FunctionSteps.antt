-- What the declaration of a function does to the functions of a program: nothing, one more, or one in place of its prototype.
use Rattle.std.proofs.Common.{◌≡◌, ℕ, Bool, true, false, List, [], ◌∷◌, ◌++◌, map, take, length, Option, Some, None, Ok, refl, sym, ap, subst, ◌∙◌}
use Rattle.std.specs.Prelude.{slice_get, is_some}
use Rattle.std.specs.Str.{bytes_eq}
use Rattle.c_words.specs.declared.word.Leaf.{Leaf}
use Rattle.step_meaning.specs.declared.value.CType.{CType}
use Rattle.step_meaning.specs.declared.stmt.Stmt.{Stmt}
use Rattle.step_meaning.specs.declared.program.Declared.{Declared as Named}
use Rattle.step_meaning.specs.declared.program.Function.{Function as CoreFunction}
use Rattle.step_meaning.specs.ExpressionTypes.{parameter_types, has_body}
use Rattle.typing_rules.specs.Syntax.{Spelled, Parameter, Statements}
use Rattle.typing_rules.specs.Environment.{spelled_type}
use Rattle.typing_rules.specs.Statements.{Frame, statements}
use Rattle.typing_rules.specs.FileScope.{Program, seen_now, bytes}
use Rattle.typing_rules.specs.Functions.{declares_allocation, parameters, function_number, types_of, declarable_function, prototype, defined_function, with_function, number_or, replaced, defined_as, function}
use Rattle.typing_laws.specs.SmallTypes.{WhereOk}
use Rattle.typing_laws.proofs.CheckedValues.{then_holds, then_known, where_ok}
use Rattle.typing_laws.proofs.Positions.{FoundAt, found_at}
use Rattle.typing_laws.proofs.Completion.{bytes_same}
use Rattle.typing_laws.proofs.GrownFrames.{Longer, statements_grow}
use Rattle.typing_laws.proofs.FormedFunctions.{prototype_types, first_types, start_frame}
use Rattle.typing_laws.proofs.GoodFunctions.{MayBeFunction, declarable_function_holds}

-- a function with this name and type, with or without a body
pub record IsDeclared (f : CoreFunction) (word : List ℕ) (r : CType) (ps : List Named) (defined : Bool) : Type 0 where
  pub name : f.name ≡ word
  pub result : f.result ≡ r
  pub count : f.params ≡ length ps
  pub parameters : parameter_types f ≡ types_of ps
  pub body : has_body f ≡ defined

prototype_declared : (name : List ℕ) (r : CType) (ps : List Named) → IsDeclared (prototype name r ps) name r ps false
prototype_declared name r ps = record { name = refl; result = refl; count = refl; parameters = prototype_types ps; body = refl }

pub last_replaced : {A : Type 0} (xs : List A) (x y : A) → replaced (length xs) y (xs ++ (x ∷ [])) ≡ xs ++ (y ∷ [])
unfolding replaced
last_replaced [] x y = refl
last_replaced (z ∷ xs) x y = ap (λ ys. z ∷ ys) (last_replaced xs x y)

module _ (Q : Program → Type 0) (result : Spelled) (t : Leaf) (xs : List Parameter) (p : Program) where
  abbrev name : List ℕ
  name = bytes p t

  -- what each of the three keeps
  pub record Steps (body : Option Statements) : Type 0 where
    pub same : is_some body ≡ false → Q p
    pub more : (f : CoreFunction) (r : CType) (ps : List Named) → IsDeclared f name r ps (is_some body) → MayBeFunction p name r ps (is_some body) → function_number p.functions name ≡ None → Q (record p { functions = p.functions ++ (f ∷ []) })
    pub instead : (n : ℕ) (f g : CoreFunction) (r : CType) (ps : List Named) → slice_get p.functions n ≡ Some f → f.name ≡ name → IsDeclared g name r ps true → MayBeFunction p name r ps (is_some body) → is_some body ≡ true → Q (record p { functions = replaced n g p.functions })

  module _ (r : CType) (ps : List Named) where
    absent_steps : Steps None → MayBeFunction p name r ps false → (n : Option ℕ) → function_number p.functions name ≡ n → WhereOk Q (defined_as (with_function p name r ps n) (number_or n (length p.functions)) name r ps None)
    unfolding defined_as
    absent_steps steps may None e = steps.more (prototype name r ps) r ps (prototype_declared name r ps) may e
    absent_steps steps may (Some n) e = steps.same refl

    defined_declared : (q : Program) (body : Statements) (done : List Stmt × Frame) → statements (seen_now q) r false body (start_frame ps) ≡ Ok done → IsDeclared (defined_function name r ps done.1 done.0) name r ps true
    defined_declared q body done made =
        let grown : Longer (start_frame ps) done.1 = where_ok (λ r. Longer (start_frame ps) r.1) (statements (seen_now q) r false body (start_frame ps)) done made (statements_grow (seen_now q) r body false (start_frame ps)) in
        record { name = refl; result = refl; count = refl; parameters = ap (λ ds. map (λ d. d.ctype) (take (length ps) ds)) grown.whole ∙ first_types ps grown.more; body = refl }

    body_steps : (body : Statements) → Steps (Some body) → MayBeFunction p name r ps true → (n : Option ℕ) → function_number p.functions name ≡ n → WhereOk Q (defined_as (with_function p name r ps n) (number_or n (length p.functions)) name r ps (Some body))
    unfolding defined_as
    body_steps body steps may None e =
        then_known Q (statements (seen_now (with_function p name r ps None)) r false body (start_frame ps)) _ (λ done made.
        let fn : CoreFunction = defined_function name r ps done.1 done.0 in
        subst (λ fs. Q (record p { functions = fs })) (sym (last_replaced p.functions (prototype name r ps) fn)) (steps.more fn r ps (defined_declared (with_function p name r ps None) body done made) may e))
    body_steps body steps may (Some n) e =
        then_known Q (statements (seen_now p) r false body (start_frame ps)) _ (λ done made.
        let fn : CoreFunction = defined_function name r ps done.1 done.0 in
        let at : FoundAt (λ f. bytes_eq name f.name) p.functions n = found_at (λ f. bytes_eq name f.name) p.functions n e in
        steps.instead n at.element fn r ps at.there (sym (bytes_same name at.element.name at.passes)) (defined_declared p body done made) may refl)

    either_steps : (body : Option Statements) → Steps body → MayBeFunction p name r ps (is_some body) → WhereOk Q (defined_as (with_function p name r ps (function_number p.functions name)) (number_or (function_number p.functions name) (length p.functions)) name r ps body)
    either_steps None steps may = absent_steps steps may (function_number p.functions name) refl
    either_steps (Some body) steps may = body_steps body steps may (function_number p.functions name) refl

  pub function_steps : (body : Option Statements) → Steps body → WhereOk Q (function result t xs body p)
  unfolding function
  function_steps body steps =
      then_known Q (spelled_type (seen_now p) result) _ (λ r e.
      then_known Q (parameters p (declares_allocation name (is_some body)) [] xs) _ (λ ps i.
      then_holds (λ (u : Unit {0}). MayBeFunction p name r ps (is_some body)) Q (declarable_function p t r ps (is_some body)) _ (declarable_function_holds p t r ps (is_some body)) (λ u may.
      either_steps r ps body steps may)))
