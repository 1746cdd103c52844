-- What comes after the code of the operands depends on their values alone.
use Rattle.std.proofs.Common.{rules, ◌≡◌, ℕ, suc, List, [], ◌∷◌, ◌++◌, map, Option, Some, None, refl, sym, ap, append_assoc, append-nil}
use Rattle.step_meaning.specs.declared.value.CType.{CType, more_of-CType, end_of-CType}
use Rattle.step_meaning.specs.declared.value.CType.TheVariants as type
use Rattle.step_meaning.specs.declared.expr.Expr.{Expr}
use Rattle.step_meaning.specs.declared.expr.Expr.TheVariants as e
use Rattle.step_meaning.specs.declared.expr.Place_.{Place_}
use Rattle.step_meaning.specs.declared.stmt.Stmt.{Stmt}
use Rattle.step_meaning.specs.declared.stmt.Stmt.TheVariants as s
use Rattle.normal_laws.specs.NormalForm as form
use Rattle.normal_expressions.specs.declared.scope.Scope.{Scope}
use Rattle.normal_expressions.specs.Code.{expression_code_in, place_code_in, arguments_code_in, result_in, both_from, either_from, chosen_from, assigned_from, invoked_from, both_in, either_in, choose_in, assign_in, invoke_in}
use Rattle.normal_expressions.proofs.Lists.{map_join}

-- ---- choices

choose_split : (o : Option form.Operand) (C A B : form.Code) →
    let N = form.choose_into o (record { code = []; value = C.value; next = B.next; types = [] }) (record { code = A.code; value = A.value; next = B.next; types = [] }) (record { code = B.code; value = B.value; next = B.next; types = [] }) in
    form.choose_into o C A B ≡ record { code = C.code ++ N.code; value = N.value; next = N.next; types = C.types ++ (A.types ++ (B.types ++ N.types)) }
choose_split None C A B = refl
choose_split (Some o) C A B = ap (λ ts. record { code = C.code ++ form.one (form.choice (form.expression_of C.value) A.code B.code); value = o; next = B.next; types = C.types ++ (A.types ++ ts) }) (sym (append-nil B.types))

pub choose_splits : (C A B : form.Code) →
    let N = chosen_from C.value A.code A.value B.code B.value B.next in
    form.choose_code C A B ≡ record { code = C.code ++ N.code; value = N.value; next = N.next; types = C.types ++ (A.types ++ (B.types ++ N.types)) }
unfolding chosen_from
choose_splits C A B = choose_split (form.common_operand A.value B.value) C A B

-- ---- assignments

assign_split : (t : CType) (P : form.PlaceCode) (c : List Stmt) (v : form.Operand) (n : ℕ) (ts : List form.Typed) →
    let N = assigned_from t P.target v n in
    form.assign_code t P (record { code = c; value = v; next = n; types = ts }) ≡ record { code = P.code ++ (c ++ N.code); value = N.value; next = N.next; types = P.types ++ (ts ++ N.types) }
unfolding assigned_from
assign_split t P c form.Nil n ts =
    let set = form.one (form.set_to n t (form.expression_of form.Nil)) in
    let store = form.one (form.assign (form.place_of P.target) t (form.expression_of (form.Held n t))) in
    ap (λ ss. record { code = P.code ++ ss; value = form.Held n t; next = suc n; types = P.types ++ (ts ++ (form.Is n t ∷ [])) }) (append_assoc c set store)
assign_split t P c (form.Number k z) n ts = ap (λ us. record { code = P.code ++ (c ++ form.one (form.assign (form.place_of P.target) t (form.expression_of (form.Number k z)))); value = form.Number k z; next = n; types = P.types ++ us }) (sym (append-nil ts))
assign_split t P c (form.Held i u) n ts = ap (λ us. record { code = P.code ++ (c ++ form.one (form.assign (form.place_of P.target) t (form.expression_of (form.Held i u)))); value = form.Held i u; next = n; types = P.types ++ us }) (sym (append-nil ts))
assign_split t P c form.Absent n ts = ap (λ us. record { code = P.code ++ (c ++ form.one (form.assign (form.place_of P.target) t (form.expression_of form.Absent))); value = form.Absent; next = n; types = P.types ++ us }) (sym (append-nil ts))

pub assign_splits : (t : CType) (P : form.PlaceCode) (A : form.Code) →
    let N = assigned_from t P.target A.value A.next in
    form.assign_code t P A ≡ record { code = P.code ++ (A.code ++ N.code); value = N.value; next = N.next; types = P.types ++ (A.types ++ N.types) }
assign_splits t P A = assign_split t P A.code A.value A.next A.types

-- ---- calls

pub invoke_splits : (f : ℕ) (t : CType) (E : form.Codes) →
    let N = invoked_from f t (map form.expression_of E.values) E.next in
    form.invoke_code f t E ≡ record { code = E.code ++ N.code; value = N.value; next = N.next; types = E.types ++ N.types }
unfolding invoked_from
invoke_splits f type.Void E = ap (λ ts. record { code = E.code ++ form.one (s.Eval (e.Invoke f (map form.expression_of E.values))); value = form.Absent; next = E.next; types = ts }) (sym (append-nil E.types))
invoke_splits f (type.Int k) E = refl
invoke_splits f (type.Pointer' b (more_of-CType t end_of-CType)) E = refl
invoke_splits f (type.Array' b (more_of-CType t end_of-CType) n) E = refl
invoke_splits f (type.Struct n) E = refl

-- ---- in a scope

pub both_by : (x : Scope) (a b : Expr) (m : ℕ) → both_in x a b m ≡ (let A = expression_code_in x a m in let B = expression_code_in x b A.next in let N = both_from A.value B.code B.value B.next in record { code = A.code ++ N.code; value = N.value; next = N.next; types = A.types ++ (B.types ++ N.types) })
unfolding both_in both_from
both_by x a b m = refl

pub either_by : (x : Scope) (a b : Expr) (m : ℕ) → either_in x a b m ≡ (let A = expression_code_in x a m in let B = expression_code_in x b A.next in let N = either_from A.value B.code B.value B.next in record { code = A.code ++ N.code; value = N.value; next = N.next; types = A.types ++ (B.types ++ N.types) })
unfolding either_in either_from
either_by x a b m = refl

pub choose_by : (x : Scope) (a b c : Expr) (m : ℕ) → choose_in x a b c m ≡ (let C = expression_code_in x a m in let A = expression_code_in x b C.next in let B = expression_code_in x c A.next in let N = chosen_from C.value A.code A.value B.code B.value B.next in record { code = C.code ++ N.code; value = N.value; next = N.next; types = C.types ++ (A.types ++ (B.types ++ N.types)) })
unfolding choose_in
choose_by x a b c m = choose_splits (expression_code_in x a m) (expression_code_in x b (expression_code_in x a m).next) (expression_code_in x c (expression_code_in x b (expression_code_in x a m).next).next)

pub assign_by : (x : Scope) (p : Place_) (t : CType) (a : Expr) (m : ℕ) → assign_in x p t a m ≡ (let P = place_code_in x p m in let A = expression_code_in x a P.next in let N = assigned_from t P.target A.value A.next in record { code = P.code ++ (A.code ++ N.code); value = N.value; next = N.next; types = P.types ++ (A.types ++ N.types) })
unfolding assign_in
assign_by x p t a m = assign_splits t (place_code_in x p m) (expression_code_in x a (place_code_in x p m).next)

pub invoke_by : (x : Scope) (f : ℕ) (es : List Expr) (m : ℕ) → invoke_in x f es m ≡ (let E = arguments_code_in x es m in let N = invoked_from f (result_in x f) (map form.expression_of E.values) E.next in record { code = E.code ++ N.code; value = N.value; next = N.next; types = E.types ++ N.types })
unfolding invoke_in
invoke_by x f es m = invoke_splits f (result_in x f) (arguments_code_in x es m)

pub ruleset splits = (map_join, append_assoc, append-nil, both_by, either_by, choose_by, assign_by, invoke_by)
