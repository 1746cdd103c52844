-- Arguments, one after another.
use Rattle.std.proofs.Common.{◌≡◌, ℕ, ◌+◌, ◌<◌, ◌≤◌, List, [], ◌∷◌, ◌++◌, length, get_or, drop, map, refl, sym, ap, subst, ◌∙◌, append_assoc, append-nil}
use Rattle.std.proofs.lemmas.List.{drop_more, drop_all}
use Rattle.step_meaning.specs.declared.expr.Expr.{Expr}
use Rattle.step_meaning.specs.declared.stmt.Stmt.{Stmt}
use Rattle.normal_laws.specs.NormalForm as form
use Rattle.normal_expressions.specs.declared.scope.Scope.{Scope}
use Rattle.normal_expressions.specs.declared.registers.Registers.{Registers}
use Rattle.normal_expressions.specs.Code.{expression_code_in, arguments_code_in}
use Rattle.normal_expressions.specs.Additions.{types_of, type_of, Adds, AddsArguments}
use Rattle.normal_expressions.proofs.Lists.{map_join}
use Rattle.normal_expressions.proofs.Forms.{no_arguments, more_arguments}

-- what is there so far and what is left of the arguments are all of them
pub record Leaves (before : List Stmt) (taken : Registers) (whole rest : form.Codes) (code : List Stmt) (more : Registers) (values : List Expr) : Type 0 where
  pub code_is : before ++ whole.code ≡ code ++ rest.code
  pub types_are : types_of taken ++ map type_of whole.types ≡ types_of more ++ map type_of rest.types
  pub next_is : whole.next ≡ rest.next
  pub values_are : map form.expression_of whole.values ≡ values ++ map form.expression_of rest.values

pub from_start : (before : List Stmt) (taken : Registers) (whole : form.Codes) → Leaves before taken whole whole before taken []
from_start before taken whole = record { code_is = refl; types_are = refl; next_is = refl; values_are = refl }

pub one_gone : (x : Scope) (before : List Stmt) (taken : Registers) (whole : form.Codes) (a : Expr) (es : List Expr) (c d : List Stmt) (r s : Registers) (vs : List Expr) (v : form.Operand) →
    Leaves before taken whole (arguments_code_in x (a ∷ es) r.next) c r vs → Adds c r (expression_code_in x a r.next) d s v →
    Leaves before taken whole (arguments_code_in x es s.next) d s (vs ++ (form.expression_of v ∷ []))
one_gone x before taken whole a es c d r s vs v h g =
    let A = expression_code_in x a r.next in
    let B = arguments_code_in x es A.next in
    let more = more_arguments x a es r.next in
    subst (λ n. Leaves before taken whole (arguments_code_in x es n) d s (vs ++ (form.expression_of v ∷ []))) (sym g.next_is) (record {
      code_is = h.code_is ∙ ap (λ (k : form.Codes). c ++ k.code) more ∙ sym (append_assoc c A.code B.code) ∙ ap (λ ss. ss ++ B.code) (sym g.code_is);
      types_are = h.types_are ∙ ap (λ (k : form.Codes). types_of r ++ map type_of k.types) more ∙ ap (λ ts. types_of r ++ ts) (map_join type_of A.types B.types) ∙ sym (append_assoc (types_of r) (map type_of A.types) (map type_of B.types)) ∙ ap (λ ts. ts ++ map type_of B.types) (sym g.types_are);
      next_is = h.next_is ∙ ap (λ (k : form.Codes). k.next) more;
      values_are = h.values_are ∙ ap (λ (k : form.Codes). vs ++ map form.expression_of k.values) more ∙ ap (λ w. vs ++ (form.expression_of w ∷ map form.expression_of B.values)) (sym g.value_is) ∙ sym (append_assoc vs (form.expression_of v ∷ []) (map form.expression_of B.values));
    })

pub all_gone : (x : Scope) (before : List Stmt) (taken : Registers) (whole : form.Codes) (c : List Stmt) (r : Registers) (vs : List Expr) →
    Leaves before taken whole (arguments_code_in x [] r.next) c r vs → AddsArguments before taken whole c r vs
all_gone x before taken whole c r vs h =
    let none = no_arguments x r.next in
    record {
      code_is = sym (h.code_is ∙ ap (λ (k : form.Codes). c ++ k.code) none ∙ append-nil c);
      types_are = sym (h.types_are ∙ ap (λ (k : form.Codes). types_of r ++ map type_of k.types) none ∙ append-nil (types_of r));
      next_is = sym (h.next_is ∙ ap (λ (k : form.Codes). k.next) none);
      values_are = sym (h.values_are ∙ ap (λ (k : form.Codes). vs ++ map form.expression_of k.values) none ∙ append-nil vs);
    }

-- ---- places in the list

pub one_gone_at : (x : Scope) (before : List Stmt) (taken : Registers) (whole : form.Codes) (xs : List Expr) (i : ℕ) (a : Expr) (c d : List Stmt) (r s : Registers) (vs : List Expr) (v : form.Operand) →
    i < length xs → a ≡ get_or xs i a →
    Leaves before taken whole (arguments_code_in x (drop i xs) r.next) c r vs → Adds c r (expression_code_in x a r.next) d s v →
    Leaves before taken whole (arguments_code_in x (drop (i + 1) xs) s.next) d s (vs ++ (form.expression_of v ∷ []))
one_gone_at x before taken whole xs i a c d r s vs v below at h g =
    one_gone x before taken whole a (drop (i + 1) xs) c d r s vs v (subst (λ es. Leaves before taken whole (arguments_code_in x es r.next) c r vs) (drop_more xs i a below ∙ ap (λ y. y ∷ drop (i + 1) xs) (sym at)) h) g

pub all_gone_at : (x : Scope) (before : List Stmt) (taken : Registers) (whole : form.Codes) (xs : List Expr) (i : ℕ) (c : List Stmt) (r : Registers) (vs : List Expr) →
    length xs ≤ i → Leaves before taken whole (arguments_code_in x (drop i xs) r.next) c r vs → AddsArguments before taken whole c r vs
all_gone_at x before taken whole xs i c r vs past h =
    all_gone x before taken whole c r vs (subst (λ es. Leaves before taken whole (arguments_code_in x es r.next) c r vs) (drop_all i xs past) h)
