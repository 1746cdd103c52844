-- The normal form of the parts of a function in code: the definition at the setting of its scope, and what of it comes after the code of the operands.
use Rattle.std.specs.Prelude.{ℕ, suc, List, [], ◌∷◌, ◌++◌, Option, Some, None, slice_get}
use Rattle.step_meaning.specs.declared.value.IntKind.{IntKind}
use Rattle.step_meaning.specs.declared.value.IntKind.TheVariants as kind
use Rattle.step_meaning.specs.declared.expr.IntOp.{IntOp}
use Rattle.step_meaning.specs.declared.expr.UnaryOp.{UnaryOp}
use Rattle.step_meaning.specs.declared.expr.CompareOp.{CompareOp}
use Rattle.step_meaning.specs.declared.expr.Side.{Side}
use Rattle.step_meaning.specs.declared.expr.Answer.{Answer}
use Rattle.step_meaning.specs.declared.expr.UpdateOp.{UpdateOp}
use Rattle.step_meaning.specs.TypeRules.{member_type}
use Rattle.step_meaning.specs.declared.value.CType.{CType}
use Rattle.step_meaning.specs.declared.value.CType.TheVariants as type
use Rattle.step_meaning.specs.declared.expr.Expr.{Expr}
use Rattle.step_meaning.specs.declared.expr.Expr.TheVariants as e
use Rattle.step_meaning.specs.declared.expr.Place_.{Place_}
use Rattle.step_meaning.specs.declared.stmt.Stmt.{Stmt}
use Rattle.step_meaning.specs.declared.stmt.Stmt.TheVariants as s
use Rattle.step_meaning.specs.Settings.{Setting, code_setting}
use Rattle.normal_laws.specs.NormalForm as form
use Rattle.normal_expressions.specs.declared.scope.Scope.{Scope}

abbrev pub setting_in : Scope → Setting
setting_in x = code_setting x.core.now x.function.now

unfoldable pub expression_code_in : Scope → Expr → ℕ → form.Code
expression_code_in x e m = form.expression_code x.core.now (setting_in x) e m

unfoldable pub place_code_in : Scope → Place_ → ℕ → form.PlaceCode
place_code_in x p m = form.place_code x.core.now (setting_in x) p m

-- of expressions in order
unfoldable pub arguments_code_in : Scope → List Expr → ℕ → form.Codes
arguments_code_in x [] m = record { code = []; values = []; next = m; types = [] }
arguments_code_in x (e ∷ es) m =
    record {
      code = (expression_code_in x e m).code ++ (arguments_code_in x es (expression_code_in x e m).next).code;
      values = (expression_code_in x e m).value ∷ (arguments_code_in x es (expression_code_in x e m).next).values;
      next = (arguments_code_in x es (expression_code_in x e m).next).next;
      types = (expression_code_in x e m).types ++ (arguments_code_in x es (expression_code_in x e m).next).types;
    }

-- the type of the value of a function
unfoldable pub result_in : Scope → ℕ → CType
result_in x f = form.result_type (slice_get x.core.now.functions f)

-- ---- what comes after the code of the operands

abbrev pub ending : List Stmt → form.Operand → ℕ → form.Code
ending ss a m = record { code = ss; value = a; next = m; types = [] }

-- an lvalue that is there already
abbrev pub standing : form.Target → CType → ℕ → form.PlaceCode
standing u t m = record { code = []; target = u; ctype = t; next = m; types = [] }

-- `&&`, where the second operand has this code
unfoldable pub both_from : form.Operand → List Stmt → form.Operand → ℕ → form.Code
both_from a ss b m = form.both_code (form.without_code a m) (ending ss b m)

unfoldable pub either_from : form.Operand → List Stmt → form.Operand → ℕ → form.Code
either_from a ss b m = form.either_code (form.without_code a m) (ending ss b m)

-- `? :`, where the branches have this code
unfoldable pub chosen_from : form.Operand → List Stmt → form.Operand → List Stmt → form.Operand → ℕ → form.Code
chosen_from c ss a us b m = form.choose_code (form.without_code c m) (ending ss a m) (ending us b m)

unfoldable pub assigned_from : CType → form.Target → form.Operand → ℕ → form.Code
assigned_from t u a m = form.assign_code t (standing u t m) (form.without_code a m)

-- the type of a value, and none of `void`
abbrev pub value_type : CType → Option CType
value_type type.Void = None
value_type t = Some t

abbrev pub invoked_at : ℕ → Option CType → List Expr → ℕ → form.Code
invoked_at f None es m = record { code = form.one (s.Eval (e.Invoke f es)); value = form.Absent; next = m; types = [] }
invoked_at f (Some t) es m = record { code = form.one (form.set_to m t (e.Invoke f es)); value = form.Held m t; next = suc m; types = form.Is m t ∷ [] }

-- a call of the function, whose result has this type
unfoldable pub invoked_from : ℕ → CType → List Expr → ℕ → form.Code
invoked_from f t es m = invoked_at f (value_type t) es m

-- ---- each form, over the code of its parts

unfoldable pub load_in : Scope → Place_ → CType → ℕ → form.Code
load_in x p t m = form.then_set_from t (λ p. e.Load p t) (place_code_in x p m)

unfoldable pub address_in : Scope → Place_ → CType → ℕ → form.Code
address_in x p t m = form.then_set_from (form.pointer_to t) (λ p. e.Address p t) (place_code_in x p m)

unfoldable pub convert_in : Scope → IntKind → Expr → ℕ → form.Code
convert_in x k a m = form.then_set (type.Int k) (form.convert k) (expression_code_in x a m)

unfoldable pub unary_in : Scope → UnaryOp → IntKind → Expr → ℕ → form.Code
unary_in x o k a m = form.then_set (type.Int k) (form.unary o k) (expression_code_in x a m)

unfoldable pub not_in : Scope → Expr → ℕ → form.Code
not_in x a m = form.then_set form.int form.negated (expression_code_in x a m)

unfoldable pub put_char_in : Scope → Expr → ℕ → form.Code
put_char_in x a m = form.then_set form.int form.put_char (expression_code_in x a m)

unfoldable pub malloc_in : Scope → Expr → CType → ℕ → form.Code
malloc_in x a t m = form.then_set (form.pointer_to t) (form.allocated t) (expression_code_in x a m)

unfoldable pub free_in : Scope → Expr → ℕ → form.Code
free_in x a m = form.release_code (expression_code_in x a m)

unfoldable pub discard_in : Scope → Expr → ℕ → form.Code
discard_in x a m = record (expression_code_in x a m) { value = form.Absent }

unfoldable pub binary_in : Scope → IntOp → IntKind → Expr → Expr → ℕ → form.Code
binary_in x o k a b m = form.then_set_both (type.Int k) (form.binary o k) (expression_code_in x a m) (expression_code_in x b (expression_code_in x a m).next)

unfoldable pub compare_in : Scope → CompareOp → Expr → Expr → ℕ → form.Code
compare_in x o a b m = form.then_set_both form.int (form.compare o) (expression_code_in x a m) (expression_code_in x b (expression_code_in x a m).next)

unfoldable pub move_in : Scope → Expr → Expr → ℕ → Side → ℕ → form.Code
move_in x a b size side m = form.move_code size side (expression_code_in x a m) (expression_code_in x b (expression_code_in x a m).next)

unfoldable pub difference_in : Scope → Expr → Expr → ℕ → ℕ → form.Code
difference_in x a b unit m = form.then_set_both (type.Int kind.Long) (λ e f. form.difference e f unit) (expression_code_in x a m) (expression_code_in x b (expression_code_in x a m).next)

unfoldable pub both_in : Scope → Expr → Expr → ℕ → form.Code
both_in x a b m = form.both_code (expression_code_in x a m) (expression_code_in x b (expression_code_in x a m).next)

unfoldable pub either_in : Scope → Expr → Expr → ℕ → form.Code
either_in x a b m = form.either_code (expression_code_in x a m) (expression_code_in x b (expression_code_in x a m).next)

unfoldable pub choose_in : Scope → Expr → Expr → Expr → ℕ → form.Code
choose_in x a b c m = form.choose_code (expression_code_in x a m) (expression_code_in x b (expression_code_in x a m).next) (expression_code_in x c (expression_code_in x b (expression_code_in x a m).next).next)

unfoldable pub assign_in : Scope → Place_ → CType → Expr → ℕ → form.Code
assign_in x p t a m = form.assign_code t (place_code_in x p m) (expression_code_in x a (place_code_in x p m).next)

unfoldable pub update_in : Scope → Place_ → CType → UpdateOp → Expr → Answer → ℕ → form.Code
update_in x p t o a w m = form.update_code t o w (place_code_in x p m) (expression_code_in x a (suc (place_code_in x p m).next))

unfoldable pub invoke_in : Scope → ℕ → List Expr → ℕ → form.Code
invoke_in x f es m = form.invoke_code f (result_in x f) (arguments_code_in x es m)

unfoldable pub deref_in : Scope → Expr → ℕ → form.PlaceCode
deref_in x a m = form.pointed_code (expression_code_in x a m)

unfoldable pub member_in : Scope → Place_ → ℕ → ℕ → form.PlaceCode
member_in x p o m = form.member_code o (form.or_void (member_type (setting_in x).layouts (place_code_in x p m).ctype o)) (place_code_in x p m)

unfoldable pub index_in : Scope → Place_ → Expr → ℕ → ℕ → form.PlaceCode
index_in x p a size m = form.index_code size (form.element_of (place_code_in x p m).ctype) (place_code_in x p m) (expression_code_in x a (place_code_in x p m).next)
