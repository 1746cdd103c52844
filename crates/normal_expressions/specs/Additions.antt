-- What is added to the code and to the registers of a function.
use Rattle.std.specs.Prelude.{◌≡◌, ℕ, suc, List, [], ◌∷◌, ◌++◌, map}
use Rattle.step_meaning.specs.declared.value.CType.{CType}
use Rattle.step_meaning.specs.declared.expr.Expr.{Expr}
use Rattle.step_meaning.specs.declared.stmt.Stmt.{Stmt}
use Rattle.normal_laws.specs.NormalForm as form
use Rattle.normal_trees.specs.Operands.{register_type, target_of, object_of}
use Rattle.normal_expressions.specs.declared.registers.Registers.{Registers}
use Rattle.normal_expressions.specs.declared.scope.Place.{Place}

-- the types of the registers that are taken, in order
unfoldable pub types_of : Registers → List CType
types_of r = map register_type r.types.items

abbrev pub type_of : form.Typed → CType
type_of (form.Is i t) = t

-- the code that makes a value, with its registers
pub record Adds (before : List Stmt) (taken : Registers) (made : form.Code) (code : List Stmt) (more : Registers) (a : form.Operand) : Type 0 where
  pub code_is : code ≡ before ++ made.code
  pub types_are : types_of more ≡ types_of taken ++ map type_of made.types
  pub next_is : more.next ≡ made.next
  pub value_is : a ≡ made.value

-- the same of an lvalue
pub record AddsPlace (before : List Stmt) (taken : Registers) (made : form.PlaceCode) (code : List Stmt) (more : Registers) (p : Place) : Type 0 where
  pub code_is : code ≡ before ++ made.code
  pub types_are : types_of more ≡ types_of taken ++ map type_of made.types
  pub next_is : more.next ≡ made.next
  pub target_is : target_of p.target ≡ made.target
  pub object_is : object_of p.object ≡ made.ctype

-- the same of arguments
pub record AddsArguments (before : List Stmt) (taken : Registers) (made : form.Codes) (code : List Stmt) (more : Registers) (values : List Expr) : Type 0 where
  pub code_is : code ≡ before ++ made.code
  pub types_are : types_of more ≡ types_of taken ++ map type_of made.types
  pub next_is : more.next ≡ made.next
  pub values_are : values ≡ map form.expression_of made.values

-- the next register takes an expression
abbrev pub taking : CType → Expr → ℕ → form.Code
taking t e m = record { code = form.one (form.set_to m t e); value = form.Held m t; next = suc m; types = form.Is m t ∷ [] }
