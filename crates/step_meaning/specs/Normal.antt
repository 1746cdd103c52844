-- Programs in normal form: each statement makes at most one access or call, those of `getchar`, `putchar`, `malloc` and `free` included, and the parts of an expression are kept in registers.
use Rattle.std.specs.Prelude.{ℕ, suc, Bool, true, false, ◌&&◌, ◌||◌, not, ◌==◌, pos, List, [], ◌∷◌, Option, Some, None, IsTrue}
use Rattle.step_meaning.specs.declared.value.IntKind.TheVariants as kind
use Rattle.step_meaning.specs.declared.expr.Expr.{Expr, Row_of-Expr, end_of-Expr, more_of-Expr}
use Rattle.step_meaning.specs.declared.expr.Expr.TheVariants.{Literal, Null, Load, Address, Convert', Unary', Binary', Compare', Move', Difference', Not', Both', Either', Choose', Assign', Update', Invoke', GetChar, PutChar', Malloc', Free', Discard', Own, Deref', Member', Index'}
use Rattle.step_meaning.specs.declared.expr.Place_.{Place_, end_of-Place_, more_of-Place_}
use Rattle.step_meaning.specs.declared.stmt.Stmt.{Stmt, Row_of-Stmt, end_of-Stmt, more_of-Stmt}
use Rattle.step_meaning.specs.declared.stmt.Stmt.TheVariants.{Empty, Eval, Init, Block', If', While', Do', For', Break, Continue, Return, Ghost, Assert}
use Rattle.step_meaning.specs.declared.program.Function.{Function}
use Rattle.step_meaning.specs.declared.program.Core.{Core}
use Rattle.step_meaning.specs.ExpressionTypes.{is_void, is_register}
use Rattle.step_meaning.specs.Conversions.{same_int_kind}

-- ---- operands and places

-- the value of a register
abbrev pub is_register_value : Expr → Bool
is_register_value (Load p t) = is_register p
is_register_value _ = false

-- a register, a literal or null
abbrev pub is_operand : Expr → Bool
is_operand (Literal k z) = true
is_operand Null = true
is_operand e = is_register_value e

-- a variable that is no register, or what a register points to
abbrev pub is_plain_place : Place_ → Bool
is_plain_place (Own v) = not (is_register (Own v))
is_plain_place (Deref' b (more_of-Expr e end_of-Expr)) = is_register_value e
is_plain_place _ = false

abbrev pub are_operands : {n : _} → Row_of-Expr n → Bool
are_operands end_of-Expr = true
are_operands (more_of-Expr e more) = is_operand e && are_operands more

-- ---- expressions

abbrev mutual
  -- without an access or a call, those of the library included: registers alone are read and written
  pub is_silent : Expr → Bool
  is_silent (Literal k z) = true
  is_silent Null = true
  is_silent (Load p t) = is_register p
  is_silent (Address p t) = is_silent_place p
  is_silent (Convert' k b (more_of-Expr e end_of-Expr)) = is_silent e
  is_silent (Unary' o k b (more_of-Expr e end_of-Expr)) = is_silent e
  is_silent (Binary' o k b (more_of-Expr e end_of-Expr) c (more_of-Expr f end_of-Expr)) = is_silent e && is_silent f
  is_silent (Compare' o b (more_of-Expr e end_of-Expr) c (more_of-Expr f end_of-Expr)) = is_silent e && is_silent f
  is_silent (Move' b (more_of-Expr e end_of-Expr) c (more_of-Expr f end_of-Expr) size side) = is_silent e && is_silent f
  is_silent (Difference' b (more_of-Expr e end_of-Expr) c (more_of-Expr f end_of-Expr) unit) = is_silent e && is_silent f
  is_silent (Not' b (more_of-Expr e end_of-Expr)) = is_silent e
  is_silent (Both' b (more_of-Expr e end_of-Expr) c (more_of-Expr f end_of-Expr)) = is_silent e && is_silent f
  is_silent (Either' b (more_of-Expr e end_of-Expr) c (more_of-Expr f end_of-Expr)) = is_silent e && is_silent f
  is_silent (Choose' b (more_of-Expr e end_of-Expr) c (more_of-Expr f end_of-Expr) d (more_of-Expr g end_of-Expr)) = is_silent e && (is_silent f && is_silent g)
  is_silent (Assign' p t b (more_of-Expr e end_of-Expr)) = is_register p && is_silent e
  is_silent (Update' p t u b (more_of-Expr e end_of-Expr) w) = is_register p && is_silent e
  is_silent (Invoke' f b es) = false
  is_silent GetChar = false
  is_silent (PutChar' b (more_of-Expr e end_of-Expr)) = false
  is_silent (Malloc' b (more_of-Expr e end_of-Expr) t) = false
  is_silent (Free' b (more_of-Expr e end_of-Expr)) = false
  is_silent (Discard' b (more_of-Expr e end_of-Expr)) = is_silent e

  -- an lvalue whose address is computed so
  pub is_silent_place : Place_ → Bool
  is_silent_place (Own v) = true
  is_silent_place (Deref' b (more_of-Expr e end_of-Expr)) = is_silent e
  is_silent_place (Member' b (more_of-Place_ p end_of-Place_) o) = is_silent_place p
  is_silent_place (Index' b (more_of-Place_ p end_of-Place_) c (more_of-Expr e end_of-Expr) size) = is_silent_place p && is_silent e

-- the value at a place
abbrev pub is_place_value : Expr → Bool
is_place_value (Load p t) = is_plain_place p
is_place_value _ = false

-- one call of operands, those of the library included
abbrev pub is_single_call : Expr → Bool
is_single_call (Invoke' f b es) = are_operands es
is_single_call GetChar = true
is_single_call (PutChar' b (more_of-Expr e end_of-Expr)) = is_operand e
is_single_call (Malloc' b (more_of-Expr e end_of-Expr) t) = is_operand e
is_single_call (Free' b (more_of-Expr e end_of-Expr)) = is_operand e
is_single_call _ = false

-- a register takes an expression without an access, the value at a place, or a call; a place takes an operand; or a call alone
abbrev pub is_normal_expression : Expr → Bool
is_normal_expression (Assign' p t b (more_of-Expr e end_of-Expr)) =
    (is_register p && (is_silent e || (is_place_value e || is_single_call e))) || (is_plain_place p && is_operand e)
is_normal_expression e = is_single_call e

-- the literal 1
abbrev pub is_literal_one : Expr → Bool
is_literal_one (Literal k (pos n)) = same_int_kind k kind.Int && n == 1
is_literal_one _ = false

abbrev pub is_operand_or_nothing : Option Expr → Bool
is_operand_or_nothing None = true
is_operand_or_nothing (Some e) = is_operand e

-- ---- statements

abbrev mutual
  pub is_normal : Stmt → Bool
  is_normal Empty = true
  is_normal (Eval e) = is_normal_expression e
  is_normal (Block' b ss) = are_normal ss
  is_normal (If' e b (more_of-Stmt s end_of-Stmt) c (more_of-Stmt u end_of-Stmt)) = is_operand e && (is_normal s && is_normal u)
  is_normal (While' e b (more_of-Stmt s end_of-Stmt)) = is_literal_one e && is_normal s
  is_normal Break = true
  is_normal Continue = true
  is_normal (Return e) = is_operand_or_nothing e
  is_normal (Ghost s) = true
  is_normal (Assert v k r) = true
  is_normal (Init v o t e) = false
  is_normal (Do' b (more_of-Stmt s end_of-Stmt) e) = false
  is_normal (For' test step b (more_of-Stmt s end_of-Stmt)) = false

  pub are_normal : {n : _} → Row_of-Stmt n → Bool
  are_normal end_of-Stmt = true
  are_normal (more_of-Stmt s more) = is_normal s && are_normal more

abbrev pub all_normal : List Stmt → Bool
all_normal [] = true
all_normal (s ∷ ss) = is_normal s && all_normal ss

-- a body that ends with a `return`
abbrev pub ends_with_return : List Stmt → Bool
ends_with_return [] = false
ends_with_return (Return e ∷ []) = true
ends_with_return (s ∷ []) = false
ends_with_return (s ∷ ss) = ends_with_return ss

-- ---- programs

module _ (q : Core) where
  -- the body of `main` and of each function without a value ends with a `return`
  abbrev pub is_normal_body : ℕ → Function → Option (List Stmt) → Bool
  is_normal_body i f None = true
  is_normal_body i f (Some ss) = all_normal ss && (not (i == q.start || is_void f.result) || ends_with_return ss)

  -- the functions with numbers from i on
  abbrev pub are_normal_functions : ℕ → List Function → Bool
  are_normal_functions i [] = true
  are_normal_functions i (f ∷ fs) = is_normal_body i f f.body && are_normal_functions (suc i) fs

abbrev pub IsNormal : Core → Type 0
IsNormal q = IsTrue (are_normal_functions q 0 q.functions)
