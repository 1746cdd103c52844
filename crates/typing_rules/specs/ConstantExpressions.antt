-- Constant expressions (C11 6.6): literals, operators on integers, `?:` and integer casts; what isn't evaluated may make a fault. And address constants (C11 6.6, 9).
-- They are told by their cores, in which all conversions are written out; only whether an index is a literal is asked of the text.
use Rattle.std.specs.Prelude.{ℕ, suc, ◌+◌, ◌*◌, ℤ, pos, Bool, true, false, ◌&&◌, nat_lt, if◌then◌else◌, List, slice_get, Option, Some, None, option_and_then, option_map, Result, Ok, Err}
use Rattle.step_meaning.specs.declared.value.RunFault.{RunFault}
use Rattle.step_meaning.specs.declared.value.CType.{CType}
use Rattle.step_meaning.specs.declared.value.CType.TheVariants as type
use Rattle.step_meaning.specs.declared.value.NameKind.TheVariants.{Global}
use Rattle.step_meaning.specs.declared.value.Value.{Value}
use Rattle.step_meaning.specs.declared.value.Value.TheVariants as value
use Rattle.step_meaning.specs.declared.expr.Expr.{Expr, end_of-Expr, more_of-Expr}
use Rattle.step_meaning.specs.declared.expr.Expr.TheVariants.{Literal, Null, Address, Convert', Unary', Binary', Compare', Not', Both', Either', Choose', Own, Member', Index'}
use Rattle.step_meaning.specs.declared.expr.Place_.{Place_, end_of-Place_, more_of-Place_}
use Rattle.step_meaning.specs.declared.program.Layout.{Layout}
use Rattle.step_meaning.specs.declared.program.Declared.{Declared}
use Rattle.step_meaning.specs.Numbers.{converted, binary_of, unary_of, compared_integers, is_zero}
use Rattle.step_meaning.specs.Types.{same_type, where_true}
use Rattle.step_meaning.specs.TypeRules.{member_type, element_type}
use Rattle.step_meaning.specs.Names.{same_kind}
use Rattle.step_meaning.specs.InitialValues.{element_count}
use Rattle.typing_rules.specs.Syntax.{Expression, Number, Character, Paren, Index, Member, Prefix}

-- ---- integers

unfoldable pub is_constant : Expr → Bool
is_constant (Literal k z) = true
is_constant (Convert' k b (more_of-Expr e end_of-Expr)) = is_constant e
is_constant (Unary' o k b (more_of-Expr e end_of-Expr)) = is_constant e
is_constant (Binary' o k b (more_of-Expr e end_of-Expr) c (more_of-Expr f end_of-Expr)) = is_constant e && is_constant f
is_constant (Compare' o b (more_of-Expr e end_of-Expr) c (more_of-Expr f end_of-Expr)) = is_constant e && is_constant f
is_constant (Not' b (more_of-Expr e end_of-Expr)) = is_constant e
is_constant (Both' b (more_of-Expr e end_of-Expr) c (more_of-Expr f end_of-Expr)) = is_constant e && is_constant f
is_constant (Either' b (more_of-Expr e end_of-Expr) c (more_of-Expr f end_of-Expr)) = is_constant e && is_constant f
is_constant (Choose' b (more_of-Expr e end_of-Expr) c (more_of-Expr f end_of-Expr) d (more_of-Expr g end_of-Expr)) = is_constant e && (is_constant f && is_constant g)
is_constant _ = false

infixl 10 ◌>>=◌
abbrev ◌>>=◌ : {A B : Type 0} → Option A → (A → Option B) → Option B
o >>= f = option_and_then f o

abbrev pub without_fault : Result ℤ RunFault → Option ℤ
without_fault (Ok z) = Some z
without_fault (Err f) = None

abbrev pub truth : Bool → ℤ
truth b = if b then pos 1 else pos 0

-- the value, where it makes no fault. `&&`, `||` and `?:` evaluate what they need (C11 6.5.13, 4; 6.5.14, 4; 6.5.15, 4)
unfoldable pub value_of : Expr → Option ℤ
value_of (Literal k z) = Some z
value_of (Convert' k b (more_of-Expr e end_of-Expr)) = option_map (converted k) (value_of e)
value_of (Unary' o k b (more_of-Expr e end_of-Expr)) = value_of e >>= (λ x. without_fault (unary_of o k x))
value_of (Binary' o k b (more_of-Expr e end_of-Expr) c (more_of-Expr f end_of-Expr)) = value_of e >>= (λ x. value_of f >>= (λ y. without_fault (binary_of o k x y)))
value_of (Compare' o b (more_of-Expr e end_of-Expr) c (more_of-Expr f end_of-Expr)) = value_of e >>= (λ x. value_of f >>= (λ y. Some (truth (compared_integers o x y))))
value_of (Not' b (more_of-Expr e end_of-Expr)) = option_map (λ x. truth (is_zero x)) (value_of e)
value_of (Both' b (more_of-Expr e end_of-Expr) c (more_of-Expr f end_of-Expr)) = value_of e >>= (λ x. if is_zero x then Some (pos 0) else option_map (λ y. if is_zero y then pos 0 else pos 1) (value_of f))
value_of (Either' b (more_of-Expr e end_of-Expr) c (more_of-Expr f end_of-Expr)) = value_of e >>= (λ x. if is_zero x then option_map (λ y. if is_zero y then pos 0 else pos 1) (value_of f) else Some (pos 1))
value_of (Choose' b (more_of-Expr e end_of-Expr) c (more_of-Expr f end_of-Expr) d (more_of-Expr g end_of-Expr)) = value_of e >>= (λ x. if is_zero x then value_of g else value_of f)
value_of _ = None

unfoldable pub constant : Expr → Option ℤ
constant x = if is_constant x then value_of x else None

-- the size of an array: 1 or more (C11 6.7.6.2, 1)
abbrev pub positive : Option ℤ → Option ℕ
positive (Some (pos (suc n))) = Some (suc n)
positive _ = None

unfoldable pub size_of_array : Expr → Option ℕ
size_of_array x = positive (constant x)

-- ---- addresses

-- a number or a character, in any parentheses
unfoldable pub is_literal : Expression → Bool
is_literal (Number t) = true
is_literal (Character t) = true
is_literal (Paren t x) = is_literal x
is_literal _ = false

-- each index of the place that the expression names, or takes the address of, is a literal
unfoldable pub has_literal_indices : Expression → Bool
has_literal_indices (Paren t x) = has_literal_indices x
has_literal_indices (Prefix t x) = has_literal_indices x
has_literal_indices (Index x t i) = has_literal_indices x && is_literal i
has_literal_indices (Member x t m) = has_literal_indices x
has_literal_indices _ = true

-- a part of a variable of file scope: the variable's number, the offset, the part's type
pub record Part : Type 0 where
  pub index : ℕ
  pub offset : ℕ
  pub ctype : CType

module _ (layouts : List Layout) (globals : List Declared) where
  abbrev pub member_part : ℕ → Part → Option Part
  member_part o p = option_map (λ t. record { index = p.index; offset = p.offset + o; ctype = t }) (member_type layouts p.ctype o)

  abbrev pub element_part : ℕ → ℕ → Part → Option Part
  element_part n size p = if nat_lt n (element_count p.ctype)
      then option_map (λ t. record { index = p.index; offset = p.offset + n * size; ctype = t }) (element_type layouts p.ctype size)
      else None

  -- members, and elements at an index in range
  unfoldable pub part_of : Place_ → Option Part
  part_of (Own v) = if same_kind v.kind Global then option_map (λ d. record { index = v.index; offset = 0; ctype = d.ctype }) (slice_get globals v.index) else None
  part_of (Member' b (more_of-Place_ p end_of-Place_) o) = part_of p >>= member_part o
  part_of (Index' b (more_of-Place_ p end_of-Place_) c (more_of-Expr (Literal k (pos n)) end_of-Expr) size) = part_of p >>= element_part n size
  part_of _ = None

  abbrev pub is_variable : Place_ → Bool
  is_variable (Own v) = true
  is_variable p = false

  abbrev pub pointer_at : Part → Value
  pointer_at p = value.Pointer (record { kind = Global; activation = 0; index = p.index }) p.offset

  -- the address of a part by `&`, or an array by its name alone
  abbrev pub address_of : Place_ → CType → Option Value
  address_of p t = part_of p >>= (λ q. where_true (if same_type t q.ctype then true else is_variable p) (pointer_at q))

  -- what an expression of this type gives a cell of a variable of file scope
  unfoldable pub initial_value : CType → Expr → Option Value
  initial_value (type.Int k) x = option_map value.Int (constant x)
  initial_value t Null = Some value.Null
  initial_value t (Address p u) = address_of p u
  initial_value t _ = None
