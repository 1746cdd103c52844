-- What operators make of values: binary operators (C11 6.5.5 to 6.5.14), `? :` (6.5.15), casts (6.5.4) and unary operators (6.5.3).
use Rattle.std.specs.Prelude.{ℕ, if◌then◌else◌, List, Ok, Err}
use Rattle.c_lexer.specs.declared.token.Place.{Place}
use Rattle.step_meaning.specs.declared.value.IntKind.{IntKind}
use Rattle.step_meaning.specs.declared.value.IntKind.TheVariants as kind
use Rattle.step_meaning.specs.declared.value.CType.{CType, end_of-CType, more_of-CType}
use Rattle.step_meaning.specs.declared.value.CType.TheVariants as type
use Rattle.step_meaning.specs.declared.expr.Side.TheVariants.{PointerLast}
use Rattle.step_meaning.specs.declared.expr.Expr.{Expr}
use Rattle.step_meaning.specs.declared.expr.Expr.TheVariants as e
use Rattle.step_meaning.specs.declared.program.Layout.{Layout}
use Rattle.step_meaning.specs.Types.{same_type}
use Rattle.step_meaning.specs.TypeRules.{cells}
use Rattle.step_meaning.specs.Conversions.{promoted}
use Rattle.step_meaning.specs.ExpressionTypes.{pointer_to, is_register, is_void}
use Rattle.step_meaning.specs.Library.{int, void_pointer}
use Rattle.typing_rules.specs.declared.fault.TypeFault.TheVariants.{Mismatch, NotPlace}
use Rattle.typing_rules.specs.declared.operand.Origin.TheVariants.{NullPointer}
use Rattle.typing_rules.specs.declared.operand.What.{What}
use Rattle.typing_rules.specs.declared.operand.What.TheVariants.{At}
use Rattle.typing_rules.specs.declared.operand.Operand.{Operand}
use Rattle.typing_rules.specs.declared.operand.Value.{Value}
use Rattle.typing_rules.specs.declared.judgement.Operator.{Operator}
use Rattle.typing_rules.specs.declared.judgement.Operation.{Operation}
use Rattle.typing_rules.specs.declared.judgement.Operation.TheVariants.{Arithmetic, Shift, MovePointer, PointerDifference, CompareIntegers, ComparePointers, CompareWithNull, CompareNullWith, LogicalAnd, LogicalOr}
use Rattle.typing_rules.specs.declared.judgement.Selection.{Selection}
use Rattle.typing_rules.specs.declared.judgement.Selection.TheVariants.{OfIntegers, OfOneType, NullLast, NullFirst}
use Rattle.typing_rules.specs.declared.judgement.CastConversion.{CastConversion}
use Rattle.typing_rules.specs.declared.judgement.CastConversion.TheVariants.{ToKind, ToVoid, ToNull, Unchanged}
use Rattle.typing_rules.specs.Checked.{Checked, ◌>>=◌, kept}
use Rattle.typing_rules.specs.Judgements.{shape, is_scalar_shape, is_null, operation, selection, cast_conversion}
use Rattle.typing_rules.specs.Operands.{made, made_from, at_place, brought}

-- ---- binary operators

module _ (layouts : List Layout) where
  -- the cells of what a pointer points to
  unfoldable pub unit : CType → ℕ
  unit (type.Pointer' b (more_of-CType t end_of-CType)) = cells layouts t
  unit t = 0

  unfoldable pub computed : Place → Operation → Value → Value → Operand
  computed first (Arithmetic o k) a b = made first (e.Binary o k (brought k a) (brought k b)) (type.Int k)
  computed first (Shift o k l) a b = made first (e.Binary o k (brought k a) (brought l b)) (type.Int k)
  computed first (MovePointer PointerLast) a b = made first (e.Move a.expr b.expr (unit b.ctype) PointerLast) b.ctype
  computed first (MovePointer side) a b = made first (e.Move a.expr b.expr (unit a.ctype) side) a.ctype
  computed first PointerDifference a b = made first (e.Difference a.expr b.expr (unit a.ctype)) (type.Int kind.Long)
  computed first (CompareIntegers c k) a b = made first (e.Compare c (brought k a) (brought k b)) int
  computed first (ComparePointers c) a b = made first (e.Compare c a.expr b.expr) int
  computed first (CompareWithNull c) a b = made first (e.Compare c a.expr e.Null) int
  computed first (CompareNullWith c) a b = made first (e.Compare c e.Null b.expr) int
  computed first LogicalAnd a b = made first (e.Both a.expr b.expr) int
  computed first LogicalOr a b = made first (e.Either a.expr b.expr) int

  -- a o b, with the operator at this place
  unfoldable pub combined : Place → Operator → Value → Value → Checked Operand
  combined at o a b = do
    how ← kept (Mismatch at) (operation o (shape a.ctype) (is_null a.origin) (shape b.ctype) (is_null b.origin) (same_type a.ctype b.ctype))
    Ok (computed a.first how a b)

-- ---- `? :`

unfoldable pub selected : Place → Selection → Expr → Value → Value → Operand
selected first (OfIntegers k) test a b = made first (e.Choose test (brought k a) (brought k b)) (type.Int k)
selected first OfOneType test a b = made first (e.Choose test a.expr b.expr) a.ctype
selected first NullLast test a b = made first (e.Choose test a.expr e.Null) a.ctype
selected first NullFirst test a b = made first (e.Choose test e.Null b.expr) b.ctype

-- with the `?` at this place, and the first token of the condition at `first`
unfoldable pub choice_of : Place → Place → Expr → Value → Value → Checked Operand
choice_of at first test a b = do
  how ← kept (Mismatch at) (selection (shape a.ctype) (is_null a.origin) (shape b.ctype) (is_null b.origin) (same_type a.ctype b.ctype))
  Ok (selected first how test a b)

-- ---- casts

unfoldable pub cast_by : Place → CastConversion → Value → Operand
cast_by first (ToKind k) v = made first (brought k v) (type.Int k)
cast_by first ToVoid v = made first (e.Discard v.expr) type.Void
cast_by first ToNull v = made_from NullPointer first e.Null void_pointer
cast_by first Unchanged v = made first v.expr v.ctype

-- a cast to the type, with its `(` at this place
unfoldable pub cast : Place → CType → Value → Checked Operand
cast at t v = do
  how ← kept (Mismatch at) (cast_conversion (shape t) (shape v.ctype) v.origin (same_type t v.ctype))
  Ok (cast_by at how v)

-- ---- unary operators, each at this place

abbrev pub promoted_value : Place → (IntKind → Expr → Expr) → Value → CType → Checked Operand
promoted_value at f v (type.Int k) = Ok (made at (f (promoted k) (brought (promoted k) v)) (type.Int (promoted k)))
promoted_value at f v t = Err (Mismatch at)

-- `+`, `-` and `~` on a promoted integer (C11 6.5.3.3, 1 to 4)
unfoldable pub promoting : Place → (IntKind → Expr → Expr) → Value → Checked Operand
promoting at f v = promoted_value at f v v.ctype

-- `!` (C11 6.5.3.3, 1 and 5)
unfoldable pub negation : Place → Value → Checked Operand
negation at v = if is_scalar_shape (shape v.ctype) then Ok (made at (e.Not v.expr) int) else Err (Mismatch at)

-- `&` takes an lvalue, which is no register (C11 6.5.3.2, 1 and 3)
abbrev pub address_at : Place → What → Checked Operand
address_at at (At p t) = if is_register p then Err (NotPlace at) else Ok (made at (e.Address p t) (pointer_to t))
address_at at w = Err (NotPlace at)

unfoldable pub address : Place → Operand → Checked Operand
address at a = address_at at a.what

-- `*` takes a pointer, and none to `void` (C11 6.5.3.2, 2 and 4)
abbrev pub pointee : Place → Place → Expr → CType → Checked Operand
pointee at first x (type.Pointer' b (more_of-CType t end_of-CType)) = if is_void t then Err (Mismatch at) else Ok (at_place first (e.Deref x) t)
pointee at first x t = Err (Mismatch at)

unfoldable pub dereferenced : Place → Value → Checked Operand
dereferenced at v = pointee at at v.expr v.ctype
