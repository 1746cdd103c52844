-- Judgements on types: what an operator does with operands of these types, or nothing where a rule on types is broken (C11 6.5). Nothing is built here.
-- `null` says of an operand that it is a null pointer constant, and `same` that both operands have the same type.
use Rattle.std.specs.Prelude.{Bool, true, false, ◌&&◌, if◌then◌else◌, Option, Some, None}
use Rattle.c_words.specs.declared.word.Word.{Word}
use Rattle.c_words.specs.declared.word.Word.TheVariants as w
use Rattle.step_meaning.specs.declared.value.IntKind.{IntKind}
use Rattle.step_meaning.specs.declared.value.CType.{CType, end_of-CType, more_of-CType}
use Rattle.step_meaning.specs.declared.value.CType.TheVariants as type
use Rattle.step_meaning.specs.declared.expr.IntOp.{IntOp}
use Rattle.step_meaning.specs.declared.expr.IntOp.TheVariants as op
use Rattle.step_meaning.specs.declared.expr.CompareOp.{CompareOp}
use Rattle.step_meaning.specs.declared.expr.CompareOp.TheVariants as comparing
use Rattle.step_meaning.specs.declared.expr.Side.TheVariants.{PointerFirst, PointerLast, Minus}
use Rattle.step_meaning.specs.Types.{where_true}
use Rattle.step_meaning.specs.Conversions.{promoted, common}
use Rattle.step_meaning.specs.ExpressionTypes.{is_shift, is_equality}
use Rattle.typing_rules.specs.declared.judgement.Shape.{Shape}
use Rattle.typing_rules.specs.declared.judgement.Shape.TheVariants.{Integer, ToObject, ToVoid, NoValue, Aggregate}
use Rattle.typing_rules.specs.declared.judgement.Operator.{Operator}
use Rattle.typing_rules.specs.declared.judgement.Operator.TheVariants.{Compute, Relate, Both, Either}
use Rattle.typing_rules.specs.declared.judgement.Operation.{Operation}
use Rattle.typing_rules.specs.declared.judgement.Operation.TheVariants.{Arithmetic, Shift, MovePointer, PointerDifference, CompareIntegers, ComparePointers, CompareWithNull, CompareNullWith, LogicalAnd, LogicalOr}
use Rattle.typing_rules.specs.declared.judgement.Conversion.{Conversion}
use Rattle.typing_rules.specs.declared.judgement.Conversion.TheVariants as conversion_is
use Rattle.typing_rules.specs.declared.judgement.Selection.{Selection}
use Rattle.typing_rules.specs.declared.judgement.Selection.TheVariants.{OfIntegers, OfOneType, NullLast, NullFirst}
use Rattle.typing_rules.specs.declared.judgement.CastConversion.{CastConversion}
use Rattle.typing_rules.specs.declared.judgement.CastConversion.TheVariants as cast_is
use Rattle.typing_rules.specs.declared.judgement.CompoundOperation.{CompoundOperation}
use Rattle.typing_rules.specs.declared.judgement.CompoundOperation.TheVariants.{OnIntegers, Forward, Backward}
use Rattle.typing_rules.specs.declared.operand.Origin.{Origin}
use Rattle.typing_rules.specs.declared.operand.Origin.TheVariants.{ZeroLiteral, NullPointer, Allocation}

-- ---- what the judgements see of a type

unfoldable pub shape : CType → Shape
shape type.Void = NoValue
shape (type.Int k) = Integer k
shape (type.Pointer' b (more_of-CType type.Void end_of-CType)) = ToVoid
shape (type.Pointer' b (more_of-CType t end_of-CType)) = ToObject
shape (type.Array' b t n) = Aggregate
shape (type.Struct n) = Aggregate

-- an integer or a pointer (C11 6.2.5, 21)
abbrev pub is_scalar_shape : Shape → Bool
is_scalar_shape NoValue = false
is_scalar_shape Aggregate = false
is_scalar_shape _ = true

abbrev pub is_integer_shape : Shape → Bool
is_integer_shape (Integer k) = true
is_integer_shape _ = false

abbrev pub is_pointer : Shape → Bool
is_pointer ToObject = true
is_pointer ToVoid = true
is_pointer _ = false

-- a null pointer constant: the literal `0` or `(void *) 0`, in any parentheses (C11 6.3.2.3, 3, of which these two forms alone are taken)
abbrev pub is_null : Origin → Bool
is_null ZeroLiteral = true
is_null NullPointer = true
is_null _ = false

-- ---- operators

-- the operator of a chain
abbrev pub operator_of : Word → Operator
operator_of w.OrOr = Either
operator_of w.AndAnd = Both
operator_of w.Bar = Compute op.Or
operator_of w.Caret = Compute op.Xor
operator_of w.Ampersand = Compute op.And
operator_of w.EqualEqual = Relate comparing.Equal
operator_of w.NotEqual = Relate comparing.Unequal
operator_of w.Less = Relate comparing.Less
operator_of w.LessEqual = Relate comparing.LessEqual
operator_of w.Greater = Relate comparing.Greater
operator_of w.GreaterEqual = Relate comparing.GreaterEqual
operator_of w.ShiftLeft = Compute op.Shl
operator_of w.ShiftRight = Compute op.Shr
operator_of w.Plus = Compute op.Add
operator_of w.Minus = Compute op.Sub
operator_of w.Star = Compute op.Mul
operator_of w.Slash = Compute op.Div
operator_of _ = Compute op.Rem

-- the operator of `op=`, and none of `=`
abbrev pub compound_of : Word → Option IntOp
compound_of w.StarAssign = Some op.Mul
compound_of w.SlashAssign = Some op.Div
compound_of w.PercentAssign = Some op.Rem
compound_of w.PlusAssign = Some op.Add
compound_of w.MinusAssign = Some op.Sub
compound_of w.ShiftLeftAssign = Some op.Shl
compound_of w.ShiftRightAssign = Some op.Shr
compound_of w.AndAssign = Some op.And
compound_of w.XorAssign = Some op.Xor
compound_of w.OrAssign = Some op.Or
compound_of _ = None

-- ---- what a binary operator does (C11 6.5.5 to 6.5.14)

-- the usual arithmetic conversions (C11 6.3.1.8); of a shift each operand is promoted by itself (C11 6.5.7, 3)
abbrev pub on_integers : IntOp → IntKind → IntKind → Operation
on_integers o k l = if is_shift o then Shift o (promoted k) (promoted l) else Arithmetic o (common k l)

-- `+` and `-` on pointers, none of them to `void` (C11 6.5.6, 2 and 3)
unfoldable pub on_pointers : IntOp → Shape → Shape → Bool → Option Operation
on_pointers op.Add ToObject (Integer l) same = Some (MovePointer PointerFirst)
on_pointers op.Add (Integer k) ToObject same = Some (MovePointer PointerLast)
on_pointers op.Sub ToObject (Integer l) same = Some (MovePointer Minus)
on_pointers op.Sub ToObject ToObject same = where_true same PointerDifference
on_pointers _ _ _ same = None

unfoldable pub arithmetic : IntOp → Shape → Shape → Bool → Option Operation
arithmetic o (Integer k) (Integer l) same = Some (on_integers o k l)
arithmetic o t u same = on_pointers o t u same

-- two pointers of one type, and for `==` and `!=` a pointer and a null pointer constant (C11 6.5.8, 2; 6.5.9, 2)
abbrev pub relation_of_pointers : CompareOp → Shape → Bool → Shape → Bool → Bool → Option Operation
relation_of_pointers c t null u null' same =
    if is_pointer t && same then Some (ComparePointers c)
    else (if is_equality c && (is_pointer t && null') then Some (CompareWithNull c)
    else (if is_equality c && (null && is_pointer u) then Some (CompareNullWith c)
    else None))

unfoldable pub relation : CompareOp → Shape → Bool → Shape → Bool → Bool → Option Operation
relation c (Integer k) null (Integer l) null' same = Some (CompareIntegers c (common k l))
relation c t null u null' same = relation_of_pointers c t null u null' same

-- `&&` and `||` take integers and pointers (C11 6.5.13, 2; 6.5.14, 2)
unfoldable pub operation : Operator → Shape → Bool → Shape → Bool → Bool → Option Operation
operation (Compute o) t null u null' same = arithmetic o t u same
operation (Relate c) t null u null' same = relation c t null u null' same
operation Both t null u null' same = where_true (is_scalar_shape t && is_scalar_shape u) LogicalAnd
operation Either t null u null' same = where_true (is_scalar_shape t && is_scalar_shape u) LogicalOr

-- ---- conversions, as an assignment makes them, to the first type (C11 6.5.16.1, 1)

abbrev pub to_pointer : Bool → Bool → Option Conversion
to_pointer null same = if same then Some conversion_is.Unchanged else where_true null conversion_is.ToNull

unfoldable pub conversion : Shape → Shape → Bool → Bool → Option Conversion
conversion (Integer k) (Integer l) null same = Some (conversion_is.ToKind k)
conversion ToObject u null same = to_pointer null same
conversion ToVoid u null same = to_pointer null same
conversion _ u null same = None

-- ---- the second and third operand of `?:` (C11 6.5.15, 3)

-- two `void`, or two pointers of one type
abbrev pub are_alike : Shape → Bool → Bool
are_alike NoValue same = same
are_alike t same = is_pointer t && same

unfoldable pub selection : Shape → Bool → Shape → Bool → Bool → Option Selection
selection (Integer k) null (Integer l) null' same = Some (OfIntegers (common k l))
selection t null u null' same =
    if are_alike t same then Some OfOneType
    else (if is_pointer t && null' then Some NullLast
    else (if null && is_pointer u then Some NullFirst
    else None))

-- ---- casts to the first type (C11 6.5.4)

-- from integers to integers, and from anything to `void`; `(void *)` stands before the literal `0` alone, and a cast to another pointer type before a call of `malloc` of that type alone
unfoldable pub cast_conversion : Shape → Shape → Origin → Bool → Option CastConversion
cast_conversion NoValue u origin same = Some cast_is.ToVoid
cast_conversion (Integer k) (Integer l) origin same = Some (cast_is.ToKind k)
cast_conversion ToVoid u ZeroLiteral same = Some cast_is.ToNull
cast_conversion ToObject u Allocation same = where_true same cast_is.Unchanged
cast_conversion _ u origin same = None

-- ---- compound assignment (C11 6.5.16.2, 6.5.2.4, 6.5.3.1)

abbrev pub compound_on_integers : IntOp → IntKind → IntKind → CompoundOperation
compound_on_integers o k l = if is_shift o then OnIntegers o (promoted k) (promoted l) else OnIntegers o (common k l) (common k l)

-- on an lvalue of the first type
unfoldable pub compound_operation : IntOp → Shape → Shape → Option CompoundOperation
compound_operation o (Integer k) (Integer l) = Some (compound_on_integers o k l)
compound_operation op.Add ToObject (Integer l) = Some Forward
compound_operation op.Sub ToObject (Integer l) = Some Backward
compound_operation _ _ _ = None
