-- What a test on a type tells of the values of the type.
use Rattle.std.proofs.lemmas.Bool.{le-leb}
use Rattle.std.proofs.Common.{◌≡◌, ◌<◌, ◌≤◌, Bool, true, false, cond, Option, Some, None, refl, arith}
use Rattle.std.specs.Prelude.{ℤ, pos, negsuc, is_some}
use Rattle.step_meaning.specs.declared.value.IntKind.{IntKind}
use Rattle.step_meaning.specs.declared.value.IntKind.TheVariants as kind
use Rattle.step_meaning.specs.declared.value.CType.{CType}
use Rattle.step_meaning.specs.declared.value.CType.TheVariants as type
use Rattle.step_meaning.specs.declared.value.Value.{Value}
use Rattle.step_meaning.specs.declared.expr.IntOp.{IntOp}
use Rattle.step_meaning.specs.declared.expr.IntOp.TheVariants as op
use Rattle.step_meaning.specs.Types.{where_true}
use Rattle.step_meaning.specs.Names.{integer, of_truth}
use Rattle.step_meaning.specs.Numbers.{is_signed, is_right_operand}
use Rattle.step_meaning.specs.TypeRules.{is_scalar}
use Rattle.step_meaning.specs.ExpressionTypes.{has_this_type, has_kind, has_integer_type, has_promoted_kind, has_pointer_type, has_scalar_type, is_shift}
use Rattle.step_meaning.proofs.Ranges.{bound, false_is_not_true, and_true, natural_below, negative_below}
use Rattle.step_meaning.proofs.OperatorRanges.{InRange}
use Rattle.step_meaning.proofs.TypedMemory.{WhereSome, InCell}
use Rattle.step_meaning.proofs.StepsFit.{IsAddress}
use Rattle.step_meaning.proofs.TypedAccesses.{address_of_type}
use Rattle.step_meaning.proofs.TypedOperators.{OfType, in_same_cell, integer_in_range}
use Rattle.run_turns.specs.Typed.{IsInteger}

-- a value of the type, where there is one
abbrev pub OfSome : Option CType → Value → Type 0
OfSome o v = WhereSome (λ t. OfType t v) o

pub some_tells : (b : Bool) (t : CType) → is_some (where_true b t) ≡ true → b ≡ true
some_tells true t h = refl
some_tells false t h = false_is_not_true h

pub this_is_there : (t : CType) (o : Option CType) → has_this_type t o ≡ true → is_some o ≡ true
this_is_there t None h = h
this_is_there t (Some u) h = refl

pub scalar_is_there : (o : Option CType) → has_scalar_type o ≡ true → is_some o ≡ true
scalar_is_there None h = h
scalar_is_there (Some t) h = refl

pub integer_is_there : (o : Option CType) → has_integer_type o ≡ true → is_some o ≡ true
integer_is_there None h = h
integer_is_there (Some t) h = refl

pub promoted_is_there : (o : Option CType) → has_promoted_kind o ≡ true → is_some o ≡ true
promoted_is_there None h = h
promoted_is_there (Some t) h = refl

pub pointer_is_there : (o : Option CType) → has_pointer_type o ≡ true → is_some o ≡ true
pointer_is_there None h = h
pointer_is_there (Some t) h = refl

-- ---- values

pub of_this : (t : CType) (o : Option CType) (v : Value) → is_scalar t ≡ true → has_this_type t o ≡ true → OfSome o v → InCell t v
of_this t None v s h g = false_is_not_true h
of_this t (Some u) v s h g = in_same_cell t u v s h g

pub of_kind : (k : IntKind) (o : Option CType) (v : Value) → has_kind k o ≡ true → OfSome o v → InRange k (integer v)
of_kind k o v h g = integer_in_range k v (of_this (type.Int k) o v refl h g)

pub of_integer : (o : Option CType) (v : Value) → has_integer_type o ≡ true → OfSome o v → IsInteger v
of_integer (Some (type.Int k)) v h g = (k, g)
of_integer None v h g = false_is_not_true h
of_integer (Some type.Void) v h g = false_is_not_true h
of_integer (Some (type.Pointer' b t)) v h g = false_is_not_true h
of_integer (Some (type.Array' b t n)) v h g = false_is_not_true h
of_integer (Some (type.Struct n)) v h g = false_is_not_true h

pub of_pointer : (o : Option CType) (v : Value) → has_pointer_type o ≡ true → OfSome o v → IsAddress v
of_pointer (Some (type.Pointer' b t)) v h g = address_of_type b t v g
of_pointer None v h g = false_is_not_true h
of_pointer (Some type.Void) v h g = false_is_not_true h
of_pointer (Some (type.Int k)) v h g = false_is_not_true h
of_pointer (Some (type.Array' b t n)) v h g = false_is_not_true h
of_pointer (Some (type.Struct n)) v h g = false_is_not_true h

pub truth_of_type : (b : Bool) → OfType (type.Int kind.Int) (of_truth b)
truth_of_type true = (refl, tt)
truth_of_type false = (refl, tt)

-- ---- the right operand

bound_of_signed : (k : IntKind) → is_signed k ≡ true → bound k ≤ 9223372036854775808
bound_of_signed kind.Char h = omega arith
bound_of_signed kind.SChar h = omega arith
bound_of_signed kind.Short h = omega arith
bound_of_signed kind.Int h = omega arith
bound_of_signed kind.Long h = omega arith
bound_of_signed kind.UChar h = false_is_not_true h
bound_of_signed kind.UShort h = false_is_not_true h
bound_of_signed kind.UInt h = false_is_not_true h
bound_of_signed kind.ULong h = false_is_not_true h

bound_of_any : (k : IntKind) → bound k ≤ 18446744073709551616
bound_of_any kind.Char = omega arith
bound_of_any kind.SChar = omega arith
bound_of_any kind.Short = omega arith
bound_of_any kind.Int = omega arith
bound_of_any kind.Long = omega arith
bound_of_any kind.UChar = omega arith
bound_of_any kind.UShort = omega arith
bound_of_any kind.UInt = omega arith
bound_of_any kind.ULong = omega arith

-- a shift count may have any kind
count_fits : (k l : IntKind) (z : ℤ) → InRange l z → is_right_operand op.Shl k z ≡ true
count_fits k l (pos n) h = let b = natural_below l n h in let c = bound_of_any l in le-leb n 18446744073709551615 (omega (arith, b, c))
count_fits k l (negsuc n) h = let b = negative_below l n h in let c = bound_of_signed l b.0 in let d : n < bound l = b.1 in and_true (le-leb n 9223372036854775807 (omega (arith, c, d))) refl

of_promoted : (k : IntKind) (o : Option CType) (w : Value) → has_promoted_kind o ≡ true → OfSome o w → is_right_operand op.Shl k (integer w) ≡ true
of_promoted k (Some (type.Int l)) w h g = count_fits k l (integer w) (integer_in_range l w g)
of_promoted k None w h g = false_is_not_true h
of_promoted k (Some type.Void) w h g = false_is_not_true h
of_promoted k (Some (type.Pointer' b t)) w h g = false_is_not_true h
of_promoted k (Some (type.Array' b t n)) w h g = false_is_not_true h
of_promoted k (Some (type.Struct n)) w h g = false_is_not_true h

pub right_operand : (o : IntOp) (k : IntKind) (b : Option CType) (w : Value) → cond (is_shift o) (has_promoted_kind b) (has_kind k b) ≡ true → OfSome b w → is_right_operand o k (integer w) ≡ true
right_operand op.Add k b w h g = of_kind k b w h g
right_operand op.Sub k b w h g = of_kind k b w h g
right_operand op.Mul k b w h g = of_kind k b w h g
right_operand op.Div k b w h g = of_kind k b w h g
right_operand op.Rem k b w h g = of_kind k b w h g
right_operand op.Shl k b w h g = of_promoted k b w h g
right_operand op.Shr k b w h g = of_promoted k b w h g
right_operand op.And k b w h g = of_kind k b w h g
right_operand op.Or k b w h g = of_kind k b w h g
right_operand op.Xor k b w h g = of_kind k b w h g
