-- Integers (C11 6.2.5, 6.2.6.2, 6.3.1.3, 6.5.3.3, 6.5.5 to 6.5.12): the range of each kind, conversion, and each operator with its faults.
-- A value is a whole number. Widths are those of LP64, plain `char` is signed, and signed integers have two's complement.
use Rattle.std.specs.Prelude.{ℕ, zero, ◌-◌, ◌*◌, ◌%◌, ◌/◌, ◌^◌, Bool, true, false, ◌&&◌, not, if◌then◌else◌, nat_lt, ℤ, pos, negsuc, ◌+ℤ◌, ◌-ℤ◌, ◌*ℤ◌, int_lt, int_le, int_div, int_rem, bit_and, bit_or, bit_xor, Result, Ok, Err}
use Rattle.step_meaning.specs.declared.value.IntKind.{IntKind}
use Rattle.step_meaning.specs.declared.value.IntKind.TheVariants as kind
use Rattle.step_meaning.specs.declared.value.RunFault.{RunFault}
use Rattle.step_meaning.specs.declared.value.RunFault.TheVariants as fault
use Rattle.step_meaning.specs.declared.expr.IntOp.{IntOp}
use Rattle.step_meaning.specs.declared.expr.IntOp.TheVariants as op
use Rattle.step_meaning.specs.declared.expr.UnaryOp.{UnaryOp}
use Rattle.step_meaning.specs.declared.expr.UnaryOp.TheVariants as unary
use Rattle.step_meaning.specs.declared.expr.CompareOp.{CompareOp}
use Rattle.step_meaning.specs.declared.expr.CompareOp.TheVariants as comparing

-- ---- ranges (C11 6.2.5, 6.2.6.2)

abbrev pub width : IntKind → ℕ
width kind.Char = 8
width kind.SChar = 8
width kind.UChar = 8
width kind.Short = 16
width kind.UShort = 16
width kind.Int = 32
width kind.UInt = 32
width kind.Long = 64
width kind.ULong = 64

abbrev pub is_signed : IntKind → Bool
is_signed kind.UChar = false
is_signed kind.UShort = false
is_signed kind.UInt = false
is_signed kind.ULong = false
is_signed _ = true

abbrev pub least : IntKind → ℤ
least k = if is_signed k then negsuc (2 ^ (width k - 1) - 1) else pos 0

abbrev pub greatest : IntKind → ℤ
greatest k = if is_signed k then pos (2 ^ (width k - 1) - 1) else pos (2 ^ width k - 1)

abbrev pub is_in_range : IntKind → ℤ → Bool
is_in_range k z = int_le (least k) z && int_le z (greatest k)

-- ---- conversion (C11 6.3.1.3)

-- z modulo 2 ^ bits
abbrev pub low_bits : ℕ → ℤ → ℕ
low_bits bits (pos n) = n % 2 ^ bits
low_bits bits (negsuc n) = 2 ^ bits - 1 - n % 2 ^ bits

-- the number from -2 ^ (bits - 1) on that is equal to n modulo 2 ^ bits, where n is below 2 ^ bits
abbrev pub from_low_bits : ℕ → ℕ → ℤ
from_low_bits bits n = if nat_lt n (2 ^ (bits - 1)) then pos n else negsuc (2 ^ bits - 1 - n)

-- the value of the kind that is equal to z modulo 2 ^ width, for signed kinds too
abbrev pub converted : IntKind → ℤ → ℤ
converted k z = if is_signed k then from_low_bits (width k) (low_bits (width k) z) else pos (low_bits (width k) z)

-- ---- operators

-- a result, or the fault that there is none
abbrev pub Checked : Type 0 → Type 0
Checked A = Result A RunFault

-- a signed result must lie in its type, an unsigned one is taken modulo 2 ^ width (C11 6.2.5, 9; 6.5, 5)
abbrev pub in_kind : IntKind → ℤ → Checked ℤ
in_kind k z = if is_signed k then (if is_in_range k z then Ok z else Err fault.Overflow) else Ok (converted k z)

abbrev pub is_zero : ℤ → Bool
is_zero (pos zero) = true
is_zero _ = false

-- the quotient or remainder by this divisor (C11 6.5.5, 5)
abbrev pub with_divisor : ℤ → Checked ℤ → Checked ℤ
with_divisor d r = if is_zero d then Err fault.ZeroDivisor else r

-- the least value divided by -1 has a quotient outside its type, and so no remainder either (C11 6.5.5, 6)
abbrev pub remainder : IntKind → ℤ → ℤ → Checked ℤ
remainder k a b = if is_signed k && not (is_in_range k (int_div a b)) then Err fault.Overflow else in_kind k (int_rem a b)

-- a shift by this count, which is looked at first (C11 6.5.7, 3)
abbrev pub with_count : IntKind → ℤ → (ℕ → Checked ℤ) → Checked ℤ
with_count k (negsuc n) shifted = Err fault.ShiftRange
with_count k (pos n) shifted = if nat_lt n (width k) then shifted n else Err fault.ShiftRange

-- a * 2 ^ n, which no negative value of a signed kind has (C11 6.5.7, 4)
abbrev pub shifted_up : IntKind → ℤ → ℕ → Checked ℤ
shifted_up k (negsuc a) n = if is_signed k then Err fault.Overflow else in_kind k (negsuc a *ℤ pos (2 ^ n))
shifted_up k (pos a) n = in_kind k (pos (a * 2 ^ n))

-- a / 2 ^ n rounded downwards, for negative values too (C11 6.5.7, 5)
abbrev pub shifted_down : ℤ → ℕ → ℤ
shifted_down (pos a) n = pos (a / 2 ^ n)
shifted_down (negsuc a) n = negsuc (a / 2 ^ n)

-- an operation on the bits of the operands (C11 6.5.10 to 6.5.12)
abbrev pub on_bits : (ℕ → ℕ → ℕ) → IntKind → ℤ → ℤ → Checked ℤ
on_bits f k a b = Ok (converted k (pos (f (low_bits (width k) a) (low_bits (width k) b))))

-- a binary operator on values of the kind; of a shift, the count may have another kind. `/` and `%` truncate towards 0
abbrev pub binary_of : IntOp → IntKind → ℤ → ℤ → Checked ℤ
binary_of op.Add k a b = in_kind k (a +ℤ b)
binary_of op.Sub k a b = in_kind k (a -ℤ b)
binary_of op.Mul k a b = in_kind k (a *ℤ b)
binary_of op.Div k a b = with_divisor b (in_kind k (int_div a b))
binary_of op.Rem k a b = with_divisor b (remainder k a b)
binary_of op.Shl k a b = with_count k b (shifted_up k a)
binary_of op.Shr k a b = with_count k b (λ n. Ok (shifted_down a n))
binary_of op.And k a b = on_bits bit_and k a b
binary_of op.Or k a b = on_bits bit_or k a b
binary_of op.Xor k a b = on_bits bit_xor k a b

-- C11 6.5.3.3
abbrev pub unary_of : UnaryOp → IntKind → ℤ → Checked ℤ
unary_of unary.Neg k a = in_kind k (pos 0 -ℤ a)
unary_of unary.Invert k a = Ok (converted k ((pos 0 -ℤ a) -ℤ pos 1))

-- C11 6.5.8, 6.5.9
abbrev pub compared_integers : CompareOp → ℤ → ℤ → Bool
compared_integers comparing.Equal a b = int_le a b && int_le b a
compared_integers comparing.Unequal a b = not (int_le a b && int_le b a)
compared_integers comparing.Less a b = int_lt a b
compared_integers comparing.LessEqual a b = int_le a b
compared_integers comparing.Greater a b = int_lt b a
compared_integers comparing.GreaterEqual a b = int_le b a

-- the kinds in which operators compute, after the promotions (C11 6.3.1.1, 2)
abbrev pub IsPromoted : IntKind → Type 0
IsPromoted kind.Int = Unit {0}
IsPromoted kind.UInt = Unit {0}
IsPromoted kind.Long = Unit {0}
IsPromoted kind.ULong = Unit {0}
IsPromoted _ = ⊥

-- what a shift count may be: a value of any kind. The right operand of another operator has the operator's kind
abbrev pub is_right_operand : IntOp → IntKind → ℤ → Bool
is_right_operand op.Shl k b = int_le (least kind.Long) b && int_le b (greatest kind.ULong)
is_right_operand op.Shr k b = int_le (least kind.Long) b && int_le b (greatest kind.ULong)
is_right_operand _ k b = is_in_range k b
