-- What an operator gives lies in the range of its kind, and a pointer difference in that of `long`.
use Rattle.std.proofs.Common.{◌≡◌, ℕ, zero, suc, ◌≤◌, ◌<◌, ◌-◌, ◌*◌, ◌/◌, ◌^◌, Bool, true, false, cond, ◌&&◌, not, Ok, Err, refl, arith, div-le_self}
use Rattle.std.specs.Prelude.{ℤ, pos, negsuc, neg_ℤ, ◌+ℤ◌, ◌-ℤ◌, ◌*ℤ◌, nat_lt, int_div, int_rem, bit_and, bit_or, bit_xor}
use Rattle.step_meaning.specs.declared.value.IntKind.{IntKind}
use Rattle.step_meaning.specs.declared.value.IntKind.TheVariants as kind
use Rattle.step_meaning.specs.declared.value.RunFault.TheVariants as fault
use Rattle.step_meaning.specs.declared.value.Value.{Value}
use Rattle.step_meaning.specs.declared.value.Value.TheVariants as value
use Rattle.step_meaning.specs.declared.expr.IntOp.{IntOp}
use Rattle.step_meaning.specs.declared.expr.IntOp.TheVariants as op
use Rattle.step_meaning.specs.declared.expr.UnaryOp.{UnaryOp}
use Rattle.step_meaning.specs.declared.expr.UnaryOp.TheVariants as unary
use Rattle.step_meaning.specs.Numbers.{width, is_signed, is_in_range, low_bits, converted, Checked, in_kind, is_zero, with_divisor, remainder, with_count, shifted_up, shifted_down, binary_of, unary_of}
use Rattle.step_meaning.specs.Names.{same_name, in_units, distance}
use Rattle.step_meaning.proofs.Ranges.{bound, natural_in_range, natural_below, negative_in_range, negative_below, converted_in_range}

-- ---- results

-- every result that there is has the property
abbrev pub OnOk : {A : Type 0} → (A → Type 0) → Checked A → Type 0
OnOk P (Ok a) = P a
OnOk P (Err f) = Unit {0}

abbrev pub InRange : IntKind → ℤ → Type 0
InRange k z = is_in_range k z ≡ true

-- ---- operators

in_kind_fits : (k : IntKind) (z : ℤ) → OnOk (InRange k) (in_kind k z)
in_kind_fits k z = by (is_signed k) (is_in_range k z) refl
  where
    by : (s r : Bool) → is_in_range k z ≡ r → OnOk (InRange k) (cond s (cond r (Ok z) (Err fault.Overflow)) (Ok (converted k z)))
    by true true e = e
    by true false e = tt
    by false r e = converted_in_range k z

divisor_fits : (k : IntKind) (d : ℤ) (c : Checked ℤ) → OnOk (InRange k) c → OnOk (InRange k) (with_divisor d c)
divisor_fits k d c h = by (is_zero d)
  where
    by : (z : Bool) → OnOk (InRange k) (cond z (Err fault.ZeroDivisor) c)
    by true = tt
    by false = h

remainder_fits : (k : IntKind) (a b : ℤ) → OnOk (InRange k) (remainder k a b)
remainder_fits k a b = by (is_signed k && not (is_in_range k (int_div a b)))
  where
    by : (z : Bool) → OnOk (InRange k) (cond z (Err fault.Overflow) (in_kind k (int_rem a b)))
    by true = tt
    by false = in_kind_fits k (int_rem a b)

count_fits : (k : IntKind) (b : ℤ) (f : ℕ → Checked ℤ) → ((n : ℕ) → OnOk (InRange k) (f n)) → OnOk (InRange k) (with_count k b f)
count_fits k (negsuc n) f h = tt
count_fits k (pos n) f h = by (nat_lt n (width k))
  where
    by : (z : Bool) → OnOk (InRange k) (cond z (f n) (Err fault.ShiftRange))
    by true = h n
    by false = tt

up_fits : (k : IntKind) (a : ℤ) (n : ℕ) → OnOk (InRange k) (shifted_up k a n)
up_fits k (pos a) n = in_kind_fits k (pos (a * 2 ^ n))
up_fits k (negsuc a) n = by (is_signed k)
  where
    by : (z : Bool) → OnOk (InRange k) (cond z (Err fault.Overflow) (in_kind k (negsuc a *ℤ pos (2 ^ n))))
    by true = tt
    by false = in_kind_fits k (negsuc a *ℤ pos (2 ^ n))

down_fits : (k : IntKind) (a : ℤ) (n : ℕ) → InRange k a → InRange k (shifted_down a n)
down_fits k (pos a) n h = natural_in_range k (a / 2 ^ n) (let l : a < bound k = natural_below k a h in let m : a / 2 ^ n ≤ a = div-le_self a (2 ^ n) in omega arith)
down_fits k (negsuc a) n h = negative_in_range k (a / 2 ^ n) (negative_below k a h).0 (let l : a < bound k = (negative_below k a h).1 in let m : a / 2 ^ n ≤ a = div-le_self a (2 ^ n) in omega arith)

-- the left operand of a right shift has the kind
pub binary_fits : (o : IntOp) (k : IntKind) (a b : ℤ) → InRange k a → OnOk (InRange k) (binary_of o k a b)
binary_fits op.Add k a b h = in_kind_fits k (a +ℤ b)
binary_fits op.Sub k a b h = in_kind_fits k (a -ℤ b)
binary_fits op.Mul k a b h = in_kind_fits k (a *ℤ b)
binary_fits op.Div k a b h = divisor_fits k b (in_kind k (int_div a b)) (in_kind_fits k (int_div a b))
binary_fits op.Rem k a b h = divisor_fits k b (remainder k a b) (remainder_fits k a b)
binary_fits op.Shl k a b h = count_fits k b (shifted_up k a) (up_fits k a)
binary_fits op.Shr k a b h = count_fits k b (λ n. Ok (shifted_down a n)) (λ n. down_fits k a n h)
binary_fits op.And k a b h = converted_in_range k (pos (bit_and (low_bits (width k) a) (low_bits (width k) b)))
binary_fits op.Or k a b h = converted_in_range k (pos (bit_or (low_bits (width k) a) (low_bits (width k) b)))
binary_fits op.Xor k a b h = converted_in_range k (pos (bit_xor (low_bits (width k) a) (low_bits (width k) b)))

pub unary_fits : (o : UnaryOp) (k : IntKind) (a : ℤ) → OnOk (InRange k) (unary_of o k a)
unary_fits unary.Neg k a = in_kind_fits k (pos 0 -ℤ a)
unary_fits unary.Invert k a = converted_in_range k ((pos 0 -ℤ a) -ℤ pos 1)

-- ---- pointer differences

-- from -(2 ^ 32) to 2 ^ 32
abbrev pub IsShort : ℤ → Type 0
IsShort (pos n) = n ≤ 2 ^ 32
IsShort (negsuc n) = n < 2 ^ 32

short_difference : (o i : ℕ) → o < 2 ^ 32 → i < 2 ^ 32 → IsShort (pos o -ℤ pos i)
short_difference o zero h l = omega arith
short_difference o (suc i) h l = by (nat_lt o (suc i))
  where
    by : (c : Bool) → IsShort (cond c (negsuc (suc i - suc o)) (pos (o - suc i)))
    by true = omega arith
    by false = omega arith

negated_in_long : (m : ℕ) → m ≤ 2 ^ 32 → InRange kind.Long (neg_ℤ (pos m))
negated_in_long zero h = refl
negated_in_long (suc m) h = negative_in_range kind.Long m refl (omega arith)

quotient_in_long : (d : ℤ) (u : ℕ) → IsShort d → InRange kind.Long (int_div d (pos u))
quotient_in_long (pos n) u h = natural_in_range kind.Long (n / u) (let m : n / u ≤ n = div-le_self n u in omega arith)
quotient_in_long (negsuc n) u h = negated_in_long (suc n / u) (let m : suc n / u ≤ suc n = div-le_self (suc n) u in omega arith)

units_fit : (d : ℤ) (u : ℕ) → IsShort d → OnOk (InRange kind.Long) (in_units d u)
units_fit d u h = by (is_zero (int_rem d (pos u)))
  where
    by : (c : Bool) → OnOk (InRange kind.Long) (cond c (Ok (int_div d (pos u))) (Err fault.Pointer))
    by true = quotient_in_long d u h
    by false = tt

-- the offset of a pointer has 32 bits
abbrev pub HasShortOffset : Value → Type 0
HasShortOffset (value.Pointer n o) = o < 2 ^ 32
HasShortOffset _ = Unit {0}

pub distance_fits : (v w : Value) (u : ℕ) → HasShortOffset v → HasShortOffset w → OnOk (InRange kind.Long) (distance v w u)
distance_fits (value.Pointer n o) (value.Pointer m i) u h l = by (same_name n m)
  where
    by : (c : Bool) → OnOk (InRange kind.Long) (cond c (in_units (pos o -ℤ pos i) u) (Err fault.Pointer))
    by true = units_fit (pos o -ℤ pos i) u (short_difference o i h l)
    by false = tt
distance_fits value.Null value.Null u h l = refl
distance_fits value.Null (value.Int z) u h l = tt
distance_fits value.Null (value.Pointer m i) u h l = tt
distance_fits (value.Int z) w u h l = tt
distance_fits (value.Pointer n o) (value.Int z) u h l = tt
distance_fits (value.Pointer n o) value.Null u h l = tt
