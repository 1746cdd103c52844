-- The interval of an operation holds its result.
use Rattle.std.proofs.Common.{◌≡◌, ℕ, zero, suc, ◌≤◌, ◌/◌, ◌%◌, ℤ, pos, negsuc, ◌+ℤ◌, ◌-ℤ◌, ◌*ℤ◌, neg_ℤ, ◌≤ℤ◌, int_div, int_rem, unsigned_abs, refl, arith, div-le_self, div-add-mod', mul-le-mul_right}
use Rattle.std.proofs.lemmas.Int.{ints, clamps}
use Rattle.std.specs.Int.{int_min, int_max}
use Rattle.step_meaning.specs.Bounded.{IsWithin}
use Rattle.step_meaning.specs.Intervals.{Interval, IsLimited, from_to, alone, negated, sum, difference, product, around_zero}

-- z is one of the numbers of the interval
pub record In (i : Interval) (z : ℤ) : Type 0 where
  pub low : i.low ≤ℤ z
  pub high : z ≤ℤ i.high

pub within : (i : Interval) (z : ℤ) → IsLimited i → In i z → IsWithin z
within i z l h = let a = l.0.0 in let b = l.1.1 in let c = h.low in let d = h.high in (omega (arith, ints), omega (arith, ints))

pub in_alone : (z : ℤ) → In (alone z) z
in_alone z = record { low = omega (arith, ints); high = omega (arith, ints) }

pub in_negated : (i : Interval) (z : ℤ) → In i z → In (negated i) (neg_ℤ z)
in_negated i z h = let c = h.low in let d = h.high in record { low = omega (arith, ints); high = omega (arith, ints) }

pub in_sum : (i j : Interval) (x y : ℤ) → In i x → In j y → In (sum i j) (x +ℤ y)
in_sum i j x y h k = let a = h.low in let b = h.high in let c = k.low in let d = k.high in record { low = omega (arith, ints); high = omega (arith, ints) }

pub in_difference : (i j : Interval) (x y : ℤ) → In i x → In j y → In (difference i j) (x -ℤ y)
in_difference i j x y h k = let a = h.low in let b = h.high in let c = k.low in let d = k.high in record { low = omega (arith, ints); high = omega (arith, ints) }

-- ---- products

-- two factors of the same sign
up_times : (x y : ℤ) (n : ℕ) → x ≤ℤ y → (x *ℤ pos n) ≤ℤ (y *ℤ pos n)
up_times (pos x) (pos y) n h = let k : x ≤ y = omega (arith, ints) in let m = mul-le-mul_right n k in omega (arith, ints)
up_times (negsuc x) (pos y) n h = omega (arith, ints)
up_times (pos x) (negsuc y) n h = absurd (omega (arith, ints))
up_times (negsuc x) (negsuc y) n h = let k : y ≤ x = omega (arith, ints) in let m = mul-le-mul_right n k in omega (arith, ints)

-- two factors of different signs
down_times : (x y : ℤ) (n : ℕ) → x ≤ℤ y → (y *ℤ negsuc n) ≤ℤ (x *ℤ negsuc n)
down_times (pos x) (pos y) n h = let k : x ≤ y = omega (arith, ints) in let m = mul-le-mul_right (suc n) k in omega (arith, ints)
down_times (negsuc x) (pos y) n h = omega (arith, ints)
down_times (pos x) (negsuc y) n h = absurd (omega (arith, ints))
down_times (negsuc x) (negsuc y) n h = let k : y ≤ x = omega (arith, ints) in let m = mul-le-mul_right (suc n) k in omega (arith, ints)

-- a product with a fixed factor lies between the products with the ends
between : (l h x y : ℤ) → l ≤ℤ x → x ≤ℤ h → (int_min (l *ℤ y) (h *ℤ y) ≤ℤ (x *ℤ y)) × ((x *ℤ y) ≤ℤ int_max (l *ℤ y) (h *ℤ y))
between l h x (pos n) a b = let c = up_times l x n a in let d = up_times x h n b in (omega (arith, ints, clamps), omega (arith, ints, clamps))
between l h x (negsuc n) a b = let c = down_times l x n a in let d = down_times x h n b in (omega (arith, ints, clamps), omega (arith, ints, clamps))

between_right : (l h x y : ℤ) → l ≤ℤ x → x ≤ℤ h → (int_min (y *ℤ l) (y *ℤ h) ≤ℤ (y *ℤ x)) × ((y *ℤ x) ≤ℤ int_max (y *ℤ l) (y *ℤ h))
between_right l h x y a b = let c = between l h x y a b in let d = c.0 in let e = c.1 in (omega (arith, ints, clamps), omega (arith, ints, clamps))

-- over plain ends: the two inner facts and the outer one
joined : (p q r s u v z : ℤ) → int_min u v ≤ℤ z → z ≤ℤ int_max u v → int_min p q ≤ℤ u → u ≤ℤ int_max p q → int_min r s ≤ℤ v → v ≤ℤ int_max r s
    → In (from_to (int_min (int_min p q) (int_min r s)) (int_max (int_max p q) (int_max r s))) z
joined p q r s u v z a b c d e f = record { low = omega (arith, ints, clamps); high = omega (arith, ints, clamps) }

pub in_product : (i j : Interval) (x y : ℤ) → In i x → In j y → In (product i j) (x *ℤ y)
in_product i j x y h k =
    let outer = between i.low i.high x y h.low h.high in
    let left = between_right j.low j.high y i.low k.low k.high in
    let right = between_right j.low j.high y i.high k.low k.high in
    joined (i.low *ℤ j.low) (i.low *ℤ j.high) (i.high *ℤ j.low) (i.high *ℤ j.high) (i.low *ℤ y) (i.high *ℤ y) (x *ℤ y) outer.0 outer.1 left.0 left.1 right.0 right.1

-- ---- quotients and remainders

-- z is no further from 0 than x
abbrev Nearer : ℤ → ℤ → Type 0
Nearer z x = unsigned_abs z ≤ unsigned_abs x

in_around : (i : Interval) (x z : ℤ) → In i x → Nearer z x → In (around_zero i) z
in_around i (pos x) (pos z) h n = let a = h.low in let b = h.high in record { low = omega (arith, ints, clamps); high = omega (arith, ints, clamps) }
in_around i (pos x) (negsuc z) h n = let a = h.low in let b = h.high in record { low = omega (arith, ints, clamps); high = omega (arith, ints, clamps) }
in_around i (negsuc x) (pos z) h n = let a = h.low in let b = h.high in record { low = omega (arith, ints, clamps); high = omega (arith, ints, clamps) }
in_around i (negsuc x) (negsuc z) h n = let a = h.low in let b = h.high in record { low = omega (arith, ints, clamps); high = omega (arith, ints, clamps) }

abs_minus : (n : ℕ) → unsigned_abs (neg_ℤ (pos n)) ≡ n
abs_minus zero = refl
abs_minus (suc n) = refl

quotient_nearer : (x y : ℤ) → Nearer (int_div x y) x
quotient_nearer (pos x) (pos y) = div-le_self x y
quotient_nearer (pos x) (negsuc y) = omega (arith, abs_minus (x / suc y), div-le_self x (suc y))
quotient_nearer (negsuc x) (pos y) = omega (arith, abs_minus (suc x / y), div-le_self (suc x) y)
quotient_nearer (negsuc x) (negsuc y) = div-le_self (suc x) (suc y)

mod_le : (x y : ℕ) → x % y ≤ x
mod_le x y = omega (arith, div-add-mod' x y)

remainder_nearer : (x y : ℤ) → Nearer (int_rem x y) x
remainder_nearer (pos x) (pos y) = mod_le x y
remainder_nearer (pos x) (negsuc y) = mod_le x (suc y)
remainder_nearer (negsuc x) (pos y) = omega (arith, abs_minus (suc x % y), mod_le (suc x) y)
remainder_nearer (negsuc x) (negsuc y) = omega (arith, abs_minus (suc x % suc y), mod_le (suc x) (suc y))

pub in_quotient : (i : Interval) (x y : ℤ) → In i x → In (around_zero i) (int_div x y)
in_quotient i x y h = in_around i x (int_div x y) h (quotient_nearer x y)

pub in_remainder : (i : Interval) (x y : ℤ) → In i x → In (around_zero i) (int_rem x y)
in_remainder i x y h = in_around i x (int_rem x y) h (remainder_nearer x y)
