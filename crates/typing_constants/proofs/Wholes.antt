-- Whole numbers that don't fit 128 bits, and what kinds make of the lower 128 bits of one.
use Rattle.std.proofs.Common.{◌≡◌, ℕ, zero, suc, ◌+◌, ◌-◌, ◌*◌, ◌/◌, ◌%◌, ◌^◌, ◌<◌, ◌≤◌, Bool, true, false, cond, ◌&&◌, Option, Some, None, Ok, Err, refl, sym, ap, ◌∙◌, arith, mod-lt, mod-eq_of_lt, mul_assoc, mul-le-mul_left, div-add-mod', div-le_self}
use Rattle.std.specs.Prelude.{ℤ, pos, negsuc, ◌+ℤ◌, ◌*ℤ◌, neg_ℤ, nat_lt, int_lt, unsigned_abs, FitsSigned, int_div}
use Rattle.std.specs.Int.{w128, int_wrap, int_rem_euclid, cast_signed, cast_unsigned, CanDivide}
use Rattle.std.specs.Option.{SomeIff}
use Rattle.std.proofs.lemmas.Int.{ints, int_rem_euclid_is}
use Rattle.std.proofs.Math.IntN.{pos-*ℤ-pos}
use lib.Pow.{pow_pos}
use lib.Signed.{mag}
use Rattle.std.proofs.lemmas.Bool.{leb-true, le-leb}
use Rattle.step_meaning.specs.declared.value.IntKind.{IntKind}
use Rattle.step_meaning.specs.declared.value.IntKind.TheVariants as kind
use Rattle.step_meaning.specs.declared.value.RunFault.TheVariants as fault
use Rattle.step_meaning.specs.Numbers.{width, is_signed, is_in_range, low_bits, from_low_bits, converted, in_kind, shifted_up}
use Rattle.step_meaning.specs.Types.{where_true}
use Rattle.step_meaning.proofs.Ranges.{bound, natural_below, negative_below, left_of_and}
use Rattle.typing_rules.specs.ConstantExpressions.{without_fault}

-- ---- ranges

bounded : (k : IntKind) → bound k < 2 ^ 127
bounded kind.Char = omega arith
bounded kind.SChar = omega arith
bounded kind.UChar = omega arith
bounded kind.Short = omega arith
bounded kind.UShort = omega arith
bounded kind.Int = omega arith
bounded kind.UInt = omega arith
bounded kind.Long = omega arith
bounded kind.ULong = omega arith

-- a value of a kind fits 128 bits
pub kinds_fit : (k : IntKind) (z : ℤ) → is_in_range k z ≡ true → FitsSigned w128 z
kinds_fit k (pos n) h = let below = natural_below k n h in let small = bounded k in record { sfits = omega arith }
kinds_fit k (negsuc n) h = let below = (negative_below k n h).1 in let small = bounded k in record { sfits = omega arith }

-- what doesn't fit 128 bits is a value of no kind
pub beyond_kinds : (k : IntKind) (z : ℤ) → (FitsSigned w128 z → ⊥) → None ≡ where_true (is_in_range k z) z
beyond_kinds k z h = by (is_in_range k z) refl
  where
    by : (b : Bool) → is_in_range k z ≡ b → None ≡ where_true b z
    by true e = absurd (h (kinds_fit k z e))
    by false e = refl

-- ---- the lower bits of a number

-- the lower bits of a number are those of each natural number that is a multiple of 2 ^ bits above it
low_bits_is : (bits k n : ℕ) (z : ℤ) → z +ℤ pos (k * 2 ^ bits) ≡ pos n → low_bits bits z ≡ n % 2 ^ bits
low_bits_is bits k n z e = ap unsigned_abs (as_rest z ∙ int_rem_euclid_is z (pos (2 ^ bits)) (2 ^ bits) k n (pow_pos bits) refl e)
  where
    as_rest : (z : ℤ) → pos (low_bits bits z) ≡ int_rem_euclid z (pos (2 ^ bits))
    as_rest (pos a) = refl
    as_rest (negsuc a) = refl

times_is : (a K m M : ℕ) → K * m ≡ M → a * K * m ≡ a * M
times_is a K m M e = mul_assoc a K m ∙ ap (λ x. a * x) e

-- numbers that are apart by a multiple of a power of two have the same lower bits, for each smaller one
congruent : (b K M j k n : ℕ) (x z : ℤ) → K * 2 ^ b ≡ M → x +ℤ pos (j * M) ≡ pos (n % M) → z +ℤ pos (k * M) ≡ pos n → low_bits b x ≡ low_bits b z
congruent b K M j k n x z e at_x at_z =
    let q = n / M in
    let split = div-add-mod' n M in
    let left = times_is (j + q) K (2 ^ b) M e in
    let right = times_is k K (2 ^ b) M e in
    low_bits_is b ((j + q) * K) n x (omega (arith, ints)) ∙ sym (low_bits_is b (k * K) n z (omega (arith, ints)))

-- each number is a natural one less a multiple
above : (M : ℕ) → 0 < M → (z : ℤ) → (k : ℕ) × ((n : ℕ) × (z +ℤ pos (k * M) ≡ pos n))
above M h (pos n) = (0, (n, omega (arith, ints)))
above M h (negsuc a) = (suc a, (suc a * M - suc a, let far : suc a * 1 ≤ suc a * M = mul-le-mul_left (suc a) h in omega (arith, ints)))

-- the signed number of these 128 bits
read : (n : ℕ) → n < 2 ^ 128 → (j : ℕ) × (cast_signed w128 n +ℤ pos (j * 2 ^ 128) ≡ pos n)
read n h = by (nat_lt n (2 ^ 127)) refl
  where
    by : (b : Bool) → nat_lt n (2 ^ 127) ≡ b → (j : ℕ) × (cast_signed w128 n +ℤ pos (j * 2 ^ 128) ≡ pos n)
    by true e = (0, let below : n < 2 ^ 127 = leb-true (suc n) (2 ^ 127) e in omega (arith, ints))
    by false e = (1, let at_least : 2 ^ 127 ≤ n = not_below e in let negative : cast_signed w128 n ≡ negsuc (2 ^ 128 - suc n) = ap (λ b. cond b (pos n) (negsuc (2 ^ 128 - suc n))) e in omega (arith, ints))
      where
        not_below : nat_lt n (2 ^ 127) ≡ false → 2 ^ 127 ≤ n
        not_below e = grind (arith, le-leb)

wrapped_low : (b K : ℕ) → K * 2 ^ b ≡ 2 ^ 128 → (z : ℤ) → low_bits b (int_wrap w128 z) ≡ low_bits b z
unfolding int_wrap
wrapped_low b K e z =
    let a = above (2 ^ 128) (omega arith) z in
    let n = a.1.0 in
    let r = read (n % 2 ^ 128) (mod-lt n (omega arith)) in
    let rest = int_rem_euclid_is z (pos (2 ^ 128)) (2 ^ 128) a.0 n (omega arith) refl a.1.1 in
    ap (λ x. low_bits b (cast_signed w128 (unsigned_abs x))) rest
    ∙ congruent b K (2 ^ 128) r.0 a.0 n (cast_signed w128 (n % 2 ^ 128)) z e r.1 a.1.1

factor : (k : IntKind) → 2 ^ (128 - width k) * 2 ^ width k ≡ 2 ^ 128
factor kind.Char = refl
factor kind.SChar = refl
factor kind.UChar = refl
factor kind.Short = refl
factor kind.UShort = refl
factor kind.Int = refl
factor kind.UInt = refl
factor kind.Long = refl
factor kind.ULong = refl

-- no kind sees more than the lower 128 bits
converted_wrap : (k : IntKind) (z : ℤ) → converted k (int_wrap w128 z) ≡ converted k z
converted_wrap k z = ap (λ n. cond (is_signed k) (from_low_bits (width k) n) (pos n)) (wrapped_low (width k) (2 ^ (128 - width k)) (factor k) z)

-- ---- results

pub none_where : (b : Bool) (z : ℤ) → None ≡ where_true b z → false ≡ b
none_where true z e = absurd (no e)
  where
    no : None ≡ Some z → ⊥
    no e = cc
none_where false z e = refl

pub some_where : (b : Bool) (x z : ℤ) → Some x ≡ where_true b z → true ≡ b
some_where true x z e = refl
some_where false x z e = absurd (no e)
  where
    no : Some x ≡ None → ⊥
    no e = cc

pub signed_in_kind : (k : IntKind) (z : ℤ) → is_signed k ≡ true → where_true (is_in_range k z) z ≡ without_fault (in_kind k z)
signed_in_kind k z s = by (is_in_range k z) ∙ ap (λ b. without_fault (cond b (cond (is_in_range k z) (Ok z) (Err fault.Overflow)) (Ok (converted k z)))) (sym s)
  where
    by : (b : Bool) → where_true b z ≡ without_fault (cond b (Ok z) (Err fault.Overflow))
    by true = refl
    by false = refl

pub unsigned_in_kind : (k : IntKind) (low z : ℤ) → is_signed k ≡ false → low ≡ int_wrap w128 z → Some (converted k low) ≡ without_fault (in_kind k z)
unsigned_in_kind k low z s e =
    ap (λ x. Some (converted k x)) e ∙ ap Some (converted_wrap k z)
    ∙ ap (λ b. without_fault (cond b (cond (is_in_range k z) (Ok z) (Err fault.Overflow)) (Ok (converted k z)))) (sym s)

-- ---- quotients

nonzero_bits : (b : ℤ) → FitsSigned w128 b → (b ≡ pos 0 → ⊥) → 0 < cast_unsigned w128 b
nonzero_bits (pos zero) f h = absurd (h refl)
nonzero_bits (pos (suc n)) f h = omega arith
nonzero_bits (negsuc n) f h = let small = f.sfits in omega arith

-- a quotient by another number than 0 is there where it fits
pub whole_quotient : (r : Option ℤ) (a b : ℤ) → FitsSigned w128 b → (b ≡ pos 0 → ⊥) → SomeIff r (CanDivide w128 a b) (int_div a b) → SomeIff r (FitsSigned w128 (int_div a b)) (int_div a b)
whole_quotient None a b f h w = λ q. w (nonzero_bits b f h, q)
whole_quotient (Some x) a b f h w = (w.0.1, w.1)

negative_size : (r n : ℕ) → r ≤ n → mag (neg_ℤ (pos r)) ≤ n
negative_size zero n h = omega arith
negative_size (suc r) n h = omega arith

quotient_size : (a b : ℤ) → FitsSigned w128 a → mag (int_div a b) < 2 ^ 128
quotient_size (pos a) (pos b) f = let small = f.sfits in let less = div-le_self a b in omega arith
quotient_size (pos a) (negsuc b) f = let small = f.sfits in let less = negative_size (a / suc b) a (div-le_self a (suc b)) in omega arith
quotient_size (negsuc a) (pos b) f = let small = f.sfits in let less = negative_size (suc a / b) (suc a) (div-le_self (suc a) b) in omega arith
quotient_size (negsuc a) (negsuc b) f = let small = f.sfits in let less = div-le_self (suc a) (suc b) in omega arith

near : (z : ℤ) → mag z < 2 ^ 128 → cast_signed w128 (cast_unsigned w128 z) ≡ int_wrap w128 z
unfolding int_wrap
near (pos n) h = ap (cast_signed w128) (sym (mod-eq_of_lt h))
near (negsuc n) h = let same = mod-eq_of_lt h in ap (cast_signed w128) (omega arith)

pub wrapped_quotient : (a b : ℤ) → FitsSigned w128 a → cast_signed w128 (cast_unsigned w128 (int_div a b)) ≡ int_wrap w128 (int_div a b)
wrapped_quotient a b f = near (int_div a b) (quotient_size a b f)

-- ---- shifts

pub shifted_not : (k : IntKind) (a : ℤ) (n : ℕ) → (int_lt a (pos 0) && is_signed k) ≡ true → None ≡ without_fault (shifted_up k a n)
shifted_not k (pos a) n e = let below : a < 0 = leb-true (suc a) 0 (left_of_and _ _ e) in absurd (omega arith)
shifted_not k (negsuc a) n e = ap (λ b. without_fault (cond b (Err fault.Overflow) (in_kind k (negsuc a *ℤ pos (2 ^ n))))) (sym e)

pub shifted_is : (k : IntKind) (a : ℤ) (n : ℕ) → (int_lt a (pos 0) && is_signed k) ≡ false → without_fault (in_kind k (a *ℤ pos (2 ^ n))) ≡ without_fault (shifted_up k a n)
shifted_is k (pos a) n e = ap (λ z. without_fault (in_kind k z)) (pos-*ℤ-pos a (2 ^ n))
shifted_is k (negsuc a) n e = ap (λ b. without_fault (cond b (Err fault.Overflow) (in_kind k (negsuc a *ℤ pos (2 ^ n))))) (sym e)
