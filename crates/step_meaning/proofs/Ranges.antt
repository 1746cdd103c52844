-- Results of conversions and operators lie in the range of their kind.
use Rattle.std.proofs.Common.{◌≡◌, ℕ, zero, suc, ◌≤◌, ◌<◌, ◌-◌, ◌*◌, ◌^◌, Bool, true, false, cond, ◌&&◌, refl, arith, mod-lt}
use Rattle.std.specs.Prelude.{ℤ, pos, negsuc, nat_lt}
use Rattle.std.proofs.lemmas.Bool.{leb-true, le-leb}
use Rattle.step_meaning.specs.declared.value.IntKind.{IntKind}
use Rattle.step_meaning.specs.declared.value.IntKind.TheVariants as kind
use Rattle.step_meaning.specs.Numbers.{is_signed, is_in_range, low_bits, from_low_bits, converted}

-- ---- tests

pub and_true : {a b : Bool} → a ≡ true → b ≡ true → (a && b) ≡ true
and_true {a = true} e f = f
and_true {a = false} e f = e

pub left_of_and : (a b : Bool) → (a && b) ≡ true → a ≡ true
left_of_and true b e = refl
left_of_and false b e = e

pub right_of_and : (a b : Bool) → (a && b) ≡ true → b ≡ true
right_of_and true b e = e
right_of_and false b e = absurd (no e)
  where
    no : false ≡ true → ⊥
    no e = cc

pub false_is_not_true : {A : Type 0} → false ≡ true → A
false_is_not_true e = absurd (no e)
  where
    no : false ≡ true → ⊥
    no e = cc

-- ---- ranges

-- the numbers below this are those of the kind that are not negative
abbrev pub bound : IntKind → ℕ
bound kind.Char = 128
bound kind.SChar = 128
bound kind.UChar = 256
bound kind.Short = 32768
bound kind.UShort = 65536
bound kind.Int = 2147483648
bound kind.UInt = 4294967296
bound kind.Long = 9223372036854775808
bound kind.ULong = 18446744073709551616

pub natural_in_range : (k : IntKind) (n : ℕ) → n < bound k → is_in_range k (pos n) ≡ true
natural_in_range kind.Char n h = le-leb n 127 (omega arith)
natural_in_range kind.SChar n h = le-leb n 127 (omega arith)
natural_in_range kind.UChar n h = and_true (le-leb 0 n (omega arith)) (le-leb n 255 (omega arith))
natural_in_range kind.Short n h = le-leb n 32767 (omega arith)
natural_in_range kind.UShort n h = and_true (le-leb 0 n (omega arith)) (le-leb n 65535 (omega arith))
natural_in_range kind.Int n h = le-leb n 2147483647 (omega arith)
natural_in_range kind.UInt n h = and_true (le-leb 0 n (omega arith)) (le-leb n 4294967295 (omega arith))
natural_in_range kind.Long n h = le-leb n 9223372036854775807 (omega arith)
natural_in_range kind.ULong n h = and_true (le-leb 0 n (omega arith)) (le-leb n 18446744073709551615 (omega arith))

pub natural_below : (k : IntKind) (n : ℕ) → is_in_range k (pos n) ≡ true → n < bound k
natural_below kind.Char n h = let l : n ≤ 127 = leb-true n 127 h in omega arith
natural_below kind.SChar n h = let l : n ≤ 127 = leb-true n 127 h in omega arith
natural_below kind.UChar n h = let l : n ≤ 255 = leb-true n 255 (right_of_and _ _ h) in omega arith
natural_below kind.Short n h = let l : n ≤ 32767 = leb-true n 32767 h in omega arith
natural_below kind.UShort n h = let l : n ≤ 65535 = leb-true n 65535 (right_of_and _ _ h) in omega arith
natural_below kind.Int n h = let l : n ≤ 2147483647 = leb-true n 2147483647 h in omega arith
natural_below kind.UInt n h = let l : n ≤ 4294967295 = leb-true n 4294967295 (right_of_and _ _ h) in omega arith
natural_below kind.Long n h = let l : n ≤ 9223372036854775807 = leb-true n 9223372036854775807 h in omega arith
natural_below kind.ULong n h = let l : n ≤ 18446744073709551615 = leb-true n 18446744073709551615 (right_of_and _ _ h) in omega arith

-- of a signed kind, -(n + 1) too
pub negative_in_range : (k : IntKind) (n : ℕ) → is_signed k ≡ true → n < bound k → is_in_range k (negsuc n) ≡ true
negative_in_range kind.Char n e h = and_true (le-leb n 127 (omega arith)) refl
negative_in_range kind.SChar n e h = and_true (le-leb n 127 (omega arith)) refl
negative_in_range kind.Short n e h = and_true (le-leb n 32767 (omega arith)) refl
negative_in_range kind.Int n e h = and_true (le-leb n 2147483647 (omega arith)) refl
negative_in_range kind.Long n e h = and_true (le-leb n 9223372036854775807 (omega arith)) refl
negative_in_range kind.UChar n e h = e
negative_in_range kind.UShort n e h = e
negative_in_range kind.UInt n e h = e
negative_in_range kind.ULong n e h = e

pub negative_below : (k : IntKind) (n : ℕ) → is_in_range k (negsuc n) ≡ true → (is_signed k ≡ true) × (n < bound k)
negative_below kind.Char n h = (refl, let l : n ≤ 127 = leb-true n 127 (left_of_and _ _ h) in omega arith)
negative_below kind.SChar n h = (refl, let l : n ≤ 127 = leb-true n 127 (left_of_and _ _ h) in omega arith)
negative_below kind.Short n h = (refl, let l : n ≤ 32767 = leb-true n 32767 (left_of_and _ _ h) in omega arith)
negative_below kind.Int n h = (refl, let l : n ≤ 2147483647 = leb-true n 2147483647 (left_of_and _ _ h) in omega arith)
negative_below kind.Long n h = (refl, let l : n ≤ 9223372036854775807 = leb-true n 9223372036854775807 (left_of_and _ _ h) in omega arith)
negative_below kind.UChar n h = false_is_not_true h
negative_below kind.UShort n h = false_is_not_true h
negative_below kind.UInt n h = false_is_not_true h
negative_below kind.ULong n h = false_is_not_true h

-- ---- conversion

pub low_bits_below : (bits : ℕ) (z : ℤ) → zero < 2 ^ bits → low_bits bits z < 2 ^ bits
low_bits_below bits (pos n) h = mod-lt n h
low_bits_below bits (negsuc n) h = omega arith

-- a number of so many bits, read as a signed one
signed_in_range : (k : IntKind) (bits half n : ℕ) → is_signed k ≡ true → bound k ≡ half → 2 ^ (bits - 1) ≡ half → 2 ^ bits ≡ 2 * half → n < 2 ^ bits → is_in_range k (from_low_bits bits n) ≡ true
signed_in_range k bits half n s b h f l = by (nat_lt n (2 ^ (bits - 1))) refl
  where
    by : (c : Bool) → nat_lt n (2 ^ (bits - 1)) ≡ c → is_in_range k (cond c (pos n) (negsuc (2 ^ bits - 1 - n))) ≡ true
    by true e = natural_in_range k n (let m : n < 2 ^ (bits - 1) = leb-true (suc n) (2 ^ (bits - 1)) e in omega arith)
    by false e = negative_in_range k (2 ^ bits - 1 - n) s (let m : 2 ^ (bits - 1) ≤ n = at_least e in omega arith)
      where
        at_least : nat_lt n (2 ^ (bits - 1)) ≡ false → 2 ^ (bits - 1) ≤ n
        at_least e = grind (arith, le-leb)

pub converted_in_range : (k : IntKind) (z : ℤ) → is_in_range k (converted k z) ≡ true
converted_in_range kind.Char z = signed_in_range kind.Char 8 128 (low_bits 8 z) refl refl refl refl (low_bits_below 8 z (omega arith))
converted_in_range kind.SChar z = signed_in_range kind.SChar 8 128 (low_bits 8 z) refl refl refl refl (low_bits_below 8 z (omega arith))
converted_in_range kind.Short z = signed_in_range kind.Short 16 32768 (low_bits 16 z) refl refl refl refl (low_bits_below 16 z (omega arith))
converted_in_range kind.Int z = signed_in_range kind.Int 32 2147483648 (low_bits 32 z) refl refl refl refl (low_bits_below 32 z (omega arith))
converted_in_range kind.Long z = signed_in_range kind.Long 64 9223372036854775808 (low_bits 64 z) refl refl refl refl (low_bits_below 64 z (omega arith))
converted_in_range kind.UChar z = natural_in_range kind.UChar (low_bits 8 z) (low_bits_below 8 z (omega arith))
converted_in_range kind.UShort z = natural_in_range kind.UShort (low_bits 16 z) (low_bits_below 16 z (omega arith))
converted_in_range kind.UInt z = natural_in_range kind.UInt (low_bits 32 z) (low_bits_below 32 z (omega arith))
converted_in_range kind.ULong z = natural_in_range kind.ULong (low_bits 64 z) (low_bits_below 64 z (omega arith))
