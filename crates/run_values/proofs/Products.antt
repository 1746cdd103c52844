-- A product of an integer of some kind and a size stays far below 128 bits.
use Rattle.std.proofs.Common.{◌≡◌, ℕ, suc, ◌+◌, ◌*◌, ◌^◌, ◌<◌, ◌≤◌, arith}
use Rattle.std.specs.Prelude.{ℤ, pos, negsuc, neg_ℤ, ◌*ℤ◌, ◌≤ℤ◌}
use Rattle.std.proofs.Math.Nat.{mul-le-mul}
use Rattle.std.proofs.Math.IntN.{negsuc-*ℤ-pos}
use Rattle.std.proofs.lemmas.Int.{ints}

pub high : (z : ℤ) (n : ℕ) → neg_ℤ (pos (2 ^ 64)) ≤ℤ z → z ≤ℤ pos (2 ^ 64) → n < 2 ^ 32 → (z *ℤ pos n) ≤ℤ pos (2 ^ 96)
high (pos m) n l h s =
    let a : m ≤ 2 ^ 64 = omega (arith, ints) in
    let p = mul-le-mul a (let b : n ≤ 2 ^ 32 = omega arith in b) in
    omega (arith, ints, p)
high (negsuc m) n l h s = rw (negsuc-*ℤ-pos m n) (omega (arith, ints))

pub low : (z : ℤ) (n : ℕ) → neg_ℤ (pos (2 ^ 64)) ≤ℤ z → z ≤ℤ pos (2 ^ 64) → n < 2 ^ 32 → neg_ℤ (pos (2 ^ 96)) ≤ℤ (z *ℤ pos n)
low (pos m) n l h s = omega (arith, ints)
low (negsuc m) n l h s =
    let a : suc m ≤ 2 ^ 64 = omega (arith, ints) in
    let p = mul-le-mul a (let b : n ≤ 2 ^ 32 = omega arith in b) in
    rw (negsuc-*ℤ-pos m n) (omega (arith, ints, p))
