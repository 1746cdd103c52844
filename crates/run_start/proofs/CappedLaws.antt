-- Numbers that a word holds: sums and the greater of two.
use Rattle.std.proofs.Common.{◌≡◌, ℕ, ◌+◌, max, arith}
use Rattle.run_start.specs.Heights.{capped}

pub above_one : (d n r : ℕ) → n ≡ capped d → r ≡ capped (n + 1) → r ≡ capped (d + 1)
above_one d n r h k = omega arith

pub above_two : (d e n m r : ℕ) → n ≡ capped d → m ≡ capped e → r ≡ capped (max n m + 1) → r ≡ capped (max d e + 1)
above_two d e n m r h k l = omega arith

pub above_three : (d e f n m o g r : ℕ) → n ≡ capped d → m ≡ capped e → o ≡ capped f → g ≡ max m o → r ≡ capped (max n g + 1) → r ≡ capped (max d (max e f) + 1)
above_three d e f n m o g r h k l j i = omega arith

pub greater_of : (d e n m r : ℕ) → n ≡ capped d → m ≡ capped e → r ≡ max n m → r ≡ capped (max d e)
greater_of d e n m r h k l = omega arith

pub plus_so_many : (k d n r : ℕ) → n ≡ capped d → r ≡ capped (n + k) → r ≡ capped (d + k)
plus_so_many k d n r h l = omega arith
