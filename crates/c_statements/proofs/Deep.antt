-- Where nothing may nest.
use Rattle.std.proofs.Common.{◌≡◌, ℕ, zero, suc, ◌<◌, Some, None, refl, arith}
use Rattle.c_words.specs.Parsing.{Leaves, Parser}
use Rattle.c_expressions.specs.ExpressionReading.{deep}

pub deep-takes : {A : Type 0} (k : ℕ) (p : Parser A) (ts : Leaves) (a : A) (rest : Leaves) → deep k p ts ≡ Some (a, rest) → (0 < k) × (p ts ≡ Some (a, rest))
deep-takes zero p ts a rest h = cc
deep-takes (suc k) p ts a rest h = (omega arith, h)

pub deep_none : {A : Type 0} (k : ℕ) (p : Parser A) (ts : Leaves) → k ≡ 0 → deep k p ts ≡ None
deep_none zero p ts e = refl
deep_none (suc k) p ts e = absurd (omega arith)

pub deep_gives : {A : Type 0} (k : ℕ) (p : Parser A) (ts : Leaves) → 0 < k → deep k p ts ≡ p ts
deep_gives zero p ts some = absurd (omega arith)
deep_gives (suc k) p ts some = refl
