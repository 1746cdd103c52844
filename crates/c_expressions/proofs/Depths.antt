-- Where nothing may nest, and where something may.
use Rattle.std.proofs.Common.{◌≡◌, ℕ, zero, suc, ◌<◌, None, refl, ap, ◌∙◌, arith}
use Rattle.c_words.specs.Parsing.{Leaves, Parser}
use Rattle.c_expressions.specs.ExpressionReading.{deep, inner_at}

pub inner_depth : (n : ℕ) → (inner_at n).depth ≡ n
unfolding inner_at
inner_depth zero = refl
inner_depth (suc n) = refl

pub deep_none : {A : Type 0} (n : ℕ) (p : Parser A) (ts : Leaves) → n ≡ 0 → deep (inner_at n).depth p ts ≡ None
deep_none n p ts none = of n (inner_depth n ∙ none)
  where
    of : (n : ℕ) → (inner_at n).depth ≡ 0 → deep (inner_at n).depth p ts ≡ None
    of n e = ap (λ d. deep d p ts) e

pub deep_some : {A : Type 0} (n : ℕ) (p : Parser A) (ts : Leaves) → 0 < n → deep (inner_at n).depth p ts ≡ p ts
deep_some n p ts some = ap (λ d. deep d p ts) (inner_depth n) ∙ of n some
  where
    of : (n : ℕ) → 0 < n → deep n p ts ≡ p ts
    of zero some = absurd (omega arith)
    of (suc n) some = refl
