-- Lists of numbers that fall: each is below the one before it.
use Rattle.std.proofs.Common.{ℕ, ◌≤◌, ◌<◌, List, [], ◌∷◌, arith}

-- each number is below the one before it, and the first below a bound
abbrev pub Falls : List ℕ → ℕ → Type 0
Falls [] n = Unit {0}
Falls (m ∷ ms) n = (m < n) × Falls ms m

pub falls_more : (ms : List ℕ) (m n : ℕ) → m ≤ n → Falls ms m → Falls ms n
falls_more [] m n l h = tt
falls_more (k ∷ ms) m n l h = (let i : k < m = h.0 in omega arith, h.1)
