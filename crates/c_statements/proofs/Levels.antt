-- One level of statements and blocks, as the code reads it.
use Rattle.std.proofs.Common.{◌≡◌, ℕ, zero, suc, ◌-◌, ◌<◌, refl, arith}
use Rattle.c_words.specs.Parsing.{Leaves}
use Rattle.c_statements.specs.StatementReading as read
use Rattle.c_statements.specs.StatementReading.{stmt_at, block_at, at_level}

pub stmt_deeper : (k : ℕ) → 0 < k → (ts : Leaves) → stmt_at k ts ≡ at_level read.stmt k (k - 1) ts
unfolding stmt_at
stmt_deeper zero some ts = absurd (omega arith)
stmt_deeper (suc n) some ts = let e : suc n - 1 ≡ n = omega arith in rw e refl

pub block_deeper : (k : ℕ) → 0 < k → (ts : Leaves) → block_at k ts ≡ at_level read.block k (k - 1) ts
unfolding block_at
block_deeper zero some ts = absurd (omega arith)
block_deeper (suc n) some ts = let e : suc n - 1 ≡ n = omega arith in rw e refl
