-- How deep trees nest.
use Rattle.std.specs.Prelude.{◌≡◌, ℕ, Bool, nat_lt, Option}
use denote.Ref.{Bor}
use Rattle.c_words.specs.declared.chain.Chain.{Chain}
use Rattle.c_grammar.specs.declared.expression.Assign.{Assign}
use Rattle.c_words.specs.Written.{Written, nested, optional, chain}
use Rattle.c_words.specs.OperatorWords.{is_comma}
use Rattle.c_grammar.specs.Expressions.{assign}

-- what stands in the parentheses of a call
unfoldable pub arguments : Option (Chain Assign) → Written
arguments = optional (λ all. nested (chain is_comma assign all))

-- a function value that tells whether what x writes nests below the limit that it is passed
pub record Tells {A : Type 0} (f : A → Written) (limit : ℕ) (pre : Bor A → ℕ → Type 0) (post : Bor A → ℕ → Bool → Type 0) : Type 0 where
  pub callable : (x : Bor A) → pre x limit
  pub tells : (x : Bor A) (r : Bool) → post x limit r → r ≡ nat_lt (f x.now).nesting limit
