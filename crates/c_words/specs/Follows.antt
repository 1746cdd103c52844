-- A function value that gives what a parser gives.
use Rattle.std.specs.Prelude.{ℕ, Result}
use Rattle.std.specs.declared.alloc.Global.{Global}
use denote.Ref.{MutBor}
use Rattle.c_words.specs.declared.fault.ParseFault.{ParseFault}
use Rattle.c_words.specs.Parsing.{Leaves, Parser, Reads}

pub record Follows {A : Type 0} (parser : Parser A) (post : MutBor Leaves → Result A ParseFault → MutBor Leaves → Type 0) : Type 0 where
  pub reads : (old new : MutBor Leaves) (r : Result A ParseFault) → post old r new → Reads (parser old.now) r new.now

-- the same of a function that is passed the allocator and a depth
pub record Nests {A : Type 0} (parser : Parser A) (depth : ℕ) (pre : Global → MutBor Leaves → ℕ → Type 0)
    (post : Global → MutBor Leaves → ℕ → Result A ParseFault → MutBor Leaves → Type 0) : Type 0 where
  pub callable : (alloc : Global) (old : MutBor Leaves) → pre alloc old depth
  pub reads : (alloc : Global) (old new : MutBor Leaves) (r : Result A ParseFault) → post alloc old depth r new → Reads (parser old.now) r new.now
