-- What holds of the constants that the lexer lets through.
use Rattle.std.specs.Prelude.{◌≡◌, ℕ, List, Ok, IsSome}
use Rattle.c_lexer.specs.declared.token.IntSuffix.{IntSuffix}
use Rattle.c_lexer.specs.Numbers.{number_of, constant_of}

-- the bytes of a number token are a constant, of a type that holds it
abbrev pub NumbersHaveTypes : Type 0
NumbersHaveTypes = (w : List ℕ) (s : IntSuffix) → number_of w ≡ Ok s → IsSome (constant_of w)
