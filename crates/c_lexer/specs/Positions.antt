-- Where reading stands in a text: the positions that follow one another as bytes are read.
use Rattle.std.specs.Prelude.{ℕ, ◌+◌, ◌==◌, if◌then◌else◌, List, [], ◌∷◌}
use Rattle.c_lexer.specs.declared.token.Place.{Place}
use Rattle.c_lexer.specs.declared.position.Position.{Position}

-- where a text begins
abbrev pub start : Position
start = record { offset = 0; line = 1; column = 1 }

-- the position after a byte: a line feed ends its line
unfoldable pub step : Position → ℕ → Position
step p c = if c == 10 then record { offset = p.offset + 1; line = p.line + 1; column = 1 } else record { offset = p.offset + 1; line = p.line; column = p.column + 1 }

-- the position after these bytes
unfoldable pub after : Position → List ℕ → Position
after p [] = p
after p (c ∷ cs) = after (step p c) cs

abbrev pub place_of : Position → Place
place_of p = record { line = p.line; column = p.column }
