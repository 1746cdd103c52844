-- The words after the program's name, and the lines that the program writes for its user.
use Rattle.std.specs.Prelude.{ℕ, ◌==◌, Bool, false, not, ◌&&◌, List, [], ◌∷◌, ◌++◌, Option, Some, None, codes, if◌then◌else◌, decimal}
use Rattle.std.specs.Str.{bytes_eq}
use Rattle.c_lexer.specs.declared.token.Place.{Place}

abbrev pub begins_with_dash : List ℕ → Bool
begins_with_dash [] = false
begins_with_dash (c ∷ cs) = c == 45

-- `weave FILE`, of which this is FILE: a word that doesn't begin with a dash
abbrev pub weave_file : List (List ℕ) → Option (List ℕ)
weave_file (command ∷ file ∷ []) = if bytes_eq command (codes "weave") && not (begins_with_dash file) then Some file else None
weave_file _ = None

abbrev pub usage_line : List ℕ
usage_line = codes "usage: weave_cli COMMAND [OPTIONS] FILE [YA ..]\n"

-- a broken rule of a file, and where
abbrev pub refusal_line : ℕ → List ℕ → Place → List ℕ
refusal_line code file place = codes "refused " ++ decimal code ++ codes " " ++ file ++ codes " " ++ decimal place.line ++ codes ":" ++ decimal place.column ++ codes "\n"

abbrev pub no_place : Place
no_place = record { line = 0; column = 0 }
