-- The spellings that all texts share: identifiers (C11 6.4.2), preprocessing numbers, and a backslash with a word.
use Rattle.std.specs.Prelude.{ℕ, Bool, false, ◌&&◌, ◌==◌, List, [], ◌∷◌}
use Rattle.std.specs.List.{list_all}
use Rattle.c_lexer.specs.Bytes.{is_digit, is_letter, is_word, is_number_part}

-- a letter and then letters and digits
unfoldable pub is_identifier : List ℕ → Bool
is_identifier [] = false
is_identifier (c ∷ cs) = is_letter c && list_all is_word cs

-- a preprocessing number (C11 6.4.8, in the profile without `.` before the first digit and without exponent signs)
unfoldable pub is_number : List ℕ → Bool
is_number [] = false
is_number (c ∷ cs) = is_digit c && list_all is_number_part cs

unfoldable pub is_backslash_word : List ℕ → Bool
is_backslash_word [] = false
is_backslash_word (c ∷ cs) = c == 92 && is_identifier cs
