-- Classes of bytes, and the keywords of C (C11 5.2.1, 6.4.1, 6.4.2.1, 6.4.3).
use Rattle.std.specs.Prelude.{ℕ, Bool, ◌&&◌, ◌||◌, ◌==◌, nat_le, List, [], ◌∷◌, codes}
use Rattle.std.specs.List.{list_any}
use Rattle.std.specs.Str.{bytes_eq}

abbrev pub is_between : ℕ → ℕ → ℕ → Bool
is_between low high c = nat_le low c && nat_le c high

-- space, tab, line feed, vertical tab, form feed and carriage return
abbrev pub is_blank : ℕ → Bool
is_blank c = c == 32 || is_between 9 13 c

abbrev pub is_digit : ℕ → Bool
is_digit c = is_between 48 57 c

-- a letter or the underscore
abbrev pub is_letter : ℕ → Bool
is_letter c = is_between 97 122 c || (is_between 65 90 c || c == 95)

-- a byte that may stand in a name after its first
abbrev pub is_word : ℕ → Bool
is_word c = is_letter c || is_digit c

-- a byte that may stand in a preprocessing number after its first
abbrev pub is_number_part : ℕ → Bool
is_number_part c = is_word c || c == 46

unfoldable pub keywords : List (List ℕ)
keywords =
    codes "auto" ∷ codes "break" ∷ codes "case" ∷ codes "char" ∷ codes "const" ∷ codes "continue" ∷ codes "default"
    ∷ codes "do" ∷ codes "double" ∷ codes "else" ∷ codes "enum" ∷ codes "extern" ∷ codes "float" ∷ codes "for"
    ∷ codes "goto" ∷ codes "if" ∷ codes "inline" ∷ codes "int" ∷ codes "long" ∷ codes "register" ∷ codes "restrict"
    ∷ codes "return" ∷ codes "short" ∷ codes "signed" ∷ codes "sizeof" ∷ codes "static" ∷ codes "struct"
    ∷ codes "switch" ∷ codes "typedef" ∷ codes "union" ∷ codes "unsigned" ∷ codes "void" ∷ codes "volatile"
    ∷ codes "while" ∷ codes "_Alignas" ∷ codes "_Alignof" ∷ codes "_Atomic" ∷ codes "_Bool" ∷ codes "_Complex"
    ∷ codes "_Generic" ∷ codes "_Imaginary" ∷ codes "_Noreturn" ∷ codes "_Static_assert" ∷ codes "_Thread_local" ∷ []

unfoldable pub is_keyword : List ℕ → Bool
is_keyword word = list_any (bytes_eq word) keywords
