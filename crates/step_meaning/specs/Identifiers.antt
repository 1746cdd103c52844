-- Names in a text (C11 6.4.1, 6.4.2.1): a letter or an underscore, then letters, digits and underscores, and no keyword. A name is its bytes.
use Rattle.std.specs.Prelude.{ℕ, Bool, true, false, ◌&&◌, ◌||◌, not, ◌==◌, nat_le, List, [], ◌∷◌, codes}
use Rattle.std.specs.List.{list_all, list_any}
use Rattle.std.specs.Str.{bytes_eq}

abbrev pub is_from_to : ℕ → ℕ → ℕ → Bool
is_from_to low high c = nat_le low c && nat_le c high

-- an underscore, or a letter of the basic character set
abbrev pub is_nondigit : ℕ → Bool
is_nondigit c = c == 95 || (is_from_to 97 122 c || is_from_to 65 90 c)

abbrev pub is_digit : ℕ → Bool
is_digit c = is_from_to 48 57 c

abbrev pub is_identifier : List ℕ → Bool
is_identifier [] = false
is_identifier (c ∷ cs) = is_nondigit c && list_all (λ d. is_nondigit d || is_digit d) cs

-- the keywords of C11
unfoldable pub keywords : List (List ℕ)
keywords =
    codes "auto" ∷ codes "break" ∷ codes "case" ∷ codes "char" ∷ codes "const" ∷ codes "continue" ∷ codes "default"
    ∷ codes "do" ∷ codes "double" ∷ codes "else" ∷ codes "enum" ∷ codes "extern" ∷ codes "float" ∷ codes "for"
    ∷ codes "goto" ∷ codes "if" ∷ codes "inline" ∷ codes "int" ∷ codes "long" ∷ codes "register" ∷ codes "restrict"
    ∷ codes "return" ∷ codes "short" ∷ codes "signed" ∷ codes "sizeof" ∷ codes "static" ∷ codes "struct"
    ∷ codes "switch" ∷ codes "typedef" ∷ codes "union" ∷ codes "unsigned" ∷ codes "void" ∷ codes "volatile"
    ∷ codes "while" ∷ codes "_Alignas" ∷ codes "_Alignof" ∷ codes "_Atomic" ∷ codes "_Bool" ∷ codes "_Complex"
    ∷ codes "_Generic" ∷ codes "_Imaginary" ∷ codes "_Noreturn" ∷ codes "_Static_assert" ∷ codes "_Thread_local" ∷ []

unfoldable pub is_keyword : List ℕ → Bool
is_keyword word = list_any (bytes_eq word) keywords

abbrev pub is_name : List ℕ → Bool
is_name word = is_identifier word && not (is_keyword word)

-- no two of the names are the same
abbrev pub are_distinct : List (List ℕ) → Bool
are_distinct [] = true
are_distinct (w ∷ ws) = not (list_any (bytes_eq w) ws) && are_distinct ws
