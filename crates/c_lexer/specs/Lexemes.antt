-- Lexemes: what C has as preprocessing tokens (C11 6.4), and annotations and Ya beside them. The spellings of each sort,
-- and the longest lexeme that begins at a place (C11 6.4, paragraph 4).
use Rattle.std.specs.Prelude.{◌≡◌, ℕ, ◌+◌, ◌-◌, ◌<◌, ◌≤◌, Bool, true, false, not, ◌&&◌, ◌||◌, ◌==◌, nat_le, if◌then◌else◌, List, [], ◌∷◌, length, take, slice_index, codes}
use Rattle.std.specs.List.{list_any, list_all}
use Rattle.std.specs.Str.{bytes_eq}
use Rattle.c_lexer.specs.declared.profile.Profile.{Profile}
use Rattle.c_lexer.specs.declared.profile.Profile.TheVariants as profile
use Rattle.c_lexer.specs.Bytes.{is_between, is_word}
use Rattle.c_lexer.specs.Spellings.{is_identifier, is_number, is_backslash_word}

-- the sorts of lexemes
pub data Shape : Type 0 where
  word : Shape
  number : Shape
  character : Shape
  backslash : Shape
  directive : Shape
  string : Shape
  mark : Shape

-- a text that specifies a program: the inside of an annotation, or a Ya text
abbrev pub is_specification : Profile → Bool
is_specification profile.C = false
is_specification profile.Annotation = true
is_specification profile.Ya = true

abbrev pub is_annotation : Profile → Bool
is_annotation profile.Annotation = true
is_annotation _ = false

abbrev pub is_ya : Profile → Bool
is_ya profile.Ya = true
is_ya _ = false

-- a byte that may stand for itself between the quotes of a character
abbrev pub is_plain : ℕ → Bool
is_plain c = is_between 32 126 c && not (c == 39 || c == 92)

-- the bytes after the backslash of `\n \t \r \0 \\ \' \"`
abbrev pub is_escape : ℕ → Bool
is_escape c = list_any (λ e. c == e) (codes "ntr0\\'\"")

-- `'`, a byte or an escape sequence, `'` (C11 6.4.4.4, one byte)
unfoldable pub is_character : List ℕ → Bool
is_character (a ∷ c ∷ b ∷ []) = a == 39 && (is_plain c && b == 39)
is_character (a ∷ s ∷ c ∷ b ∷ []) = a == 39 && (s == 92 && (is_escape c && b == 39))
is_character _ = false

-- the byte that an escape sequence stands for, by the byte after its backslash (C11 6.4.4.4, 5.2.2)
abbrev pub escaped : ℕ → ℕ
escaped c = if c == 110 then 10 else (if c == 116 then 9 else (if c == 114 then 13 else (if c == 48 then 0 else c)))

-- the value of a character constant
unfoldable pub character_value : List ℕ → ℕ
character_value w = if slice_index w 1 == 92 then escaped (slice_index w 2) else slice_index w 1

-- what follows a `'` that begins a character
abbrev pub is_plain_character : List ℕ → Bool
is_plain_character text = is_plain (slice_index text 1) && slice_index text 2 == 39

abbrev pub is_escaped_character : List ℕ → Bool
is_escaped_character text = slice_index text 1 == 92 && (is_escape (slice_index text 2) && slice_index text 3 == 39)

-- a byte of a string
abbrev pub is_text : ℕ → Bool
is_text c = is_between 32 126 c && not (c == 34 || c == 92)

-- `"`, 1 to 64 bytes, `"`
unfoldable pub is_string : List ℕ → Bool
is_string [] = false
is_string (q ∷ rest) =
    let n = length rest - 1 in
    q == 34 && ((nat_le 1 n && nat_le n 64) && (list_all is_text (take n rest) && slice_index rest n == 34))

-- n bytes, 1 to 64, stand between the text's first byte and a `"`
abbrev pub is_string_of : List ℕ → ℕ → Bool
is_string_of text n = (nat_le 1 n && nat_le n 64) && slice_index text (n + 1) == 34

unfoldable pub directives : List (List ℕ)
directives = codes "init" ∷ codes "accept" ∷ codes "deterministic" ∷ []

-- `%` and the name of a directive
unfoldable pub is_directive : List ℕ → Bool
is_directive [] = false
is_directive (c ∷ cs) = c == 37 && list_any (bytes_eq cs) directives

-- the punctuators of C (C11 6.4.6) but for `...`, `#`, `##` and the digraphs
unfoldable pub c_marks : List (List ℕ)
c_marks =
    codes "{" ∷ codes "}" ∷ codes "(" ∷ codes ")" ∷ codes "[" ∷ codes "]" ∷ codes ";" ∷ codes "," ∷ codes "." ∷ codes "&"
    ∷ codes "*" ∷ codes "+" ∷ codes "-" ∷ codes "~" ∷ codes "!" ∷ codes "/" ∷ codes "%" ∷ codes "<" ∷ codes ">" ∷ codes "^"
    ∷ codes "|" ∷ codes "?" ∷ codes ":" ∷ codes "="
    ∷ codes "->" ∷ codes "++" ∷ codes "--" ∷ codes "<<" ∷ codes ">>" ∷ codes "<=" ∷ codes ">=" ∷ codes "==" ∷ codes "!="
    ∷ codes "&&" ∷ codes "||" ∷ codes "*=" ∷ codes "/=" ∷ codes "%=" ∷ codes "+=" ∷ codes "-=" ∷ codes "&=" ∷ codes "^="
    ∷ codes "|=" ∷ codes "<<=" ∷ codes ">>=" ∷ []

-- the further ones of annotations and Ya
unfoldable pub further_marks : List (List ℕ)
further_marks = codes "==>" ∷ codes "<==>" ∷ codes ".." ∷ []

unfoldable pub is_mark : Profile → List ℕ → Bool
is_mark p w = list_any (bytes_eq w) c_marks || (is_specification p && list_any (bytes_eq w) further_marks)

-- the spellings of each sort
unfoldable pub is_lexeme : Profile → Shape → List ℕ → Bool
is_lexeme p word w = is_identifier w
is_lexeme p number w = is_number w
is_lexeme p character w = is_character w
is_lexeme p backslash w = is_specification p && is_backslash_word w
is_lexeme p directive w = is_ya p && is_directive w
is_lexeme p string w = is_annotation p && is_string w
is_lexeme p mark w = is_mark p w

-- `..` stands at k
pub record IsRangeAt (text : List ℕ) (k : ℕ) : Type 0 where
  pub one : slice_index text k ≡ 46
  pub two : slice_index text (k + 1) ≡ 46

-- no `..` begins in the first n bytes
abbrev pub HasNoRange : List ℕ → ℕ → Type 0
HasNoRange text n = (k : ℕ) → k < n → IsRangeAt text k → ⊥

-- a number of annotations and Ya ends before `..`, and the name of a directive is a whole name
abbrev pub EndsAt : Profile → Shape → List ℕ → ℕ → Type 0
EndsAt p number text n = is_specification p ≡ true → HasNoRange text n
EndsAt p directive text n = is_word (slice_index text n) ≡ false
EndsAt p _ text n = Unit {0}

-- a lexeme of n bytes begins the text
pub record Begins (p : Profile) (text : List ℕ) (shape : Shape) (n : ℕ) : Type 0 where
  pub fits : n ≤ length text
  pub spelled : is_lexeme p shape (take n text) ≡ true
  pub ended : EndsAt p shape text n

-- .. and no longer one
pub record IsLongest (p : Profile) (text : List ℕ) (shape : Shape) (n : ℕ) : Type 0 where
  pub begins : Begins p text shape n
  pub longest : (other : Shape) (m : ℕ) → Begins p text other m → m ≤ n

-- no lexeme of another sort begins the text
abbrev pub BeginsOnly : Profile → List ℕ → Shape → Type 0
BeginsOnly p text shape = (other : Shape) (n : ℕ) → Begins p text other n → other ≡ shape
