-- The tokens of a text of the first form: at each place that is no blank, the longest token that begins there
-- (C11 6.4, paragraph 4). There are no comments in such a text, and `/*@` and `*/` are tokens of their own.
use Rattle.std.specs.Prelude.{◌≡◌, ℕ, ◌+◌, ◌≤◌, Bool, true, false, not, ◌&&◌, ◌==◌, List, [], ◌∷◌, length, take, drop, codes}
use Rattle.std.specs.List.{list_any, list_all}
use Rattle.std.specs.Str.{bytes_eq}
use Rattle.c_lexer.specs.declared.token.TokenKind.{TokenKind}
use Rattle.c_lexer.specs.declared.token.TokenKind.TheVariants as kind
use Rattle.c_lexer.specs.declared.token.IntSuffix.TheVariants as suffix
use Rattle.c_lexer.specs.declared.token.Token.{Token}
use Rattle.c_lexer.specs.Bytes.{is_blank, is_digit, is_between, is_keyword}
use Rattle.c_lexer.specs.Spellings.{is_identifier, is_number, is_backslash_word}
use Rattle.c_lexer.specs.declared.position.Position.{Position}
use Rattle.c_lexer.specs.Positions.{start, step, after, place_of}

unfoldable pub punctuation : List (List ℕ)
punctuation =
    codes ";" ∷ codes "," ∷ codes "(" ∷ codes ")" ∷ codes "{" ∷ codes "}" ∷ codes "=" ∷ codes "&" ∷ codes ":" ∷ codes "/*@" ∷ codes "*/" ∷ []

-- the spellings of each kind of token
unfoldable pub is_token : TokenKind → List ℕ → Bool
is_token kind.Name bytes = is_identifier bytes && not (is_keyword bytes)
is_token kind.Keyword bytes = is_keyword bytes
is_token (kind.Number suffix.Plain) bytes = is_number bytes
is_token kind.Backslash bytes = is_backslash_word bytes
is_token kind.Punctuation bytes = list_any (bytes_eq bytes) punctuation
is_token _ bytes = false

-- `0`, or digits of which the first is not 0: a decimal constant without suffix
unfoldable pub is_decimal : List ℕ → Bool
is_decimal [] = false
is_decimal (c ∷ []) = is_digit c
is_decimal (c ∷ d ∷ cs) = is_between 49 57 c && list_all is_digit (d ∷ cs)

-- a number has to be decimal; of the other kinds each token may stand
unfoldable pub is_allowed : TokenKind → List ℕ → Bool
is_allowed (kind.Number suffix.Plain) bytes = is_decimal bytes
is_allowed _ bytes = true

-- a token of n bytes begins the text, and no longer one
pub record IsLongest (text : List ℕ) (kind : TokenKind) (n : ℕ) : Type 0 where
  pub fits : n ≤ length text
  pub token : is_token kind (take n text) ≡ true
  pub longest : (other : TokenKind) (m : ℕ) → m ≤ length text → is_token other (take m text) ≡ true → m ≤ n

abbrev pub token_at : Position → TokenKind → ℕ → Token
token_at p kind n = record { kind = kind; first = p.offset; past = p.offset + n; place = place_of p }

-- the text, which begins at the position, has these tokens and blanks between them
pub data Tokens : Position → List ℕ → List Token → Type 0 where
  ends : {p : Position} → Tokens p [] []
  blank : {p : Position} {rest : List ℕ} {tokens : List Token} (c : ℕ) → is_blank c ≡ true → Tokens (step p c) rest tokens → Tokens p (c ∷ rest) tokens
  token : {p : Position} {text : List ℕ} {tokens : List Token} (kind : TokenKind) (n : ℕ) → IsLongest text kind n → is_allowed kind (take n text) ≡ true
      → Tokens (after p (take n text)) (drop n text) tokens → Tokens p text (token_at p kind n ∷ tokens)

-- the tokens of a whole text
abbrev pub AreTokensOf : List ℕ → List Token → Type 0
AreTokensOf text tokens = Tokens start text tokens
