-- What holds of the tokens of a text.
use Rattle.std.specs.Prelude.{◌≡◌, ℕ, ◌-◌, ◌<◌, ◌≤◌, true, false, List, length, take, drop, slice_index, All, AllPairs, Any}
use Rattle.std.specs.Str.{IsAscii}
use Rattle.c_lexer.specs.declared.token.TokenKind.{TokenKind}
use Rattle.c_lexer.specs.declared.token.TokenKind.TheVariants as kind
use Rattle.c_lexer.specs.declared.token.IntSuffix.TheVariants as suffix
use Rattle.c_lexer.specs.declared.token.Token.{Token}
use Rattle.c_lexer.specs.Bytes.{is_blank}
use Rattle.c_lexer.specs.Positions.{start, after, place_of}
use Rattle.c_lexer.specs.FirstForm.Tokens.{is_token, is_allowed, is_decimal, IsLongest, AreTokensOf}

-- the bytes of a token
abbrev pub bytes_of : List ℕ → Token → List ℕ
bytes_of text t = take (t.past - t.first) (drop t.first text)

-- the token is the longest that begins at its first byte, it may stand in a text of the first form, and its place is that of its first byte
pub record IsTokenOf (text : List ℕ) (t : Token) : Type 0 where
  pub some : t.first < t.past
  pub within : t.past ≤ length text
  pub spelled : is_token t.kind (bytes_of text t) ≡ true
  pub longest : IsLongest (drop t.first text) t.kind (t.past - t.first)
  pub allowed : is_allowed t.kind (bytes_of text t) ≡ true
  pub placed : t.place ≡ place_of (after start (take t.first text))

-- each token is one of its text
abbrev pub TokensAreOfText : Type 0
TokensAreOfText = (text : List ℕ) (tokens : List Token) → AreTokensOf text tokens → All (IsTokenOf text) tokens

-- each token ends before the later ones begin
abbrev pub TokensAreInOrder : Type 0
TokensAreInOrder = (text : List ℕ) (tokens : List Token) → AreTokensOf text tokens → AllPairs (λ s t. s.past ≤ t.first) tokens

-- each byte that is no blank belongs to a token
abbrev pub TokensCoverText : Type 0
TokensCoverText = (text : List ℕ) (tokens : List Token) → AreTokensOf text tokens
    → (i : ℕ) → i < length text → is_blank (slice_index text i) ≡ false → Any (λ t. (t.first ≤ i) × (i < t.past)) tokens

-- a text has no more tokens than bytes
abbrev pub TokensAreFew : Type 0
TokensAreFew = (text : List ℕ) (tokens : List Token) → AreTokensOf text tokens → length tokens ≤ length text

-- a text has at most one list of tokens
abbrev pub HasOneTokenList : Type 0
HasOneTokenList = (text : List ℕ) (a b : List Token) → AreTokensOf text a → AreTokensOf text b → a ≡ b

-- the bytes of a token tell its kind
abbrev pub BytesTellKind : Type 0
BytesTellKind = (a b : TokenKind) (bytes : List ℕ) → is_token a bytes ≡ true → is_token b bytes ≡ true → a ≡ b

-- the bytes of a token are ASCII
abbrev pub TokensAreAscii : Type 0
TokensAreAscii = (k : TokenKind) (bytes : List ℕ) → is_token k bytes ≡ true → IsAscii bytes

-- each number is `0`, or decimal digits without a leading zero
abbrev pub NumbersAreDecimal : Type 0
NumbersAreDecimal = (text : List ℕ) (t : Token) → IsTokenOf text t → t.kind ≡ kind.Number suffix.Plain → is_decimal (bytes_of text t) ≡ true
