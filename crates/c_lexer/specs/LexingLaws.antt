-- What holds of the tokens of programs, annotations and Ya texts.
use Rattle.std.specs.Prelude.{◌≡◌, ℕ, ◌+◌, ◌-◌, ◌≤◌, Bool, true, false, List, length, take, drop, Option, Some, Ok, All, AllPairs}
use Rattle.c_lexer.specs.declared.token.TokenKind.{TokenKind}
use Rattle.c_lexer.specs.declared.token.TokenKind.TheVariants as kind
use Rattle.c_lexer.specs.declared.token.Token.{Token}
use Rattle.c_lexer.specs.declared.profile.Profile.{Profile}
use Rattle.c_lexer.specs.declared.fault.LexFault.{LexFault}
use Rattle.c_lexer.specs.declared.position.Position.{Position}
use Rattle.c_lexer.specs.Bytes.{is_keyword}
use Rattle.c_lexer.specs.Spellings.{is_identifier, is_backslash_word}
use Rattle.c_lexer.specs.Numbers.{number_of}
use Rattle.c_lexer.specs.Lexemes.{is_character, is_string, is_directive, is_mark}
use Rattle.c_lexer.specs.Comments.{first_word, kind_by_word}
use Rattle.c_lexer.specs.Lexing.{Lexed}

-- a text has one list of tokens and one end
pub record IsOneLexing (xs ys : List Token) (e f : Option LexFault) : Type 0 where
  pub tokens : xs ≡ ys
  pub end : e ≡ f

abbrev pub HasOneLexing : Type 0
HasOneLexing = (p : Profile) (at : Position) (leads : Bool) (text : List ℕ) (xs ys : List Token) (e f : Option LexFault)
    → Lexed p at leads text xs e → Lexed p at leads text ys f → IsOneLexing xs ys e f

-- the text of a token of this kind: of an annotation it is the inside
abbrev pub IsSpelled : Profile → TokenKind → List ℕ → Type 0
IsSpelled p kind.Name w = (is_identifier w ≡ true) × (is_keyword w ≡ false)
IsSpelled p kind.Keyword w = is_keyword w ≡ true
IsSpelled p (kind.Number s) w = number_of w ≡ Ok s
IsSpelled p kind.Character w = is_character w ≡ true
IsSpelled p kind.Punctuation w = is_mark p w ≡ true
IsSpelled p kind.Backslash w = is_backslash_word w ≡ true
IsSpelled p kind.Percent w = is_directive w ≡ true
IsSpelled p kind.Text w = is_string w ≡ true
IsSpelled p kind.Meta w = kind_by_word (first_word w) ≡ Some kind.Meta
IsSpelled p kind.Ghost w = kind_by_word (first_word w) ≡ Some kind.Ghost
IsSpelled p kind.Assert w = kind_by_word (first_word w) ≡ Some kind.Assert

-- the token's text lies in the text, whose first byte has the offset `from`, and has the form of its kind
pub record IsTokenIn (p : Profile) (from : ℕ) (text : List ℕ) (t : Token) : Type 0 where
  pub begins : from ≤ t.first
  pub ordered : t.first ≤ t.past
  pub within : t.past ≤ from + length text
  pub spelled : IsSpelled p t.kind (take (t.past - t.first) (drop (t.first - from) text))

abbrev pub TokensAreSpelled : Type 0
TokensAreSpelled = (p : Profile) (at : Position) (leads : Bool) (text : List ℕ) (tokens : List Token) (end : Option LexFault)
    → Lexed p at leads text tokens end → All (IsTokenIn p at.offset text) tokens

-- each token's text ends before those of the later ones begin
abbrev pub TokensFollow : Type 0
TokensFollow = (p : Profile) (at : Position) (leads : Bool) (text : List ℕ) (tokens : List Token) (end : Option LexFault)
    → Lexed p at leads text tokens end → AllPairs (λ s t. s.past ≤ t.first) tokens

-- a text has no more tokens than bytes
abbrev pub TokensAreFew : Type 0
TokensAreFew = (p : Profile) (at : Position) (leads : Bool) (text : List ℕ) (tokens : List Token) (end : Option LexFault)
    → Lexed p at leads text tokens end → length tokens ≤ length text
