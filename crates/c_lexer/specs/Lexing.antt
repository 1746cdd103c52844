-- The tokens of a C program, of the inside of an annotation and of a Ya text, or the first place where none can go on:
-- at each place that is no blank, comment or line marker, the longest token that begins there.
use Rattle.std.specs.Prelude.{◌≡◌, ℕ, ◌+◌, ◌<◌, ◌≤◌, Bool, true, false, not, ◌&&◌, ◌||◌, ◌==◌, if◌then◌else◌, List, [], ◌∷◌, length, take, drop, slice_index, Option, Some, None, Result, Ok, Err}
use Rattle.c_lexer.specs.declared.token.TokenKind.{TokenKind}
use Rattle.c_lexer.specs.declared.token.TokenKind.TheVariants as kind
use Rattle.c_lexer.specs.declared.token.IntSuffix.{IntSuffix}
use Rattle.c_lexer.specs.declared.token.Token.{Token}
use Rattle.c_lexer.specs.declared.token.Place.{Place}
use Rattle.c_lexer.specs.declared.token.Refusal.{Refusal}
use Rattle.c_lexer.specs.declared.profile.Profile.{Profile}
use Rattle.c_lexer.specs.declared.profile.Profile.TheVariants as profile
use Rattle.c_lexer.specs.declared.fault.Flaw.{Flaw}
use Rattle.c_lexer.specs.declared.fault.Flaw.TheVariants as flaw
use Rattle.c_lexer.specs.declared.fault.LexFault.{LexFault}
use Rattle.c_lexer.specs.declared.fault.LexFault.TheVariants as fault
use Rattle.c_lexer.specs.declared.piece.Extent.{Extent}
use Rattle.c_lexer.specs.declared.piece.Piece.{Piece}
use Rattle.c_lexer.specs.declared.piece.Piece.TheVariants as piece
use Rattle.c_lexer.specs.declared.position.Position.{Position}
use Rattle.c_lexer.specs.Positions.{start, step, after, place_of}
use Rattle.c_lexer.specs.Bytes.{is_blank, is_keyword}
use Rattle.c_lexer.specs.Lexemes.{Shape, word, number, character, backslash, directive, string, mark, is_specification, is_annotation, Begins, IsLongest}
use Rattle.c_lexer.specs.Numbers.{number_of}
use Rattle.c_lexer.specs.Comments.{IsBlockComment, line_comment, marker_piece}

-- `@` is a further blank of annotations
abbrev pub is_blank_in : Profile → ℕ → Bool
is_blank_in p c = is_blank c || (is_annotation p && c == 64)

-- a token of n bytes, of which all are its text
abbrev pub whole_token : TokenKind → ℕ → Piece
whole_token k n = piece.Token k (record { first = 0; past = n; len = n })

abbrev pub number_piece : Result IntSuffix Flaw → ℕ → Piece
number_piece (Ok s) n = whole_token (kind.Number s) n
number_piece (Err f) n = piece.Fault f

-- what a lexeme with these bytes is (C11 6.4): keywords are no names, and a number has to be a constant that some type holds
unfoldable pub lexeme_piece : Shape → List ℕ → ℕ → Piece
lexeme_piece word w n = whole_token (if is_keyword w then kind.Keyword else kind.Name) n
lexeme_piece number w n = number_piece (number_of w) n
lexeme_piece character w n = whole_token kind.Character n
lexeme_piece backslash w n = whole_token kind.Backslash n
lexeme_piece directive w n = whole_token kind.Percent n
lexeme_piece string w n = whole_token kind.Text n
lexeme_piece mark w n = whole_token kind.Punctuation n

-- the fault where no lexeme begins
abbrev pub missing_flaw : List ℕ → Flaw
missing_flaw text = if slice_index text 0 == 39 then flaw.BadCharacter else flaw.BadByte

-- the longest lexeme, if one begins here
pub data IsLexeme (p : Profile) (text : List ℕ) (x : Piece) : Type 0 where
  longest : (shape : Shape) (n : ℕ) → IsLongest p text shape n → x ≡ lexeme_piece shape (take n text) n → IsLexeme p text x
  missing : ((shape : Shape) (n : ℕ) → Begins p text shape n → ⊥) → x ≡ piece.Fault (missing_flaw text) → IsLexeme p text x

-- what a text can begin with
pub data Opening : Type 0 where
  at_end : Opening
  at_blank : Opening
  at_block_comment : Opening
  at_line_comment : Opening
  at_line_marker : Opening
  at_lexeme : Opening

-- `leads`: the line begins outside comments, and nothing but blanks stands before in it
unfoldable pub opening : Profile → Bool → List ℕ → Opening
opening p leads [] = at_end
opening p leads (c ∷ cs) =
    if is_blank_in p c then at_blank
    else (if c == 47 && slice_index cs 0 == 42 then at_block_comment
    else (if c == 47 && slice_index cs 0 == 47 then at_line_comment
    else (if c == 35 && (not (is_specification p) && leads) then at_line_marker
    else at_lexeme)))

abbrev pub StandsAt : Opening → Profile → List ℕ → Piece → Type 0
StandsAt at_end p text x = x ≡ piece.End
StandsAt at_blank p text x = x ≡ piece.Blank (slice_index text 0)
StandsAt at_block_comment p text x = IsBlockComment p text x
StandsAt at_line_comment p text x = x ≡ line_comment p text
StandsAt at_line_marker p text x = x ≡ marker_piece text
StandsAt at_lexeme p text x = IsLexeme p text x

-- what stands at the front of a text
pub record Stands (p : Profile) (leads : Bool) (text : List ℕ) (x : Piece) : Type 0 where
  pub stands : StandsAt (opening p leads text) p text x

-- the bytes of a piece are of the text, and a token's text lies in its bytes
pub record IsWithin (text : List ℕ) (e : Extent) : Type 0 where
  pub some : 0 < e.len
  pub fits : e.len ≤ length text
  pub ordered : e.first ≤ e.past
  pub past : e.past ≤ e.len

abbrev pub Reaches : List ℕ → Piece → Type 0
Reaches text (piece.Blank c) = 0 < length text
Reaches text (piece.Ignored n) = (0 < n) × (n ≤ length text)
Reaches text (piece.Token k e) = IsWithin text e
Reaches text (piece.Fault f) = 0 < length text
Reaches text piece.End = Unit {0}

abbrev pub token_at : Position → TokenKind → Extent → Token
token_at at k e = record { kind = k; first = at.offset + e.first; past = at.offset + e.past; place = place_of at }

abbrev pub fault_at : Flaw → Place → LexFault
fault_at flaw.BadByte at = fault.BadByte at
fault_at flaw.OpenComment at = fault.OpenComment at
fault_at flaw.BadNumber at = fault.BadNumber at
fault_at flaw.NumberTooWide at = fault.NumberTooWide at
fault_at flaw.HashLine at = fault.HashLine at
fault_at flaw.BadCharacter at = fault.BadCharacter at

-- the text, which begins at the position, has these tokens, up to its end or up to the first fault
pub data Lexed (p : Profile) : Position → Bool → List ℕ → List Token → Option LexFault → Type 0 where
  ends : {at : Position} {leads : Bool} {text : List ℕ} → Stands p leads text piece.End → Lexed p at leads text [] None
  blank : {at : Position} {leads : Bool} {text : List ℕ} {tokens : List Token} {end : Option LexFault} (c : ℕ) → Stands p leads text (piece.Blank c)
      → Lexed p (step at c) (c == 10 || leads) (drop 1 text) tokens end → Lexed p at leads text tokens end
  ignored : {at : Position} {leads : Bool} {text : List ℕ} {tokens : List Token} {end : Option LexFault} (n : ℕ) → Stands p leads text (piece.Ignored n)
      → Lexed p (after at (take n text)) false (drop n text) tokens end → Lexed p at leads text tokens end
  token : {at : Position} {leads : Bool} {text : List ℕ} {tokens : List Token} {end : Option LexFault} (k : TokenKind) (e : Extent) → Stands p leads text (piece.Token k e)
      → Lexed p (after at (take e.len text)) false (drop e.len text) tokens end → Lexed p at leads text (token_at at k e ∷ tokens) end
  stops : {at : Position} {leads : Bool} {text : List ℕ} (f : Flaw) → Stands p leads text (piece.Fault f) → Lexed p at leads text [] (Some (fault_at f (place_of at)))

-- the tokens of a whole C program
abbrev pub Tokens : List ℕ → List Token → Option LexFault → Type 0
Tokens text tokens end = Lexed profile.C start true text tokens end

-- the tokens of the bytes from `first` up to `past`, the inside of an annotation; places count in the whole text
abbrev pub AnnotationTokens : List ℕ → ℕ → ℕ → List Token → Option LexFault → Type 0
AnnotationTokens text first past tokens end = Lexed profile.Annotation (after start (take first text)) true (drop first (take past text)) tokens end

-- the tokens of a whole Ya text
abbrev pub SpecTokens : List ℕ → List Token → Option LexFault → Type 0
SpecTokens text tokens end = Lexed profile.Ya start true text tokens end

-- want of memory, or the fault that the tokens of a text end with
abbrev pub IsFaultOf : (List Token → Option LexFault → Type 0) → LexFault → Type 0
IsFaultOf of_text fault.Memory = Unit {0}
IsFaultOf of_text f = (tokens : List Token) × of_text tokens (Some f)

-- the number of a fault, and its place; want of memory has none
abbrev pub refusal_of : LexFault → Option Refusal
refusal_of (fault.BadByte at) = Some (record { code = 101; place = at })
refusal_of (fault.OpenComment at) = Some (record { code = 102; place = at })
refusal_of (fault.BadNumber at) = Some (record { code = 103; place = at })
refusal_of (fault.NumberTooWide at) = Some (record { code = 104; place = at })
refusal_of (fault.HashLine at) = Some (record { code = 105; place = at })
refusal_of (fault.BadCharacter at) = Some (record { code = 106; place = at })
refusal_of fault.Memory = None
