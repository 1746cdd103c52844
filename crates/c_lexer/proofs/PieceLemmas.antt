-- The pieces that lexemes are.
use Rattle.std.proofs.Common.{◌≡◌, ℕ, true, false, if◌then◌else◌, ◌==◌, List, take, get_or, sym, ap, ◌∙◌, Result}
use Rattle.c_lexer.specs.declared.token.TokenKind.TheVariants as kind
use Rattle.c_lexer.specs.declared.token.IntSuffix.{IntSuffix}
use Rattle.c_lexer.specs.declared.profile.Profile.{Profile}
use Rattle.c_lexer.specs.declared.fault.Flaw.{Flaw}
use Rattle.c_lexer.specs.declared.fault.Flaw.TheVariants as flaw
use Rattle.c_lexer.specs.declared.piece.Piece.{Piece}
use Rattle.c_lexer.specs.declared.piece.Piece.TheVariants as piece
use Rattle.c_lexer.specs.Bytes.{is_keyword}
use Rattle.c_lexer.specs.Numbers.{number_of}
use Rattle.c_lexer.specs.Lexemes.{Shape, word, number, character, backslash, directive, string, mark, Begins, IsLongest}
use Rattle.c_lexer.specs.Lexing.{whole_token, number_piece, lexeme_piece, IsLexeme, longest, missing}

pub keyword_is : (p : Profile) (text : List ℕ) (n : ℕ) (x : Piece) → IsLongest p text word n → is_keyword (take n text) ≡ true → x ≡ whole_token kind.Keyword n → IsLexeme p text x
unfolding lexeme_piece
keyword_is p text n x l h e = longest word n l (e ∙ ap (λ b. whole_token (if b then kind.Keyword else kind.Name) n) (sym h))

pub name_is : (p : Profile) (text : List ℕ) (n : ℕ) (x : Piece) → IsLongest p text word n → is_keyword (take n text) ≡ false → x ≡ whole_token kind.Name n → IsLexeme p text x
unfolding lexeme_piece
name_is p text n x l h e = longest word n l (e ∙ ap (λ b. whole_token (if b then kind.Keyword else kind.Name) n) (sym h))

pub number_is : (p : Profile) (text : List ℕ) (n : ℕ) (x : Piece) (r : Result IntSuffix Flaw) → IsLongest p text number n → r ≡ number_of (take n text) → x ≡ number_piece r n → IsLexeme p text x
unfolding lexeme_piece
number_is p text n x r l h e = longest number n l (e ∙ ap (λ o. number_piece o n) h)

pub character_is : (p : Profile) (text : List ℕ) (n : ℕ) (x : Piece) → IsLongest p text character n → x ≡ whole_token kind.Character n → IsLexeme p text x
unfolding lexeme_piece
character_is p text n x l e = longest character n l e

pub backslash_is : (p : Profile) (text : List ℕ) (n : ℕ) (x : Piece) → IsLongest p text backslash n → x ≡ whole_token kind.Backslash n → IsLexeme p text x
unfolding lexeme_piece
backslash_is p text n x l e = longest backslash n l e

pub directive_is : (p : Profile) (text : List ℕ) (n : ℕ) (x : Piece) → IsLongest p text directive n → x ≡ whole_token kind.Percent n → IsLexeme p text x
unfolding lexeme_piece
directive_is p text n x l e = longest directive n l e

pub string_is : (p : Profile) (text : List ℕ) (n : ℕ) (x : Piece) → IsLongest p text string n → x ≡ whole_token kind.Text n → IsLexeme p text x
unfolding lexeme_piece
string_is p text n x l e = longest string n l e

pub mark_is : (p : Profile) (text : List ℕ) (n : ℕ) (x : Piece) → IsLongest p text mark n → x ≡ whole_token kind.Punctuation n → IsLexeme p text x
unfolding lexeme_piece
mark_is p text n x l e = longest mark n l e

pub missing_at : (p : Profile) (text : List ℕ) (b : ℕ) → get_or text 0 0 ≡ b → ((s : Shape) (n : ℕ) → Begins p text s n → ⊥) → IsLexeme p text (piece.Fault (if b == 39 then flaw.BadCharacter else flaw.BadByte))
missing_at p text b e h = missing h (ap (λ c. piece.Fault (if c == 39 then flaw.BadCharacter else flaw.BadByte)) (sym e))

pub missing_byte : (p : Profile) (text : List ℕ) → (get_or text 0 0 == 39) ≡ false → ((s : Shape) (n : ℕ) → Begins p text s n → ⊥) → IsLexeme p text (piece.Fault flaw.BadByte)
missing_byte p text e h = missing h (ap (λ c. piece.Fault (if c then flaw.BadCharacter else flaw.BadByte)) (sym e))
