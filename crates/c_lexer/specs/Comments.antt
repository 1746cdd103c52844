-- Comments (C11 6.4.9), annotations, and line markers.
use Rattle.std.specs.Prelude.{◌≡◌, ℕ, ◌+◌, ◌-◌, ◌<◌, Bool, true, not, ◌&&◌, ◌||◌, ◌==◌, if◌then◌else◌, List, [], ◌∷◌, length, take, drop, slice_index, codes, take_while, Option, Some, None}
use Rattle.std.specs.Str.{bytes_eq}
use Rattle.c_lexer.specs.declared.token.TokenKind.{TokenKind}
use Rattle.c_lexer.specs.declared.token.TokenKind.TheVariants as kind
use Rattle.c_lexer.specs.declared.profile.Profile.{Profile}
use Rattle.c_lexer.specs.declared.profile.Profile.TheVariants as profile
use Rattle.c_lexer.specs.declared.fault.Flaw.TheVariants as flaw
use Rattle.c_lexer.specs.declared.piece.Piece.{Piece}
use Rattle.c_lexer.specs.declared.piece.Piece.TheVariants as piece
use Rattle.c_lexer.specs.Bytes.{is_blank, is_digit, is_word}
use Rattle.c_lexer.specs.Numbers.{rest_after}

-- the text up to its first line feed, or all of it
abbrev pub line_of : List ℕ → List ℕ
line_of text = take_while (λ c. not (c == 10)) text

-- `*/` stands at k
pub record Closes (text : List ℕ) (k : ℕ) : Type 0 where
  pub star : slice_index text k ≡ 42
  pub slash : slice_index text (k + 1) ≡ 47

-- the first `*/` stands at k
pub record ClosesFirst (text : List ℕ) (k : ℕ) : Type 0 where
  pub here : Closes text k
  pub first : (j : ℕ) → j < k → Closes text j → ⊥

-- `@` is a blank in annotations
abbrev pub is_annotation_blank : ℕ → Bool
is_annotation_blank c = is_blank c || c == 64

-- the word that the inside of an annotation begins with
abbrev pub first_word : List ℕ → List ℕ
first_word inside = take_while is_word (rest_after is_annotation_blank inside)

abbrev pub kind_by_word : List ℕ → Option TokenKind
kind_by_word w =
    if bytes_eq w (codes "meta") then Some kind.Meta
    else (if bytes_eq w (codes "ghost") then Some kind.Ghost
    else (if bytes_eq w (codes "assert") then Some kind.Assert
    else None))

-- the kind of the annotation that a comment with this content is
unfoldable pub annotation_of : List ℕ → Option TokenKind
annotation_of [] = None
annotation_of (c ∷ inside) = if c == 64 then kind_by_word (first_word inside) else None

abbrev pub annotation_piece : Option TokenKind → ℕ → ℕ → Piece
annotation_piece None past n = piece.Ignored n
annotation_piece (Some k) past n = piece.Token k (record { first = 3; past = past; len = n })

-- a comment of n bytes, whose content goes from its third byte to `past`: in C it may be an annotation
unfoldable pub comment_piece : Profile → List ℕ → ℕ → ℕ → Piece
comment_piece profile.C text past n = annotation_piece (annotation_of (take (past - 2) (drop 2 text))) past n
comment_piece _ text past n = piece.Ignored n

-- what stands where `/*` does: a comment to the next `*/`, or an open one
pub data IsBlockComment (p : Profile) (text : List ℕ) (x : Piece) : Type 0 where
  closed : (k : ℕ) → ClosesFirst (drop 2 text) k → x ≡ comment_piece p text (k + 2) (k + 4) → IsBlockComment p text x
  never : ((k : ℕ) → Closes (drop 2 text) k → ⊥) → x ≡ piece.Fault flaw.OpenComment → IsBlockComment p text x

-- what stands where `//` does: a comment to the end of the line
abbrev pub line_comment : Profile → List ℕ → Piece
line_comment p text = comment_piece p text (length (line_of text)) (length (line_of text))

-- nothing, or a blank and what else the line has
abbrev pub is_ended : List ℕ → Bool
is_ended [] = true
is_ended (c ∷ cs) = is_blank c

-- blanks, digits, and then a blank or the line's end
unfoldable pub is_marker : List ℕ → Bool
is_marker line =
    let digits = rest_after is_blank line in
    is_blank (slice_index line 0) && (is_digit (slice_index digits 0) && is_ended (rest_after is_digit digits))

-- what stands where a line begins with `#`
unfoldable pub marker_piece : List ℕ → Piece
marker_piece text = if is_marker (drop 1 (line_of text)) then piece.Ignored (length (line_of text)) else piece.Fault flaw.HashLine
