-- Where the tokens of a text lie, and what their bytes are.
use Rattle.std.proofs.Common.{◌≡◌, ℕ, zero, suc, ◌+◌, ◌-◌, ◌<◌, ◌≤◌, Bool, true, false, if◌then◌else◌, List, [], ◌∷◌, length, take, drop, refl, ap, ap₂, subst, ◌∙◌, arith, Option, Some, None, Result, Ok, Err}
use Rattle.std.specs.Prelude.{AllPairs, codes}
use Rattle.std.specs.Str.{bytes_eq}
use Rattle.std.specs.List.{AllByRecursion}
use Rattle.std.proofs.lemmas.List.{drop-drop, length-drop, length-take-le}
use Rattle.std.proofs.lemmas.List.Elements.{All-from_recursion}
use Rattle.c_lexer.specs.declared.token.TokenKind.{TokenKind}
use Rattle.c_lexer.specs.declared.token.TokenKind.TheVariants as kind
use Rattle.c_lexer.specs.declared.token.IntSuffix.{IntSuffix}
use Rattle.c_lexer.specs.declared.token.Token.{Token}
use Rattle.c_lexer.specs.declared.profile.Profile.{Profile}
use Rattle.c_lexer.specs.declared.profile.Profile.TheVariants as profile
use Rattle.c_lexer.specs.declared.fault.Flaw.{Flaw}
use Rattle.c_lexer.specs.declared.fault.Flaw.TheVariants as flaw
use Rattle.c_lexer.specs.declared.fault.LexFault.{LexFault}
use Rattle.c_lexer.specs.declared.piece.Extent.{Extent}
use Rattle.c_lexer.specs.declared.piece.Piece.TheVariants as piece
use Rattle.c_lexer.specs.declared.position.Position.{Position}
use Rattle.c_lexer.specs.Positions.{step, after}
use Rattle.c_lexer.specs.Bytes.{is_keyword}
use Rattle.c_lexer.specs.Numbers.{number_of}
use Rattle.c_lexer.specs.Lexemes.{Shape, word, number, character, backslash, directive, string, mark, is_specification, is_annotation, is_ya, is_lexeme}
use Rattle.c_lexer.specs.Comments.{line_of, first_word, kind_by_word, annotation_of, annotation_piece, comment_piece, IsBlockComment, closed, never, is_marker, marker_piece}
use Rattle.c_lexer.specs.Lexing.{whole_token, number_piece, lexeme_piece, IsLexeme, longest, missing, Opening, at_end, at_blank, at_block_comment, at_line_comment, at_line_marker, at_lexeme, opening, StandsAt, Stands, IsWithin, token_at, Lexed, ends, blank, ignored, token, stops}
use Rattle.c_lexer.specs.LexingLaws as law
use Rattle.c_lexer.specs.LexingLaws.{IsSpelled, IsTokenIn}
use Rattle.c_lexer.proofs.ListLemmas.{right}
use Rattle.c_lexer.proofs.PositionLemmas.{step-offset, after-offset}
use Rattle.c_lexer.proofs.FirstForm.TokenLaws.{AllPairs-cons, AllPairs-nil, AllByRecursion-weaker}
use Rattle.c_lexer.proofs.OpeningLemmas.{reaches_of}

-- ---- the bytes of a token

-- the text of the token in its bytes
abbrev inner : Extent → List ℕ → List ℕ
inner e text = take (e.past - e.first) (drop e.first text)

whole_inner : (n : ℕ) (text : List ℕ) → take n text ≡ take (n - 0) text
whole_inner n text = let same : n ≡ n - 0 = omega arith in ap (λ m. take m text) same

-- a token of all its bytes
whole_spelled : (p : Profile) (text : List ℕ) (j k : TokenKind) (e : Extent) (n : ℕ) → piece.Token k e ≡ whole_token j n → IsSpelled p j (take n text) → IsSpelled p k (inner e text)
whole_spelled p text j k e n h s =
    let kinds : j ≡ k = cc in
    let x : Extent = record { first = 0; past = n; len = n } in
    let extents : x ≡ e = cc in
    subst (λ y. IsSpelled p k (inner y text)) extents (subst (λ i. IsSpelled p i (take (n - 0) text)) kinds (subst (IsSpelled p j) (whole_inner n text) s))

word_spelled : (p : Profile) (text : List ℕ) (k : TokenKind) (e : Extent) (n : ℕ) (b : Bool) → is_keyword (take n text) ≡ b → piece.Token k e ≡ whole_token (if b then kind.Keyword else kind.Name) n → is_lexeme p word (take n text) ≡ true → IsSpelled p k (inner e text)
unfolding is_lexeme
word_spelled p text k e n true i h s = whole_spelled p text kind.Keyword k e n h i
word_spelled p text k e n false i h s = whole_spelled p text kind.Name k e n h (s, i)

number_spelled : (p : Profile) (text : List ℕ) (k : TokenKind) (e : Extent) (n : ℕ) (r : Result IntSuffix Flaw) → number_of (take n text) ≡ r → piece.Token k e ≡ number_piece r n → IsSpelled p k (inner e text)
number_spelled p text k e n (Ok s) i h = whole_spelled p text (kind.Number s) k e n h i
number_spelled p text k e n (Err f) i h = cc

lexeme_spelled : (p : Profile) (text : List ℕ) (s : Shape) (k : TokenKind) (e : Extent) (n : ℕ) → is_lexeme p s (take n text) ≡ true → piece.Token k e ≡ lexeme_piece s (take n text) n → IsSpelled p k (inner e text)
unfolding is_lexeme lexeme_piece
lexeme_spelled p text word k e n s h = word_spelled p text k e n (is_keyword (take n text)) refl h s
lexeme_spelled p text number k e n s h = number_spelled p text k e n (number_of (take n text)) refl h
lexeme_spelled p text character k e n s h = whole_spelled p text kind.Character k e n h s
lexeme_spelled p text backslash k e n s h = whole_spelled p text kind.Backslash k e n h (right (is_specification p) _ s)
lexeme_spelled p text directive k e n s h = whole_spelled p text kind.Percent k e n h (right (is_ya p) _ s)
lexeme_spelled p text string k e n s h = whole_spelled p text kind.Text k e n h (right (is_annotation p) _ s)
lexeme_spelled p text mark k e n s h = whole_spelled p text kind.Punctuation k e n h s

abbrev is_annotation_kind : TokenKind → Bool
is_annotation_kind kind.Meta = true
is_annotation_kind kind.Ghost = true
is_annotation_kind kind.Assert = true
is_annotation_kind _ = false

annotation_kind : (a b c : Bool) (k : TokenKind) → (if a then Some kind.Meta else (if b then Some kind.Ghost else (if c then Some kind.Assert else None))) ≡ Some k → is_annotation_kind k ≡ true
annotation_kind true b c k h = let e : k ≡ kind.Meta = cc in ap is_annotation_kind e
annotation_kind false true c k h = let e : k ≡ kind.Ghost = cc in ap is_annotation_kind e
annotation_kind false false true k h = let e : k ≡ kind.Assert = cc in ap is_annotation_kind e
annotation_kind false false false k h = cc

annotation_spelled : (p : Profile) (k : TokenKind) (w : List ℕ) → is_annotation_kind k ≡ true → kind_by_word (first_word w) ≡ Some k → IsSpelled p k w
annotation_spelled p kind.Meta w h i = i
annotation_spelled p kind.Ghost w h i = i
annotation_spelled p kind.Assert w h i = i
annotation_spelled p _ w h i = cc

take_tail : (xs : List ℕ) (m c : ℕ) (inside : List ℕ) → c ∷ inside ≡ take m xs → inside ≡ take (m - 1) (drop 1 xs)
take_tail xs zero c inside h = cc
take_tail [] (suc m) c inside h = cc
take_tail (x ∷ xs) (suc m) c inside h =
    let tail : inside ≡ take m xs = cc in
    let same : m ≡ suc m - 1 = omega arith in
    tail ∙ ap (λ i. take i xs) same

inside_of : (content : List ℕ) (b : Bool) (k : TokenKind) → (if b then kind_by_word (first_word content) else None) ≡ Some k → kind_by_word (first_word content) ≡ Some k
inside_of content true k h = h
inside_of content false k h = cc

annotation_inner : (p : Profile) (text content : List ℕ) (past n : ℕ) (k : TokenKind) (e : Extent) (o : Option TokenKind) → content ≡ take (past - 2) (drop 2 text) → annotation_of content ≡ o → piece.Token k e ≡ annotation_piece o past n → IsSpelled p k (inner e text)
unfolding annotation_of
annotation_inner p text content past n k e None c h i = cc
annotation_inner p text [] past n k e (Some j) c h i = cc
annotation_inner p text (a ∷ inside) past n k e (Some j) c h i =
    let kinds : j ≡ k = cc in
    let x : Extent = record { first = 3; past = past; len = n } in
    let extents : x ≡ e = cc in
    let word : kind_by_word (first_word inside) ≡ Some j = inside_of inside _ j h in
    let size : past - 2 - 1 ≡ past - 3 = omega arith in
    let bytes : inside ≡ take (past - 3) (drop 3 text) = take_tail (drop 2 text) (past - 2) a inside c ∙ ap₂ (λ m r. take m r) size (drop-drop 1 2 text) in
    subst (λ y. IsSpelled p k (inner y text)) extents
    (subst (λ i. IsSpelled p i (take (past - 3) (drop 3 text))) kinds
    (subst (IsSpelled p j) bytes (annotation_spelled p j inside (annotation_kind (bytes_eq (first_word inside) (codes "meta")) (bytes_eq (first_word inside) (codes "ghost")) (bytes_eq (first_word inside) (codes "assert")) j word) word)))

comment_spelled : (p : Profile) (text : List ℕ) (past n : ℕ) (k : TokenKind) (e : Extent) → piece.Token k e ≡ comment_piece p text past n → IsSpelled p k (inner e text)
unfolding comment_piece
comment_spelled profile.C text past n k e h = annotation_inner profile.C text (take (past - 2) (drop 2 text)) past n k e (annotation_of (take (past - 2) (drop 2 text))) refl refl h
comment_spelled profile.Annotation text past n k e h = cc
comment_spelled profile.Ya text past n k e h = cc

block_spelled : (p : Profile) (text : List ℕ) (k : TokenKind) (e : Extent) → IsBlockComment p text (piece.Token k e) → IsSpelled p k (inner e text)
block_spelled p text k e (closed j c h) = comment_spelled p text (j + 2) (j + 4) k e h
block_spelled p text k e (never none h) = cc

marker_none : (text : List ℕ) (k : TokenKind) (e : Extent) (b : Bool) → piece.Token k e ≡ (if b then piece.Ignored (length (line_of text)) else piece.Fault flaw.HashLine) → ⊥
marker_none text k e true h = cc
marker_none text k e false h = cc

longest_spelled : (p : Profile) (text : List ℕ) (k : TokenKind) (e : Extent) → IsLexeme p text (piece.Token k e) → IsSpelled p k (inner e text)
longest_spelled p text k e (longest s n l h) = lexeme_spelled p text s k e n l.begins.spelled h
longest_spelled p text k e (missing none h) = cc

spelled_at : (o : Opening) (p : Profile) (text : List ℕ) (k : TokenKind) (e : Extent) → StandsAt o p text (piece.Token k e) → IsSpelled p k (inner e text)
unfolding marker_piece
spelled_at at_end p text k e h = cc
spelled_at at_blank p text k e h = cc
spelled_at at_block_comment p text k e h = block_spelled p text k e h
spelled_at at_line_comment p text k e h = comment_spelled p text (length (line_of text)) (length (line_of text)) k e h
spelled_at at_line_marker p text k e h = absurd (marker_none text k e (is_marker (drop 1 (line_of text))) h)
spelled_at at_lexeme p text k e h = longest_spelled p text k e h

-- ---- the tokens of what follows

drop_further : (text : List ℕ) (from n first : ℕ) → from + n ≤ first → drop (first - (from + n)) (drop n text) ≡ drop (first - from) text
drop_further text from n first le =
    let size : n + (first - (from + n)) ≡ first - from = omega arith in
    drop-drop (first - (from + n)) n text ∙ ap (λ i. drop i text) size

wider : (p : Profile) (from n : ℕ) (text : List ℕ) → n ≤ length text → (t : Token) → IsTokenIn p (from + n) (drop n text) t → IsTokenIn p from text t
wider p from n text fits t h =
    let begins = h.begins in
    record {
      begins = omega arith;
      ordered = h.ordered;
      within = omega (arith, h.within, length-drop n text);
      spelled = subst (λ r. IsSpelled p t.kind (take (t.past - t.first) r)) (drop_further text from n t.first h.begins) h.spelled;
    }

here : (p : Profile) (at : Position) (leads : Bool) (text : List ℕ) (k : TokenKind) (e : Extent) → Stands p leads text (piece.Token k e) → IsWithin text e → IsTokenIn p at.offset text (token_at at k e)
here p at leads text k e s w =
    let size : e.past - e.first ≡ at.offset + e.past - (at.offset + e.first) = omega arith in
    let place : e.first ≡ at.offset + e.first - at.offset = omega arith in
    let fits = w.fits in
    let ordered = w.ordered in
    let past = w.past in
    record {
      begins = omega arith;
      ordered = omega arith;
      within = omega arith;
      spelled = subst (IsSpelled p k) (ap₂ (λ m i. take m (drop i text)) size place) (spelled_at (opening p leads text) p text k e s.stands);
    }

record Lie (p : Profile) (from : ℕ) (text : List ℕ) (ts : List Token) : Type 0 where
  each : AllByRecursion (IsTokenIn p from text) ts
  ordered : AllPairs (λ s t. s.past ≤ t.first) ts
  few : length ts ≤ length text

lie_none : (p : Profile) (from : ℕ) (text : List ℕ) → Lie p from text []
lie_none p from text = record { each = tt; ordered = AllPairs-nil (λ s t. s.past ≤ t.first); few = omega arith }

lie_after : (p : Profile) (from n : ℕ) (text : List ℕ) (ts : List Token) → n ≤ length text → Lie p (from + n) (drop n text) ts → Lie p from text ts
lie_after p from n text ts fits l = record {
  each = AllByRecursion-weaker (IsTokenIn p (from + n) (drop n text)) (IsTokenIn p from text) (wider p from n text fits) ts l.each;
  ordered = l.ordered;
  few = omega (arith, l.few, length-drop n text);
}

lie_token : (p : Profile) (from n : ℕ) (text : List ℕ) (t : Token) (ts : List Token) → 0 < n → n ≤ length text → IsTokenIn p from text t → t.past ≤ from + n → Lie p (from + n) (drop n text) ts → Lie p from text (t ∷ ts)
lie_token p from n text t ts some fits h le l = record {
  each = (h, (lie_after p from n text ts fits l).each);
  ordered = AllPairs-cons (λ s u. s.past ≤ u.first) t ts
      (All-from_recursion (λ u. t.past ≤ u.first) ts (AllByRecursion-weaker (IsTokenIn p (from + n) (drop n text)) (λ u. t.past ≤ u.first) (λ u g. omega (arith, g.begins)) ts l.each))
      l.ordered;
  few = omega (arith, l.few, length-drop n text);
}

piece_offset : (at : Position) (text : List ℕ) (n : ℕ) → n ≤ length text → (after at (take n text)).offset ≡ at.offset + n
piece_offset at text n fits = after-offset (take n text) at ∙ ap (λ m. at.offset + m) (length-take-le n text fits)

lies : (p : Profile) (at : Position) (leads : Bool) (text : List ℕ) (ts : List Token) (end : Option LexFault) → Lexed p at leads text ts end → Lie p at.offset text ts
lies p at leads text _ _ (ends s) = lie_none p at.offset text
lies p at leads text ts end (blank c s l) =
    lie_after p at.offset 1 text ts (reaches_of p leads text _ s) (subst (λ o. Lie p o (drop 1 text) ts) (step-offset at c) (lies p (step at c) _ (drop 1 text) ts end l))
lies p at leads text ts end (ignored n s l) =
    let r = reaches_of p leads text _ s in
    lie_after p at.offset n text ts r.1 (subst (λ o. Lie p o (drop n text) ts) (piece_offset at text n r.1) (lies p (after at (take n text)) false (drop n text) ts end l))
lies p at leads text _ end (token {tokens = rest} k e s l) =
    let r = reaches_of p leads text _ s in
    lie_token p at.offset e.len text (token_at at k e) rest r.some r.fits (here p at leads text k e s r) (omega (arith, r.past))
    (subst (λ o. Lie p o (drop e.len text) rest) (piece_offset at text e.len r.fits) (lies p (after at (take e.len text)) false (drop e.len text) rest end l))
lies p at leads text _ _ (stops f s) = lie_none p at.offset text

pub tokens_spelled : law.TokensAreSpelled
tokens_spelled p at leads text ts end l = All-from_recursion (IsTokenIn p at.offset text) ts (lies p at leads text ts end l).each

pub tokens_follow : law.TokensFollow
tokens_follow p at leads text ts end l = (lies p at leads text ts end l).ordered

pub tokens_few : law.TokensAreFew
tokens_few p at leads text ts end l = (lies p at leads text ts end l).few
