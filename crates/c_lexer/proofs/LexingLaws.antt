-- A text has one list of tokens and one end.
use Rattle.std.proofs.Common.{◌≡◌, ℕ, Bool, false, ◌||◌, ◌==◌, List, [], ◌∷◌, take, drop, refl, sym, ap, ap₂, subst, ◌∙◌, Option, Some, None}
use Rattle.c_lexer.specs.declared.token.TokenKind.{TokenKind}
use Rattle.c_lexer.specs.declared.token.Token.{Token}
use Rattle.c_lexer.specs.declared.profile.Profile.{Profile}
use Rattle.c_lexer.specs.declared.fault.Flaw.{Flaw}
use Rattle.c_lexer.specs.declared.fault.LexFault.{LexFault}
use Rattle.c_lexer.specs.declared.piece.Extent.{Extent}
use Rattle.c_lexer.specs.declared.piece.Piece.TheVariants as piece
use Rattle.c_lexer.specs.declared.position.Position.{Position}
use Rattle.c_lexer.specs.Positions.{step, after, place_of}
use Rattle.c_lexer.specs.Lexing.{Stands, token_at, fault_at, Lexed, ends, blank, ignored, token, stops}
use Rattle.c_lexer.specs.LexingLaws.{IsOneLexing, HasOneLexing}
use Rattle.c_lexer.proofs.OpeningLemmas.{one_piece}

-- ---- what follows, where it is known what stands at a place

pub from_end : (p : Profile) (at : Position) (leads : Bool) (text : List ℕ) (ts : List Token) (e : Option LexFault) → Stands p leads text piece.End → Lexed p at leads text ts e → IsOneLexing [] ts None e
from_end p at leads text _ _ h (ends i) = record { tokens = refl; end = refl }
from_end p at leads text ts e h (blank c i l) = let no : piece.End ≡ piece.Blank c = one_piece p leads text _ _ h i in cc
from_end p at leads text ts e h (ignored n i l) = let no : piece.End ≡ piece.Ignored n = one_piece p leads text _ _ h i in cc
from_end p at leads text _ e h (token k x i l) = let no : piece.End ≡ piece.Token k x = one_piece p leads text _ _ h i in cc
from_end p at leads text _ _ h (stops f i) = let no : piece.End ≡ piece.Fault f = one_piece p leads text _ _ h i in cc

pub from_blank : (p : Profile) (at : Position) (leads : Bool) (text : List ℕ) (ts : List Token) (e : Option LexFault) (c : ℕ) → Stands p leads text (piece.Blank c) → Lexed p at leads text ts e
    → Lexed p (step at c) (c == 10 || leads) (drop 1 text) ts e
from_blank p at leads text _ _ c h (ends i) = let no : piece.Blank c ≡ piece.End = one_piece p leads text _ _ h i in cc
from_blank p at leads text ts e c h (blank d i l) =
    let same : piece.Blank c ≡ piece.Blank d = one_piece p leads text _ _ h i in
    let bytes : d ≡ c = cc in
    subst (λ b. Lexed p (step at b) (b == 10 || leads) (drop 1 text) ts e) bytes l
from_blank p at leads text ts e c h (ignored n i l) = let no : piece.Blank c ≡ piece.Ignored n = one_piece p leads text _ _ h i in cc
from_blank p at leads text _ e c h (token k x i l) = let no : piece.Blank c ≡ piece.Token k x = one_piece p leads text _ _ h i in cc
from_blank p at leads text _ _ c h (stops f i) = let no : piece.Blank c ≡ piece.Fault f = one_piece p leads text _ _ h i in cc

pub from_ignored : (p : Profile) (at : Position) (leads : Bool) (text : List ℕ) (ts : List Token) (e : Option LexFault) (n : ℕ) → Stands p leads text (piece.Ignored n) → Lexed p at leads text ts e
    → Lexed p (after at (take n text)) false (drop n text) ts e
from_ignored p at leads text _ _ n h (ends i) = let no : piece.Ignored n ≡ piece.End = one_piece p leads text _ _ h i in cc
from_ignored p at leads text ts e n h (blank c i l) = let no : piece.Ignored n ≡ piece.Blank c = one_piece p leads text _ _ h i in cc
from_ignored p at leads text ts e n h (ignored m i l) =
    let same : piece.Ignored n ≡ piece.Ignored m = one_piece p leads text _ _ h i in
    let sizes : m ≡ n = cc in
    subst (λ j. Lexed p (after at (take j text)) false (drop j text) ts e) sizes l
from_ignored p at leads text _ e n h (token k x i l) = let no : piece.Ignored n ≡ piece.Token k x = one_piece p leads text _ _ h i in cc
from_ignored p at leads text _ _ n h (stops f i) = let no : piece.Ignored n ≡ piece.Fault f = one_piece p leads text _ _ h i in cc

-- the tokens after a first one
pub record Follows (p : Profile) (at : Position) (text : List ℕ) (ts : List Token) (e : Option LexFault) (k : TokenKind) (x : Extent) : Type 0 where
  pub rest : List Token
  pub whole : ts ≡ token_at at k x ∷ rest
  pub lexed : Lexed p (after at (take x.len text)) false (drop x.len text) rest e

pub from_token : (p : Profile) (at : Position) (leads : Bool) (text : List ℕ) (ts : List Token) (e : Option LexFault) (k : TokenKind) (x : Extent) → Stands p leads text (piece.Token k x) → Lexed p at leads text ts e → Follows p at text ts e k x
from_token p at leads text _ _ k x h (ends i) = let no : piece.Token k x ≡ piece.End = one_piece p leads text _ _ h i in cc
from_token p at leads text ts e k x h (blank c i l) = let no : piece.Token k x ≡ piece.Blank c = one_piece p leads text _ _ h i in cc
from_token p at leads text ts e k x h (ignored n i l) = let no : piece.Token k x ≡ piece.Ignored n = one_piece p leads text _ _ h i in cc
from_token p at leads text _ e k x h (token {tokens = rest} j y i l) =
    let same : piece.Token k x ≡ piece.Token j y = one_piece p leads text _ _ h i in
    let kinds : j ≡ k = cc in
    let extents : y ≡ x = cc in
    record {
      rest = rest;
      whole = ap₂ (λ a b. token_at at a b ∷ rest) kinds extents;
      lexed = subst (λ b. Lexed p (after at (take b.len text)) false (drop b.len text) rest e) extents l;
    }
from_token p at leads text _ _ k x h (stops f i) = let no : piece.Token k x ≡ piece.Fault f = one_piece p leads text _ _ h i in cc

pub from_fault : (p : Profile) (at : Position) (leads : Bool) (text : List ℕ) (ts : List Token) (e : Option LexFault) (f : Flaw) → Stands p leads text (piece.Fault f) → Lexed p at leads text ts e
    → IsOneLexing [] ts (Some (fault_at f (place_of at))) e
from_fault p at leads text _ _ f h (ends i) = let no : piece.Fault f ≡ piece.End = one_piece p leads text _ _ h i in cc
from_fault p at leads text ts e f h (blank c i l) = let no : piece.Fault f ≡ piece.Blank c = one_piece p leads text _ _ h i in cc
from_fault p at leads text ts e f h (ignored n i l) = let no : piece.Fault f ≡ piece.Ignored n = one_piece p leads text _ _ h i in cc
from_fault p at leads text _ e f h (token k x i l) = let no : piece.Fault f ≡ piece.Token k x = one_piece p leads text _ _ h i in cc
from_fault p at leads text _ _ f h (stops g i) =
    let same : piece.Fault f ≡ piece.Fault g = one_piece p leads text _ _ h i in
    let flaws : f ≡ g = cc in
    record { tokens = refl; end = ap (λ x. Some (fault_at x (place_of at))) flaws }

joined : (at : Position) (k : TokenKind) (x : Extent) (rest others ys : List Token) (e f : Option LexFault) → IsOneLexing rest others e f → ys ≡ token_at at k x ∷ others → IsOneLexing (token_at at k x ∷ rest) ys e f
joined at k x rest others ys e f h w = record { tokens = ap (λ ts. token_at at k x ∷ ts) h.tokens ∙ sym w; end = h.end }

pub one_lexing : HasOneLexing
one_lexing p at leads text _ ys _ f (ends h) m = from_end p at leads text ys f h m
one_lexing p at leads text xs ys e f (blank c h l) m = one_lexing p (step at c) (c == 10 || leads) (drop 1 text) xs ys e f l (from_blank p at leads text ys f c h m)
one_lexing p at leads text xs ys e f (ignored n h l) m = one_lexing p (after at (take n text)) false (drop n text) xs ys e f l (from_ignored p at leads text ys f n h m)
one_lexing p at leads text _ ys e f (token {tokens = rest} k x h l) m =
    let g = from_token p at leads text ys f k x h m in
    joined at k x rest g.rest ys e f (one_lexing p (after at (take x.len text)) false (drop x.len text) rest g.rest e f l g.lexed) g.whole
one_lexing p at leads text _ ys _ f (stops flaw h) m = from_fault p at leads text ys f flaw h m
