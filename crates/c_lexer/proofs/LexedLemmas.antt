-- A scan from the left finds the tokens of a text.
use Rattle.std.proofs.Common.{◌≡◌, ◌<◌, ◌≤◌, ℕ, ◌+◌, ◌-◌, Bool, true, false, ◌||◌, ◌==◌, List, [], ◌∷◌, ◌++◌, take, drop, length, sym, ap, subst, ◌∙◌, append_assoc, append-nil, Option, Some, None, arith}
use Rattle.std.proofs.lemmas.List.{drop-drop, length-drop, length-take-le}
use Rattle.c_lexer.specs.declared.token.TokenKind.{TokenKind}
use Rattle.c_lexer.specs.declared.token.Token.{Token}
use Rattle.c_lexer.specs.declared.profile.Profile.{Profile}
use Rattle.c_lexer.specs.declared.fault.Flaw.{Flaw}
use Rattle.c_lexer.specs.declared.fault.Flaw.TheVariants as flaw
use Rattle.c_lexer.specs.declared.fault.LexFault.{LexFault}
use Rattle.c_lexer.specs.declared.piece.Extent.{Extent}
use Rattle.c_lexer.specs.declared.piece.Piece.TheVariants as piece
use Rattle.c_lexer.specs.declared.position.Position.{Position}
use Rattle.c_lexer.specs.Positions.{step, after, place_of}
use Rattle.c_lexer.specs.Lexing.{Stands, token_at, fault_at, Lexed, ends, blank, ignored, token, stops, IsFaultOf}
use Rattle.c_lexer.proofs.PositionLemmas.{IsBounded, step_bounded, step-offset, after-offset, after_bounded}

-- what the rest has, after what was found, the whole has
pub record Completes (p : Profile) (text : List ℕ) (from at : Position) (leads : Bool) (found : List Token) : Type 0 where
  pub whole : (tokens : List Token) (end : Option LexFault) → Lexed p at leads (drop at.offset text) tokens end → Lexed p from true (drop from.offset text) (found ++ tokens) end

pub completes_none : (p : Profile) (text : List ℕ) (from : Position) → Completes p text from from true []
completes_none p text from = record { whole = λ tokens end l. l }

pub completes_end : (p : Profile) (text : List ℕ) (from at : Position) (leads : Bool) (found : List Token) → Completes p text from at leads found → Stands p leads (drop at.offset text) piece.End → Lexed p from true (drop from.offset text) found None
completes_end p text from at leads found h s = subst (λ ts. Lexed p from true (drop from.offset text) ts None) (append-nil found) (h.whole [] None (ends s))

pub completes_fault : (p : Profile) (text : List ℕ) (from at : Position) (leads : Bool) (found : List Token) (f : Flaw) → Completes p text from at leads found → Stands p leads (drop at.offset text) (piece.Fault f)
    → Lexed p from true (drop from.offset text) found (Some (fault_at f (place_of at)))
completes_fault p text from at leads found f h s =
    subst (λ ts. Lexed p from true (drop from.offset text) ts (Some (fault_at f (place_of at)))) (append-nil found) (h.whole [] (Some (fault_at f (place_of at))) (stops f s))

blank_rest : (text : List ℕ) (at : Position) (c : ℕ) → drop 1 (drop at.offset text) ≡ drop (step at c).offset text
blank_rest text at c = drop-drop 1 at.offset text ∙ ap (λ i. drop i text) (sym (step-offset at c))

pub completes_blank : (p : Profile) (text : List ℕ) (from at : Position) (leads : Bool) (found : List Token) (c : ℕ) → Completes p text from at leads found → Stands p leads (drop at.offset text) (piece.Blank c)
    → Completes p text from (step at c) (c == 10 || leads) found
completes_blank p text from at leads found c h s = record {
  whole = λ tokens end l. h.whole tokens end (blank c s (subst (λ r. Lexed p (step at c) (c == 10 || leads) r tokens end) (sym (blank_rest text at c)) l));
}

piece_rest : (text : List ℕ) (at : Position) (n : ℕ) → n ≤ length (drop at.offset text) → drop n (drop at.offset text) ≡ drop (after at (take n (drop at.offset text))).offset text
piece_rest text at n fits = drop-drop n at.offset text ∙ ap (λ i. drop i text) (sym (after-offset (take n (drop at.offset text)) at ∙ ap (λ m. at.offset + m) (length-take-le n (drop at.offset text) fits)))

pub completes_ignored : (p : Profile) (text : List ℕ) (from at : Position) (leads : Bool) (found : List Token) (n : ℕ) → n ≤ length (drop at.offset text) → Completes p text from at leads found → Stands p leads (drop at.offset text) (piece.Ignored n)
    → Completes p text from (after at (take n (drop at.offset text))) false found
completes_ignored p text from at leads found n fits h s = record {
  whole = λ tokens end l. h.whole tokens end (ignored n s (subst (λ r. Lexed p (after at (take n (drop at.offset text))) false r tokens end) (sym (piece_rest text at n fits)) l));
}

pub completes_token : (p : Profile) (text : List ℕ) (from at : Position) (leads : Bool) (found : List Token) (k : TokenKind) (x : Extent) → x.len ≤ length (drop at.offset text) → Completes p text from at leads found
    → Stands p leads (drop at.offset text) (piece.Token k x) → Completes p text from (after at (take x.len (drop at.offset text))) false (found ++ token_at at k x ∷ [])
completes_token p text from at leads found k x fits h s = record {
  whole = λ tokens end l.
      subst (λ ts. Lexed p from true (drop from.offset text) ts end) (sym (append_assoc found (token_at at k x ∷ []) tokens))
      (h.whole (token_at at k x ∷ tokens) end
      (token k x s (subst (λ r. Lexed p (after at (take x.len (drop at.offset text))) false r tokens end) (sym (piece_rest text at x.len fits)) l)));
}

-- the fault that a text ends with is one that may be answered
pub fault_of : (p : Profile) (at : Position) (leads : Bool) (text : List ℕ) (tokens : List Token) (f : Flaw) (end : Position) → Lexed p at leads text tokens (Some (fault_at f (place_of end))) → IsFaultOf (Lexed p at leads text) (fault_at f (place_of end))
fault_of p at leads text tokens flaw.BadByte end l = (tokens, l)
fault_of p at leads text tokens flaw.OpenComment end l = (tokens, l)
fault_of p at leads text tokens flaw.BadNumber end l = (tokens, l)
fault_of p at leads text tokens flaw.NumberTooWide end l = (tokens, l)
fault_of p at leads text tokens flaw.HashLine end l = (tokens, l)
fault_of p at leads text tokens flaw.BadCharacter end l = (tokens, l)

-- how a piece of n bytes moves the position
pub record Moved (text : List ℕ) (at to : Position) : Type 0 where
  pub within : to.offset ≤ length text
  pub further : at.offset < to.offset
  pub bounded : IsBounded to

pub moved_by : (text : List ℕ) (at : Position) (n : ℕ) → at.offset ≤ length text → IsBounded at → 0 < n → n ≤ length (drop at.offset text) → Moved text at (after at (take n (drop at.offset text)))
moved_by text at n within bounded some fits =
    let size : (after at (take n (drop at.offset text))).offset ≡ at.offset + n = after-offset (take n (drop at.offset text)) at ∙ ap (λ m. at.offset + m) (length-take-le n (drop at.offset text) fits) in
    record {
      within = omega (arith, length-drop at.offset text);
      further = omega arith;
      bounded = after_bounded (take n (drop at.offset text)) at bounded;
    }

pub moved_blank : (text : List ℕ) (at : Position) (c : ℕ) → at.offset ≤ length text → IsBounded at → 0 < length (drop at.offset text) → Moved text at (step at c)
moved_blank text at c within bounded some = record {
  within = omega (arith, step-offset at c, length-drop at.offset text);
  further = omega (arith, step-offset at c);
  bounded = step_bounded at c bounded;
}

pub slice_take : (text : List ℕ) (i n : ℕ) → take (i + n - i) (drop i text) ≡ take n (drop i text)
slice_take text i n = let same : i + n - i ≡ n = omega arith in ap (λ m. take m (drop i text)) same
