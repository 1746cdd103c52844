-- A scan from the left finds the tokens of a text.
use Rattle.std.proofs.Common.{◌≡◌, ℕ, List, [], ◌∷◌, ◌++◌, take, drop, sym, ap, subst, ◌∙◌, append_assoc, append-nil}
use Rattle.std.proofs.lemmas.List.{drop-drop, length-take-le}
use Rattle.c_lexer.specs.declared.token.TokenKind.{TokenKind}
use Rattle.c_lexer.specs.declared.token.Token.{Token}
use Rattle.c_lexer.specs.declared.position.Position.{Position}
use Rattle.c_lexer.specs.declared.first_form.front.Front.TheVariants as front
use Rattle.c_lexer.specs.Positions.{start, step, after}
use Rattle.c_lexer.specs.FirstForm.Tokens.{token_at, Tokens, ends, blank, token, AreTokensOf}
use Rattle.c_lexer.specs.FirstForm.Fronts.{Stands}
use Rattle.c_lexer.proofs.TokenLemmas.{token_graphic}
use Rattle.c_lexer.proofs.PositionLemmas.{step-offset, along, after_along}
use Rattle.c_lexer.proofs.FirstForm.TokenLemmas.{from_blank, from_token}

-- what completes the rest completes the whole, and each list of the whole has a rest
pub record Found (text : List ℕ) (p : Position) (found : List Token) : Type 0 where
  pub completes : (tokens : List Token) → Tokens p (drop p.offset text) tokens → AreTokensOf text (found ++ tokens)
  pub leads : (tokens : List Token) → AreTokensOf text tokens → (rest : List Token) × Tokens p (drop p.offset text) rest

pub found_none : (text : List ℕ) → Found text start []
found_none text = record { completes = λ tokens l. l; leads = λ tokens l. (tokens, l) }

pub found_all : (text : List ℕ) (p : Position) (found : List Token) → Stands (drop p.offset text) front.End → Found text p found → AreTokensOf text found
found_all text p found e h = subst (AreTokensOf text) (append-nil found) (h.completes [] (subst (λ r. Tokens p r []) (sym e) ends))

pub found_other : (text : List ℕ) (p : Position) (found : List Token) → Stands (drop p.offset text) front.Other → Found text p found → (tokens : List Token) → AreTokensOf text tokens → ⊥
found_other text p found s h tokens l = let r = h.leads tokens l in s p r.0 r.1

blank_rest : (text : List ℕ) (p : Position) (c : ℕ) → drop 1 (drop p.offset text) ≡ drop (step p c).offset text
blank_rest text p c = drop-drop 1 p.offset text ∙ ap (λ i. drop i text) (sym (step-offset p c))

pub found_blank : (text : List ℕ) (p : Position) (c : ℕ) (found : List Token) → Stands (drop p.offset text) (front.Blank c) → Found text p found → Found text (step p c) found
found_blank text p c found s h = record {
  completes = λ tokens l.
      h.completes tokens (subst (λ r. Tokens p r tokens) (sym s.1) (blank c s.0 (subst (λ r. Tokens (step p c) r tokens) (sym (blank_rest text p c)) l)));
  leads = λ tokens l.
      let r = h.leads tokens l in
      (r.0, subst (λ t. Tokens (step p c) t r.0) (blank_rest text p c) (from_blank p c (drop 1 (drop p.offset text)) r.0 s.0 (subst (λ t. Tokens p t r.0) s.1 r.1)));
}

-- the position after a token
token_after : (text : List ℕ) (p : Position) (k : TokenKind) (n : ℕ) → Stands text (front.Token k n) → after p (take n text) ≡ along p n
token_after text p k n s = after_along p (take n text) (token_graphic k (take n text) s.0.token) ∙ ap (along p) (length-take-le n text s.0.fits)

pub found_token : (text : List ℕ) (p : Position) (k : TokenKind) (n : ℕ) (found : List Token) → Stands (drop p.offset text) (front.Token k n) → Found text p found
    → Found text (along p n) (found ++ token_at p k n ∷ [])
found_token text p k n found s h = record {
  completes = λ tokens l.
      subst (AreTokensOf text) (sym (append_assoc found (token_at p k n ∷ []) tokens))
      (h.completes (token_at p k n ∷ tokens)
      (token k n s.0 s.1 (subst (λ q. Tokens q (drop n (drop p.offset text)) tokens) (sym moved) (subst (λ r. Tokens (along p n) r tokens) (sym (drop-drop n p.offset text)) l))));
  leads = λ tokens l.
      let r = h.leads tokens l in
      let f = from_token p (drop p.offset text) r.0 k n s.0 r.1 in
      (f.rest, subst (λ r. Tokens (along p n) r f.rest) (drop-drop n p.offset text) (subst (λ q. Tokens q (drop n (drop p.offset text)) f.rest) moved f.tokens_of));
}
  where
    moved : after p (take n (drop p.offset text)) ≡ along p n
    moved = token_after (drop p.offset text) p k n s
