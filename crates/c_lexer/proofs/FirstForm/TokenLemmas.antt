-- The tokens of a text of the first form, read from the front.
use Rattle.std.proofs.Common.{◌≡◌, ℕ, zero, suc, ◌<◌, true, false, List, [], ◌∷◌, length, take, drop, get_or, refl, sym, ap, subst, ◌∙◌, arith, ap₂, not, ◌==◌}
use Rattle.std.specs.List.{list_any}
use Rattle.std.specs.Str.{bytes_eq}
use Rattle.std.proofs.lemmas.Bool.Decides.{nat_tests}
use Rattle.c_lexer.specs.declared.token.TokenKind.{TokenKind}
use Rattle.c_lexer.specs.declared.token.Token.{Token}
use Rattle.c_lexer.specs.declared.position.Position.{Position}
use Rattle.c_lexer.specs.Bytes.{is_blank, is_digit, is_letter}
use Rattle.c_lexer.specs.Positions.{step, after}
use Rattle.c_lexer.specs.FirstForm.Tokens.{punctuation, is_token, is_allowed, IsLongest, token_at, Tokens, ends, blank, token}
use Rattle.c_lexer.proofs.ListLemmas.{apart, among, not_true}
use Rattle.c_lexer.proofs.TokenLemmas.{lead, mark, lead_mark, lead_of, shape, starts, token_shape, token_lead, token_some, one_kind}

-- ---- a token begins as the text does

pub text_lead : (text : List ℕ) (k : TokenKind) (m : ℕ) → is_token k (take m text) ≡ true → lead (get_or text 0 0) ≡ lead_of k
text_lead text k zero h = absurd (omega (arith, token_some k [] h))
text_lead [] k (suc m) h = absurd (omega (arith, token_some k [] h))
text_lead (c ∷ cs) k (suc m) h = token_lead k (c ∷ take m cs) h

pub text_shape : (text : List ℕ) (k : TokenKind) (m : ℕ) → is_token k (take m text) ≡ true → shape (lead (get_or text 0 0)) (take m text) ≡ true
text_shape text k m h = subst (λ x. shape x (take m text) ≡ true) (sym (text_lead text k m h)) (token_shape k (take m text) h)

blank_letter : (c : ℕ) → is_blank c ≡ true → is_letter c ≡ false
blank_letter c h = grind (arith, nat_tests)

blank_digit : (c : ℕ) → is_blank c ≡ true → is_digit c ≡ false
blank_digit c h = grind (arith, nat_tests)

blank_backslash : (c : ℕ) → is_blank c ≡ true → (c == 92) ≡ false
blank_backslash c h = grind (arith, nat_tests)

blank_mark : (c : ℕ) (cs : List ℕ) → is_blank c ≡ true → list_any (bytes_eq (c ∷ cs)) punctuation ≡ true → ⊥
unfolding punctuation
blank_mark c cs h i = apart (is_blank c) (not_true (is_blank c) (among (starts (λ b. not (is_blank b))) punctuation (c ∷ cs) refl i)) h

-- no token begins with a blank
pub blank_token : (c : ℕ) (cs : List ℕ) (k : TokenKind) (m : ℕ) → is_blank c ≡ true → is_token k (take m (c ∷ cs)) ≡ true → ⊥
unfolding shape
blank_token c cs k zero h i = omega (arith, token_some k [] i)
blank_token c cs k (suc m) h i =
    let e : lead c ≡ mark = lead_mark c (blank_letter c h) (blank_digit c h) (blank_backslash c h) in
    blank_mark c (take m cs) h (subst (λ x. shape x (c ∷ take m cs) ≡ true) e (text_shape (c ∷ cs) k (suc m) i))

-- ---- one longest token

pub record SameToken (a b : TokenKind) (n m : ℕ) : Type 0 where
  pub kinds : a ≡ b
  pub lengths : n ≡ m

pub one_token : (text : List ℕ) (a b : TokenKind) (n m : ℕ) → IsLongest text a n → IsLongest text b m → SameToken a b n m
one_token text a b n m p q =
    let same : m ≡ n = omega (arith, p.longest b m q.fits q.token, q.longest a n p.fits p.token) in
    record { kinds = one_kind a b (take n text) p.token (subst (λ i. is_token b (take i text) ≡ true) same q.token); lengths = sym same }

pub longest_some : (text : List ℕ) (k : TokenKind) (n : ℕ) → IsLongest text k n → 0 < n
longest_some text k zero p = token_some k [] p.token
longest_some text k (suc n) p = omega arith

-- ---- what a list of tokens begins with

none_at_end : (k : TokenKind) (n : ℕ) → IsLongest [] k n → ⊥
none_at_end k n p = omega (arith, longest_some [] k n p, p.fits)

pub from_end : (p : Position) (tokens : List Token) → Tokens p [] tokens → tokens ≡ []
from_end p _ ends = refl
from_end p _ (token k n h a l) = absurd (none_at_end k n h)

pub from_blank : (p : Position) (c : ℕ) (rest : List ℕ) (tokens : List Token) → is_blank c ≡ true → Tokens p (c ∷ rest) tokens → Tokens (step p c) rest tokens
from_blank p c rest tokens h (blank _ b l) = l
from_blank p c rest _ h (token k n i a l) = absurd (blank_token c rest k n h i.token)

-- the tokens after a first one
pub record Follows (p : Position) (text : List ℕ) (tokens : List Token) (k : TokenKind) (n : ℕ) : Type 0 where
  pub rest : List Token
  pub whole : tokens ≡ token_at p k n ∷ rest
  pub tokens_of : Tokens (after p (take n text)) (drop n text) rest

follows_same : (p : Position) (text : List ℕ) (a b : TokenKind) (n m : ℕ) (rest : List Token) → SameToken a b n m → Tokens (after p (take m text)) (drop m text) rest → Follows p text (token_at p b m ∷ rest) a n
follows_same p text a b n m rest e l = record {
  rest = rest;
  whole = ap₂ (λ k i. token_at p k i ∷ rest) (sym e.kinds) (sym e.lengths);
  tokens_of = subst (λ i. Tokens (after p (take i text)) (drop i text) rest) (sym e.lengths) l;
}

pub from_token : (p : Position) (text : List ℕ) (tokens : List Token) (k : TokenKind) (n : ℕ) → IsLongest text k n → Tokens p text tokens → Follows p text tokens k n
from_token p _ _ k n h ends = absurd (none_at_end k n h)
from_token p _ tokens k n h (blank {rest = cs} c b l) = absurd (blank_token c cs k n b h.token)
from_token p text _ k n h (token {tokens = rest} j m i a l) = follows_same p text k j n m rest (one_token text k j n m h i) l

-- where no token that may stand begins, and no blank stands
pub from_other : (p : Position) (text : List ℕ) (tokens : List Token) → 0 < length text → is_blank (get_or text 0 0) ≡ false
    → ((k : TokenKind) (n : ℕ) → IsLongest text k n → is_allowed k (take n text) ≡ true → ⊥) → Tokens p text tokens → ⊥
from_other p _ _ some clear none ends = omega arith
from_other p _ tokens some clear none (blank c b l) = apart (is_blank c) clear b
from_other p text _ some clear none (token k n i a l) = none k n i a

pub one_list : (p : Position) (text : List ℕ) (a b : List Token) → Tokens p text a → Tokens p text b → a ≡ b
one_list p _ _ b ends m = sym (from_end p b m)
one_list p _ a b (blank {rest = cs} c h l) m = one_list (step p c) cs a b l (from_blank p c cs b h m)
one_list p text _ b (token {tokens = rest} k n h i l) m =
    let f = from_token p text b k n h m in
    ap (λ ts. token_at p k n ∷ ts) (one_list (after p (take n text)) (drop n text) rest f.rest l f.tokens_of) ∙ sym f.whole
