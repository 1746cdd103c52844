-- Texts that read as words, whatever stands before them.
use Rattle.std.proofs.Common.{◌≡◌, ℕ, ◌+◌, ◌-◌, true, List, [], ◌∷◌, ◌++◌, length, take, drop, refl, sym, ap, ap₂, subst, ◌∙◌, append_assoc, arith}
use Rattle.std.proofs.Math.Seq.{drop-append_seam, take-append_seam}
use Rattle.c_lexer.specs.declared.token.TokenKind.{TokenKind}
use Rattle.c_lexer.specs.declared.token.Token.{Token}
use Rattle.c_lexer.specs.declared.position.Position.{Position}
use Rattle.c_lexer.specs.Bytes.{is_blank}
use Rattle.c_lexer.specs.Positions.{start, step, after}
use Rattle.c_lexer.specs.FirstForm.Tokens.{IsLongest, is_allowed, token_at, Tokens, ends, blank, token}
use Rattle.c_lexer.proofs.PositionLemmas.{step-offset, after-append}
use Rattle.c_parser.specs.FirstForm.Spelling.{Word, word_of, words_of}

-- the rest of a text has tokens with these words, where these bytes stand before it
pub record LexedAfter (before rest : List ℕ) (words : List Word) : Type 0 where
  pub tokens : List Token
  pub lexed : Tokens (after start before) rest tokens
  pub spelled : words_of (before ++ rest) tokens ≡ words

-- a text reads as these words
pub record Lexes (text : List ℕ) (words : List Word) : Type 0 where
  pub lexed_after : (before : List ℕ) → LexedAfter before text words

pub lexes_done : Lexes [] []
lexes_done = record { lexed_after = λ before. record { tokens = []; lexed = ends; spelled = refl } }

pub lexes_as : {text : List ℕ} {words others : List Word} → words ≡ others → Lexes text words → Lexes text others
lexes_as {text = text} e l = subst (Lexes text) e l

-- ---- blanks

after_byte : (before : List ℕ) (c : ℕ) → after start (before ++ c ∷ []) ≡ step (after start before) c
unfolding after
after_byte before c = after-append start before (c ∷ [])

skip_after : (before rest : List ℕ) (c : ℕ) (words : List Word) → is_blank c ≡ true → LexedAfter (before ++ c ∷ []) rest words → LexedAfter before (c ∷ rest) words
skip_after before rest c words h l = record {
  tokens = l.tokens;
  lexed = blank c h (subst (λ p. Tokens p rest l.tokens) (after_byte before c) l.lexed);
  spelled = ap (λ t. words_of t l.tokens) (sym (append_assoc before (c ∷ []) rest)) ∙ l.spelled;
}

pub skip : {rest : List ℕ} {words : List Word} (c : ℕ) → is_blank c ≡ true → Lexes rest words → Lexes (c ∷ rest) words
skip {rest = rest} {words = words} c h l = record { lexed_after = λ before. skip_after before rest c words h (l.lexed_after (before ++ c ∷ [])) }

-- ---- tokens

after-offset : (bs : List ℕ) (p : Position) → (after p bs).offset ≡ p.offset + length bs
unfolding after
after-offset [] p = omega arith
after-offset (c ∷ cs) p = omega (arith, after-offset cs (step p c), step-offset p c)

start-offset : (before : List ℕ) → (after start before).offset ≡ length before
start-offset before = omega (arith, after-offset before start)

drop_before : (before rest : List ℕ) (n : ℕ) → n ≡ length before → drop n (before ++ rest) ≡ rest
drop_before before rest n e = ap (λ i. drop i (before ++ rest)) e ∙ drop-append_seam before rest

word_at : (before w rest : List ℕ) (k : TokenKind) (p : Position) → p.offset ≡ length before → word_of (before ++ (w ++ rest)) (token_at p k (length w)) ≡ record { kind = k; bytes = w }
word_at before w rest k p e =
    let size : p.offset + length w - p.offset ≡ length w = omega arith in
    let same : take (p.offset + length w - p.offset) (drop p.offset (before ++ (w ++ rest))) ≡ w = ap₂ take size (drop_before before (w ++ rest) p.offset e) ∙ take-append_seam w rest in
    ap (λ b. let r : Word = record { kind = k; bytes = b } in r) same

take_after : (before w rest : List ℕ) (k : TokenKind) (words : List Word) → IsLongest (w ++ rest) k (length w) → is_allowed k w ≡ true → LexedAfter (before ++ w) rest words
    → LexedAfter before (w ++ rest) (record { kind = k; bytes = w } ∷ words)
take_after before w rest k words h a l = record {
  tokens = token_at (after start before) k (length w) ∷ l.tokens;
  lexed = token k (length w) h (subst (λ b. is_allowed k b ≡ true) (sym front) a)
      (subst (λ r. Tokens (after (after start before) (take (length w) (w ++ rest))) r l.tokens) (sym (drop-append_seam w rest))
      (subst (λ p. Tokens p rest l.tokens) (after-append start before w ∙ ap (after (after start before)) (sym front)) l.lexed));
  spelled = ap₂ (λ v vs. v ∷ vs) (word_at before w rest k (after start before) (start-offset before)) (ap (λ t. words_of t l.tokens) (sym (append_assoc before w rest)) ∙ l.spelled);
}
  where
    front : take (length w) (w ++ rest) ≡ w
    front = take-append_seam w rest

pub take_token : {rest : List ℕ} {words : List Word} (k : TokenKind) (w : List ℕ) → IsLongest (w ++ rest) k (length w) → is_allowed k w ≡ true → Lexes rest words
    → Lexes (w ++ rest) (record { kind = k; bytes = w } ∷ words)
take_token {rest = rest} {words = words} k w h a l = record { lexed_after = λ before. take_after before w rest k words h a (l.lexed_after (before ++ w)) }
