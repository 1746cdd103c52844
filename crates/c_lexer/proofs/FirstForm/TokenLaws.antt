-- Laws of the tokens of a text, for whoever reads them.
use Rattle.std.proofs.Common.{◌≡◌, ℕ, zero, suc, ◌+◌, ◌-◌, ◌<◌, ◌≤◌, true, false, List, [], ◌∷◌, ◌++◌, length, take, drop, get_or, refl, sym, ap, subst, ◌∙◌, ⊎_elim, append_assoc, arith}
use Rattle.std.specs.Prelude.{All, AllPairs, Any}
use Rattle.std.specs.List.{list_all, AllByRecursion}
use Rattle.std.specs.Str.{IsAscii, IsUtf8}
use Rattle.std.proofs.Math.Seq.{drop-append_seam}
use Rattle.std.proofs.lemmas.Bool.{cases_lt}
use Rattle.std.proofs.lemmas.Bool.Decides.{nat_tests}
use Rattle.std.proofs.lemmas.List.{take-append-drop, length-append, length-take-le}
use Rattle.std.proofs.lemmas.List.Elements.{All-from_recursion}
use Rattle.std.proofs.lemmas.Str.{IsUtf8-from_ascii}
use Rattle.std.proofs.lemmas.Str.Ascii.{IsAscii-nil, IsAscii-cons}
use Rattle.c_lexer.specs.declared.token.TokenKind.{TokenKind}
use Rattle.c_lexer.specs.declared.token.TokenKind.TheVariants as kind
use Rattle.c_lexer.specs.declared.token.IntSuffix.TheVariants as suffix
use Rattle.c_lexer.specs.declared.token.Token.{Token}
use Rattle.c_lexer.specs.declared.position.Position.{Position}
use Rattle.c_lexer.specs.Bytes.{is_blank}
use Rattle.c_lexer.specs.Positions.{start, step, after, place_of}
use Rattle.c_lexer.specs.FirstForm.Tokens.{is_token, is_allowed, is_decimal, IsLongest, token_at, Tokens, ends, blank, token, AreTokensOf}
use Rattle.c_lexer.specs.FirstForm.Laws as law
use Rattle.c_lexer.specs.FirstForm.Laws.{bytes_of, IsTokenOf}
use Rattle.c_lexer.proofs.ListLemmas.{apart, left, right}
use Rattle.c_lexer.proofs.TokenLemmas as tokens
use Rattle.c_lexer.proofs.TokenLemmas.{is_graphic, token_graphic}
use Rattle.c_lexer.proofs.PositionLemmas.{step-offset, after-append}
use Rattle.c_lexer.proofs.FirstForm.TokenLemmas.{longest_some, one_list}

-- ---- one list, one kind, ASCII

pub one_token_list : law.HasOneTokenList
one_token_list text a b l m = one_list start text a b l m

pub one_kind : law.BytesTellKind
one_kind a b bytes h i = tokens.one_kind a b bytes h i

graphic_ascii : (c : ℕ) → is_graphic c ≡ true → c < 128
graphic_ascii c h = grind (arith, nat_tests)

all_ascii : (bs : List ℕ) → list_all is_graphic bs ≡ true → IsAscii bs
all_ascii [] h = IsAscii-nil
all_ascii (c ∷ cs) h = IsAscii-cons c cs (graphic_ascii c (left (is_graphic c) _ h)) (all_ascii cs (right (is_graphic c) _ h))

pub token_ascii : law.TokensAreAscii
token_ascii k bytes h = all_ascii bytes (token_graphic k bytes h)

pub token_utf8 : (k : TokenKind) (bytes : List ℕ) → is_token k bytes ≡ true → IsUtf8 bytes
token_utf8 k bytes h = IsUtf8-from_ascii bytes (token_ascii k bytes h)

decimal_of : (k : TokenKind) (bytes : List ℕ) → k ≡ kind.Number suffix.Plain → is_allowed k bytes ≡ true → is_decimal bytes ≡ true
unfolding is_allowed
decimal_of k bytes e h = subst (λ j. is_allowed j bytes ≡ true) e h

pub number_decimal : law.NumbersAreDecimal
number_decimal text t h e = decimal_of t.kind (bytes_of text t) e h.allowed

-- ---- where the tokens lie

offset_after : (bs : List ℕ) (p : Position) → (after p bs).offset ≡ p.offset + length bs
unfolding after
offset_after [] p = omega arith
offset_after (c ∷ cs) p = omega (arith, offset_after cs (step p c), step-offset p c)

pub AllPairs-cons : {X : Type 0} (R : X → X → Type 0) (x : X) (ys : List X) → All (R x) ys → AllPairs R ys → AllPairs R (x ∷ ys)
AllPairs-cons R x ys h r zero zero d lt le = absurd (omega arith)
AllPairs-cons R x ys h r zero (suc j) d lt le = h j d (omega arith)
AllPairs-cons R x ys h r (suc i) zero d lt le = absurd (omega arith)
AllPairs-cons R x ys h r (suc i) (suc j) d lt le = r i j d (omega arith) (omega arith)

pub AllPairs-nil : {X : Type 0} (R : X → X → Type 0) → AllPairs R []
AllPairs-nil R i j d lt le = absurd (omega arith)

Any-cons : {X : Type 0} (P : X → Type 0) (x : X) (ys : List X) → Any P ys → Any P (x ∷ ys)
Any-cons P x ys h = (suc h.0, h.1, omega (arith, h.2), h.3, h.4)

Any-here : {X : Type 0} (P : X → Type 0) (x : X) (ys : List X) → P x → Any P (x ∷ ys)
Any-here P x ys h = (0, x, omega arith, refl, h)

pub AllByRecursion-weaker : {X : Type 0} (P Q : X → Type 0) → ((x : X) → P x → Q x) → (xs : List X) → AllByRecursion P xs → AllByRecursion Q xs
AllByRecursion-weaker P Q h [] a = tt
AllByRecursion-weaker P Q h (x ∷ xs) a = (h x a.0, AllByRecursion-weaker P Q h xs a.1)

abbrev Has : ℕ → Token → Type 0
Has i t = (t.first ≤ i) × (i < t.past)

-- the tokens of what the text has from an offset on
record Lie (text : List ℕ) (offset : ℕ) (ts : List Token) : Type 0 where
  each : AllByRecursion (IsTokenOf text) ts
  later : AllByRecursion (λ t. offset ≤ t.first) ts
  ordered : AllPairs (λ s t. s.past ≤ t.first) ts
  covering : (i : ℕ) → offset ≤ i → i < length text → is_blank (get_or text i 0) ≡ false → Any (Has i) ts
  few : length ts + offset ≤ length text

take-append_seam : (xs ys : List ℕ) → take (length xs) (xs ++ ys) ≡ xs
take-append_seam [] ys = refl
take-append_seam (x ∷ xs) ys = ap (λ r. x ∷ r) (take-append_seam xs ys)

-- what is known where the rest of a text begins
record At (text before rest : List ℕ) (p : Position) : Type 0 where
  whole : before ++ rest ≡ text
  reached : p ≡ after start before

at_offset : (text before rest : List ℕ) (p : Position) → At text before rest p → p.offset ≡ length before
at_offset text before rest p a = ap (λ q. q.offset) a.reached ∙ offset_after before start ∙ (let e : 0 + length before ≡ length before = omega arith in e)

at_length : (text before rest : List ℕ) (p : Position) → At text before rest p → p.offset + length rest ≡ length text
at_length text before rest p a = omega (arith, at_offset text before rest p a, length-append before rest, ap length a.whole)

at_rest : (text before rest : List ℕ) (p : Position) → At text before rest p → drop p.offset text ≡ rest
at_rest text before rest p a =
    ap (λ i. drop i text) (at_offset text before rest p a) ∙ ap (λ t. drop (length before) t) (sym a.whole) ∙ drop-append_seam before rest

at_before : (text before rest : List ℕ) (p : Position) → At text before rest p → take p.offset text ≡ before
at_before text before rest p a =
    ap (λ i. take i text) (at_offset text before rest p a) ∙ ap (λ t. take (length before) t) (sym a.whole) ∙ take-append_seam before rest

at_more : (text before front rest : List ℕ) (p : Position) → At text before (front ++ rest) p → At text (before ++ front) rest (after p front)
at_more text before front rest p a = record {
  whole = append_assoc before front rest ∙ a.whole;
  reached = ap (λ q. after q front) a.reached ∙ sym (after-append start before front);
}

at_start : (text : List ℕ) → At text [] text start
unfolding after
at_start text = record { whole = refl; reached = refl }

at_blank : (text before rest : List ℕ) (p : Position) (c : ℕ) → At text before (c ∷ rest) p → At text (before ++ c ∷ []) rest (step p c)
unfolding after
at_blank text before rest p c a = at_more text before (c ∷ []) rest p a

at_token : (text before rest : List ℕ) (p : Position) (n : ℕ) → At text before rest p → At text (before ++ take n rest) (drop n rest) (after p (take n rest))
at_token text before rest p n a = at_more text before (take n rest) (drop n rest) p (subst (λ r. At text before r p) (sym (take-append-drop n rest)) a)

token_offset : (rest : List ℕ) (p : Position) (k : TokenKind) (n : ℕ) → IsLongest rest k n → (after p (take n rest)).offset ≡ p.offset + n
token_offset rest p k n h = offset_after (take n rest) p ∙ ap (λ m. p.offset + m) (length-take-le n rest h.fits)

get_or_rest : (xs : List ℕ) (i : ℕ) → get_or xs i 0 ≡ get_or (drop i xs) 0 0
get_or_rest xs zero = refl
get_or_rest [] (suc i) = refl
get_or_rest (x ∷ xs) (suc i) = get_or_rest xs i

token_lies : (text before rest : List ℕ) (p : Position) (k : TokenKind) (n : ℕ) → At text before rest p → IsLongest rest k n → is_allowed k (take n rest) ≡ true → IsTokenOf text (token_at p k n)
token_lies text before rest p k n a h i =
    let size : n ≡ p.offset + n - p.offset = omega arith in
    let same : take n rest ≡ take (p.offset + n - p.offset) (drop p.offset text) = ap (λ m. take m rest) size ∙ ap (λ r. take (p.offset + n - p.offset) r) (sym (at_rest text before rest p a)) in
    record {
      some = omega (arith, longest_some rest k n h);
      within = omega (arith, h.fits, at_length text before rest p a);
      spelled = subst (λ w. is_token k w ≡ true) same h.token;
      longest = subst (λ r. IsLongest r k (p.offset + n - p.offset)) (sym (at_rest text before rest p a)) (subst (IsLongest rest k) size h);
      allowed = subst (λ w. is_allowed k w ≡ true) same i;
      placed = ap place_of (a.reached ∙ ap (after start) (sym (at_before text before rest p a)));
    }

lie_none : (text before : List ℕ) (p : Position) → At text before [] p → Lie text p.offset []
lie_none text before p a = record {
  each = tt;
  later = tt;
  ordered = AllPairs-nil (λ s t. s.past ≤ t.first);
  covering = λ i le lt h. absurd (omega (arith, at_length text before [] p a));
  few = omega (arith, at_length text before [] p a);
}

lie_blank : (text before rest : List ℕ) (p : Position) (c : ℕ) (ts : List Token) → At text before (c ∷ rest) p → is_blank c ≡ true → Lie text (p.offset + 1) ts → Lie text p.offset ts
lie_blank text before rest p c ts a b l = record {
  each = l.each;
  later = AllByRecursion-weaker (λ t. p.offset + 1 ≤ t.first) (λ t. p.offset ≤ t.first) (λ t h. omega (arith, h)) ts l.later;
  ordered = l.ordered;
  covering = covering;
  few = omega (arith, l.few);
}
  where
    here : get_or text p.offset 0 ≡ c
    here = get_or_rest text p.offset ∙ ap (λ r. get_or r 0 0) (at_rest text before (c ∷ rest) p a)

    covering : (i : ℕ) → p.offset ≤ i → i < length text → is_blank (get_or text i 0) ≡ false → Any (Has i) ts
    covering i le lt h =
        ⊎_elim (λ more. l.covering i (omega (arith, more)) lt h)
        (λ no. let e : p.offset ≡ i = omega (arith, no) in absurd (apart (is_blank c) (ap is_blank (sym here ∙ ap (λ j. get_or text j 0) e) ∙ h) b))
        (cases_lt p.offset i)

lie_token : (text before rest : List ℕ) (p : Position) (k : TokenKind) (n : ℕ) (ts : List Token) → At text before rest p → IsLongest rest k n → is_allowed k (take n rest) ≡ true
    → Lie text (p.offset + n) ts → Lie text p.offset (token_at p k n ∷ ts)
lie_token text before rest p k n ts a h i l = record {
  each = (token_lies text before rest p k n a h i, l.each);
  later = (omega arith, AllByRecursion-weaker (λ t. p.offset + n ≤ t.first) (λ t. p.offset ≤ t.first) (λ t g. omega (arith, g)) ts l.later);
  ordered = AllPairs-cons (λ s t. s.past ≤ t.first) (token_at p k n) ts (All-from_recursion (λ t. p.offset + n ≤ t.first) ts l.later) l.ordered;
  covering = λ j le lt g.
      ⊎_elim (λ inside. Any-here (Has j) (token_at p k n) ts (le, inside)) (λ past. Any-cons (Has j) (token_at p k n) ts (l.covering j past lt g)) (cases_lt j (p.offset + n));
  few = omega (arith, l.few, longest_some rest k n h);
}

lies : (text before rest : List ℕ) (p : Position) (ts : List Token) → At text before rest p → Tokens p rest ts → Lie text p.offset ts
lies text before _ p _ a ends = lie_none text before p a
lies text before _ p ts a (blank {rest = rest} c b l) =
    lie_blank text before rest p c ts a b (subst (λ o. Lie text o ts) (step-offset p c) (lies text (before ++ c ∷ []) rest (step p c) ts (at_blank text before rest p c a) l))
lies text before rest p _ a (token {tokens = ts} k n h i l) =
    lie_token text before rest p k n ts a h i
    (subst (λ o. Lie text o ts) (token_offset rest p k n h) (lies text (before ++ take n rest) (drop n rest) (after p (take n rest)) ts (at_token text before rest p n a) l))

whole_lies : (text : List ℕ) (ts : List Token) → AreTokensOf text ts → Lie text 0 ts
whole_lies text ts l = lies text [] text start ts (at_start text) l

pub each_token : (text : List ℕ) (ts : List Token) → AreTokensOf text ts → AllByRecursion (IsTokenOf text) ts
each_token text ts l = (whole_lies text ts l).each

pub tokens_of_text : law.TokensAreOfText
tokens_of_text text ts l = All-from_recursion (IsTokenOf text) ts (each_token text ts l)

pub tokens_in_order : law.TokensAreInOrder
tokens_in_order text ts l = (whole_lies text ts l).ordered

pub tokens_cover : law.TokensCoverText
tokens_cover text ts l i lt h = (whole_lies text ts l).covering i (omega arith) lt h

pub tokens_few : law.TokensAreFew
tokens_few text ts l = omega (arith, (whole_lies text ts l).few)
