-- What stands at the front of a text, from its bytes.
use Rattle.std.proofs.Common.{◌≡◌, ℕ, zero, suc, ◌+◌, ◌-◌, ◌≤◌, ◌<◌, Bool, true, false, not, ◌||◌, ◌==◌, nat_le, List, [], ◌∷◌, length, take, drop, get_or, refl, sym, ap, subst, ◌∙◌, ⊎_elim, arith}
use Rattle.std.proofs.Math.Numerals.{one-add}
use Rattle.std.specs.Prelude.{codes}
use Rattle.std.specs.Str.{bytes_eq}
use Rattle.std.specs.List.{list_any, list_all, take_while}
use Rattle.std.proofs.lemmas.Bool.Decides.{nat_tests}
use Rattle.std.proofs.lemmas.List.{length-take-le, take_rest}
use Rattle.std.proofs.lemmas.Slice.Eq.{bytes_eq-Decides}
use Rattle.c_lexer.specs.declared.token.TokenKind.{TokenKind}
use Rattle.c_lexer.specs.declared.token.TokenKind.TheVariants as kind
use Rattle.c_lexer.specs.declared.token.IntSuffix.TheVariants as suffix
use Rattle.c_lexer.specs.declared.first_form.front.Front.{Front}
use Rattle.c_lexer.specs.declared.first_form.front.Front.TheVariants as front
use Rattle.c_lexer.specs.Bytes.{is_blank, is_digit, is_letter, is_word, is_number_part, is_keyword}
use Rattle.c_lexer.specs.FirstForm.Tokens.{punctuation, is_decimal, is_token, is_allowed, IsLongest}
use Rattle.c_lexer.specs.Spellings.{is_identifier, is_number, is_backslash_word}
use Rattle.c_lexer.specs.FirstForm.Fronts.{Stands, Reaches}
use Rattle.c_lexer.proofs.ListLemmas.{both, left, right, either, apart, among, IsRun, IsRun-take_while, IsRun-some}
use Rattle.c_lexer.proofs.TokenLemmas.{lead, letter, digit, backslash, mark, lead_letter, lead_digit, lead_backslash, lead_mark, shape, starts, token_some, identifier_words, number_parts, letter_word, digit_part}
use Rattle.c_lexer.proofs.FirstForm.TokenLemmas.{text_shape, one_token, longest_some, from_other}

-- ---- the words that begin as the text does

shape_at : (text : List ℕ) (x : _) (k : TokenKind) (m : ℕ) → lead (get_or text 0 0) ≡ x → is_token k (take m text) ≡ true → shape x (take m text) ≡ true
shape_at text x k m e h = subst (λ y. shape y (take m text) ≡ true) e (text_shape text k m h)

identifier_at : (text : List ℕ) (k : TokenKind) (m : ℕ) → is_letter (get_or text 0 0) ≡ true → is_token k (take m text) ≡ true → is_identifier (take m text) ≡ true
unfolding shape
identifier_at text k m e h = shape_at text letter k m (lead_letter (get_or text 0 0) e) h

number_at : (text : List ℕ) (k : TokenKind) (m : ℕ) → is_digit (get_or text 0 0) ≡ true → is_token k (take m text) ≡ true → is_number (take m text) ≡ true
unfolding shape
number_at text k m e h = shape_at text digit k m (lead_digit (get_or text 0 0) e) h

backslash_at : (text : List ℕ) (k : TokenKind) (m : ℕ) → get_or text 0 0 ≡ 92 → is_token k (take m text) ≡ true → is_backslash_word (take m text) ≡ true
unfolding shape
backslash_at text k m e h = shape_at text backslash k m (lead_backslash (get_or text 0 0) e) h

mark_at : (text : List ℕ) (k : TokenKind) (m : ℕ) → lead (get_or text 0 0) ≡ mark → is_token k (take m text) ≡ true → list_any (bytes_eq (take m text)) punctuation ≡ true
unfolding shape
mark_at text k m e h = shape_at text mark k m e h

-- ---- names and keywords

pub identifier_run : (text : List ℕ) (n : ℕ) → is_letter (get_or text 0 0) ≡ true → IsRun is_word text n → is_identifier (take n text) ≡ true
unfolding is_identifier
identifier_run [] n h run = cc
identifier_run (c ∷ cs) zero h run = absurd (omega (arith, IsRun-some is_word c cs 0 (letter_word c h) run))
identifier_run (c ∷ cs) (suc n) h run = both _ _ h (right (is_word c) _ run.passes)

word_longest : (text : List ℕ) (n : ℕ) (k : TokenKind) → is_letter (get_or text 0 0) ≡ true → IsRun is_word text n → is_token k (take n text) ≡ true → IsLongest text k n
word_longest text n k h run e = record { fits = run.fits; token = e; longest = λ other m le i. run.longest m le (identifier_words (take m text) (identifier_at text other m h i)) }

pub keyword_stands : (text : List ℕ) (n : ℕ) → is_letter (get_or text 0 0) ≡ true → n ≡ length (take_while is_word text) → is_keyword (take n text) ≡ true → Stands text (front.Token kind.Keyword n)
unfolding is_token is_allowed
keyword_stands text n h e i = (word_longest text n kind.Keyword h (IsRun-take_while is_word text n e) i, refl)

pub name_stands : (text : List ℕ) (n : ℕ) → is_letter (get_or text 0 0) ≡ true → n ≡ length (take_while is_word text) → is_keyword (take n text) ≡ false → Stands text (front.Token kind.Name n)
unfolding is_token is_allowed
name_stands text n h e i =
    let run = IsRun-take_while is_word text n e in
    (word_longest text n kind.Name h run (both _ _ (identifier_run text n h run) (ap not i)), refl)

-- ---- numbers

number_run : (text : List ℕ) (n : ℕ) → is_digit (get_or text 0 0) ≡ true → IsRun is_number_part text n → is_number (take n text) ≡ true
unfolding is_number
number_run [] n h run = cc
number_run (c ∷ cs) zero h run = absurd (omega (arith, IsRun-some is_number_part c cs 0 (digit_part c h) run))
number_run (c ∷ cs) (suc n) h run = both _ _ h (right (is_number_part c) _ run.passes)

number_longest : (text : List ℕ) (n : ℕ) → is_digit (get_or text 0 0) ≡ true → IsRun is_number_part text n → IsLongest text (kind.Number suffix.Plain) n
unfolding is_token
number_longest text n h run = record {
  fits = run.fits;
  token = number_run text n h run;
  longest = λ other m le i. run.longest m le (number_parts (take m text) (number_at text other m h i));
}

pub number_stands : (text : List ℕ) (n : ℕ) → is_digit (get_or text 0 0) ≡ true → n ≡ length (take_while is_number_part text) → is_decimal (take n text) ≡ true → Stands text (front.Token (kind.Number suffix.Plain) n)
unfolding is_allowed
number_stands text n h e i = (number_longest text n h (IsRun-take_while is_number_part text n e), i)

digit_some : (text : List ℕ) → is_digit (get_or text 0 0) ≡ true → 0 < length text
digit_some [] h = cc
digit_some (c ∷ cs) h = omega arith

digit_blank : (c : ℕ) → is_digit c ≡ true → is_blank c ≡ false
digit_blank c h = grind (arith, nat_tests)

allowed_number : (w : List ℕ) (k : TokenKind) → k ≡ kind.Number suffix.Plain → is_allowed k w ≡ true → is_decimal w ≡ true
unfolding is_allowed
allowed_number w k e h = subst (λ j. is_allowed j w ≡ true) e h

pub bad_number_stands : (text : List ℕ) (n : ℕ) → is_digit (get_or text 0 0) ≡ true → n ≡ length (take_while is_number_part text) → is_decimal (take n text) ≡ false → Stands text front.Other
bad_number_stands text n h e i p tokens l =
    from_other p text tokens (digit_some text h) (digit_blank (get_or text 0 0) h) none l
  where
    none : (k : TokenKind) (m : ℕ) → IsLongest text k m → is_allowed k (take m text) ≡ true → ⊥
    none k m q a =
        let same = one_token text k (kind.Number suffix.Plain) m n q (number_longest text n h (IsRun-take_while is_number_part text n e)) in
        apart (is_decimal (take n text)) i (subst (λ j. is_decimal (take j text) ≡ true) same.lengths (allowed_number (take m text) k same.kinds a))

-- ---- backslashes

backslash_longest : (c : ℕ) (cs : List ℕ) (n : ℕ) → c ≡ 92 → is_letter (get_or cs 0 0) ≡ true → IsRun is_word cs n → IsLongest (c ∷ cs) kind.Backslash (suc n)
unfolding is_token is_backslash_word
backslash_longest c cs n e h run = record {
  fits = omega (arith, run.fits);
  token = both _ _ (grind (arith, nat_tests)) (identifier_run cs n h run);
  longest = longest;
}
  where
    longest : (other : TokenKind) (m : ℕ) → m ≤ length (c ∷ cs) → is_token other (take m (c ∷ cs)) ≡ true → m ≤ suc n
    longest other zero le i = omega arith
    longest other (suc m) le i = omega (arith, run.longest m (omega arith) (identifier_words (take m cs) (right (c == 92) _ (backslash_at (c ∷ cs) other (suc m) e i))))

pub backslash_stands : (text : List ℕ) (n : ℕ) → get_or text 0 0 ≡ 92 → is_letter (get_or text 1 0) ≡ true → n ≡ length (take_while is_word (take (length text - 1) (drop 1 text)))
    → Stands text (front.Token kind.Backslash (1 + n))
unfolding is_allowed
backslash_stands [] n e h i = cc
backslash_stands (c ∷ cs) n e h i =
    let run = IsRun-take_while is_word cs n (i ∙ ap (λ xs. length (take_while is_word xs)) (take_rest (c ∷ cs) 1)) in
    subst (λ m. IsLongest (c ∷ cs) kind.Backslash m × (is_allowed kind.Backslash (take m (c ∷ cs)) ≡ true)) (sym (one-add n)) (backslash_longest c cs n e h run, refl)

not_head : (cs : List ℕ) (m : ℕ) → is_letter (get_or cs 0 0) ≡ false → is_identifier (take m cs) ≡ true → ⊥
unfolding is_identifier
not_head cs zero h i = cc
not_head [] (suc m) h i = cc
not_head (c ∷ cs) (suc m) h i = apart (is_letter c) h (left _ _ i)

backslash_none : (text : List ℕ) (k : TokenKind) (m : ℕ) → get_or text 0 0 ≡ 92 → is_letter (get_or text 1 0) ≡ false → is_token k (take m text) ≡ true → ⊥
unfolding is_backslash_word
backslash_none text k zero e h i = omega (arith, token_some k [] i)
backslash_none [] k (suc m) e h i = omega (arith, token_some k [] i)
backslash_none (c ∷ cs) k (suc m) e h i = not_head cs m h (right (c == 92) _ (backslash_at (c ∷ cs) k (suc m) e i))

byte_some : (text : List ℕ) → get_or text 0 0 ≡ 92 → 0 < length text
byte_some [] h = cc
byte_some (c ∷ cs) h = omega arith

backslash_blank : (c : ℕ) → c ≡ 92 → is_blank c ≡ false
backslash_blank c h = grind (arith, nat_tests)

pub bad_backslash_stands : (text : List ℕ) → get_or text 0 0 ≡ 92 → is_letter (get_or text 1 0) ≡ false → Stands text front.Other
bad_backslash_stands text e h p tokens l =
    from_other p text tokens (byte_some text e) (backslash_blank (get_or text 0 0) e) (λ k m q a. backslash_none text k m e h q.token) l

-- ---- punctuation

not_backslash : (c : ℕ) → (c ≡ 92 → ⊥) → (c == 92) ≡ false
not_backslash c h = grind (arith, nat_tests)

pub mark_of : (c : ℕ) → is_letter c ≡ false → is_digit c ≡ false → (c ≡ 92 → ⊥) → lead c ≡ mark
mark_of c h i j = lead_mark c h i (not_backslash c j)

abbrev pub is_single : ℕ → Bool
is_single c = list_any (λ b. c == b) (codes ";,(){}=&:")

pub among_bytes : (test : ℕ → Bool) (bs : List ℕ) (c : ℕ) → list_all test bs ≡ true → list_any (λ b. c == b) bs ≡ true → test c ≡ true
among_bytes test [] c h i = cc
among_bytes test (b ∷ bs) c h i =
    ⊎_elim (λ e. let same : c ≡ b = grind (arith, nat_tests) in ap test same ∙ left _ _ h) (λ e. among_bytes test bs c (right _ _ h) e) (either (c == b) _ i)

implied : (a b : Bool) → (not a || b) ≡ true → a ≡ true → b ≡ true
implied true b h i = h
implied false b h i = cc

le_true : (m n : ℕ) → nat_le m n ≡ true → m ≤ n
le_true m n h = grind (arith, nat_tests)

single_token : (c : ℕ) → is_single c ≡ true → list_any (bytes_eq (c ∷ [])) punctuation ≡ true
unfolding punctuation
single_token c h = among_bytes (λ b. list_any (bytes_eq (b ∷ [])) punctuation) (codes ";,(){}=&:") c refl h

-- a punctuator that begins so is no longer than this
bounded : (test : ℕ → Bool) (n : ℕ) (text : List ℕ) (m : ℕ) → list_all (λ w. not (starts test w) || nat_le (length w) n) punctuation ≡ true
    → test (get_or text 0 0) ≡ true → m ≤ length text → list_any (bytes_eq (take m text)) punctuation ≡ true → m ≤ n
bounded test n text zero h e le i = omega arith
bounded test n [] (suc m) h e le i = absurd (omega arith)
bounded test n (c ∷ cs) (suc m) h e le i =
    let k : length (c ∷ take m cs) ≤ n = le_true _ n (implied (test c) _ (among (λ w. not (starts test w) || nat_le (length w) n) punctuation (c ∷ take m cs) h i) e) in
    omega (arith, k, length-take-le m cs (omega arith))

pub single_stands : (text : List ℕ) → 0 < length text → lead (get_or text 0 0) ≡ mark → is_single (get_or text 0 0) ≡ true → Stands text (front.Token kind.Punctuation 1)
unfolding is_token is_allowed punctuation
single_stands [] some e h = absurd (omega arith)
single_stands (c ∷ cs) some e h = (record { fits = omega arith; token = single_token c h; longest = λ other m le i. bounded is_single 1 (c ∷ cs) m refl h le (mark_at (c ∷ cs) other m e i) }, refl)

front_is : (text p : List ℕ) → bytes_eq p (take (length p) text) ≡ true → take (length p) text ≡ p
front_is text p h = sym ((bytes_eq-Decides p (take (length p) text)).0 h)

-- how a text begins
byte_0 : (text : List ℕ) (b : ℕ) (bs : List ℕ) (n : ℕ) → take n text ≡ b ∷ bs → get_or text 0 0 ≡ b
byte_0 text b bs zero h = cc
byte_0 [] b bs (suc n) h = cc
byte_0 (c ∷ cs) b bs (suc n) h = cc

pub opening_stands : (text : List ℕ) → 3 ≤ length text → lead (get_or text 0 0) ≡ mark → bytes_eq (codes "/*@") (take 3 text) ≡ true → Stands text (front.Token kind.Punctuation 3)
unfolding is_token is_allowed punctuation
opening_stands text fits e h =
    let same : take 3 text ≡ codes "/*@" = front_is text (codes "/*@") h in (
      record {
        fits = fits;
        token = subst (λ w. list_any (bytes_eq w) punctuation ≡ true) (sym same) refl;
        longest = λ other m le i. bounded (λ c. c == 47) 3 text m refl (ap (λ c. c == 47) (byte_0 text 47 (codes "*@") 3 same)) le (mark_at text other m e i);
      },
      refl,
    )

pub closing_stands : (text : List ℕ) → 2 ≤ length text → lead (get_or text 0 0) ≡ mark → bytes_eq (codes "*/") (take 2 text) ≡ true → Stands text (front.Token kind.Punctuation 2)
unfolding is_token is_allowed punctuation
closing_stands text fits e h =
    let same : take 2 text ≡ codes "*/" = front_is text (codes "*/") h in (
      record {
        fits = fits;
        token = subst (λ w. list_any (bytes_eq w) punctuation ≡ true) (sym same) refl;
        longest = λ other m le i. bounded (λ c. c == 42) 2 text m refl (ap (λ c. c == 42) (byte_0 text 42 (codes "/") 2 same)) le (mark_at text other m e i);
      },
      refl,
    )

-- a punctuator is one byte, or `/*@`, or `*/`
punctuator : (w : List ℕ) → list_any (bytes_eq w) punctuation ≡ true → (starts is_single w || (bytes_eq (codes "/*@") w || bytes_eq (codes "*/") w)) ≡ true
unfolding punctuation
punctuator w h = among (λ w. starts is_single w || (bytes_eq (codes "/*@") w || bytes_eq (codes "*/") w)) punctuation w refl h

not_front : (text p : List ℕ) (m : ℕ) → m ≤ length text → bytes_eq p (take (length p) text) ≡ false → bytes_eq p (take m text) ≡ true → ⊥
not_front text p m le h i =
    let e : p ≡ take m text = (bytes_eq-Decides p (take m text)).0 i in
    let n : length p ≡ m = ap length e ∙ length-take-le m text le in
    apart (bytes_eq p (take (length p) text)) h (subst (λ j. bytes_eq p (take j text) ≡ true) (sym n) i)

single_head : (text : List ℕ) (m : ℕ) → starts is_single (take m text) ≡ true → is_single (get_or text 0 0) ≡ true
single_head text zero h = cc
single_head [] (suc m) h = cc
single_head (c ∷ cs) (suc m) h = h

mark_none : (text : List ℕ) (m : ℕ) → m ≤ length text → is_single (get_or text 0 0) ≡ false → bytes_eq (codes "/*@") (take 3 text) ≡ false → bytes_eq (codes "*/") (take 2 text) ≡ false
    → list_any (bytes_eq (take m text)) punctuation ≡ true → ⊥
mark_none text m le a b c h =
    ⊎_elim (λ i. apart (is_single (get_or text 0 0)) a (single_head text m i))
    (λ i. ⊎_elim (λ j. not_front text (codes "/*@") m le b j) (λ j. not_front text (codes "*/") m le c j) (either (bytes_eq (codes "/*@") (take m text)) _ i))
    (either (starts is_single (take m text)) _ (punctuator (take m text) h))

pub bad_mark_stands : (text : List ℕ) → 0 < length text → is_blank (get_or text 0 0) ≡ false → lead (get_or text 0 0) ≡ mark → is_single (get_or text 0 0) ≡ false
    → bytes_eq (codes "/*@") (take 3 text) ≡ false → bytes_eq (codes "*/") (take 2 text) ≡ false → Stands text front.Other
bad_mark_stands text some clear e a b c p tokens l =
    from_other p text tokens some clear (λ k m q _. mark_none text m q.fits a b c (mark_at text k m e q.token)) l

-- ---- how far

pub reaches_of : (text : List ℕ) (x : Front) → Stands text x → Reaches text x
reaches_of [] (front.Blank c) h = let e = h.1 in cc
reaches_of (b ∷ bs) (front.Blank c) h = omega arith
reaches_of text (front.Token k n) h = (longest_some text k n h.0, h.0.fits)
reaches_of text front.End h = tt
reaches_of text front.Other h = tt
