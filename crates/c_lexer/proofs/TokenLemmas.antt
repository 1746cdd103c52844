-- The bytes of a token: they tell its kind, and they are ASCII.
use Rattle.std.proofs.Common.{◌≡◌, ℕ, ◌<◌, Bool, true, false, ◌&&◌, ◌==◌, if◌then◌else◌, List, [], ◌∷◌, length, get_or, refl, sym, ap, ◌∙◌, arith}
use Rattle.std.specs.List.{list_any, list_all}
use Rattle.std.specs.Str.{bytes_eq}
use Rattle.std.proofs.lemmas.Bool.Decides.{nat_tests}
use Rattle.c_lexer.specs.declared.token.TokenKind.{TokenKind}
use Rattle.c_lexer.specs.declared.token.TokenKind.TheVariants as kind
use Rattle.c_lexer.specs.declared.token.IntSuffix.TheVariants as suffix
use Rattle.c_lexer.specs.Bytes.{is_between, is_digit, is_letter, is_word, is_number_part, is_keyword, keywords}
use Rattle.c_lexer.specs.FirstForm.Tokens.{punctuation, is_decimal, is_token}
use Rattle.c_lexer.specs.Spellings.{is_identifier, is_number, is_backslash_word}
use Rattle.c_lexer.proofs.ListLemmas.{both, left, right, not_true, among, list_all_weaker}

-- how a token begins
pub data Lead : Type 0 where
  letter : Lead
  digit : Lead
  backslash : Lead
  mark : Lead
  nothing : Lead

unfoldable pub lead : ℕ → Lead
lead c = if is_letter c then letter else (if is_digit c then digit else (if c == 92 then backslash else mark))

pub lead_letter : (c : ℕ) → is_letter c ≡ true → lead c ≡ letter
unfolding lead
lead_letter c h = rw h

pub lead_digit : (c : ℕ) → is_digit c ≡ true → lead c ≡ digit
unfolding lead
lead_digit c h = grind (arith, nat_tests)

pub lead_backslash : (c : ℕ) → c ≡ 92 → lead c ≡ backslash
unfolding lead
lead_backslash c h = ap lead h

pub lead_mark : (c : ℕ) → is_letter c ≡ false → is_digit c ≡ false → (c == 92) ≡ false → lead c ≡ mark
unfolding lead
lead_mark c h i j = rw (h, i, j)

-- the kinds that begin so
unfoldable pub lead_of : TokenKind → Lead
lead_of kind.Name = letter
lead_of kind.Keyword = letter
lead_of (kind.Number suffix.Plain) = digit
lead_of kind.Backslash = backslash
lead_of kind.Punctuation = mark
lead_of _ = nothing

-- the words that begin so
unfoldable pub shape : Lead → List ℕ → Bool
shape letter w = is_identifier w
shape digit w = is_number w
shape backslash w = is_backslash_word w
shape mark w = list_any (bytes_eq w) punctuation
shape nothing w = false

-- the first byte passes the test
abbrev pub starts : (ℕ → Bool) → List ℕ → Bool
starts test [] = false
starts test (c ∷ cs) = test c

abbrev is_mark_lead : Lead → Bool
is_mark_lead mark = true
is_mark_lead _ = false

mark_lead : (x : Lead) → is_mark_lead x ≡ true → x ≡ mark
mark_lead letter h = cc
mark_lead digit h = cc
mark_lead backslash h = cc
mark_lead mark h = refl
mark_lead nothing h = cc

pub keyword_identifier : (w : List ℕ) → is_keyword w ≡ true → is_identifier w ≡ true
unfolding is_keyword keywords is_identifier
keyword_identifier w h = among is_identifier keywords w refl h

pub token_shape : (k : TokenKind) (w : List ℕ) → is_token k w ≡ true → shape (lead_of k) w ≡ true
unfolding is_token shape lead_of
token_shape kind.Name w h = left _ _ h
token_shape kind.Keyword w h = keyword_identifier w h
token_shape (kind.Number suffix.Plain) w h = h
token_shape kind.Backslash w h = h
token_shape kind.Punctuation w h = h
token_shape _ w h = cc

shape_nil : (x : Lead) → shape x [] ≡ true → ⊥
unfolding shape is_identifier is_number is_backslash_word punctuation
shape_nil letter h = cc
shape_nil digit h = cc
shape_nil backslash h = cc
shape_nil mark h = cc
shape_nil nothing h = cc

shape_lead : (x : Lead) (c : ℕ) (cs : List ℕ) → shape x (c ∷ cs) ≡ true → lead c ≡ x
unfolding shape is_identifier is_number is_backslash_word punctuation lead
shape_lead letter c cs h = lead_letter c (left _ _ h)
shape_lead digit c cs h = lead_digit c (left _ _ h)
shape_lead backslash c cs h = lead_backslash c (let e : (c == 92) ≡ true = left _ _ h in grind (arith, nat_tests))
shape_lead mark c cs h = mark_lead (lead c) (among (starts (λ b. is_mark_lead (lead b))) punctuation (c ∷ cs) refl h)
shape_lead nothing c cs h = cc

pub token_lead : (k : TokenKind) (w : List ℕ) → is_token k w ≡ true → lead (get_or w 0 0) ≡ lead_of k
token_lead k [] h = absurd (shape_nil (lead_of k) (token_shape k [] h))
token_lead k (c ∷ cs) h = shape_lead (lead_of k) c cs (token_shape k (c ∷ cs) h)

pub token_some : (k : TokenKind) (w : List ℕ) → is_token k w ≡ true → 0 < length w
token_some k [] h = absurd (shape_nil (lead_of k) (token_shape k [] h))
token_some k (c ∷ cs) h = omega arith

-- the kind that the bytes have, if any
kind_of : Lead → Bool → TokenKind
kind_of letter true = kind.Keyword
kind_of letter false = kind.Name
kind_of digit _ = kind.Number suffix.Plain
kind_of backslash _ = kind.Backslash
kind_of mark _ = kind.Punctuation
kind_of nothing _ = kind.Name

kind_is : (k : TokenKind) (w : List ℕ) → is_token k w ≡ true → k ≡ kind_of (lead_of k) (is_keyword w)
unfolding is_token lead_of kind_of
kind_is kind.Name w h = ap (kind_of letter) (sym (not_true (is_keyword w) (right _ _ h)))
kind_is kind.Keyword w h = ap (kind_of letter) (sym h)
kind_is (kind.Number suffix.Plain) w h = refl
kind_is kind.Backslash w h = refl
kind_is kind.Punctuation w h = refl
kind_is _ w h = cc

pub one_kind : (a b : TokenKind) (w : List ℕ) → is_token a w ≡ true → is_token b w ≡ true → a ≡ b
one_kind a b w g h =
    kind_is a w g ∙ ap (λ x. kind_of x (is_keyword w)) (sym (token_lead a w g) ∙ token_lead b w h) ∙ sym (kind_is b w h)

-- a byte that is printed
abbrev pub is_graphic : ℕ → Bool
is_graphic c = is_between 33 126 c

word_graphic : (c : ℕ) → is_word c ≡ true → is_graphic c ≡ true
word_graphic c h = grind (arith, nat_tests)

number_graphic : (c : ℕ) → is_number_part c ≡ true → is_graphic c ≡ true
number_graphic c h = grind (arith, nat_tests)

pub letter_word : (c : ℕ) → is_letter c ≡ true → is_word c ≡ true
letter_word c h = grind (arith, nat_tests)

pub digit_part : (c : ℕ) → is_digit c ≡ true → is_number_part c ≡ true
digit_part c h = grind (arith, nat_tests)

pub identifier_words : (w : List ℕ) → is_identifier w ≡ true → list_all is_word w ≡ true
unfolding is_identifier
identifier_words [] h = cc
identifier_words (c ∷ cs) h = both _ _ (letter_word c (left _ _ h)) (right _ _ h)

pub number_parts : (w : List ℕ) → is_number w ≡ true → list_all is_number_part w ≡ true
unfolding is_number
number_parts [] h = cc
number_parts (c ∷ cs) h = both _ _ (digit_part c (left _ _ h)) (right _ _ h)

shape_graphic : (x : Lead) (w : List ℕ) → shape x w ≡ true → list_all is_graphic w ≡ true
unfolding shape is_backslash_word punctuation
shape_graphic letter w h = list_all_weaker is_word is_graphic word_graphic w (identifier_words w h)
shape_graphic digit w h = list_all_weaker is_number_part is_graphic number_graphic w (number_parts w h)
shape_graphic backslash [] h = cc
shape_graphic backslash (c ∷ cs) h =
    both _ _ (let e : (c == 92) ≡ true = left _ _ h in grind (arith, nat_tests)) (list_all_weaker is_word is_graphic word_graphic cs (identifier_words cs (right _ _ h)))
shape_graphic mark w h = among (list_all is_graphic) punctuation w refl h
shape_graphic nothing w h = cc

pub token_graphic : (k : TokenKind) (w : List ℕ) → is_token k w ≡ true → list_all is_graphic w ≡ true
token_graphic k w h = shape_graphic (lead_of k) w (token_shape k w h)

-- ---- numbers

pub is_decimal_none : is_decimal [] ≡ false
unfolding is_decimal
is_decimal_none = refl

pub is_decimal_one : (c : ℕ) → is_decimal (c ∷ []) ≡ is_digit c
unfolding is_decimal
is_decimal_one c = refl

pub is_decimal_more : (c : ℕ) (cs : List ℕ) → 0 < length cs → is_decimal (c ∷ cs) ≡ (is_between 49 57 c && list_all is_digit cs)
unfolding is_decimal
is_decimal_more c [] h = absurd (omega arith)
is_decimal_more c (d ∷ cs) h = refl
