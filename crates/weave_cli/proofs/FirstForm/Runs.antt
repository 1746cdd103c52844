-- Words that end where their text goes on with another class of bytes.
use Rattle.std.proofs.Common.{◌≡◌, ℕ, ◌+◌, ◌-◌, Bool, true, false, not, cond, List, [], ◌∷◌, ◌++◌, length, take, get_or, refl, sym, ap, subst, ◌∙◌, arith}
use Rattle.std.proofs.Math.Seq.{take-append_seam}
use Rattle.std.proofs.lemmas.Bool.Decides.{nat_tests}
use Rattle.std.proofs.lemmas.List.{take_rest}
use Rattle.std.proofs.lemmas.List.Folds.{length-prefix_len}
use Rattle.std.proofs.Math.Numerals.{one-add}
use Rattle.std.specs.List.{list_all, prefix_len, take_while}
use Rattle.c_lexer.specs.declared.token.TokenKind.TheVariants as kind
use Rattle.c_lexer.specs.declared.token.IntSuffix.TheVariants as suffix
use Rattle.c_lexer.specs.Bytes.{is_digit, is_letter, is_word, is_number_part, is_between, is_keyword}
use Rattle.c_lexer.specs.FirstForm.Tokens.{is_token, is_allowed, is_decimal, IsLongest}
use Rattle.c_lexer.specs.Spellings.{is_identifier}
use Rattle.c_lexer.proofs.ListLemmas.{both, left, right, not_true, list_all_weaker}
use Rattle.c_lexer.proofs.TokenLemmas.{keyword_identifier, identifier_words, digit_part}
use Rattle.c_lexer.proofs.FrontLemmas.{keyword_stands, name_stands, number_stands, backslash_stands}
use Rattle.c_parser.specs.FirstForm.Spelling.{Word, named, keyword, backslash, number}
use Rattle.c_parser.specs.FirstForm.Texts.{is_name}
use Rattle.weave_cli.proofs.FirstForm.Lexing.{Lexes, take_token}

-- no name, keyword or number goes on with this text
abbrev pub stops : List ℕ → Bool
stops [] = true
stops (c ∷ cs) = not (is_number_part c)

word_part : (c : ℕ) → is_word c ≡ true → is_number_part c ≡ true
word_part c h = grind (arith, nat_tests)

-- the test is passed up to where the rest begins
ends_run : (test : ℕ → Bool) → ((c : ℕ) → test c ≡ true → is_number_part c ≡ true) → (w rest : List ℕ) → list_all test w ≡ true → stops rest ≡ true → prefix_len test (w ++ rest) ≡ length w
ends_run test weaker [] [] h s = refl
ends_run test weaker [] (c ∷ cs) h s = by_test (test c) refl
  where
    by_test : (b : Bool) → test c ≡ b → prefix_len test (c ∷ cs) ≡ 0
    by_test true e = let p = weaker c e in let q = not_true (is_number_part c) s in cc
    by_test false e = ap (λ b. cond b (1 + prefix_len test cs) 0) e
ends_run test weaker (c ∷ cs) rest h s =
    let e : prefix_len test (cs ++ rest) ≡ length cs = ends_run test weaker cs rest (right (test c) _ h) s in
    ap (λ b. cond b (1 + prefix_len test (cs ++ rest)) 0) (left (test c) _ h) ∙ omega arith

run_length : (test : ℕ → Bool) → ((c : ℕ) → test c ≡ true → is_number_part c ≡ true) → (w rest : List ℕ) → list_all test w ≡ true → stops rest ≡ true → length w ≡ length (take_while test (w ++ rest))
run_length test weaker w rest h s = sym (length-prefix_len test (w ++ rest) ∙ ends_run test weaker w rest h s)

word_length : (w rest : List ℕ) → is_identifier w ≡ true → stops rest ≡ true → length w ≡ length (take_while is_word (w ++ rest))
word_length w rest h s = run_length is_word word_part w rest (identifier_words w h) s

head_letter : (w rest : List ℕ) → is_identifier w ≡ true → is_letter (get_or (w ++ rest) 0 0) ≡ true
unfolding is_identifier
head_letter [] rest h = cc
head_letter (c ∷ cs) rest h = left _ _ h

-- ---- names and keywords

name_longest : (w rest : List ℕ) → is_identifier w ≡ true → is_keyword w ≡ false → stops rest ≡ true → IsLongest (w ++ rest) kind.Name (length w)
name_longest w rest h k s =
    (name_stands (w ++ rest) (length w) (head_letter w rest h) (word_length w rest h s) (ap is_keyword (take-append_seam w rest) ∙ k)).0

keyword_longest : (w rest : List ℕ) → is_keyword w ≡ true → stops rest ≡ true → IsLongest (w ++ rest) kind.Keyword (length w)
keyword_longest w rest k s =
    let h = keyword_identifier w k in
    (keyword_stands (w ++ rest) (length w) (head_letter w rest h) (word_length w rest h s) (ap is_keyword (take-append_seam w rest) ∙ k)).0

pub take_name : {rest : List ℕ} {words : List Word} (w : List ℕ) → is_name w ≡ true → Lexes rest words → stops rest ≡ true → Lexes (w ++ rest) (named w ∷ words)
unfolding is_token is_allowed
take_name {rest = rest} w h l s = take_token kind.Name w (name_longest w rest (left _ _ h) (not_true _ (right (is_identifier w) _ h)) s) refl l

pub take_keyword : {rest : List ℕ} {words : List Word} (w : List ℕ) → is_keyword w ≡ true → Lexes rest words → stops rest ≡ true → Lexes (w ++ rest) (keyword w ∷ words)
unfolding is_allowed
take_keyword {rest = rest} w h l s = take_token kind.Keyword w (keyword_longest w rest h s) refl l

-- ---- words after a backslash

backslash_longest : (w rest : List ℕ) → is_identifier w ≡ true → stops rest ≡ true → IsLongest (92 ∷ (w ++ rest)) kind.Backslash (length (92 ∷ w))
backslash_longest w rest h s =
    let e : length w ≡ length (take_while is_word (take (length (92 ∷ (w ++ rest)) - 1) (w ++ rest))) = word_length w rest h s ∙ ap (λ t. length (take_while is_word t)) (sym (take_rest (92 ∷ (w ++ rest)) 1)) in
    subst (IsLongest (92 ∷ (w ++ rest)) kind.Backslash) (one-add (length w)) (backslash_stands (92 ∷ (w ++ rest)) (length w) refl (head_letter w rest h) e).0

pub take_backslash : {rest : List ℕ} {words : List Word} (w : List ℕ) → is_identifier w ≡ true → Lexes rest words → stops rest ≡ true → Lexes (92 ∷ (w ++ rest)) (backslash w ∷ words)
unfolding is_allowed
take_backslash {rest = rest} w h l s = take_token kind.Backslash (92 ∷ w) (backslash_longest w rest h s) refl l

-- ---- numbers

between_digit : (c : ℕ) → is_between 49 57 c ≡ true → is_digit c ≡ true
between_digit c h = grind (arith, nat_tests)

digits_of_decimal : (w : List ℕ) → is_decimal w ≡ true → list_all is_digit w ≡ true
unfolding is_decimal
digits_of_decimal [] h = cc
digits_of_decimal (c ∷ []) h = both _ _ h refl
digits_of_decimal (c ∷ d ∷ cs) h = both (is_digit c) (list_all is_digit (d ∷ cs)) (between_digit c (left (is_between 49 57 c) _ h)) (right (is_between 49 57 c) _ h)

head_digit : (w rest : List ℕ) → is_decimal w ≡ true → is_digit (get_or (w ++ rest) 0 0) ≡ true
unfolding is_decimal
head_digit [] rest h = cc
head_digit (c ∷ []) rest h = h
head_digit (c ∷ d ∷ cs) rest h = between_digit c (left (is_between 49 57 c) _ h)

number_longest : (w rest : List ℕ) → is_decimal w ≡ true → stops rest ≡ true → IsLongest (w ++ rest) (kind.Number suffix.Plain) (length w)
number_longest w rest h s =
    (number_stands (w ++ rest) (length w) (head_digit w rest h) (run_length is_number_part (λ c p. p) w rest (list_all_weaker is_digit is_number_part digit_part w (digits_of_decimal w h)) s)
    (ap is_decimal (take-append_seam w rest) ∙ h)).0

pub take_number : {rest : List ℕ} {words : List Word} (w : List ℕ) → is_decimal w ≡ true → Lexes rest words → stops rest ≡ true → Lexes (w ++ rest) (number w ∷ words)
unfolding is_allowed
take_number {rest = rest} w h l s = take_token (kind.Number suffix.Plain) w (number_longest w rest h s) h l
