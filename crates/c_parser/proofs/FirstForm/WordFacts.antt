-- What stands at a place among a text's words.
use Rattle.std.proofs.Common.{◌≡◌, ℕ, ◌+◌, ◌<◌, ◌≤◌, false, List, length, get_or, drop, Some, None, slice_get, ap, ◌∙◌}
use Rattle.std.specs.Option.{option_map, option_map_or}
use Rattle.std.proofs.lemmas.Option.{slice_get-map}
use Rattle.c_lexer.specs.declared.token.Token.{Token}
use Rattle.c_parser.specs.declared.first_form.fixed.Fixed.{Fixed}
use Rattle.c_parser.specs.FirstForm.Spelling.{word_of, words_of}
use Rattle.c_parser.specs.FirstForm.FixedWords.{is_fixed}
use Rattle.std.proofs.lemmas.List.{at_drop_more, at_drop_all}
use Rattle.c_parser.specs.FirstForm.Reading.{Left, and_then, is_at, expect, expect_all}

pub is_at-token : (text : List ℕ) (tokens : List Token) (place : ℕ) (f : Fixed) (t : Token) → slice_get tokens place ≡ Some t → is_at place f (words_of text tokens) ≡ is_fixed f (word_of text t)
unfolding is_at
is_at-token text tokens place f t e = ap (λ o. option_map_or (is_fixed f) o false) (slice_get-map (word_of text) tokens place ∙ ap (option_map (word_of text)) e)

pub is_at-past : (text : List ℕ) (tokens : List Token) (place : ℕ) (f : Fixed) → slice_get tokens place ≡ None → is_at place f (words_of text tokens) ≡ false
unfolding is_at
is_at-past text tokens place f e = ap (λ o. option_map_or (is_fixed f) o false) (slice_get-map (word_of text) tokens place ∙ ap (option_map (word_of text)) e)

-- ---- many words, one after another
pub expect_all-more : (words : List Fixed) (i : ℕ) (d : Fixed) (s : Left) → i < length words
    → expect_all (drop i words) s ≡ and_then (expect (get_or words i d) s) (λ _. expect_all (drop (i + 1) words))
unfolding expect_all
expect_all-more words i d s below = at_drop_more (λ ws. expect_all ws s) words i d below

pub expect_all-none : (words : List Fixed) (i : ℕ) (s : Left) → length words ≤ i → expect_all (drop i words) s ≡ Some (tt, s)
unfolding expect_all
expect_all-none words i s past = at_drop_all (λ ws. expect_all ws s) words i past
