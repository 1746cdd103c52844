-- The leaves of a list of tokens, one token at a time.
use Rattle.std.proofs.Common.{◌≡◌, ℕ, suc, ◌+◌, ◌<◌, Bool, true, false, List, [], ◌∷◌, ◌++◌, length, map, take, slice_index_or, refl, sym, ap, ◌∙◌, append-nil, arith}
use Rattle.std.specs.List.{filter}
use Rattle.std.proofs.Math.Seq.{take-suc}
use Rattle.std.proofs.lemmas.List.{map-append}
use Rattle.std.proofs.lemmas.List.Elements.{filter-append}
use Rattle.c_lexer.specs.declared.token.Token.{Token}
use Rattle.c_words.specs.declared.word.Mode.{Mode}
use Rattle.c_words.specs.declared.word.Leaf.{Leaf}
use Rattle.c_words.specs.Words.{is_kept, leaf_of, leaves_of}

module _ (m : Mode) (text : List ℕ) where
  leaves-append : (ts us : List Token) → leaves_of m text (ts ++ us) ≡ leaves_of m text ts ++ leaves_of m text us
  unfolding leaves_of
  leaves-append ts us = ap (map (leaf_of m text)) (filter-append (is_kept m) ts us) ∙ map-append (leaf_of m text) (filter (is_kept m) ts) (filter (is_kept m) us)

  one_kept : (t : Token) → is_kept m t ≡ true → leaves_of m text (t ∷ []) ≡ leaf_of m text t ∷ []
  unfolding leaves_of
  one_kept t h = rw h refl

  one_dropped : (t : Token) → is_kept m t ≡ false → leaves_of m text (t ∷ []) ≡ []
  unfolding leaves_of
  one_dropped t h = rw h refl

  next_token : (ts : List Token) (i : ℕ) (d : Token) → i < length ts → take (i + 1) ts ≡ take i ts ++ slice_index_or ts i d ∷ []
  next_token ts i d below = let next : i + 1 ≡ suc i = omega arith in ap (λ n. take n ts) next ∙ take-suc ts i d below

  pub leaves-kept : (ts : List Token) (i : ℕ) (d : Token) → i < length ts → is_kept m (slice_index_or ts i d) ≡ true
      → leaves_of m text (take (i + 1) ts) ≡ leaves_of m text (take i ts) ++ leaf_of m text (slice_index_or ts i d) ∷ []
  leaves-kept ts i d below kept =
      ap (leaves_of m text) (next_token ts i d below) ∙ leaves-append (take i ts) (slice_index_or ts i d ∷ []) ∙ ap (λ r. leaves_of m text (take i ts) ++ r) (one_kept (slice_index_or ts i d) kept)

  pub leaves-dropped : (ts : List Token) (i : ℕ) (d : Token) → i < length ts → is_kept m (slice_index_or ts i d) ≡ false
      → leaves_of m text (take (i + 1) ts) ≡ leaves_of m text (take i ts)
  leaves-dropped ts i d below dropped =
      ap (leaves_of m text) (next_token ts i d below) ∙ leaves-append (take i ts) (slice_index_or ts i d ∷ []) ∙ ap (λ r. leaves_of m text (take i ts) ++ r) (one_dropped (slice_index_or ts i d) dropped)
      ∙ append-nil (leaves_of m text (take i ts))
