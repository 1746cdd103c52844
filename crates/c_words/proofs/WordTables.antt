-- The word beside some bytes, looked for entry by entry.
use Rattle.std.proofs.Common.{◌≡◌, ℕ, suc, ◌+◌, ◌<◌, ◌≤◌, Bool, true, false, if◌then◌else◌, List, [], ◌∷◌, length, map, drop, slice_index_or, refl, sym, ap, ◌∙◌, arith}
use Rattle.std.proofs.Math.Seq.{drop-cons}
use Rattle.std.proofs.Math.ListN.{drop_of_length-le}
use Rattle.std.specs.Str.{bytes_eq}
use Rattle.c_words.specs.declared.word.Word.{Word}
use Rattle.c_words.specs.declared.word.Word.TheVariants as w
use Rattle.c_words.specs.Words.{word_in}

module _ {T : Type 0} (f : T → List ℕ × Word) (bytes : List ℕ) where
  next_entry : (table : List T) (i : ℕ) (d : T) → i < length table
      → word_in (map f (drop i table)) bytes ≡ word_in (f (slice_index_or table i d) ∷ map f (drop (i + 1) table)) bytes
  next_entry table i d below =
      let next : suc i ≡ i + 1 = omega arith in
      ap (λ l. word_in (map f l) bytes) (drop-cons table i d below) ∙ ap (λ n. word_in (f (slice_index_or table i d) ∷ map f (drop n table)) bytes) next

  pub entry_found : (table : List T) (i : ℕ) (d : T) → i < length table → bytes_eq bytes (f (slice_index_or table i d)).0 ≡ true
      → word_in (map f (drop i table)) bytes ≡ (f (slice_index_or table i d)).1
  unfolding word_in
  entry_found table i d below same = next_entry table i d below ∙ rw same refl

  pub entry_passed : (table : List T) (i : ℕ) (d : T) → i < length table → bytes_eq bytes (f (slice_index_or table i d)).0 ≡ false
      → word_in (map f (drop i table)) bytes ≡ word_in (map f (drop (i + 1) table)) bytes
  unfolding word_in
  entry_passed table i d below differ = next_entry table i d below ∙ rw differ refl

  pub no_entry : (table : List T) (i : ℕ) → length table ≤ i → word_in (map f (drop i table)) bytes ≡ w.Unused
  unfolding word_in
  no_entry table i over = rw (drop_of_length-le table over) refl
