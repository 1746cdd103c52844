-- A region without blocks.
use Rattle.std.proofs.Common.{◌≡◌, ℕ, zero, suc, ◌+◌, ◌*◌, ◌^◌, ◌<◌, ◌≤◌, List, [], ◌∷◌, ◌++◌, length, get_or, replicate, None, Option, refl, sym, ◌∙◌, inl, inr, arith}
use Rattle.std.specs.List.{range_with_len, sum_by}
use Rattle.std.proofs.lemmas.Bool.{cases_lt}
use Rattle.std.proofs.lemmas.List.{map-id, get_or-replicate, get_or_past, length-replicate, ext_get_or}
use Rattle.std.proofs.lemmas.List.FromFn.{map-range_with_len_more, length-range_with_len, get_or-range_with_len}
use Rattle.std.proofs.lemmas.List.Folds.{sum_by-replicate}
use Rattle.cell_pool.specs.Region.{Block}
use Rattle.cell_pool.specs.Chains.{chunk_after, first_of, held, count_of}
use Rattle.cell_pool.specs.Inside.{blocks_from, IsPool}
use Rattle.cell_pool.proofs.Blocks.{length-blocks, blocks_at, block_none, nothing}

pub range_more : (n : ℕ) → range_with_len 1 (n + 1) ≡ range_with_len 1 n ++ (n + 1) ∷ []
range_more n = simp map-id at (map-range_with_len_more (λ k. k) 1 n (n + 1) (omega arith))

-- in a row each chunk leads to the one behind it
in_row : (n i : ℕ) → i < n → chunk_after (range_with_len 1 n) 0 i ≡ i
unfolding chunk_after
in_row n zero l = refl
in_row n (suc i) l =
    let before : chunk_after (range_with_len 1 n) 0 i ≡ i = in_row n i (omega arith) in
    let m : i < n = omega arith in
    rw (before, get_or-range_with_len 1 n i 0 m) (omega arith)

no_size : (n s : ℕ) → ◌≡◌ {A = ℕ} (get_or (replicate n 0) s 0) 0
no_size n s =
    elim (cases_lt s n) [
      | inl l ↦ get_or-replicate n s 0 0 l
      | inr l ↦ get_or_past (replicate n 0) s 0 (rw length-replicate l)
    ]

no_chunk : (n s i : ℕ) → i < held (get_or (replicate n 0) s 0) → ⊥
no_chunk n s i l =
    let m : i < held 0 = rw (no_size n s) at l in
    absurd (omega arith)

made_apart : (n q i r j : ℕ) → i < count_of n (replicate n 0) q → j < count_of n (replicate n 0) r → chunk_after (range_with_len 1 n) (first_of 0 q) i ≡ chunk_after (range_with_len 1 n) (first_of 0 r) j → (q ≡ r) × (i ≡ j)
made_apart n zero i zero j l m e = (refl, sym (in_row n i l) ∙ e ∙ in_row n j m)
made_apart n zero i (suc t) j l m e = absurd (no_chunk n t j m)
made_apart n (suc s) i r j l m e = absurd (no_chunk n s i l)

made_within : (n q i : ℕ) → i < count_of n (replicate n 0) q → chunk_after (range_with_len 1 n) (first_of 0 q) i < length (range_with_len 1 n)
made_within n zero i l = rw (in_row n i l, length-range_with_len 1 n) l
made_within n (suc s) i l = absurd (no_chunk n s i l)

pub made : (n cells : ℕ) → n ≤ 2 ^ 20 → cells ≡ n * 16 → IsPool (range_with_len 1 n) (replicate n 0) (replicate n 0) cells 0 n
made n cells l e =
    let long : length (range_with_len 1 n) ≡ n = length-range_with_len 1 n in
    let none : sum_by held (replicate n 0) ≡ n * 0 = sum_by-replicate held n 0 in
    record {
      chained = record { within = made_within n; apart = made_apart n };
      sized = length-replicate n 0 ∙ sym long;
      named = length-replicate n 0 ∙ sym long;
      celled = rw long e;
      counted = omega arith;
      small = omega arith;
    }

at_none : {C : Type 0} (blank : C) (cells : List C) (next : List ℕ) (n s : ℕ) → s < n → get_or (blocks_from blank cells next (replicate n 0) (replicate n 0)) s None ≡ get_or (replicate n None) s None
at_none {C} blank cells next n s m =
    rw (blocks_at blank cells next (replicate n 0) (replicate n 0) s None (rw length-replicate m), get_or-replicate {A = Option (Block C)} n s None None m) (block_none blank cells next (get_or (replicate n 0) s 0) s (get_or (replicate n 0) s 0) (no_size n s))

pub no_blocks : {C : Type 0} (blank : C) (cells : List C) (next : List ℕ) (n : ℕ) → blocks_from blank cells next (replicate n 0) (replicate n 0) ≡ replicate n (nothing {C = C})
no_blocks {C} blank cells next n =
    let long : length (blocks_from blank cells next (replicate n 0) (replicate n 0)) ≡ n = length-blocks blank cells next (replicate n 0) (replicate n 0) ∙ length-replicate {A = ℕ} n 0 in
    ext_get_or None (blocks_from blank cells next (replicate n 0) (replicate n 0)) (replicate n None)
    (long ∙ sym (length-replicate n (nothing {C = C})))
    (λ s l. at_none blank cells next n s (rw long at l))
