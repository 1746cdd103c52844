-- What taking from the front of the chain of free chunks, and putting a chain in front of it, keep.
use Rattle.std.proofs.Common.{◌≡◌, ℕ, zero, suc, ◌+◌, ◌-◌, ◌<◌, ◌≤◌, List, length, set, get_or, cond, eqb, ltb, refl, sym, ◌∙◌, ap, inl, inr, arith, add-zero, add-suc, add-one}
use Rattle.std.proofs.lemmas.Bool.{cases_eq, cases_lt, eq-eqb, ne_eqb, lt-ltb, le-ltb, cond-true, cond-false}
use Rattle.std.proofs.lemmas.List.{get_or-set_other, length-set}
use Rattle.std.proofs.lemmas.Grind.{get_or-set_at}
use Rattle.cell_pool.specs.Chains.{chunk_after, first_of, held, count_of, IsChained}

pub chunk_after-none : (next : List ℕ) (first : ℕ) → chunk_after next first 0 ≡ first
unfolding chunk_after
chunk_after-none next first = refl

pub chunk_after-more : (next : List ℕ) (first i : ℕ) → chunk_after next first (i + 1) ≡ get_or next (chunk_after next first i) 0
unfolding chunk_after
chunk_after-more next first i = rw add-one refl

pub chunk_after-add : (next : List ℕ) (first i j : ℕ) → chunk_after next (chunk_after next first i) j ≡ chunk_after next first (i + j)
unfolding chunk_after
chunk_after-add next first i zero = rw add-zero refl
chunk_after-add next first i (suc j) = rw add-suc (ap (λ c. get_or next c 0) (chunk_after-add next first i j))

-- a chunk's successor changes only the chunks after it
pub same_chunks : (next : List ℕ) (at value first i : ℕ) → ((j : ℕ) → j < i → chunk_after next first j ≡ at → ⊥) → chunk_after (set next at value) first i ≡ chunk_after next first i
unfolding chunk_after
same_chunks next at value first zero apart = refl
same_chunks next at value first (suc i) apart =
    let before : chunk_after (set next at value) first i ≡ chunk_after next first i = same_chunks next at value first i (λ j l. apart j (omega arith)) in
    let other : chunk_after next first i ≡ at → ⊥ = apart i (omega arith) in
    rw before (get_or-set_other next at (chunk_after next first i) value 0 (λ e. other e))

-- the chains after a change, where each of their chunks was that of some chain at some place before
renamed :
    (next next' : List ℕ) (first count first' count' : ℕ → ℕ) (chain place : ℕ → ℕ → ℕ)
    → IsChained next first count
    → length next' ≡ length next
    → ((q i : ℕ) → i < count' q → place q i < count (chain q i))
    → ((q i : ℕ) → i < count' q → chunk_after next' (first' q) i ≡ chunk_after next (first (chain q i)) (place q i))
    → ((q i r j : ℕ) → i < count' q → j < count' r → chain q i ≡ chain r j → place q i ≡ place r j → (q ≡ r) × (i ≡ j))
    → IsChained next' first' count'
renamed next next' first count first' count' chain place h long counted same injective = record {
  within = λ q i l. rw (same q i l, long) (h.within (chain q i) (place q i) (counted q i l));
  apart = λ q i r j l m e.
      let before = h.apart (chain q i) (place q i) (chain r j) (place r j) (counted q i l) (counted r j m) (sym (same q i l) ∙ e ∙ same r j m) in
      injective q i r j l m before.0 before.1;
}

taken_chain : ℕ → ℕ → ℕ
taken_chain slot zero = 0
taken_chain slot (suc s) = cond (eqb s slot) 0 (suc s)

taken_place : ℕ → ℕ → ℕ → ℕ
taken_place k zero i = k + i
taken_place k (suc s) i = i

taken_chain-zero : (slot : ℕ) → taken_chain slot 0 ≡ 0
unfolding taken_chain
taken_chain-zero slot = refl

taken_chain-same : (slot s : ℕ) → s ≡ slot → taken_chain slot (suc s) ≡ 0
unfolding taken_chain
taken_chain-same slot s e = cond-true (eqb s slot) 0 (suc s) (eq-eqb s slot e)

taken_chain-other : (slot s : ℕ) → (s ≡ slot → ⊥) → taken_chain slot (suc s) ≡ suc s
unfolding taken_chain
taken_chain-other slot s n = cond-false (eqb s slot) 0 (suc s) (ne_eqb s slot n)

-- The first k free chunks become the chain of the block at the slot where they begin.
module _ (next sizes : List ℕ) (head free k size : ℕ)
    (h : IsChained next (first_of head) (count_of free sizes)) (whole : held size ≡ k) (few : k ≤ free) (in_region : head < length sizes) where
  count_at_slot : (s i : ℕ) → s ≡ head → i < count_of (free - k) (set sizes head size) (suc s) → i < k
  count_at_slot s i e l =
      let g : get_or (set sizes head size) s 0 ≡ size = get_or-set_at sizes head s size 0 e in_region in
      let m : i < held size = rw g at l in
      omega arith

  count_elsewhere : (s i : ℕ) → (s ≡ head → ⊥) → i < count_of (free - k) (set sizes head size) (suc s) → i < count_of free sizes (suc s)
  count_elsewhere s i n l = rw (get_or-set_other sizes head s size 0 n) at l

  taken_counted : (q i : ℕ) → i < count_of (free - k) (set sizes head size) q → taken_place k q i < count_of free sizes (taken_chain head q)
  unfolding taken_place
  taken_counted zero i l = rw (taken_chain-zero head) (omega arith)
  taken_counted (suc s) i l =
      elim (cases_eq s head) [
        | inl e ↦ let m = count_at_slot s i e l in rw (taken_chain-same head s e) (omega arith)
        | inr n ↦ let m = count_elsewhere s i n l in rw (taken_chain-other head s n) m
      ]

  taken_same : (q i : ℕ) → i < count_of (free - k) (set sizes head size) q → chunk_after next (first_of (chunk_after next head k) q) i ≡ chunk_after next (first_of head (taken_chain head q)) (taken_place k q i)
  unfolding taken_place
  taken_same zero i l = rw (taken_chain-zero head) (chunk_after-add next head k i)
  taken_same (suc s) i l =
      elim (cases_eq s head) [
        | inl e ↦ rw (taken_chain-same head s e) (ap (λ c. chunk_after next c i) e)
        | inr n ↦ rw (taken_chain-other head s n) refl
      ]

  taken_apart : (q i r j : ℕ) → i < count_of (free - k) (set sizes head size) q → j < count_of (free - k) (set sizes head size) r → taken_chain head q ≡ taken_chain head r → taken_place k q i ≡ taken_place k r j → (q ≡ r) × (i ≡ j)
  unfolding taken_place
  taken_apart zero i zero j l m c p = (refl, omega arith)
  taken_apart zero i (suc t) j l m c p =
      let z = taken_chain-zero head in
      elim (cases_eq t head) [
        | inl e ↦ let b : j < k = count_at_slot t j e m in absurd (omega arith)
        | inr n ↦ let o = taken_chain-other head t n in absurd (omega arith)
      ]
  taken_apart (suc s) i zero j l m c p =
      let z = taken_chain-zero head in
      elim (cases_eq s head) [
        | inl e ↦ let b : i < k = count_at_slot s i e l in absurd (omega arith)
        | inr n ↦ let o = taken_chain-other head s n in absurd (omega arith)
      ]
  taken_apart (suc s) i (suc t) j l m c p =
      elim (cases_eq s head) [
        | inl e ↦ elim (cases_eq t head) [
          | inl f ↦ (omega arith, p)
          | inr g ↦ let a = taken_chain-same head s e in let b = taken_chain-other head t g in absurd (omega arith)
        ]
        | inr f ↦ elim (cases_eq t head) [
          | inl e ↦ let a = taken_chain-other head s f in let b = taken_chain-same head t e in absurd (omega arith)
          | inr g ↦ let a = taken_chain-other head s f in let b = taken_chain-other head t g in (omega arith, p)
        ]
      ]

  pub taken : IsChained next (first_of (chunk_after next head k)) (count_of (free - k) (set sizes head size))
  taken = renamed next next (first_of head) (count_of free sizes) (first_of (chunk_after next head k)) (count_of (free - k) (set sizes head size)) (λ q i. taken_chain head q) (taken_place k) h refl taken_counted taken_same taken_apart

  -- no chunk of another block is among those taken
  pub taken_from_none : (s i j : ℕ) → i < held (get_or sizes s 0) → j < k → chunk_after next head j ≡ chunk_after next s i → ⊥
  taken_from_none s i j l m e = let both : (0 ≡ suc s) × (j ≡ i) = h.apart 0 j (suc s) i (omega arith) l e in absurd (omega arith)

given_chain : ℕ → ℕ → ℕ → ℕ → ℕ
given_chain slot k zero i = cond (ltb i k) (suc slot) 0
given_chain slot k (suc s) i = suc s

given_place : ℕ → ℕ → ℕ → ℕ
given_place k zero i = cond (ltb i k) i (i - k)
given_place k (suc s) i = i

given_front : (slot k i : ℕ) → i < k → (given_chain slot k 0 i ≡ suc slot) × (given_place k 0 i ≡ i)
unfolding given_chain given_place
given_front slot k i l = (cond-true (ltb i k) (suc slot) 0 (lt-ltb i k l), cond-true (ltb i k) i (i - k) (lt-ltb i k l))

given_rest : (slot k i : ℕ) → k ≤ i → (given_chain slot k 0 i ≡ 0) × (given_place k 0 i ≡ i - k)
unfolding given_chain given_place
given_rest slot k i l = (cond-false (ltb i k) (suc slot) 0 (le-ltb i k l), cond-false (ltb i k) i (i - k) (le-ltb i k l))

given_behind : (slot k s i : ℕ) → (given_chain slot k (suc s) i ≡ suc s) × (given_place k (suc s) i ≡ i)
unfolding given_chain given_place
given_behind slot k s i = (refl, refl)

-- where a chunk of the new chains comes from
data Source (k slot q i chain place : ℕ) : Type 0 where
  front : q ≡ 0 → i < k → chain ≡ suc slot → place ≡ i → Source k slot q i chain place
  rest : q ≡ 0 → k ≤ i → chain ≡ 0 → place ≡ i - k → Source k slot q i chain place
  other : 0 < q → (q ≡ suc slot → ⊥) → chain ≡ q → place ≡ i → Source k slot q i chain place

-- The chain of the block at a slot, of k chunks, comes in front of the free chunks: its last chunk leads to their first.
module _ (next sizes : List ℕ) (head free k slot : ℕ)
    (h : IsChained next (first_of head) (count_of free sizes)) (whole : held (get_or sizes slot 0) ≡ suc k) (in_region : slot < length sizes) where
  abbrev last : ℕ
  last = chunk_after next slot k

  abbrev next' : List ℕ
  next' = set next last head

  -- the chains of other blocks
  pub given_others : (s i : ℕ) → (s ≡ slot → ⊥) → i < held (get_or sizes s 0) → chunk_after next' s i ≡ chunk_after next s i
  given_others s i n l =
      same_chunks next last head s i
      (λ j m e. let both : (suc s ≡ suc slot) × (j ≡ k) = h.apart (suc s) j (suc slot) k (omega arith) (omega arith) e in n (omega arith))

  at_front : (i : ℕ) → i < suc k → chunk_after next' slot i ≡ chunk_after next slot i
  at_front i l =
      same_chunks next last head slot i
      (λ j m e. let both : (suc slot ≡ suc slot) × (j ≡ k) = h.apart (suc slot) j (suc slot) k (omega arith) (omega arith) e in absurd (omega arith))

  at_free : (i : ℕ) → i < free → chunk_after next' head i ≡ chunk_after next head i
  at_free i l =
      same_chunks next last head head i
      (λ j m e. let both : (0 ≡ suc slot) × (j ≡ k) = h.apart 0 j (suc slot) k (omega arith) (omega arith) e in absurd (omega arith))

  at_join : chunk_after next' slot (suc k) ≡ head
  unfolding chunk_after
  at_join = get_or-set_at next last (chunk_after next' slot k) head 0 (at_front k (omega arith)) (h.within (suc slot) k (omega arith))

  at_rest : (i : ℕ) → suc k ≤ i → i - suc k < free → chunk_after next' slot i ≡ chunk_after next head (i - suc k)
  at_rest i l m =
      let place : suc k + (i - suc k) ≡ i = omega arith in
      ap (chunk_after next' slot) (sym place) ∙ sym (chunk_after-add next' slot (suc k) (i - suc k)) ∙ ap (λ c. chunk_after next' c (i - suc k)) at_join ∙ at_free (i - suc k) m

  no_count : (s i : ℕ) → s ≡ slot → i < held (get_or (set sizes slot 0) s 0) → ⊥
  no_count s i e l =
      let g : get_or (set sizes slot 0) s 0 ≡ 0 = get_or-set_at sizes slot s 0 0 e in_region in
      let m : i < held 0 = rw g at l in
      absurd (omega arith)

  still : (s i : ℕ) → i < held (get_or (set sizes slot 0) s 0) → (s ≡ slot → ⊥) × (i < held (get_or sizes s 0))
  still s i l = let n : s ≡ slot → ⊥ = λ e. no_count s i e l in (n, rw (get_or-set_other sizes slot s 0 0 n) at l)

  source : (q i : ℕ) → i < count_of (free + suc k) (set sizes slot 0) q → Source (suc k) slot q i (given_chain slot (suc k) q i) (given_place (suc k) q i)
  source zero i l =
      elim (cases_lt i (suc k)) [
        | inl m ↦ let f = given_front slot (suc k) i m in front refl m f.0 f.1
        | inr m ↦ let f = given_rest slot (suc k) i m in rest refl m f.0 f.1
      ]
  source (suc s) i l =
      let f = given_behind slot (suc k) s i in
      let n : s ≡ slot → ⊥ = (still s i l).0 in
      other (omega arith) (λ e. n (omega arith)) f.0 f.1

  given_counted : (q i : ℕ) → i < count_of (free + suc k) (set sizes slot 0) q → given_place (suc k) q i < count_of free sizes (given_chain slot (suc k) q i)
  given_counted zero i l =
      elim (cases_lt i (suc k)) [
        | inl m ↦ let f = given_front slot (suc k) i m in rw (f.0, f.1) (omega arith)
        | inr m ↦ let f = given_rest slot (suc k) i m in rw (f.0, f.1) (omega arith)
      ]
  given_counted (suc s) i l = let f = given_behind slot (suc k) s i in let t = still s i l in rw (f.0, f.1) t.1

  given_same : (q i : ℕ) → i < count_of (free + suc k) (set sizes slot 0) q → chunk_after next' (first_of slot q) i ≡ chunk_after next (first_of head (given_chain slot (suc k) q i)) (given_place (suc k) q i)
  given_same zero i l =
      elim (cases_lt i (suc k)) [
        | inl m ↦ let f = given_front slot (suc k) i m in rw (f.0, f.1) (at_front i m)
        | inr m ↦ let f = given_rest slot (suc k) i m in rw (f.0, f.1) (at_rest i m (omega arith))
      ]
  given_same (suc s) i l = let f = given_behind slot (suc k) s i in let t = still s i l in rw (f.0, f.1) (given_others s i t.0 t.1)

  given_apart : (q i r j : ℕ) → i < count_of (free + suc k) (set sizes slot 0) q → j < count_of (free + suc k) (set sizes slot 0) r → given_chain slot (suc k) q i ≡ given_chain slot (suc k) r j → given_place (suc k) q i ≡ given_place (suc k) r j → (q ≡ r) × (i ≡ j)
  given_apart q i r j l m c p =
      elim (source q i l) [
        | front a1 b1 c1 d1 ↦ elim (source r j m) [
          | front a2 b2 c2 d2 ↦ (omega arith, omega arith)
          | rest a2 b2 c2 d2 ↦ absurd (omega arith)
          | other a2 b2 c2 d2 ↦ absurd (b2 (omega arith))
        ]
        | rest a1 b1 c1 d1 ↦ elim (source r j m) [
          | front a2 b2 c2 d2 ↦ absurd (omega arith)
          | rest a2 b2 c2 d2 ↦ (omega arith, omega arith)
          | other a2 b2 c2 d2 ↦ absurd (omega arith)
        ]
        | other a1 b1 c1 d1 ↦ elim (source r j m) [
          | front a2 b2 c2 d2 ↦ absurd (b1 (omega arith))
          | rest a2 b2 c2 d2 ↦ absurd (omega arith)
          | other a2 b2 c2 d2 ↦ (omega arith, omega arith)
        ]
      ]

  pub given : IsChained next' (first_of slot) (count_of (free + suc k) (set sizes slot 0))
  given = renamed next next' (first_of head) (count_of free sizes) (first_of slot) (count_of (free + suc k) (set sizes slot 0)) (given_chain slot (suc k)) (given_place (suc k)) h (length-set next last head) (λ q i l. given_counted q i l) (λ q i l. given_same q i l) (λ q i r j l m c p. given_apart q i r j l m c p)
