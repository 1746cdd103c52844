-- The heap, given with the oldest block first: which block a number means, and what a change, a new block and the end of one come to.
use Rattle.std.proofs.Common.{◌≡◌, ℕ, zero, suc, ◌<◌, ◌≤◌, ◌==◌, cond, List, [], ◌∷◌, ◌++◌, length, get_or, Some, None, refl, sym, ap, ◌∙◌, inl, inr, arith}
use Rattle.std.specs.Prelude.{slice_get}
use Rattle.std.specs.List.{remove}
use Rattle.std.proofs.lemmas.Bool.{cases_eq, eq-eqb, ne_eqb}
use Rattle.step_meaning.specs.Memory.{Block, HeapBlock, block_of, at_heap, without, at_block}
use Rattle.run_memory.specs.View.{heap_of}
use Rattle.run_memory.specs.Inside.{Rise}

abbrev pub entry : ℕ → Block → HeapBlock
entry n b = record { number = n; cells = b }

pub rise_from : (m l : ℕ) (ns : List ℕ) → m ≤ l → Rise l ns → Rise m ns
rise_from m l [] h r = tt
rise_from m l (n ∷ ns) h r = (omega (arith, r.0), r.1)

pub rise_at : (m : ℕ) (ns : List ℕ) (k : ℕ) → Rise m ns → k < length ns → m ≤ get_or ns k 0
rise_at m [] k r h = absurd (omega arith)
rise_at m (n ∷ ns) zero r h = r.0
rise_at m (n ∷ ns) (suc k) r h = let w = rise_at (suc n) ns k r.1 (omega arith) in omega (arith, w, r.0)

pub rise_apart : (m : ℕ) (ns : List ℕ) (j k : ℕ) → Rise m ns → j < k → k < length ns → get_or ns j 0 < get_or ns k 0
rise_apart m [] j k r h q = absurd (omega arith)
rise_apart m (n ∷ ns) j zero r h q = absurd (omega arith)
rise_apart m (n ∷ ns) zero (suc k) r h q = rise_at (suc n) ns k r.1 (omega arith)
rise_apart m (n ∷ ns) (suc j) (suc k) r h q = rise_apart (suc n) ns j k r.1 (omega arith) (omega arith)

pub rise_push : (m : ℕ) (ns : List ℕ) (n : ℕ) → Rise m ns → m ≤ n → ((k : ℕ) → k < length ns → get_or ns k 0 < n) → Rise m (ns ++ n ∷ [])
rise_push m [] n r h below = (h, tt)
rise_push m (x ∷ ns) n r h below = (r.0, rise_push (suc x) ns n r.1 (below 0 (omega arith)) (λ k q. below (suc k) (omega arith)))

pub rise_remove : (m : ℕ) (ns : List ℕ) (i : ℕ) → Rise m ns → Rise m (remove ns i)
rise_remove m [] zero r = tt
rise_remove m [] (suc i) r = tt
rise_remove m (n ∷ ns) zero r = rise_from m (suc n) ns (omega (arith, r.0)) r.1
rise_remove m (n ∷ ns) (suc i) r = (r.0, rise_remove (suc n) ns i r.1)

-- ---- one more block at the end of a list, that is the oldest

-- no block has this number
abbrev pub Lacks : ℕ → List HeapBlock → Type 0
Lacks n [] = Unit {0}
Lacks n (b ∷ bs) = (b.number ≡ n → ⊥) × Lacks n bs

lacks_push : (n : ℕ) (bs : List HeapBlock) (b : HeapBlock) → Lacks n bs → (b.number ≡ n → ⊥) → Lacks n (bs ++ b ∷ [])
lacks_push n [] b l h = (h, tt)
lacks_push n (x ∷ bs) b l h = (l.0, lacks_push n bs b l.1 h)

block_of-push : (n : ℕ) (bs : List HeapBlock) (b : HeapBlock) → (b.number ≡ n → ⊥) → block_of n (bs ++ b ∷ []) ≡ block_of n bs
block_of-push n [] b h = rw (ne_eqb b.number n h) refl
block_of-push n (x ∷ bs) b h = ap (λ o. cond (x.number == n) (Some x.cells) o) (block_of-push n bs b h)

block_of-last : (n : ℕ) (bs : List HeapBlock) (b : HeapBlock) → Lacks n bs → b.number ≡ n → block_of n (bs ++ b ∷ []) ≡ Some b.cells
block_of-last n [] b l h = rw (eq-eqb b.number n h) refl
block_of-last n (x ∷ bs) b l h = rw (ne_eqb x.number n l.0) (block_of-last n bs b l.1 h)

at_heap-push : (f : Block → Block) (n : ℕ) (bs : List HeapBlock) (b : HeapBlock) → (b.number ≡ n → ⊥) → at_heap f n (bs ++ b ∷ []) ≡ at_heap f n bs ++ b ∷ []
at_heap-push f n [] b h = rw (ne_eqb b.number n h) refl
at_heap-push f n (x ∷ bs) b h =
    elim (cases_eq x.number n) [
      | inl e ↦ rw (eq-eqb x.number n e) refl
      | inr d ↦ rw (ne_eqb x.number n d) (ap (λ r. x ∷ r) (at_heap-push f n bs b h))
    ]

at_heap-last : (f : Block → Block) (n : ℕ) (bs : List HeapBlock) (b : HeapBlock) → Lacks n bs → b.number ≡ n → at_heap f n (bs ++ b ∷ []) ≡ bs ++ record b { cells = f b.cells } ∷ []
at_heap-last f n [] b l h = rw (eq-eqb b.number n h) refl
at_heap-last f n (x ∷ bs) b l h = rw (ne_eqb x.number n l.0) (ap (λ r. x ∷ r) (at_heap-last f n bs b l.1 h))

without-push : (n : ℕ) (bs : List HeapBlock) (b : HeapBlock) → (b.number ≡ n → ⊥) → without n (bs ++ b ∷ []) ≡ without n bs ++ b ∷ []
without-push n [] b h = rw (ne_eqb b.number n h) refl
without-push n (x ∷ bs) b h =
    elim (cases_eq x.number n) [
      | inl e ↦ rw (eq-eqb x.number n e) refl
      | inr d ↦ rw (ne_eqb x.number n d) (ap (λ r. x ∷ r) (without-push n bs b h))
    ]

append_empty : (bs : List HeapBlock) → bs ++ [] ≡ bs
append_empty [] = refl
append_empty (b ∷ bs) = ap (λ r. b ∷ r) (append_empty bs)

without-last : (n : ℕ) (bs : List HeapBlock) (b : HeapBlock) → Lacks n bs → b.number ≡ n → without n (bs ++ b ∷ []) ≡ bs
without-last n [] b l h = rw (eq-eqb b.number n h) refl
without-last n (x ∷ bs) b l h = rw (ne_eqb x.number n l.0) (ap (λ r. x ∷ r) (without-last n bs b l.1 h))

-- ---- the heap of two lists

heap_lacks : (m : ℕ) (ns : List ℕ) (bs : List Block) (n : ℕ) → Rise m ns → n < m → Lacks n (heap_of ns bs)
heap_lacks m [] bs n r h = tt
heap_lacks m (x ∷ ns) [] n r h = tt
heap_lacks m (x ∷ ns) (b ∷ bs) n r h = lacks_push n (heap_of ns bs) (entry x b) (heap_lacks (suc x) ns bs n r.1 (omega (arith, r.0))) (λ e. omega (arith, e, r.0))

-- the block at a place is the one that its number means
pub heap_found : (m : ℕ) (ns : List ℕ) (bs : List Block) (k : ℕ) → Rise m ns → length ns ≡ length bs → k < length ns → block_of (get_or ns k 0) (heap_of ns bs) ≡ slice_get bs k
heap_found m [] bs k r e h = absurd (omega arith)
heap_found m (n ∷ ns) [] k r e h = absurd (omega arith)
heap_found m (n ∷ ns) (b ∷ bs) zero r e h = block_of-last n (heap_of ns bs) (entry n b) (heap_lacks (suc n) ns bs n r.1 (omega arith)) refl
heap_found m (n ∷ ns) (b ∷ bs) (suc k) r e h =
    let w : suc n ≤ get_or ns k 0 = rise_at (suc n) ns k r.1 (omega arith) in
    block_of-push (get_or ns k 0) (heap_of ns bs) (entry n b) (λ x. omega arith) ∙ heap_found (suc n) ns bs k r.1 (omega arith) (omega arith)

-- a number that none has means none
pub heap_missing : (ns : List ℕ) (bs : List Block) (n : ℕ) → ((k : ℕ) → k < length ns → get_or ns k 0 ≡ n → ⊥) → block_of n (heap_of ns bs) ≡ None
heap_missing [] bs n none = refl
heap_missing (x ∷ ns) [] n none = refl
heap_missing (x ∷ ns) (b ∷ bs) n none = block_of-push n (heap_of ns bs) (entry x b) (none 0 (omega arith)) ∙ heap_missing ns bs n (λ k h. none (suc k) (omega arith))

pub heap_changed : (m : ℕ) (ns : List ℕ) (bs : List Block) (f : Block → Block) (k : ℕ) → Rise m ns → length ns ≡ length bs → k < length ns → heap_of ns (at_block f k bs) ≡ at_heap f (get_or ns k 0) (heap_of ns bs)
heap_changed m [] bs f k r e h = absurd (omega arith)
heap_changed m (n ∷ ns) [] f k r e h = absurd (omega arith)
heap_changed m (n ∷ ns) (b ∷ bs) f zero r e h = sym (at_heap-last f n (heap_of ns bs) (entry n b) (heap_lacks (suc n) ns bs n r.1 (omega arith)) refl)
heap_changed m (n ∷ ns) (b ∷ bs) f (suc k) r e h =
    let w : suc n ≤ get_or ns k 0 = rise_at (suc n) ns k r.1 (omega arith) in
    ap (λ hs. hs ++ entry n b ∷ []) (heap_changed (suc n) ns bs f k r.1 (omega arith) (omega arith))
    ∙ sym (at_heap-push f (get_or ns k 0) (heap_of ns bs) (entry n b) (λ x. omega arith))

pub heap_ended : (m : ℕ) (ns : List ℕ) (bs : List Block) (k : ℕ) → Rise m ns → length ns ≡ length bs → k < length ns → heap_of (remove ns k) (remove bs k) ≡ without (get_or ns k 0) (heap_of ns bs)
heap_ended m [] bs k r e h = absurd (omega arith)
heap_ended m (n ∷ ns) [] k r e h = absurd (omega arith)
heap_ended m (n ∷ ns) (b ∷ bs) zero r e h = sym (without-last n (heap_of ns bs) (entry n b) (heap_lacks (suc n) ns bs n r.1 (omega arith)) refl)
heap_ended m (n ∷ ns) (b ∷ bs) (suc k) r e h =
    let w : suc n ≤ get_or ns k 0 = rise_at (suc n) ns k r.1 (omega arith) in
    ap (λ hs. hs ++ entry n b ∷ []) (heap_ended (suc n) ns bs k r.1 (omega arith) (omega arith))
    ∙ sym (without-push (get_or ns k 0) (heap_of ns bs) (entry n b) (λ x. omega arith))

pub heap_begun : (ns : List ℕ) (bs : List Block) (n : ℕ) (b : Block) → length ns ≡ length bs → heap_of (ns ++ n ∷ []) (bs ++ b ∷ []) ≡ entry n b ∷ heap_of ns bs
heap_begun [] [] n b e = refl
heap_begun [] (x ∷ bs) n b e = absurd (omega arith)
heap_begun (x ∷ ns) [] n b e = absurd (omega arith)
heap_begun (x ∷ ns) (y ∷ bs) n b e = ap (λ hs. hs ++ entry x y ∷ []) (heap_begun ns bs n b (omega arith))
