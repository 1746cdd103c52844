-- What taking a block, giving one back and putting a cell do to the blocks of a region.
use Rattle.std.proofs.Common.{◌≡◌, ℕ, min, max, zero, suc, ◌+◌, ◌-◌, ◌*◌, ◌/◌, ◌%◌, ◌<◌, ◌≤◌, List, length, set, get_or, replicate, Option, Some, None, refl, sym, ◌∙◌, ap, inl, inr, arith, length-set}
use Rattle.std.specs.List.{sum_by}
use Rattle.std.specs.Int.{div_ceil}
use Rattle.std.proofs.Math.Nat.{le-max_left}
use Rattle.std.proofs.lemmas.Bool.{cases_eq, cases_lt}
use Rattle.std.proofs.lemmas.List.{get_or-set_other, get_or-set_same, ext_get_or, get_or-replicate, length-replicate, get_or_past}
use Rattle.std.proofs.lemmas.List.Sums.{sum_by-set}
use Rattle.std.proofs.lemmas.Nat.{mod_below}
use Rattle.std.proofs.lemmas.Grind.{get_or-set_at}
use Rattle.cell_pool.specs.Region.{Block, chunks_of, chunks_in, with_cell}
use Rattle.cell_pool.specs.Chains.{chunk_after, held}
use Rattle.cell_pool.specs.Inside.{place_of, cells_from, block_from, blocks_from, region_from, IsPool, HasCell, IsCleared}
use Rattle.cell_pool.proofs.Blocks.{live_are, chunks_are, length-cells, cells_at, length-blocks, blocks_at, block_some, block_none, in_chunks, named_block, has_cell, has_no_cell, same_number}
use Rattle.cell_pool.proofs.Chains.{chunk_after-none, taken, taken_from_none, given, given_others}

-- cells that are where they were, with what they held
pub same_cells : {C : Type 0} (blank : C) (cells cells' : List C) (next next' : List ℕ) (slot size : ℕ) → ((i : ℕ) → i < size → get_or cells' (place_of next' slot i) blank ≡ get_or cells (place_of next slot i) blank) → cells_from blank cells' next' slot size ≡ cells_from blank cells next slot size
same_cells blank cells cells' next next' slot size h =
    ext_get_or blank (cells_from blank cells' next' slot size) (cells_from blank cells next slot size)
    (length-cells blank cells' next' slot size ∙ sym (length-cells blank cells next slot size))
    (λ i l.
    let m : i < size = rw (length-cells blank cells' next' slot size) at l in
    cells_at blank cells' next' slot size i blank m ∙ h i m ∙ sym (cells_at blank cells next slot size i blank m))

pub same_block : {C : Type 0} (blank : C) (cells cells' : List C) (next next' : List ℕ) (name slot size : ℕ) → ((i : ℕ) → i < size → get_or cells' (place_of next' slot i) blank ≡ get_or cells (place_of next slot i) blank) → block_from blank cells' next' name slot size ≡ block_from blank cells next name slot size
unfolding block_from
same_block blank cells cells' next next' name slot zero h = refl
same_block blank cells cells' next next' name slot (suc size) h =
    ap (λ held_cells. Some (record { name = name; cells = held_cells })) (same_cells blank cells cells' next next' slot (suc size) h)

-- the blocks where one is changed
pub one_block :
    {C : Type 0} (blank : C) (cells cells' : List C) (next next' sizes sizes' names names' : List ℕ) (slot : ℕ) (block : Option (Block C))
    → length sizes' ≡ length sizes
    → slot < length sizes
    → block_from blank cells' next' (get_or names' slot 0) slot (get_or sizes' slot 0) ≡ block
    → ((s : ℕ) → s < length sizes → (s ≡ slot → ⊥) → block_from blank cells' next' (get_or names' s 0) s (get_or sizes' s 0) ≡ block_from blank cells next (get_or names s 0) s (get_or sizes s 0))
    → blocks_from blank cells' next' sizes' names' ≡ set (blocks_from blank cells next sizes names) slot block
one_block {C} blank cells cells' next next' sizes sizes' names names' slot block long l here elsewhere =
    ext_get_or None (blocks_from blank cells' next' sizes' names') (set (blocks_from blank cells next sizes names) slot block)
    (length-blocks blank cells' next' sizes' names' ∙ long ∙ sym (length-set (blocks_from blank cells next sizes names) slot block ∙ length-blocks blank cells next sizes names))
    (λ s m. each s (rw (length-blocks blank cells' next' sizes' names', long) at m))
  where
    each : (s : ℕ) → s < length sizes → get_or (blocks_from blank cells' next' sizes' names') s None ≡ get_or (set (blocks_from blank cells next sizes names) slot block) s None
    each s m =
        blocks_at blank cells' next' sizes' names' s None (rw long m)
        ∙ (elim (cases_eq s slot) [
          | inl e ↦
              ap (λ t. block_from blank cells' next' (get_or names' t 0) t (get_or sizes' t 0)) e
              ∙ here
              ∙ sym (get_or-set_at (blocks_from blank cells next sizes names) slot s block None e (rw length-blocks l))
          | inr n ↦
              elsewhere s m n
              ∙ sym (blocks_at blank cells next sizes names s None m)
              ∙ sym (get_or-set_other (blocks_from blank cells next sizes names) slot s block None (λ e. n e))
        ])

-- where a cell lies

pub place_below : (next sizes names : List ℕ) (cells head free slot offset : ℕ) → IsPool next sizes names cells head free → offset < get_or sizes slot 0 → place_of next slot offset < cells
place_below next sizes names cells head free slot offset p l =
    let w : chunk_after next slot (offset / 16) < length next = p.chained.within (suc slot) (offset / 16) (in_chunks (get_or sizes slot 0) offset l) in
    let r : offset % 16 < 16 = mod_below offset 16 (omega arith) in
    let e : cells ≡ length next * 16 = p.celled in
    omega arith

pub within_block : (next sizes names : List ℕ) (cells head free slot offset i : ℕ) → IsPool next sizes names cells head free → offset < get_or sizes slot 0 → i ≤ offset / 16 → chunk_after next slot i < length next
within_block next sizes names cells head free slot offset i p l m =
    let b : offset / 16 < held (get_or sizes slot 0) = in_chunks (get_or sizes slot 0) offset l in
    p.chained.within (suc slot) i (omega arith)

pub slot_below : (sizes : List ℕ) (slot offset : ℕ) → offset < get_or sizes slot 0 → slot < length sizes
slot_below sizes slot offset l =
    elim (cases_lt slot (length sizes)) [
      | inl m ↦ m
      | inr m ↦ let e : get_or sizes slot 0 ≡ 0 = get_or_past sizes slot 0 m in absurd (omega arith)
    ]

same_place : (c d i j : ℕ) → c * 16 + i % 16 ≡ d * 16 + j % 16 → (c ≡ d) × (i % 16 ≡ j % 16)
same_place c d i j e =
    let a : i % 16 < 16 = mod_below i 16 (omega arith) in
    let b : j % 16 < 16 = mod_below j 16 (omega arith) in
    (omega arith, omega arith)

place_apart : (next sizes names : List ℕ) (cells head free s i slot offset : ℕ) → IsPool next sizes names cells head free → i < get_or sizes s 0 → offset < get_or sizes slot 0 → place_of next s i ≡ place_of next slot offset → (s ≡ slot) × (i ≡ offset)
place_apart next sizes names cells head free s i slot offset p l m e =
    let here : (chunk_after next s (i / 16) ≡ chunk_after next slot (offset / 16)) × (i % 16 ≡ offset % 16) = same_place (chunk_after next s (i / 16)) (chunk_after next slot (offset / 16)) i offset e in
    let both : (suc s ≡ suc slot) × (i / 16 ≡ offset / 16) = p.chained.apart (suc s) (i / 16) (suc slot) (offset / 16) (in_chunks (get_or sizes s 0) i l) (in_chunks (get_or sizes slot 0) offset m) here.0 in
    (omega (arith, both.0), same_number i offset both.1 here.1)

-- taking

pub head_below : (next sizes names : List ℕ) (cells head free : ℕ) → IsPool next sizes names cells head free → 0 < free → head < length next
head_below next sizes names cells head free p l = rw chunk_after-none at (p.chained.within 0 0 l)

no_size : (size : ℕ) → held size ≡ 0 → size ≡ 0
no_size zero e = refl
no_size (suc size) e =
    let m : 1 ≤ max 1 (div_ceil (suc size) 16) = le-max_left 1 (div_ceil (suc size) 16) in
    absurd (omega arith)

pub head_free : (next sizes names : List ℕ) (cells head free : ℕ) → IsPool next sizes names cells head free → 0 < free → get_or sizes head 0 ≡ 0
head_free next sizes names cells head free p l =
    no_size (get_or sizes head 0)
    (elim (cases_lt 0 (held (get_or sizes head 0))) [
      | inl m ↦ let both : (0 ≡ suc head) × (0 ≡ 0) = p.chained.apart 0 0 (suc head) 0 l m refl in absurd (omega arith)
      | inr m ↦ omega arith
    ])

pub taken_pool : (next sizes names : List ℕ) (cells head free k size name : ℕ) → IsPool next sizes names cells head free → held size ≡ k → 0 < k → k ≤ free → IsPool next (set sizes head size) (set names head name) cells (chunk_after next head k) (free - k)
taken_pool next sizes names cells head free k size name p whole some few =
    let l : head < length sizes = omega (arith, head_below next sizes names cells head free p (omega arith), p.sized) in
    let none : held (get_or sizes head 0) ≡ 0 = ap held (head_free next sizes names cells head free p (omega arith)) in
    let total : sum_by held (set sizes head size) + held (get_or sizes head 0) ≡ sum_by held sizes + held size = sum_by-set held sizes head size 0 l in
    record {
      chained = taken next sizes head free k size p.chained whole few l;
      sized = length-set sizes head size ∙ p.sized;
      named = length-set names head name ∙ p.named;
      celled = p.celled;
      counted = omega (arith, p.counted);
      small = p.small;
    }

new_cells : {C : Type 0} (blank : C) (cells cells' : List C) (next : List ℕ) (slot k size : ℕ) → IsCleared cells cells' next slot k blank → held size ≡ k → cells_from blank cells' next slot size ≡ replicate size blank
new_cells blank cells cells' next slot k size cleared whole =
    ext_get_or blank (cells_from blank cells' next slot size) (replicate size blank)
    (length-cells blank cells' next slot size ∙ sym (length-replicate size blank))
    (λ i l.
    let m : i < size = rw (length-cells blank cells' next slot size) at l in
    let b : i / 16 < k = rw whole at (in_chunks size i m) in
    cells_at blank cells' next slot size i blank m
    ∙ cleared.inside (i / 16) (i % 16) b (mod_below i 16 (omega arith))
    ∙ sym (get_or-replicate size i blank blank m))

pub taken_blocks :
    {C : Type 0} (blank : C) (cells cells' : List C) (next sizes names : List ℕ) (head free k size name : ℕ)
    → IsPool next sizes names (length cells) head free
    → IsCleared cells cells' next head k blank
    → held size ≡ k → 0 < k → k ≤ free → 0 < size
    → blocks_from blank cells' next (set sizes head size) (set names head name) ≡ set (blocks_from blank cells next sizes names) head (Some (record { name = name; cells = replicate size blank }))
taken_blocks {C} blank cells cells' next sizes names head free k size name p cleared whole some few filled =
    let h : head < length next = head_below next sizes names (length cells) head free p (omega arith) in
    let l : head < length sizes = omega (arith, p.sized) in
    let m : head < length names = omega (arith, p.named) in
    one_block blank cells cells' next next sizes (set sizes head size) names (set names head name) head (Some (record { name = name; cells = replicate size blank }))
    (length-set sizes head size)
    l
    (rw (get_or-set_same names head name 0 m, get_or-set_same sizes head size 0 l)
    (block_some blank cells' next name head size filled ∙ ap (λ held_cells. Some (record { name = name; cells = held_cells })) (new_cells blank cells cells' next head k size cleared whole)))
    (λ s b n.
    rw (get_or-set_other names head s name 0 (λ e. n e), get_or-set_other sizes head s size 0 (λ e. n e))
    (same_block blank cells cells' next next (get_or names s 0) s (get_or sizes s 0)
    (λ i c.
    cleared.others (chunk_after next s (i / 16)) (i % 16) (mod_below i 16 (omega arith))
    (λ j d e. taken_from_none next sizes head free k size p.chained whole few l s (i / 16) j (in_chunks (get_or sizes s 0) i c) d e))))

pub too_few : {C : Type 0} (blank : C) (cells : List C) (next sizes names : List ℕ) (head free size : ℕ) → IsPool next sizes names (length cells) head free → 0 < size → free < size / 16 + min 1 (size % 16) → length (blocks_from blank cells next sizes names) < sum_by chunks_in (blocks_from blank cells next sizes names) + chunks_of size
too_few blank cells next sizes names head free size p l m =
    omega (arith, length-blocks blank cells next sizes names, live_are blank cells next sizes names, p.sized, p.counted, chunks_are size l)

pub enough : {C : Type 0} (blank : C) (cells : List C) (next sizes names : List ℕ) (head free size : ℕ) → IsPool next sizes names (length cells) head free → 0 < size → size / 16 + min 1 (size % 16) ≤ free → sum_by chunks_in (blocks_from blank cells next sizes names) + chunks_of size ≤ length (blocks_from blank cells next sizes names)
enough blank cells next sizes names head free size p l m =
    omega (arith, length-blocks blank cells next sizes names, live_are blank cells next sizes names, p.sized, p.counted, chunks_are size l)

pub was_free : {C : Type 0} (blank : C) (cells : List C) (next sizes names : List ℕ) (head free : ℕ) → IsPool next sizes names (length cells) head free → 0 < free → (head < length (blocks_from blank cells next sizes names)) × (get_or (blocks_from blank cells next sizes names) head None ≡ None)
was_free blank cells next sizes names head free p l =
    let m : head < length sizes = omega (arith, head_below next sizes names (length cells) head free p l, p.sized) in
    (rw length-blocks m, blocks_at blank cells next sizes names head None m ∙ block_none blank cells next (get_or names head 0) head (get_or sizes head 0) (head_free next sizes names (length cells) head free p l))

-- giving back

pub given_pool : (next sizes names : List ℕ) (cells head free k slot : ℕ) → IsPool next sizes names cells head free → held (get_or sizes slot 0) ≡ suc k → slot < length sizes → IsPool (set next (chunk_after next slot k) head) (set sizes slot 0) names cells slot (free + suc k)
given_pool next sizes names cells head free k slot p whole l =
    let total : sum_by held (set sizes slot 0) + held (get_or sizes slot 0) ≡ sum_by held sizes + held 0 = sum_by-set held sizes slot 0 0 l in
    let long : length (set next (chunk_after next slot k) head) ≡ length next = length-set next (chunk_after next slot k) head in
    let long_sizes : length (set sizes slot 0) ≡ length sizes = length-set sizes slot 0 in
    record {
      chained = given next sizes head free k slot p.chained whole l;
      sized = omega (arith, p.sized);
      named = omega (arith, p.named);
      celled = omega (arith, p.celled);
      counted = omega (arith, p.counted);
      small = omega (arith, p.small);
    }

pub given_blocks :
    {C : Type 0} (blank : C) (cells : List C) (next sizes names : List ℕ) (head free k slot : ℕ)
    → IsPool next sizes names (length cells) head free
    → held (get_or sizes slot 0) ≡ suc k
    → slot < length sizes
    → blocks_from blank cells (set next (chunk_after next slot k) head) (set sizes slot 0) names ≡ set (blocks_from blank cells next sizes names) slot None
given_blocks blank cells next sizes names head free k slot p whole l =
    one_block blank cells cells next (set next (chunk_after next slot k) head) sizes (set sizes slot 0) names names slot None
    (length-set sizes slot 0)
    l
    (block_none blank cells (set next (chunk_after next slot k) head) (get_or names slot 0) slot (get_or (set sizes slot 0) slot 0) (get_or-set_same sizes slot 0 0 l))
    (λ s b n.
    rw (get_or-set_other sizes slot s 0 0 (λ e. n e))
    (same_block blank cells cells next (set next (chunk_after next slot k) head) (get_or names s 0) s (get_or sizes s 0)
    (λ i c. ap (λ chunk. get_or cells (chunk * 16 + i % 16) blank) (given_others next sizes head free k slot p.chained whole l s (i / 16) n (in_chunks (get_or sizes s 0) i c)))))

-- putting

module _ {C : Type 0} (blank : C) (cells : List C) (next sizes names : List ℕ) (head free slot name offset : ℕ) (value : C)
    (p : IsPool next sizes names (length cells) head free) (h : HasCell sizes names slot name offset) where
  abbrev cells' : List C
  cells' = set cells (place_of next slot offset) value

  abbrev size : ℕ
  size = get_or sizes slot 0

  abbrev old : List C
  old = cells_from blank cells next slot (get_or sizes slot 0)

  put_at : (i : ℕ) → i < size → get_or cells' (place_of next slot i) blank ≡ get_or (set old offset value) i blank
  put_at i l =
      elim (cases_eq i offset) [
        | inl e ↦
            get_or-set_at cells (place_of next slot offset) (place_of next slot i) value blank (ap (place_of next slot) e) (place_below next sizes names (length cells) head free slot offset p h.is_below)
            ∙ sym (get_or-set_at old offset i value blank e (rw length-cells h.is_below))
        | inr n ↦
            get_or-set_other cells (place_of next slot offset) (place_of next slot i) value blank (λ e. n (place_apart next sizes names (length cells) head free slot i slot offset p l h.is_below e).1)
            ∙ sym (cells_at blank cells next slot size i blank l)
            ∙ sym (get_or-set_other old offset i value blank (λ e. n e))
      ]

  put_here : cells_from blank cells' next slot size ≡ set old offset value
  put_here =
      ext_get_or blank (cells_from blank cells' next slot size) (set old offset value)
      (length-cells blank cells' next slot size ∙ sym (length-set old offset value ∙ length-cells blank cells next slot size))
      (λ i l. let m : i < size = rw (length-cells blank cells' next slot size) at l in cells_at blank cells' next slot size i blank m ∙ put_at i m)

  pub put_blocks : blocks_from blank cells' next sizes names ≡ set (blocks_from blank cells next sizes names) slot (Some (record { name = name; cells = set old offset value }))
  put_blocks =
      one_block blank cells cells' next next sizes sizes names names slot (Some (record { name = name; cells = set old offset value }))
      refl
      (slot_below sizes slot offset h.is_below)
      (block_some blank cells' next (get_or names slot 0) slot size (omega (arith, h.is_below))
      ∙ ap (λ n. Some (record { name = n; cells = cells_from blank cells' next slot size })) h.is_named
      ∙ ap (λ held_cells. Some (record { name = name; cells = held_cells })) put_here)
      (λ s b n. same_block blank cells cells' next next (get_or names s 0) s (get_or sizes s 0)
      (λ i c. get_or-set_other cells (place_of next slot offset) (place_of next s i) value blank
      (λ e. n (place_apart next sizes names (length cells) head free s i slot offset p c h.is_below e).0)))

pub put_cell :
    {C : Type 0} (blank : C) (cells : List C) (next sizes names : List ℕ) (head free slot name offset : ℕ) (value : C)
    → IsPool next sizes names (length cells) head free
    → HasCell sizes names slot name offset
    → region_from blank (set cells (place_of next slot offset) value) next sizes names ≡ with_cell (region_from blank cells next sizes names) slot name offset value
put_cell {C} blank cells next sizes names head free slot name offset value p h =
    rw (has_cell blank cells next sizes names slot name offset h l, named_block blank cells next sizes names slot name l h.is_named (omega (arith, h.is_below)))
    (ap (λ held_blocks. record { blank = blank; blocks = held_blocks }) (put_blocks blank cells next sizes names head free slot name offset value p h))
  where
    l : slot < length sizes
    l = slot_below sizes slot offset h.is_below

pub put_none :
    {C : Type 0} (blank : C) (cells : List C) (next sizes names : List ℕ) (slot name offset : ℕ) (value : C)
    → (HasCell sizes names slot name offset → ⊥)
    → region_from blank cells next sizes names ≡ with_cell (region_from blank cells next sizes names) slot name offset value
put_none blank cells next sizes names slot name offset value n = rw (has_no_cell blank cells next sizes names slot name offset n) refl
