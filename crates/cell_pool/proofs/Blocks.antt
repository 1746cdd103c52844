-- What the lists of a region say of its blocks and cells.
use Rattle.std.proofs.Common.{◌≡◌, ℕ, zero, suc, ◌+◌, ◌*◌, ◌/◌, ◌%◌, ◌<◌, ◌≤◌, max, min, List, length, map, get_or, Option, Some, None, refl, sym, ◌∙◌, ap, inl, inr, arith, sum}
use Rattle.std.specs.List.{sum_by}
use Rattle.std.specs.Int.{div_ceil}
use Rattle.std.specs.Option.{IsSome}
use Rattle.std.specs.Prelude.{option_map}
use Rattle.std.proofs.lemmas.Bool.{cases_eq, cases_lt, eq-eqb, ne_eqb}
use Rattle.std.proofs.lemmas.List.{ext_get_or, get_or_past, get_or-map, length-map}
use Rattle.std.proofs.lemmas.List.FromFn.{length-map-range_with_len, get_or-map-range_with_len}
use Rattle.std.proofs.lemmas.List.Sums.{sum-map}
use Rattle.std.proofs.lemmas.Option.{slice_get_past, slice_get-get_or}
use Rattle.std.proofs.lemmas.Nat.{div_below, div-add-mod'}
use Rattle.std.proofs.lemmas.Grind.{div_ceil_times}
use Rattle.std.proofs.Math.Nat.{le-max_left, le-max_right}
use Rattle.cell_pool.specs.Region.{Block, chunks_of, chunks_in, if_named, block_of, cell_in, cell_of}
use Rattle.cell_pool.specs.Chains.{held}
use Rattle.cell_pool.specs.Inside.{place_of, cells_from, block_from, blocks_from, region_from, HasCell}

abbrev pub nothing : {C : Type 0} → Option (Block C)
nothing = None

pub length-cells : {C : Type 0} (blank : C) (cells : List C) (next : List ℕ) (slot size : ℕ) → length (cells_from blank cells next slot size) ≡ size
unfolding cells_from
length-cells blank cells next slot size = length-map-range_with_len (λ i. get_or cells (place_of next slot i) blank) 0 size

pub cells_at : {C : Type 0} (blank : C) (cells : List C) (next : List ℕ) (slot size i : ℕ) (d : C) → i < size → get_or (cells_from blank cells next slot size) i d ≡ get_or cells (place_of next slot i) blank
unfolding cells_from
cells_at blank cells next slot size i d l = get_or-map-range_with_len (λ i. get_or cells (place_of next slot i) blank) 0 size i i d l (omega arith)

pub length-blocks : {C : Type 0} (blank : C) (cells : List C) (next sizes names : List ℕ) → length (blocks_from blank cells next sizes names) ≡ length sizes
unfolding blocks_from
length-blocks blank cells next sizes names = length-map-range_with_len (λ s. block_from blank cells next (get_or names s 0) s (get_or sizes s 0)) 0 (length sizes)

pub blocks_at : {C : Type 0} (blank : C) (cells : List C) (next sizes names : List ℕ) (s : ℕ) (d : Option (Block C)) → s < length sizes → get_or (blocks_from blank cells next sizes names) s d ≡ block_from blank cells next (get_or names s 0) s (get_or sizes s 0)
unfolding blocks_from
blocks_at blank cells next sizes names s d l = get_or-map-range_with_len (λ s. block_from blank cells next (get_or names s 0) s (get_or sizes s 0)) 0 (length sizes) s s d l (omega arith)

pub block_some : {C : Type 0} (blank : C) (cells : List C) (next : List ℕ) (name slot size : ℕ) → 0 < size → block_from blank cells next name slot size ≡ Some (record { name = name; cells = cells_from blank cells next slot size })
unfolding block_from
block_some blank cells next name slot zero l = absurd (omega arith)
block_some blank cells next name slot (suc size) l = refl

pub block_none : {C : Type 0} (blank : C) (cells : List C) (next : List ℕ) (name slot size : ℕ) → size ≡ 0 → block_from blank cells next name slot size ≡ None
unfolding block_from
block_none blank cells next name slot zero e = refl
block_none blank cells next name slot (suc size) e = absurd (omega arith)

-- how many chunks
pub held_some : (size : ℕ) → 0 < size → held size ≡ chunks_of size
held_some zero l = absurd (omega arith)
held_some (suc size) l = refl

-- a size that isn't 0 in numbers that the code computes
pub chunks_are : (size : ℕ) → 0 < size → chunks_of size ≡ size / 16 + min 1 (size % 16)
chunks_are size l = let t = div_ceil_times size 16 (omega arith) in omega arith

pub in_chunks : (size i : ℕ) → i < size → i / 16 < held size
in_chunks size i l =
    let h : held size ≡ chunks_of size = held_some size (omega arith) in
    let t = div_ceil_times size 16 (omega arith) in
    let m : size / 16 + min 1 (size % 16) ≤ max 1 (size / 16 + min 1 (size % 16)) = le-max_right 1 (size / 16 + min 1 (size % 16)) in
    div_below i 16 (held size) (omega arith) (omega arith)

chunks_at : {C : Type 0} (blank : C) (cells : List C) (next : List ℕ) (name slot size : ℕ) → chunks_in (block_from blank cells next name slot size) ≡ held size
unfolding block_from
chunks_at blank cells next name slot zero = refl
chunks_at blank cells next name slot (suc size) = ap chunks_of (length-cells blank cells next slot (suc size))

pub live_are : {C : Type 0} (blank : C) (cells : List C) (next sizes names : List ℕ) → sum_by chunks_in (blocks_from blank cells next sizes names) ≡ sum_by held sizes
live_are {C} blank cells next sizes names =
    sym (sum-map chunks_in (blocks_from blank cells next sizes names)) ∙ ap sum same ∙ sum-map held sizes
  where
    at : (s : ℕ) → s < length sizes → get_or (map chunks_in (blocks_from blank cells next sizes names)) s 0 ≡ get_or (map held sizes) s 0
    at s l =
        get_or-map chunks_in (blocks_from blank cells next sizes names) s None 0 (rw length-blocks l)
        ∙ ap chunks_in (blocks_at blank cells next sizes names s None l)
        ∙ chunks_at blank cells next (get_or names s 0) s (get_or sizes s 0)
        ∙ sym (get_or-map held sizes s 0 0 l)

    long : length (map chunks_in (blocks_from blank cells next sizes names)) ≡ length sizes
    long = length-map (blocks_from blank cells next sizes names) chunks_in ∙ length-blocks blank cells next sizes names

    same : map chunks_in (blocks_from blank cells next sizes names) ≡ map held sizes
    same = ext_get_or 0 (map chunks_in (blocks_from blank cells next sizes names)) (map held sizes) (long ∙ sym (length-map sizes held)) (λ s l. at s (rw long at l))

-- the live block at a slot, by its name
pub named_block : {C : Type 0} (blank : C) (cells : List C) (next sizes names : List ℕ) (slot name : ℕ) → slot < length sizes → get_or names slot 0 ≡ name → 0 < get_or sizes slot 0 → block_of (region_from blank cells next sizes names) slot name ≡ Some (record { name = name; cells = cells_from blank cells next slot (get_or sizes slot 0) })
named_block blank cells next sizes names slot name l e p =
    rw (blocks_at blank cells next sizes names slot None l, block_some blank cells next (get_or names slot 0) slot (get_or sizes slot 0) p, eq-eqb (get_or names slot 0) name e, e) refl

pub live_block : {C : Type 0} (blank : C) (cells : List C) (next sizes names : List ℕ) (slot name : ℕ) → IsSome (block_of (region_from blank cells next sizes names) slot name) → (slot < length sizes) × (0 < get_or sizes slot 0)
live_block {C} blank cells next sizes names slot name h =
    elim (cases_lt slot (length sizes)) [
      | inl l ↦ elim (cases_eq (get_or sizes slot 0) 0) [
        | inl e ↦ absurd (gone (blocks_at blank cells next sizes names slot None l ∙ block_none blank cells next (get_or names slot 0) slot (get_or sizes slot 0) e))
        | inr n ↦ (l, omega arith)
      ]
      | inr l ↦ absurd (gone (get_or_past (blocks_from blank cells next sizes names) slot None (rw length-blocks l)))
    ]
  where
    gone : get_or (blocks_from blank cells next sizes names) slot None ≡ None → ⊥
    gone e = let t : IsSome (if_named name (nothing {C = C})) = rw e at h in cc

-- a number is its quotient and its remainder
pub same_number : (i j : ℕ) → i / 16 ≡ j / 16 → i % 16 ≡ j % 16 → i ≡ j
same_number i j e f =
    let a : i / 16 * 16 + i % 16 ≡ i = div-add-mod' i 16 in
    let b : j / 16 * 16 + j % 16 ≡ j = div-add-mod' j 16 in
    omega arith

pub has_cell : {C : Type 0} (blank : C) (cells : List C) (next sizes names : List ℕ) (slot name offset : ℕ) → HasCell sizes names slot name offset → slot < length sizes → cell_of (region_from blank cells next sizes names) slot name offset ≡ Some (get_or cells (place_of next slot offset) blank)
has_cell blank cells next sizes names slot name offset h l =
    ap (cell_in offset) (named_block blank cells next sizes names slot name l h.is_named (omega (arith, h.is_below)))
    ∙ slice_get-get_or (cells_from blank cells next slot (get_or sizes slot 0)) offset blank (rw length-cells h.is_below)
    ∙ ap Some (cells_at blank cells next slot (get_or sizes slot 0) offset blank h.is_below)

pub has_no_cell : {C : Type 0} (blank : C) (cells : List C) (next sizes names : List ℕ) (slot name offset : ℕ) → (HasCell sizes names slot name offset → ⊥) → cell_of (region_from blank cells next sizes names) slot name offset ≡ None
has_no_cell {C} blank cells next sizes names slot name offset h =
    elim (cases_lt slot (length sizes)) [
      | inl l ↦ elim (cases_eq (get_or sizes slot 0) 0) [
        | inl e ↦ gone (blocks_at blank cells next sizes names slot None l ∙ block_none blank cells next (get_or names slot 0) slot (get_or sizes slot 0) e)
        | inr n ↦ elim (cases_eq (get_or names slot 0) name) [
          | inl e ↦ ap (cell_in offset) (named_block blank cells next sizes names slot name l e (omega arith)) ∙ slice_get_past (cells_from blank cells next slot (get_or sizes slot 0)) offset (rw length-cells (past e))
          | inr d ↦ rw (blocks_at blank cells next sizes names slot None l, block_some blank cells next (get_or names slot 0) slot (get_or sizes slot 0) (omega arith), ne_eqb (get_or names slot 0) name d) refl
        ]
      ]
      | inr l ↦ gone (get_or_past (blocks_from blank cells next sizes names) slot None (rw length-blocks l))
    ]
  where
    gone : get_or (blocks_from blank cells next sizes names) slot None ≡ None → cell_of (region_from blank cells next sizes names) slot name offset ≡ None
    gone e = rw e refl

    past : get_or names slot 0 ≡ name → get_or sizes slot 0 ≤ offset
    past e =
        elim (cases_lt offset (get_or sizes slot 0)) [
          | inl l ↦ absurd (h (record { is_named = e; is_below = l }))
          | inr l ↦ l
        ]

pub held_are : (size : ℕ) → 0 < size → (held size ≡ size / 16 + min 1 (size % 16)) × (1 ≤ held size)
held_are size l =
    let h : held size ≡ chunks_of size = held_some size l in
    let c : chunks_of size ≡ size / 16 + min 1 (size % 16) = chunks_are size l in
    let m : 1 ≤ max 1 (div_ceil size 16) = le-max_left 1 (div_ceil size 16) in
    (omega arith, omega arith)

-- how many cells a live block has
pub block_size : {C : Type 0} (blank : C) (cells : List C) (next sizes names : List ℕ) (slot name : ℕ) → slot < length sizes → get_or names slot 0 ≡ name → 0 < get_or sizes slot 0 → option_map (λ block. length block.cells) (block_of (region_from blank cells next sizes names) slot name) ≡ Some (get_or sizes slot 0)
block_size blank cells next sizes names slot name l e p =
    ap (option_map (λ block. length block.cells)) (named_block blank cells next sizes names slot name l e p) ∙ ap Some (length-cells blank cells next slot (get_or sizes slot 0))

pub no_block : {C : Type 0} (blank : C) (cells : List C) (next sizes names : List ℕ) (slot name : ℕ) → (slot < length sizes → get_or names slot 0 ≡ name → 0 < get_or sizes slot 0 → ⊥) → block_of (region_from blank cells next sizes names) slot name ≡ None
no_block {C} blank cells next sizes names slot name h =
    elim (cases_lt slot (length sizes)) [
      | inl l ↦ elim (cases_eq (get_or sizes slot 0) 0) [
        | inl e ↦ gone (blocks_at blank cells next sizes names slot None l ∙ block_none blank cells next (get_or names slot 0) slot (get_or sizes slot 0) e)
        | inr n ↦ elim (cases_eq (get_or names slot 0) name) [
          | inl e ↦ absurd (h l e (omega arith))
          | inr d ↦ rw (blocks_at blank cells next sizes names slot None l, block_some blank cells next (get_or names slot 0) slot (get_or sizes slot 0) (omega arith), ne_eqb (get_or names slot 0) name d) refl
        ]
      ]
      | inr l ↦ gone (get_or_past (blocks_from blank cells next sizes names) slot None (rw length-blocks l))
    ]
  where
    gone : get_or (blocks_from blank cells next sizes names) slot None ≡ None → block_of (region_from blank cells next sizes names) slot name ≡ None
    gone e = rw e refl
