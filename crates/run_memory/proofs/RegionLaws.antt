-- What a change of one block of the region does to the blocks at other slots, to their names and to the chunks.
use Rattle.std.proofs.Common.{◌≡◌, ℕ, zero, suc, ◌+◌, ◌/◌, ◌<◌, ◌≤◌, max, List, [], ◌∷◌, length, set, get_or, Option, Some, None, refl, sym, ap, ◌∙◌, inl, inr, arith}
use Rattle.std.specs.Prelude.{slice_get}
use Rattle.std.specs.Int.{div_ceil}
use Rattle.std.specs.Option.{is_some}
use Rattle.std.proofs.lemmas.Bool.{cases_eq, cases_lt, eq-eqb, cond-true}
use Rattle.std.proofs.lemmas.List.{get_or-set_other, get_or-set_same, get_or_past}
use Rattle.std.proofs.lemmas.List.Sums.{sum_by-set}
use Rattle.std.proofs.lemmas.Grind.{div_ceil_times}
use Rattle.step_meaning.specs.declared.value.Cell.{Cell}
use Rattle.step_meaning.specs.Memory.{Slot, Block, at_block, set_cell}
use Rattle.step_meaning.specs.Limits.{chunks_for, chunks_of}
use Rattle.cell_pool.specs.Region as pool
use Rattle.run_memory.specs.View.{cells_in, cells_at, name_in, name_at, blocks_at}
use Rattle.run_memory.specs.Inside.{Held}

abbrev pub Apart : List ℕ → ℕ → Type 0
Apart slots s = (k : ℕ) → k < length slots → get_or slots k 0 ≡ s → ⊥

abbrev pub free : Option (pool.Block Slot)
free = None

-- ---- blocks at other slots

pub other_cells : (r : pool.Region Slot) (t s : ℕ) (x : Option (pool.Block Slot)) → (t ≡ s → ⊥) → cells_at (pool.with_block r s x) t ≡ cells_at r t
other_cells r t s x h = ap cells_in (get_or-set_other r.blocks s t x free h)

pub same_cells : (r : pool.Region Slot) (s : ℕ) (x : Option (pool.Block Slot)) → s < length r.blocks → cells_at (pool.with_block r s x) s ≡ cells_in x
same_cells r s x h = ap cells_in (get_or-set_same r.blocks s x free h)

pub other_name : (r : pool.Region Slot) (t s : ℕ) (x : Option (pool.Block Slot)) → (t ≡ s → ⊥) → name_at (pool.with_block r s x) t ≡ name_at r t
other_name r t s x h = ap name_in (get_or-set_other r.blocks s t x free h)

pub same_name_at : (r : pool.Region Slot) (s : ℕ) (x : Option (pool.Block Slot)) → s < length r.blocks → name_at (pool.with_block r s x) s ≡ name_in x
same_name_at r s x h = ap name_in (get_or-set_same r.blocks s x free h)

pub apart_blocks : (r : pool.Region Slot) (slots : List ℕ) (s : ℕ) (x : Option (pool.Block Slot)) → Apart slots s → blocks_at (pool.with_block r s x) slots ≡ blocks_at r slots
apart_blocks r [] s x h = refl
apart_blocks r (t ∷ ts) s x h =
    rw (get_or-set_other r.blocks s t x free (h 0 (omega arith)))
    (ap (λ bs. cells_at r t ∷ bs) (apart_blocks r ts s x (λ k q. h (suc k) (omega arith))))

-- the block at one of the slots is changed, which no other slot is
pub own_block : (r : pool.Region Slot) (slots : List ℕ) (k s : ℕ) (x : Option (pool.Block Slot)) (f : Block → Block) → k < length slots → get_or slots k 0 ≡ s → s < length r.blocks
    → ((j : ℕ) → j < length slots → (j ≡ k → ⊥) → get_or slots j 0 ≡ s → ⊥) → cells_in x ≡ f (cells_at r s)
    → blocks_at (pool.with_block r s x) slots ≡ at_block f k (blocks_at r slots)
own_block r [] k s x f h e q others c = absurd (omega arith)
own_block r (t ∷ ts) zero s x f h e q others c =
    rw (e, get_or-set_same r.blocks s x free q, c)
    (ap (λ bs. f (cells_at r s) ∷ bs) (apart_blocks r ts s x (λ j p. others (suc j) (omega arith) (λ z. omega arith))))
own_block r (t ∷ ts) (suc k) s x f h e q others c =
    rw (get_or-set_other r.blocks s t x free (others 0 (omega arith) (λ z. omega arith)))
    (ap (λ bs. cells_at r t ∷ bs) (own_block r ts k s x f (omega arith) e q (λ j p n. others (suc j) (omega arith) (λ z. n (omega arith))) c))

-- ---- names

pub held_apart : (r : pool.Region Slot) (numbers : ℕ → ℕ) (slots : List ℕ) (s : ℕ) (x : Option (pool.Block Slot)) → Apart slots s → Held r numbers slots → Held (pool.with_block r s x) numbers slots
held_apart r numbers slots s x h held = record { named = λ k q. other_name r (get_or slots k 0) s x (h k q) ∙ held.named k q }

-- the name of the block stays
pub held_same : (r : pool.Region Slot) (numbers : ℕ → ℕ) (slots : List ℕ) (s : ℕ) (x : Option (pool.Block Slot)) → s < length r.blocks → name_in x ≡ name_at r s → Held r numbers slots → Held (pool.with_block r s x) numbers slots
held_same r numbers slots s x l e held =
    record {
      named = λ k q.
          elim (cases_eq (get_or slots k 0) s) [
            | inl same ↦ ap (λ t. name_at (pool.with_block r s x) t) same ∙ same_name_at r s x l ∙ e ∙ ap (λ t. name_at r t) (sym same) ∙ held.named k q
            | inr other ↦ other_name r (get_or slots k 0) s x other ∙ held.named k q
          ];
    }

-- another name stands at another slot
pub named_apart : (r : pool.Region Slot) (numbers : ℕ → ℕ) (slots : List ℕ) (s m : ℕ) → Held r numbers slots → name_at r s ≡ Some m → ((k : ℕ) → k < length slots → numbers k ≡ m → ⊥) → Apart slots s
named_apart r numbers slots s m held e other k q same =
    let f : Some (numbers k) ≡ Some m = sym (held.named k q) ∙ ap (λ t. name_at r t) same ∙ e in
    let g : numbers k ≡ m = cc in
    other k q g

pub free_apart : (r : pool.Region Slot) (numbers : ℕ → ℕ) (slots : List ℕ) (s : ℕ) → Held r numbers slots → name_at r s ≡ None → Apart slots s
free_apart r numbers slots s held e k q same =
    let f : Some (numbers k) ≡ None = sym (held.named k q) ∙ ap (λ t. name_at r t) same ∙ e in
    cc

-- a slot with a name is one of the region's
pub named_within : (r : pool.Region Slot) (s m : ℕ) → name_at r s ≡ Some m → s < length r.blocks
named_within r s m e =
    elim (cases_lt s (length r.blocks)) [
      | inl l ↦ l
      | inr l ↦ let f : None ≡ Some m = sym (ap name_in (get_or_past r.blocks s free l)) ∙ e in absurd (cc)
    ]

-- ---- one cell

pub set_cell-set : (c : Cell) (o : ℕ) (b : Block) (s : Slot) → slice_get b o ≡ Some s → set b o (record s { cell = c }) ≡ set_cell c o b
set_cell-set c o [] s e = refl
set_cell-set c zero (t ∷ b) s e = let same : t ≡ s = cc in ap (λ u. record { declared = u.declared; cell = c } ∷ b) (sym same)
set_cell-set c (suc o) (t ∷ b) s e = ap (λ r. t ∷ r) (set_cell-set c o b s e)

pub set_cell-past : (c : Cell) (o : ℕ) (b : Block) → slice_get b o ≡ None → set_cell c o b ≡ b
set_cell-past c o [] e = refl
set_cell-past c zero (t ∷ b) e = let f : Some t ≡ None = e in absurd (cc)
set_cell-past c (suc o) (t ∷ b) e = ap (λ r. t ∷ r) (set_cell-past c o b e)

block_with : (name : ℕ) (x : Option (pool.Block Slot)) → name_in x ≡ Some name → x ≡ Some (record { name = name; cells = cells_in x })
block_with name None e = let f : None ≡ Some name = e in absurd (cc)
block_with name (Some b) e = let f : b.name ≡ name = cc in ap (λ n. Some (record { name = n; cells = b.cells })) f

pub block_named : (r : pool.Region Slot) (s m : ℕ) → name_at r s ≡ Some m → pool.block_of r s m ≡ Some (record { name = m; cells = cells_at r s })
block_named r s m e =
    rw (block_with m (get_or r.blocks s free) e, eq-eqb m m refl) refl

-- the cell at an offset of the block with its name
pub cell_named : (r : pool.Region Slot) (s m o : ℕ) → name_at r s ≡ Some m → pool.cell_of r s m o ≡ slice_get (cells_at r s) o
cell_named r s m o e = ap (pool.cell_in o) (block_named r s m e)

pub cell_put : (r : pool.Region Slot) (s m o : ℕ) (c : Cell) (t : Slot) → name_at r s ≡ Some m → pool.cell_of r s m o ≡ Some t
    → pool.with_cell r s m o (record t { cell = c }) ≡ pool.with_block r s (Some (record { name = m; cells = set_cell c o (cells_at r s) }))
cell_put r s m o c t e f =
    cond-true (is_some (pool.cell_of r s m o)) (pool.with_block r s (pool.with_cell_in o (record t { cell = c }) (pool.block_of r s m))) r (rw f refl)
    ∙ rw (block_named r s m e) (ap (λ cells. pool.with_block r s (Some (record { name = m; cells = cells }))) (set_cell-set c o (cells_at r s) t (sym (cell_named r s m o e) ∙ f)))

-- ---- chunks

pub same_chunks : (n : ℕ) → chunks_for n ≡ pool.chunks_of n
same_chunks n = let t = div_ceil_times n 16 (omega arith) in ap (λ k. max 1 k) (let e : (n + 15) / 16 ≡ div_ceil n 16 = omega arith in e)

chunks_in-cells : (x : Option (pool.Block Slot)) (m : ℕ) → name_in x ≡ Some m → pool.chunks_in x ≡ chunks_of (cells_in x)
chunks_in-cells None m e = let f : None ≡ Some m = e in absurd (cc)
chunks_in-cells (Some b) m e = sym (same_chunks (length b.cells))

-- a block where none was
pub chunks_taken : (r : pool.Region Slot) (s name : ℕ) (cells : Block) → s < length r.blocks → get_or r.blocks s free ≡ None
    → pool.live_chunks (pool.with_block r s (Some (record { name = name; cells = cells }))) ≡ pool.live_chunks r + chunks_of cells
chunks_taken r s name cells l e =
    let w = sum_by-set pool.chunks_in r.blocks s (Some (record { name = name; cells = cells })) free l in
    let z : pool.chunks_in (get_or r.blocks s free) ≡ 0 = ap pool.chunks_in e in
    let c : chunks_of cells ≡ pool.chunks_of (length cells) = same_chunks (length cells) in
    omega (arith, w, z, c)

-- a block that is given back
pub chunks_given : (r : pool.Region Slot) (s m : ℕ) → name_at r s ≡ Some m → pool.live_chunks (pool.with_block r s free) + chunks_of (cells_at r s) ≡ pool.live_chunks r
chunks_given r s m e =
    let w = sum_by-set pool.chunks_in r.blocks s free free (named_within r s m e) in
    let c : pool.chunks_in (get_or r.blocks s free) ≡ chunks_of (cells_at r s) = chunks_in-cells (get_or r.blocks s free) m e in
    omega (arith, w, c)

-- a block with as many cells
pub chunks_stay : (r : pool.Region Slot) (s m name : ℕ) (cells : Block) → name_at r s ≡ Some m → length cells ≡ length (cells_at r s)
    → pool.live_chunks (pool.with_block r s (Some (record { name = name; cells = cells }))) ≡ pool.live_chunks r
chunks_stay r s m name cells e f =
    let w = sum_by-set pool.chunks_in r.blocks s (Some (record { name = name; cells = cells })) free (named_within r s m e) in
    let c : pool.chunks_in (get_or r.blocks s free) ≡ chunks_of (cells_at r s) = chunks_in-cells (get_or r.blocks s free) m e in
    let d : chunks_of (cells_at r s) ≡ pool.chunks_of (length cells) = same_chunks (length (cells_at r s)) ∙ ap pool.chunks_of (sym f) in
    omega (arith, w, c, d)

pub chunks_some : (b : Block) → 1 ≤ chunks_of b
chunks_some b = omega arith
