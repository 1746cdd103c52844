-- The region as what its cells stand for: a change of it is seen as that change.
use Rattle.std.proofs.Common.{◌≡◌, ℕ, ◌+◌, List, [], ◌∷◌, length, map, get_or, Option, Some, None, refl, sym, ap, ◌∙◌, inl, inr, arith}
use Rattle.std.specs.Prelude.{slice_get, option_map}
use Rattle.std.specs.List.{sum_by}
use Rattle.std.specs.Option.{is_some}
use Rattle.std.proofs.lemmas.Bool.{cases_lt, cases_Bool, cond-true, cond-false}
use Rattle.std.proofs.lemmas.List.{map-set, get_or-map, get_or_past, length-map}
use Rattle.std.proofs.lemmas.Option.{slice_get-map}
use Rattle.std.proofs.lemmas.List.Sums.{sum_by-cons}
use Rattle.step_meaning.specs.Memory.{Slot}
use Rattle.cell_pool.specs.Region.{Block, Region, if_named, block_of, cell_in, cell_of, with_block, with_cell_in, with_cell, chunks_in, chunks_of, live_chunks}
use Rattle.run_memory.specs.declared.cell.PoolCell.{PoolCell}
use Rattle.run_memory.specs.Cells.{slot_of, seen_block, seen}

abbrev nothing : Option (Block PoolCell)
nothing = None

abbrev unseen : Option (Block Slot)
unseen = None

pub seen_with_block : (r : Region PoolCell) (s : ℕ) (x : Option (Block PoolCell)) → seen (with_block r s x) ≡ with_block (seen r) s (option_map seen_block x)
seen_with_block r s x = ap (λ bs. record { blank = slot_of r.blank; blocks = bs }) (map-set (option_map seen_block) r.blocks s x)

pub seen_at : (r : Region PoolCell) (s : ℕ) → get_or (seen r).blocks s unseen ≡ option_map seen_block (get_or r.blocks s nothing)
seen_at r s =
    elim (cases_lt s (length r.blocks)) [
      | inl l ↦ get_or-map (option_map seen_block) r.blocks s nothing unseen l
      | inr l ↦ get_or_past (seen r).blocks s unseen (let e = length-map r.blocks (option_map seen_block) in omega arith) ∙ ap (option_map seen_block) (sym (get_or_past r.blocks s nothing l))
    ]

seen-if_named : (name : ℕ) (x : Option (Block PoolCell)) → if_named name (option_map seen_block x) ≡ option_map seen_block (if_named name x)
seen-if_named name None = refl
seen-if_named name (Some b) =
    elim (cases_Bool (Rattle.std.specs.Prelude.nat_eq b.name name)) [
      | inl e ↦ rw e refl
      | inr e ↦ rw e refl
    ]

pub seen_block_of : (r : Region PoolCell) (s name : ℕ) → block_of (seen r) s name ≡ option_map seen_block (block_of r s name)
seen_block_of r s name = ap (if_named name) (seen_at r s) ∙ seen-if_named name (get_or r.blocks s nothing)

seen-cell_in : (o : ℕ) (x : Option (Block PoolCell)) → cell_in o (option_map seen_block x) ≡ option_map slot_of (cell_in o x)
seen-cell_in o None = refl
seen-cell_in o (Some b) = slice_get-map slot_of b.cells o

pub seen_cell_of : (r : Region PoolCell) (s name o : ℕ) → cell_of (seen r) s name o ≡ option_map slot_of (cell_of r s name o)
seen_cell_of r s name o = ap (cell_in o) (seen_block_of r s name) ∙ seen-cell_in o (block_of r s name)

some_seen : {A B : Type 0} (f : A → B) (x : Option A) → is_some (option_map f x) ≡ is_some x
some_seen f None = refl
some_seen f (Some a) = refl

seen-with_cell_in : (o : ℕ) (c : PoolCell) (x : Option (Block PoolCell)) → option_map seen_block (with_cell_in o c x) ≡ with_cell_in o (slot_of c) (option_map seen_block x)
seen-with_cell_in o c None = refl
seen-with_cell_in o c (Some b) = ap (λ cells. Some (record { name = b.name; cells = cells })) (map-set slot_of b.cells o c)

pub seen_with_cell : (r : Region PoolCell) (s name o : ℕ) (c : PoolCell) → seen (with_cell r s name o c) ≡ with_cell (seen r) s name o (slot_of c)
seen_with_cell r s name o c =
    elim (cases_Bool (is_some (cell_of r s name o))) [
      | inl e ↦
          ap seen (cond-true (is_some (cell_of r s name o)) (with_block r s (with_cell_in o c (block_of r s name))) r e)
          ∙ seen_with_block r s (with_cell_in o c (block_of r s name))
          ∙ ap (with_block (seen r) s) (seen-with_cell_in o c (block_of r s name) ∙ ap (with_cell_in o (slot_of c)) (sym (seen_block_of r s name)))
          ∙ sym (cond-true (is_some (cell_of (seen r) s name o)) (with_block (seen r) s (with_cell_in o (slot_of c) (block_of (seen r) s name))) (seen r) (there ∙ e))
      | inr e ↦
          ap seen (cond-false (is_some (cell_of r s name o)) (with_block r s (with_cell_in o c (block_of r s name))) r e)
          ∙ sym (cond-false (is_some (cell_of (seen r) s name o)) (with_block (seen r) s (with_cell_in o (slot_of c) (block_of (seen r) s name))) (seen r) (there ∙ e))
    ]
  where
    there : is_some (cell_of (seen r) s name o) ≡ is_some (cell_of r s name o)
    there = ap is_some (seen_cell_of r s name o) ∙ some_seen slot_of (cell_of r s name o)

-- ---- chunks

seen-chunks_in : (x : Option (Block PoolCell)) → chunks_in (option_map seen_block x) ≡ chunks_in x
seen-chunks_in None = refl
seen-chunks_in (Some b) = ap chunks_of (length-map b.cells slot_of)

seen-sum : (xs : List (Option (Block PoolCell))) → sum_by chunks_in (map (option_map seen_block) xs) ≡ sum_by chunks_in xs
seen-sum [] = refl
seen-sum (x ∷ xs) =
    sum_by-cons chunks_in (option_map seen_block x) (map (option_map seen_block) xs)
    ∙ ap (λ n. n + sum_by chunks_in (map (option_map seen_block) xs)) (seen-chunks_in x)
    ∙ ap (λ n. chunks_in x + n) (seen-sum xs)
    ∙ sym (sum_by-cons chunks_in x xs)

pub seen_live : (r : Region PoolCell) → live_chunks (seen r) ≡ live_chunks r
seen_live r = seen-sum r.blocks

pub seen_length : (r : Region PoolCell) → length (seen r).blocks ≡ length r.blocks
seen_length r = length-map r.blocks (option_map seen_block)

size_seen : (x : Option (Block PoolCell)) → option_map (λ (b : Block Slot). length b.cells) (option_map seen_block x) ≡ option_map (λ (b : Block PoolCell). length b.cells) x
size_seen None = refl
size_seen (Some b) = ap Some (length-map b.cells slot_of)

pub seen_size : (r : Region PoolCell) (s name : ℕ) → option_map (λ (b : Block Slot). length b.cells) (block_of (seen r) s name) ≡ option_map (λ (b : Block PoolCell). length b.cells) (block_of r s name)
seen_size r s name = ap (option_map (λ b. length b.cells)) (seen_block_of r s name) ∙ size_seen (block_of r s name)
