-- A block that is taken and gets the types of its cells.
use Rattle.std.proofs.Common.{◌≡◌, ℕ, ◌<◌, List, [], ◌∷◌, length, map, get_or, replicate, Option, Some, None, refl, sym, ap, ◌∙◌, arith}
use Rattle.std.specs.Prelude.{option_map}
use Rattle.std.proofs.lemmas.List.{length-map, length-replicate, append-nil}
use Rattle.step_meaning.specs.declared.value.CType.{CType}
use Rattle.step_meaning.specs.declared.value.Cell.{Cell}
use Rattle.step_meaning.specs.declared.value.Cell.TheVariants.{Holds}
use Rattle.step_meaning.specs.declared.value.Value.{Value}
use Rattle.step_meaning.specs.declared.program.Layout.{Layout}
use Rattle.step_meaning.specs.Memory.{Slot, Block, unset_cells, set_cell, filled}
use Rattle.step_meaning.specs.Types.{times, object_cells}
use Rattle.cell_pool.specs.Region as pool
use Rattle.run_memory.specs.declared.cell.PoolCell.{PoolCell}
use Rattle.run_memory.specs.Cells.{slot_of, seen, seen_block}
use Rattle.run_memory.specs.View.{cells_at}
use Rattle.run_memory.specs.Filling.{written_from, with_held, first_cells}
use Rattle.run_memory.specs.Storage.{first_local}
use Rattle.run_memory.proofs.RegionLaws.{free}
use Rattle.run_memory.proofs.Seeing.{seen_with_block, seen_at, seen_length}
use Rattle.run_memory.proofs.TypeCells.{unset_length, named_put, put_twice, written_whole}
use Rattle.run_memory.proofs.StoreReads.{held_put}

-- the region after the taking and the writing of all types
pub taken_filled : (p p' p'' : pool.Region PoolCell) (s name n : ℕ) (ts : List CType) → s < length p.blocks
    → p' ≡ pool.with_block p s (Some (record { name = name; cells = replicate n p.blank })) → length ts ≡ n
    → seen p'' ≡ written_from (seen p') s name 0 (unset_cells ts)
    → seen p'' ≡ pool.with_block (seen p) s (Some (record { name = name; cells = unset_cells ts }))
taken_filled p p' p'' s name n ts h e l w =
    let blank : Block = map slot_of (replicate n p.blank) in
    let long : s < length (seen p).blocks = let z = seen_length p in omega arith in
    let is : seen p' ≡ pool.with_block (seen p) s (Some (record { name = name; cells = blank })) = ap seen e ∙ seen_with_block p s (Some (record { name = name; cells = replicate n p.blank })) in
    let now = named_put (seen p) s name blank long in
    let same : length blank ≡ length (unset_cells ts) = length-map (replicate n p.blank) slot_of ∙ length-replicate n p.blank ∙ sym l ∙ sym (unset_length ts) in
    w
    ∙ ap (λ q. written_from q s name 0 (unset_cells ts)) is
    ∙ written_whole (pool.with_block (seen p) s (Some (record { name = name; cells = blank }))) s name [] blank (unset_cells ts) now.0 now.1 same
    ∙ put_twice (seen p) s (Some (record { name = name; cells = blank })) (Some (record { name = name; cells = unset_cells ts }))

pub clear_seen : (p : pool.Region PoolCell) (s : ℕ) → get_or p.blocks s None ≡ None → get_or (seen p).blocks s free ≡ None
clear_seen p s e = seen_at p s ∙ ap (option_map seen_block) e

-- with something in the first cell
pub first_put : (r r' r'' : pool.Region Slot) (s name : ℕ) (b : Block) (c : Cell) → s < length r.blocks → r' ≡ pool.with_block r s (Some (record { name = name; cells = b })) → r'' ≡ with_held r' s name 0 c
    → r'' ≡ pool.with_block r s (Some (record { name = name; cells = first_cells b (Some c) }))
first_put r r' r'' s name b c h e f =
    let now = named_put r s name b h in
    f ∙ ap (λ q. with_held q s name 0 c) e
    ∙ held_put (pool.with_block r s (Some (record { name = name; cells = b }))) s name 0 c now.0
    ∙ put_twice r s (Some (record { name = name; cells = b })) (Some (record { name = name; cells = set_cell c 0 (cells_at (pool.with_block r s (Some (record { name = name; cells = b }))) s) }))
    ∙ ap (λ d. pool.with_block r s (Some (record { name = name; cells = set_cell c 0 d }))) now.1

pub filled_none : (b : Block) → filled b [] ≡ b
filled_none [] = refl
filled_none (s ∷ b) = refl

filled_first : (b : Block) (v : Value) → filled b (v ∷ []) ≡ set_cell (Holds v) 0 b
filled_first [] v = refl
filled_first (s ∷ b) v = ap (λ r. record s { cell = Holds v } ∷ r) (filled_none b)

pub first_is : (layouts : List Layout) (t : CType) (argument : Option Value) → first_local layouts t argument ≡ first_cells (unset_cells (object_cells layouts t)) (option_map Holds argument)
first_is layouts t None = refl
first_is layouts t (Some v) = filled_first (unset_cells (object_cells layouts t)) v

pub once : (ts : List CType) → times 1 ts ≡ ts
once ts = append-nil ts
