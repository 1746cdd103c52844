-- Cells that are written one after the other.
use Rattle.std.specs.Prelude.{ℕ, suc, List, [], ◌∷◌, Option, Some, None}
use Rattle.step_meaning.specs.Memory.{Slot, Block, set_cell}
use Rattle.step_meaning.specs.declared.value.Cell.{Cell}
use Rattle.cell_pool.specs.Region.{Region, cell_of, with_cell}

-- these cells from an offset on of the block with the slot and name
abbrev pub written_from : Region Slot → ℕ → ℕ → ℕ → List Slot → Region Slot
written_from r slot name offset [] = r
written_from r slot name offset (c ∷ cs) = written_from (with_cell r slot name offset c) slot name (suc offset) cs

-- another value in a cell, whose type stays, where there is such a cell
abbrev pub with_held_in : Region Slot → ℕ → ℕ → ℕ → Cell → Option Slot → Region Slot
with_held_in r slot name offset c None = r
with_held_in r slot name offset c (Some s) = with_cell r slot name offset (record { declared = s.declared; cell = c })

abbrev pub with_held : Region Slot → ℕ → ℕ → ℕ → Cell → Region Slot
with_held r slot name offset c = with_held_in r slot name offset c (cell_of r slot name offset)

-- a block with something in its first cell, if it is to have something
abbrev pub first_cells : Block → Option Cell → Block
first_cells b None = b
first_cells b (Some c) = set_cell c 0 b
