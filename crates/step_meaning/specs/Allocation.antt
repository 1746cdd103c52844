-- `malloc` and `free` as parts of a run (C11 7.22.3.3, 7.22.3.4). Each is a step of the caller, in the memory before its effect: that of a Malloc step lacks the new block, that of a Free step still has it.
use Rattle.std.specs.Prelude.{ℕ, suc, ◌*◌, Bool, true, false, ◌&&◌, nat_le, pos, List, length, Option, Some, None}
use Rattle.step_meaning.specs.declared.value.CType.{CType}
use Rattle.step_meaning.specs.declared.value.Value.{Value}
use Rattle.step_meaning.specs.declared.value.Value.TheVariants as value
use Rattle.step_meaning.specs.declared.value.RunFault.TheVariants as fault
use Rattle.step_meaning.specs.declared.value.Action.TheVariants as act
use Rattle.step_meaning.specs.declared.program.Layout.{Layout}
use Rattle.step_meaning.specs.Numbers.{low_bits}
use Rattle.step_meaning.specs.Names.{integer, heap_name}
use Rattle.step_meaning.specs.Types.{times, object_cells}
use Rattle.step_meaning.specs.TypeRules.{cells, most_cells}
use Rattle.step_meaning.specs.Memory.{Memory, Block, unset_cells, with_block, freed}
use Rattle.step_meaning.specs.State.{Here}
use Rattle.step_meaning.specs.Flow.{Flow}

-- ---- the block that `malloc` makes

-- a block has a cell or more, and at most 65,536
abbrev pub is_block_size : ℕ → Bool
is_block_size n = nat_le 1 n && nat_le n most_cells

abbrev pub block_where : Bool → ℕ → List CType → Option Block
block_where true count ts = Some (unset_cells (times count ts))
block_where false count ts = None

-- a block for so many objects of the type, whose cells hold nothing; none where it would have no cell or too many
abbrev pub block_for : List Layout → CType → ℕ → Option Block
block_for layouts t count = block_where (is_block_size (count * cells layouts t)) count (object_cells layouts t)

-- the beginning of the heap block with this number
abbrev pub block_pointer : ℕ → Value
block_pointer n = value.Pointer (heap_name n) 0

module _ (F : Flow) where
  -- ---- `malloc`

  abbrev pub allocate_block : Here → ℕ → Option Block → F.Does Value
  allocate_block here count None = F.bind (F.emit here (act.Malloc count value.Null 0)) (λ u. F.pure value.Null)
  allocate_block here count (Some b) =
      F.bind F.get (λ s.
      F.bind (F.emit here (act.Malloc count (block_pointer s.allocated) (length b))) (λ u.
      F.bind (F.put_memory (with_block s.allocated b s.memory)) (λ u.
      F.bind (F.put_allocated (suc s.allocated)) (λ u.
      F.pure (block_pointer s.allocated)))))

  -- the count of objects is an `unsigned long`
  abbrev pub allocate : Here → List Layout → CType → Value → F.Does Value
  allocate here layouts t v =
      let count = low_bits 64 (integer v) in
      allocate_block here count (block_for layouts t count)

  -- ---- `free`, which has no value

  abbrev pub release_to : Here → Option Memory → F.Does Value
  release_to here None = F.halt here fault.BadFree
  release_to here (Some memory) = F.bind (F.put_memory memory) (λ u. F.pure (value.Int (pos 0)))

  abbrev pub release : Here → Value → F.Does Value
  release here p = F.bind (F.emit here (act.Free p)) (λ u. F.bind F.get (λ s. release_to here (freed s.memory p)))
