-- `malloc` and `free` keep types: a new block's cells hold nothing, and its pointer is an address.
use Rattle.std.proofs.Common.{◌≡◌, ℕ, zero, suc, ◌+◌, ◌*◌, ◌≤◌, ◌<◌, ◌^◌, Bool, true, false, List, [], ◌∷◌, length, Option, Some, None, refl, ap, ◌∙◌, arith, length-append}
use Rattle.std.proofs.lemmas.Bool.{leb-true}
use Rattle.step_meaning.specs.declared.value.CType.{CType}
use Rattle.step_meaning.specs.declared.value.Value.{Value}
use Rattle.step_meaning.specs.declared.value.Value.TheVariants as value
use Rattle.step_meaning.specs.declared.value.RunFault.TheVariants as fault
use Rattle.step_meaning.specs.declared.value.Action.TheVariants as act
use Rattle.step_meaning.specs.declared.program.Core.{Core}
use Rattle.step_meaning.specs.declared.program.Layout.{Layout}
use Rattle.step_meaning.specs.Numbers.{low_bits}
use Rattle.step_meaning.specs.Names.{integer}
use Rattle.step_meaning.specs.Types.{times, object_cells}
use Rattle.step_meaning.specs.TypeRules.{cells}
use Rattle.step_meaning.specs.Memory.{Memory, Block, unset_cells, freed}
use Rattle.step_meaning.specs.State.{Here, Registers}
use Rattle.step_meaning.specs.Flow.{direct, World}
use Rattle.step_meaning.specs.Allocation as al
use Rattle.step_meaning.specs.Allocation.{is_block_size, block_where, block_for, block_pointer}
use Rattle.step_meaning.specs.Traced.{SlotTyped}
use Rattle.step_meaning.proofs.Ranges.{right_of_and}
use Rattle.step_meaning.proofs.TypedMemory.{Each, WhereSome, BlockFits, Shape, MemoryFits, HeapFalls, block_begins, freed_fits, freed_falls}
use Rattle.step_meaning.proofs.StepsFit.{IsAddress, global_cells}
use Rattle.step_meaning.proofs.Kept.{RegistersFit, Fits, GivesFit, Keeps, Always, step_fits, keeps_pure, keeps_bind, keeps_emit}

-- ---- new blocks

pub times_length : (n : ℕ) (ts : List CType) → length (times n ts) ≡ n * length ts
times_length zero ts = omega arith
times_length (suc n) ts = length-append ts (times n ts) ∙ ap (λ k. length ts + k) (times_length n ts) ∙ grind arith

unset_slots : (ts : List CType) → Each SlotTyped (unset_cells ts)
unset_slots [] = tt
unset_slots (t ∷ ts) = (tt, unset_slots ts)

pub unset_length : (ts : List CType) → length (unset_cells ts) ≡ length ts
unset_length [] = refl
unset_length (t ∷ ts) = ap suc (unset_length ts)

few : (n : ℕ) → n ≤ 65536 → n < 2 ^ 32
few n l = omega arith

-- a new block has so many cells, a cell or more and at most 65,536
pub new_block_fits : (layouts : List Layout) (t : CType) (count : ℕ) → WhereSome BlockFits (block_for layouts t count)
new_block_fits layouts t count = by (is_block_size (count * cells layouts t)) refl
  where
    by : (c : Bool) → is_block_size (count * cells layouts t) ≡ c → WhereSome BlockFits (block_where c count (object_cells layouts t))
    by true e =
        let most : count * cells layouts t ≤ 65536 = leb-true (count * cells layouts t) 65536 (right_of_and _ _ e) in
        (unset_slots (times count (object_cells layouts t)), rw (unset_length (times count (object_cells layouts t)), times_length count (object_cells layouts t)) (few (count * cells layouts t) most))
    by false e = tt

-- ---- `malloc` and `free`

keeps_release_to : (here : Here) (q : Core) (frames : List Shape) (registers : List CType) (x : Option Memory) (w : World) (r : Registers) → WhereSome (MemoryFits (global_cells q) frames) x → WhereSome (λ y. HeapFalls y w.allocated) x → Fits q frames w → RegistersFit registers r → GivesFit q frames registers Always (al.release_to direct here x w r)
keeps_release_to here q frames registers None w r f g m k = (refl, (step_fits q frames here (act.Halt fault.BadFree) w m tt, m.1))
keeps_release_to here q frames registers (Some x) w r f g m k = (tt, (f, m.1, g), k)

module _ {q : Core} {frames : List Shape} {registers : List CType} (here : Here) where
  keeps_allocate_block : (count : ℕ) (b : Option Block) → WhereSome BlockFits b → Keeps q frames registers IsAddress (al.allocate_block direct here count b)
  keeps_allocate_block count None h = keeps_bind (keeps_emit here (act.Malloc count value.Null 0) (λ fs. tt)) (λ u k. keeps_pure value.Null tt)
  keeps_allocate_block count (Some b) h = record {
    by = λ w r m k. ((omega arith, refl), (block_begins m.0 w.allocated b h, (step_fits q frames here (act.Malloc count (block_pointer w.allocated) (length b)) w m (omega arith, refl), m.1), (omega arith, m.2)), k);
  }

  pub keeps_allocate : (layouts : List Layout) (t : CType) (v : Value) → Keeps q frames registers IsAddress (al.allocate direct here layouts t v)
  keeps_allocate layouts t v = keeps_allocate_block (low_bits 64 (integer v)) (block_for layouts t (low_bits 64 (integer v))) (new_block_fits layouts t (low_bits 64 (integer v)))

  pub keeps_release : (p : Value) → IsAddress p → Keeps q frames registers Always (al.release direct here p)
  keeps_release p h = keeps_bind (keeps_emit here (act.Free p) (λ fs. h)) (λ u l. record { by = λ w r m k. keeps_release_to here q frames registers (freed w.memory p) w r (freed_fits m.0 p) (freed_falls w.memory p w.allocated m.2) m k })
