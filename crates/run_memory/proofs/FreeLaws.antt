-- Which pointers `free` takes, and what is left after it.
use Rattle.std.proofs.Common.{◌≡◌, ℕ, zero, suc, ◌<◌, ◌==◌, ◌&&◌, false, List, length, get_or, Some, None, refl, ap, ◌∙◌, inl, inr, arith}
use Rattle.std.specs.Option.{IsSome, is_some}
use Rattle.std.specs.List.{remove}
use Rattle.std.proofs.lemmas.Bool.{cases_eq, eq-eqb, ne_eqb}
use Rattle.step_meaning.specs.declared.value.NameKind.{NameKind}
use Rattle.step_meaning.specs.declared.value.NameKind.TheVariants as names
use Rattle.step_meaning.specs.declared.value.Name.{Name}
use Rattle.step_meaning.specs.declared.value.Value.TheVariants as value
use Rattle.step_meaning.specs.Names.{same_kind}
use Rattle.step_meaning.specs.Memory.{Slot, Memory, block_in, freed, without}
use Rattle.cell_pool.specs.Region as pool
use Rattle.run_memory.specs.declared.cell.PoolCell.{PoolCell}
use Rattle.run_memory.specs.Numbering.{name_number, IsNumbered}
use Rattle.run_memory.specs.Cells.{seen}
use Rattle.run_memory.specs.View.{name_at, blocks_at, memory_of}
use Rattle.run_memory.specs.Inside.{IsStore, heap_at}
use Rattle.run_memory.specs.Storage.{BeginsAt}
use Rattle.run_memory.proofs.HeapLaws.{heap_missing}
use Rattle.run_memory.proofs.RegionLaws.{free}
use Rattle.run_memory.proofs.Seeing.{seen_with_block}
use Rattle.run_memory.proofs.StoreLaws.{block_found}
use Rattle.run_memory.proofs.HeapSteps.{ended_name, freed_memory, freed_store}
use Rattle.run_memory.proofs.EndSteps.{live_from_seen}

module _ (r : pool.Region Slot) (g nm lo ac st nu he : List ℕ) (k : IsStore r g nm lo ac st nu he) where
  abbrev memory : Memory
  memory = memory_of r g lo ac st nu he

  pub free_none : (n : Name) (o : ℕ) → ((place : ℕ) → BeginsAt nu n o place → ⊥) → freed memory (value.Pointer n o) ≡ None
  free_none n o none = rw (by n.kind refl) refl
    where
      missing : (i : ℕ) → n.kind ≡ names.Heap → o ≡ 0 → n.index ≡ i → block_in memory names.Heap n.activation i ≡ None
      missing zero e f z = heap_missing nu (blocks_at r he) n.activation (λ place h is. none place (record { in_heap = e; first_index = z; first_cell = f; there = h; number_is = is }))
      missing (suc i) e f z = refl

      by : (kind : NameKind) → n.kind ≡ kind → (same_kind kind names.Heap && (o == 0 && is_some (block_in memory kind n.activation n.index))) ≡ false
      by names.Global e = refl
      by names.Local e = refl
      by names.Register e = refl
      by names.GhostGlobal e = refl
      by names.GhostLocal e = refl
      by names.Heap e =
          elim (cases_eq o 0) [
            | inl f ↦ rw (eq-eqb o 0 f, missing n.index e f refl) refl
            | inr f ↦ rw (ne_eqb o 0 f) refl
          ]

  pub free_some : (n : Name) (o place : ℕ) → BeginsAt nu n o place → freed memory (value.Pointer n o) ≡ Some (record memory { heap = without n.activation memory.heap })
  free_some n o place b =
      let found : block_in memory names.Heap n.activation n.index ≡ Some (Rattle.run_memory.specs.View.cells_at r (get_or he place 0)) =
      block_found r g nm lo ac st nu he names.Heap n.activation n.index (get_or he place 0) k (b.first_index, (place, b.there, b.number_is, refl)) in
      rw (b.in_heap, eq-eqb o 0 b.first_cell, found) refl

pub free_numbered : (r : pool.Region Slot) (g nm lo ac st nu he : List ℕ) → IsStore r g nm lo ac st nu he → (n : Name) (o place : ℕ) → BeginsAt nu n o place → IsNumbered n.kind n.activation n.index
free_numbered r g nm lo ac st nu he k n o place b =
    rw b.in_heap
    (record { in_memory = omega arith; activation_fits = let w = k.heap_below place b.there in omega (arith, w, b.number_is); index_fits = omega (arith, b.first_index) })

module _ (p : pool.Region PoolCell) (g nm lo ac st nu he : List ℕ) (k : IsStore (seen p) g nm lo ac st nu he) (n : Name) (o place s : ℕ) (b : BeginsAt nu n o place) (at : get_or he place 0 ≡ s) where
  pub place_within : place < length he
  place_within = omega (arith, b.there, k.as_many_numbers)

  number_is : heap_at nu place ≡ name_number n.kind n.activation n.index
  number_is = rw (b.number_is, b.in_heap, b.first_index) refl

  pub freed_live : IsSome (pool.block_of p s (name_number n.kind n.activation n.index))
  freed_live = live_from_seen p s (name_number n.kind n.activation n.index) (ended_name (seen p) g nm lo ac st nu he k place s place_within at ∙ ap Some number_is)

  pub freed_law : (p' : pool.Region PoolCell) → p' ≡ pool.with_block p s None
      → (memory_of (seen p') g lo ac st (remove nu place) (remove he place) ≡ record (memory_of (seen p) g lo ac st nu he) { heap = without n.activation (memory_of (seen p) g lo ac st nu he).heap })
      × IsStore (seen p') g nm lo ac st (remove nu place) (remove he place)
  freed_law p' e =
      let is : seen p' ≡ pool.with_block (seen p) s free = ap seen e ∙ seen_with_block p s None in (
        ap (λ q. memory_of q g lo ac st (remove nu place) (remove he place)) is
            ∙ freed_memory (seen p) g nm lo ac st nu he k place s place_within at
            ∙ ap (λ a. record (memory_of (seen p) g lo ac st nu he) { heap = without a (memory_of (seen p) g lo ac st nu he).heap }) b.number_is,
        rw is (freed_store (seen p) g nm lo ac st nu he k place s place_within at),
      )
