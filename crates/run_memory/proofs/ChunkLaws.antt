-- The chunks of the memory are those of the region, and no list is longer than its chunks.
use Rattle.std.proofs.Common.{◌≡◌, ℕ, ◌≤◌, List, [], ◌∷◌, length, take, drop, reverse, refl, sym, subst, ◌∙◌, arith}
use Rattle.std.specs.List.{sum_by}
use Rattle.std.proofs.lemmas.List.{nil_from_length, length-take-le, length-map}
use Rattle.std.proofs.lemmas.List.Sums.{sum_by-cons, sum_by_push, sum_by-take-drop}
use Rattle.step_meaning.specs.Memory.{Slot, Block}
use Rattle.step_meaning.specs.Limits.{chunks, chunks_of, frame_chunks, heap_chunks}
use Rattle.cell_pool.specs.Region as pool
use Rattle.run_memory.specs.View.{blocks_at, frames_of, heap_of, AreOpen, memory_of}
use Rattle.run_memory.specs.Inside.{chunks_at, IsStore}

frames_chunks : (m : ℕ) (ns bs : List ℕ) (d : List Block) → AreOpen m (length d) ns bs → sum_by frame_chunks (frames_of ns bs d) ≡ sum_by chunks_of d
frames_chunks m [] [] d o = let e : d ≡ [] = nil_from_length d o in rw e refl
frames_chunks m [] (b ∷ bs) d o = absurd o
frames_chunks m (n ∷ ns) [] d o = absurd o
frames_chunks m (n ∷ ns) (b ∷ bs) d o =
    let l : length (take b d) ≡ b = length-take-le b d o.1 in
    let w = frames_chunks n ns bs (take b d) (subst (λ k. AreOpen n k ns bs) (sym l) o.2) in
    let c = sum_by-cons frame_chunks (record { activation = n; locals = drop b d }) (frames_of ns bs (take b d)) in
    let t = sum_by-take-drop chunks_of d b in
    omega (arith, w, c, t)

heaps_chunks : (ns : List ℕ) (bs : List Block) → length ns ≡ length bs → sum_by heap_chunks (heap_of ns bs) ≡ sum_by chunks_of bs
heaps_chunks [] [] e = refl
heaps_chunks [] (b ∷ bs) e = absurd (omega arith)
heaps_chunks (n ∷ ns) [] e = absurd (omega arith)
heaps_chunks (n ∷ ns) (b ∷ bs) e =
    let w = heaps_chunks ns bs (omega arith) in
    let p = sum_by_push heap_chunks (heap_of ns bs) (record { number = n; cells = b }) in
    let c = sum_by-cons chunks_of b bs in
    omega (arith, w, p, c)

pub chunks_are : (r : pool.Region Slot) (globals named locals activations starts numbers heap : List ℕ) → IsStore r globals named locals activations starts numbers heap
    → chunks (memory_of r globals locals activations starts numbers heap) ≡ pool.live_chunks r
chunks_are r globals named locals activations starts numbers heap st =
    let l = length-map locals (Rattle.run_memory.specs.View.cells_at r) in
    let f = frames_chunks 1099511627776 (reverse activations) (reverse starts) (blocks_at r locals) (subst (λ k. AreOpen 1099511627776 k (reverse activations) (reverse starts)) (sym l) st.opened) in
    let h = heaps_chunks numbers (blocks_at r heap) (st.as_many_numbers ∙ sym (length-map heap (Rattle.run_memory.specs.View.cells_at r))) in
    omega (arith, f, h, st.counted)

-- each block has a chunk or more
pub as_many_chunks : (r : pool.Region Slot) (slots : List ℕ) → length slots ≤ chunks_at r slots
as_many_chunks r [] = omega arith
as_many_chunks r (s ∷ slots) =
    let w = as_many_chunks r slots in
    let c = sum_by-cons chunks_of (Rattle.run_memory.specs.View.cells_at r s) (blocks_at r slots) in
    let k = Rattle.run_memory.proofs.RegionLaws.chunks_some (Rattle.run_memory.specs.View.cells_at r s) in
    omega (arith, w, c, k)
