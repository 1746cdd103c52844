-- A heap block that begins or ends.
use Rattle.std.proofs.Common.{◌≡◌, ℕ, zero, suc, ◌+◌, ◌<◌, List, [], ◌∷◌, ◌++◌, length, map, take, drop, get_or, reverse, Option, Some, None, refl, sym, ap, ◌∙◌, inl, inr, arith, length-append}
use Rattle.std.specs.List.{sum_by, remove}
use Rattle.std.proofs.lemmas.Bool.{cases_lt, cases_order}
use Rattle.std.proofs.lemmas.List.{map_push, get_or_append_left, get_or_push, length-map, take-map, drop-map, map-append}
use Rattle.std.proofs.lemmas.List.Sums.{sum_by_push, sum_by-remove}
use Rattle.std.proofs.lemmas.List.Edits.{length-remove, get_or-remove_below, get_or-remove_above}
use Rattle.step_meaning.specs.declared.value.NameKind.TheVariants as names
use Rattle.step_meaning.specs.Memory.{Slot, Block, HeapBlock, with_block as with_heap_block, without}
use Rattle.step_meaning.specs.Limits.{chunks_of}
use Rattle.cell_pool.specs.Region as pool
use Rattle.run_memory.specs.Numbering.{name_number}
use Rattle.run_memory.specs.View.{cells_at, name_in, name_at, blocks_at, heap_of, local_at, memory_of}
use Rattle.run_memory.specs.Inside.{global_at, heap_at, Rise, IsStore}
use Rattle.run_memory.specs.Storage.{IsNewerBlock}
use Rattle.run_memory.proofs.HeapLaws.{rise_push, rise_remove, rise_apart, heap_begun, heap_ended}
use Rattle.run_memory.proofs.RegionLaws.{Apart, free, apart_blocks, held_apart, free_apart, named_apart, chunks_taken, chunks_given}
use Rattle.run_memory.proofs.StoreLaws.{same_heap, global_range, local_range, heap_range, blocks_length, own_apart}
use Rattle.run_memory.proofs.FrameSteps.{taken_blocks, taken_push, taken_held}

-- ---- numbers

newer_front : (n : ℕ) (bs : List HeapBlock) (b : HeapBlock) → IsNewerBlock n (bs ++ b ∷ []) → IsNewerBlock n bs
newer_front n [] b h = tt
newer_front n (x ∷ bs) b h = h

pub all_newer : (n m : ℕ) (ns : List ℕ) (bs : List Block) → Rise m ns → length ns ≡ length bs → IsNewerBlock n (heap_of ns bs) → (k : ℕ) → k < length ns → get_or ns k 0 < n
all_newer n m [] bs r e h k q = absurd (omega arith)
all_newer n m (x ∷ ns) [] r e h k q = absurd (omega arith)
all_newer n m (x ∷ []) (b ∷ []) r e h zero q = h
all_newer n m (x ∷ []) (b ∷ []) r e h (suc k) q = absurd (omega arith)
all_newer n m (x ∷ []) (b ∷ c ∷ bs) r e h k q = absurd (omega arith)
all_newer n m (x ∷ y ∷ ns) (b ∷ bs) r e h zero q =
    let w : y < n = all_newer n (suc x) (y ∷ ns) bs r.1 (omega arith) (newer_front n (heap_of (y ∷ ns) bs) (record { number = x; cells = b }) h) 0 (omega arith) in
    omega (arith, w, r.1.0)
all_newer n m (x ∷ y ∷ ns) (b ∷ bs) r e h (suc k) q = all_newer n (suc x) (y ∷ ns) bs r.1 (omega arith) (newer_front n (heap_of (y ∷ ns) bs) (record { number = x; cells = b }) h) k (omega arith)

map_remove : (g : ℕ → Block) (xs : List ℕ) (k : ℕ) → map g (remove xs k) ≡ remove (map g xs) k
map_remove g xs k = map-append g (take k xs) (drop (suc k) xs) ∙ ap (λ t. t ++ map g (drop (suc k) xs)) (sym (take-map g k xs)) ∙ ap (λ t. take k (map g xs) ++ t) (sym (drop-map g (suc k) xs))

-- ---- a block begins

module _ (r : pool.Region Slot) (globals named locals activations starts numbers heap : List ℕ) (st : IsStore r globals named locals activations starts numbers heap)
    (s name n : ℕ) (x : Block) (clear : get_or r.blocks s free ≡ None) (within : s < length r.blocks) (is : name ≡ name_number names.Heap n 0) where
  abbrev r' : pool.Region Slot
  r' = pool.with_block r s (Some (record { name = name; cells = x }))

  unnamed : name_at r s ≡ None
  unnamed = ap name_in clear

  abbrev local_number : ℕ → ℕ
  local_number k = local_at (reverse activations) (reverse starts) k

  g1 : blocks_at r' globals ≡ blocks_at r globals
  g1 = taken_blocks r globals named locals activations starts numbers heap s name x globals global_at st.globals_held unnamed

  g2 : blocks_at r' locals ≡ blocks_at r locals
  g2 = taken_blocks r globals named locals activations starts numbers heap s name x locals local_number st.locals_held unnamed

  g3 : blocks_at r' (heap ++ s ∷ []) ≡ blocks_at r heap ++ x ∷ []
  g3 = taken_push r globals named locals activations starts numbers heap s name x heap (heap_at numbers) st.heap_held unnamed within

  pub taken_memory : memory_of r' globals locals activations starts (numbers ++ n ∷ []) (heap ++ s ∷ []) ≡ with_heap_block n x (memory_of r globals locals activations starts numbers heap)
  taken_memory = rw (g1, g2, g3, heap_begun numbers (blocks_at r heap) n x (st.as_many_numbers ∙ sym (blocks_length r heap))) refl

  pub taken_store : n < 1099511627776 → IsNewerBlock n (memory_of r globals locals activations starts numbers heap).heap → IsStore r' globals named locals activations starts (numbers ++ n ∷ []) (heap ++ s ∷ [])
  taken_store small newer =
      let x' : Option (pool.Block Slot) = Some (record { name = name; cells = x }) in
      let below = all_newer n 0 numbers (blocks_at r heap) st.heap_rises (st.as_many_numbers ∙ sym (blocks_length r heap)) newer in
      let l1 = length-append numbers (n ∷ []) in
      let l2 = length-append heap (s ∷ []) in
      record {
        globals_held = held_apart r global_at globals s x' (free_apart r global_at globals s st.globals_held unnamed) st.globals_held;
        few_globals = st.few_globals;
        locals_held = held_apart r local_number locals s x' (free_apart r local_number locals s st.locals_held unnamed) st.locals_held;
        few_locals = st.few_locals;
        as_many_names = st.as_many_names;
        locals_named = st.locals_named;
        opened = st.opened;
        heap_held =
            taken_held r globals named locals activations starts numbers heap s name x heap (heap_at numbers) (heap_at (numbers ++ n ∷ [])) st.heap_held unnamed within
            (λ k p. ap (λ j. name_number names.Heap j 0) (get_or_append_left numbers (n ∷ []) 0 k (omega (arith, p, st.as_many_numbers))))
            (ap (λ j. name_number names.Heap j 0) (get_or_push numbers n 0 (length heap) st.as_many_numbers) ∙ sym is);
        as_many_numbers = omega (arith, l1, l2, st.as_many_numbers);
        heap_rises = rise_push 0 numbers n st.heap_rises (omega arith) below;
        heap_below = λ k p.
            elim (cases_lt k (length numbers)) [
              | inl q ↦ rw (get_or_append_left numbers (n ∷ []) 0 k q) (st.heap_below k q)
              | inr q ↦ rw (get_or_push numbers n 0 k (let z : length numbers ≡ k = omega arith in z)) small
            ];
        counted =
            let c1 = ap (sum_by chunks_of) g1 in
            let c2 = ap (sum_by chunks_of) g2 in
            let c3 = ap (sum_by chunks_of) g3 ∙ sum_by_push chunks_of (blocks_at r heap) x in
            let c4 = chunks_taken r s name x within clear in
            omega (arith, c1, c2, c3, c4, st.counted);
      }

-- ---- a block ends

module _ (r : pool.Region Slot) (globals named locals activations starts numbers heap : List ℕ) (st : IsStore r globals named locals activations starts numbers heap)
    (k s : ℕ) (there : k < length heap) (at : get_or heap k 0 ≡ s) where
  abbrev q' : pool.Region Slot
  q' = pool.with_block r s free

  abbrev local_number' : ℕ → ℕ
  local_number' j = local_at (reverse activations) (reverse starts) j

  pub ended_name : name_at r s ≡ Some (heap_at numbers k)
  ended_name = ap (name_at r) (sym at) ∙ st.heap_held.named k there

  globals_apart : Apart globals s
  globals_apart = named_apart r global_at globals s (heap_at numbers k) st.globals_held ended_name (λ j h same. let w = global_range j (omega (arith, h, st.few_globals)) in let v = heap_range (get_or numbers k 0) in omega (arith, w.1, same, v))

  locals_apart : Apart locals s
  locals_apart =
      named_apart r local_number' locals s (heap_at numbers k) st.locals_held ended_name (λ j h same.
      let w = local_range 1099511627776 (length locals) (reverse activations) (reverse starts) j st.opened st.few_locals (omega arith) h in
      let v = heap_range (get_or numbers k 0) in
      omega (arith, w.1, same, v))

  differ : (i j : ℕ) → i < length numbers → j < length numbers → (i ≡ j → ⊥) → heap_at numbers i ≡ heap_at numbers j → ⊥
  differ i j p q d same =
      let e : get_or numbers i 0 ≡ get_or numbers j 0 = same_heap (get_or numbers i 0) (get_or numbers j 0) same in
      elim (cases_order i j) [
        | inl z ↦ d z
        | inr (inl z) ↦ let v = rise_apart 0 numbers i j st.heap_rises z q in omega (arith, v, e)
        | inr (inr z) ↦ let v = rise_apart 0 numbers j i st.heap_rises z p in omega (arith, v, e)
      ]

  others : (j : ℕ) → j < length heap → (j ≡ k → ⊥) → get_or heap j 0 ≡ s → ⊥
  others = own_apart r (heap_at numbers) heap k s st.heap_held there at (λ j q d same. differ j k (omega (arith, q, st.as_many_numbers)) (omega (arith, there, st.as_many_numbers)) d same)

  fewer : length (remove heap k) + 1 ≡ length heap
  fewer = length-remove heap k there

  heap_apart : Apart (remove heap k) s
  heap_apart j h same =
      elim (cases_lt j k) [
        | inl l ↦ others j (omega (arith, fewer, h)) (λ z. omega arith) (sym (get_or-remove_below heap k 0 j l there) ∙ same)
        | inr l ↦ others (j + 1) (omega (arith, fewer, h)) (λ z. omega arith) (sym (get_or-remove_above heap k 0 j l there) ∙ same)
      ]

  left : blocks_at q' (remove heap k) ≡ remove (blocks_at r heap) k
  left = apart_blocks r (remove heap k) s free heap_apart ∙ map_remove (cells_at r) heap k

  pub freed_memory : memory_of q' globals locals activations starts (remove numbers k) (remove heap k)
      ≡ record (memory_of r globals locals activations starts numbers heap) { heap = without (get_or numbers k 0) (memory_of r globals locals activations starts numbers heap).heap }
  freed_memory =
      rw (apart_blocks r globals s free globals_apart, apart_blocks r locals s free locals_apart, left, heap_ended 0 numbers (blocks_at r heap) k st.heap_rises (st.as_many_numbers ∙ sym (blocks_length r heap)) (omega (arith, there, st.as_many_numbers))) refl

  pub freed_store : IsStore q' globals named locals activations starts (remove numbers k) (remove heap k)
  freed_store =
      let n1 : length (remove numbers k) + 1 ≡ length numbers = length-remove numbers k (omega (arith, there, st.as_many_numbers)) in
      let in_numbers : k < length numbers = omega (arith, there, st.as_many_numbers) in
      record {
        globals_held = held_apart r global_at globals s free globals_apart st.globals_held;
        few_globals = st.few_globals;
        locals_held = held_apart r local_number' locals s free locals_apart st.locals_held;
        few_locals = st.few_locals;
        as_many_names = st.as_many_names;
        locals_named = st.locals_named;
        opened = st.opened;
        heap_held =
            held_apart r (heap_at (remove numbers k)) (remove heap k) s free heap_apart
            (record {
              named = λ j h.
                  elim (cases_lt j k) [
                    | inl l ↦
                        ap (name_at r) (get_or-remove_below heap k 0 j l there) ∙ st.heap_held.named j (omega (arith, fewer, h))
                        ∙ ap (λ i. Some (name_number names.Heap i 0)) (sym (get_or-remove_below numbers k 0 j l in_numbers))
                    | inr l ↦
                        ap (name_at r) (get_or-remove_above heap k 0 j l there) ∙ st.heap_held.named (j + 1) (omega (arith, fewer, h))
                        ∙ ap (λ i. Some (name_number names.Heap i 0)) (sym (get_or-remove_above numbers k 0 j l in_numbers))
                  ];
            });
        as_many_numbers = omega (arith, n1, fewer, st.as_many_numbers);
        heap_rises = rise_remove 0 numbers k st.heap_rises;
        heap_below = λ j h.
            elim (cases_lt j k) [
              | inl l ↦ rw (get_or-remove_below numbers k 0 j l in_numbers) (st.heap_below j (omega (arith, n1, h)))
              | inr l ↦ rw (get_or-remove_above numbers k 0 j l in_numbers) (st.heap_below (j + 1) (omega (arith, n1, h)))
            ];
        counted =
            let c1 = ap (sum_by chunks_of) (apart_blocks r globals s free globals_apart) in
            let c2 = ap (sum_by chunks_of) (apart_blocks r locals s free locals_apart) in
            let c3 = ap (sum_by chunks_of) left in
            let c4 = sum_by-remove chunks_of (blocks_at r heap) k (cells_at r s) (let z = blocks_length r heap in omega arith) in
            let c5 : get_or (blocks_at r heap) k (cells_at r s) ≡ cells_at r s = Rattle.std.proofs.lemmas.List.get_or-map (cells_at r) heap k 0 (cells_at r s) there ∙ ap (cells_at r) at in
            let c6 = chunks_given r s (heap_at numbers k) ended_name in
            let c7 = ap chunks_of c5 in
            omega (arith, c1, c2, c3, c4, c6, c7, st.counted);
      }
