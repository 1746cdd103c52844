-- A local that begins or ends in the innermost activation.
use Rattle.std.proofs.Common.{◌≡◌, ℕ, suc, ◌-◌, ◌<◌, ◌≤◌, List, [], ◌∷◌, ◌++◌, length, drop, get_or, reverse, Option, Some, None, refl, sym, ap, ◌∙◌, inl, inr, arith, length-append}
use Rattle.std.specs.List.{sum_by}
use Rattle.std.proofs.lemmas.Bool.{cases_lt}
use Rattle.std.proofs.lemmas.List.{map_push, get_or_append_left, get_or_push, take-append-le, drop-append-le, take_at, length-drop}
use Rattle.std.proofs.lemmas.List.Sums.{sum_by_push}
use Rattle.step_meaning.specs.declared.value.NameKind.TheVariants as names
use Rattle.step_meaning.specs.Memory.{Slot, Block}
use Rattle.step_meaning.specs.Limits.{chunks_of}
use Rattle.cell_pool.specs.Region as pool
use Rattle.run_memory.specs.Numbering.{name_number}
use Rattle.run_memory.specs.View.{cells_at, name_in, name_at, blocks_at, local_at, AreOpen, memory_of}
use Rattle.run_memory.specs.Inside.{global_at, heap_at, IsStore}
use Rattle.run_memory.specs.Storage.{with_local, with_locals}
use Rattle.run_memory.proofs.FrameLaws.{locals_rise}
use Rattle.run_memory.proofs.RegionLaws.{Apart, free, apart_blocks, held_apart, free_apart, named_apart, chunks_taken, chunks_given}
use Rattle.run_memory.proofs.StoreLaws.{global_range, local_range, heap_range, blocks_length}
use Rattle.run_memory.proofs.FrameSteps.{local_from, taken_blocks, taken_push, taken_held}

-- ---- a local begins

module _ (r : pool.Region Slot) (globals named locals activations starts numbers heap : List ℕ) (a b : ℕ) (ns bs : List ℕ)
    (e : reverse activations ≡ a ∷ ns) (f : reverse starts ≡ b ∷ bs) (st : IsStore r globals named locals activations starts numbers heap)
    (s name : ℕ) (x : Block) (clear : get_or r.blocks s free ≡ None) (within : s < length r.blocks) (is : name ≡ name_number names.Local a (length locals - b)) where
  abbrev r' : pool.Region Slot
  r' = pool.with_block r s (Some (record { name = name; cells = x }))

  unnamed : name_at r s ≡ None
  unnamed = ap name_in clear

  top : AreOpen 1099511627776 (length locals) (a ∷ ns) (b ∷ bs)
  top = rw (e, f) at st.opened

  pub pushed_frames : memory_of r' globals (locals ++ s ∷ []) activations starts numbers heap ≡ with_local x (memory_of r globals locals activations starts numbers heap)
  pushed_frames =
      let g = blocks_length r locals in
      rw (
        taken_blocks r globals named locals activations starts numbers heap s name x globals global_at st.globals_held unnamed,
        taken_blocks r globals named locals activations starts numbers heap s name x heap (heap_at numbers) st.heap_held unnamed,
        taken_push r globals named locals activations starts numbers heap s name x locals (local_at (reverse activations) (reverse starts)) st.locals_held unnamed within,
        e,
        f,
        drop-append-le b (blocks_at r locals) (x ∷ []) (omega (arith, top.1, g)),
        take-append-le b (blocks_at r locals) (x ∷ []) (omega (arith, top.1, g)),
      ) refl

  pub pushed_store : length locals < 4194304 → IsStore r' globals (named ++ name ∷ []) (locals ++ s ∷ []) activations starts numbers heap
  pushed_store room =
      let x' : Option (pool.Block Slot) = Some (record { name = name; cells = x }) in
      let n = length-append locals (s ∷ []) in
      let m = length-append named (name ∷ []) in
      let last : local_at (reverse activations) (reverse starts) (length locals) ≡ name = rw (e, f) (local_from a b ns bs (length locals) (omega (arith, top.1)) ∙ sym is) in
      let g1 = taken_blocks r globals named locals activations starts numbers heap s name x globals global_at st.globals_held unnamed in
      let g2 = taken_blocks r globals named locals activations starts numbers heap s name x heap (heap_at numbers) st.heap_held unnamed in
      let g3 = taken_push r globals named locals activations starts numbers heap s name x locals (local_at (reverse activations) (reverse starts)) st.locals_held unnamed within in
      record {
        globals_held = held_apart r global_at globals s x' (free_apart r global_at globals s st.globals_held unnamed) st.globals_held;
        few_globals = st.few_globals;
        locals_held = taken_held r globals named locals activations starts numbers heap s name x locals (local_at (reverse activations) (reverse starts)) (local_at (reverse activations) (reverse starts)) st.locals_held unnamed within (λ k p. refl) last;
        few_locals = omega arith;
        as_many_names = omega (arith, n, m, st.as_many_names);
        locals_named = λ k p.
            elim (cases_lt k (length locals)) [
              | inl q ↦ get_or_append_left named (name ∷ []) 0 k (omega (arith, q, st.as_many_names)) ∙ st.locals_named k q
              | inr q ↦
                  let k_is : length locals ≡ k = omega arith in
                  get_or_push named name 0 k (st.as_many_names ∙ k_is) ∙ sym last ∙ ap (local_at (reverse activations) (reverse starts)) k_is
            ];
        opened = rw (e, f) (top.0, omega (arith, top.1, n), top.2);
        heap_held = held_apart r (heap_at numbers) heap s x' (free_apart r (heap_at numbers) heap s st.heap_held unnamed) st.heap_held;
        as_many_numbers = st.as_many_numbers;
        heap_rises = st.heap_rises;
        heap_below = st.heap_below;
        counted =
            let c1 = ap (sum_by chunks_of) g1 in
            let c2 = ap (sum_by chunks_of) g2 in
            let c3 = ap (sum_by chunks_of) g3 ∙ sum_by_push chunks_of (blocks_at r locals) x in
            let c4 = chunks_taken r s name x within clear in
            omega (arith, c1, c2, c3, c4, st.counted);
      }

-- ---- a local ends

module _ (r : pool.Region Slot) (globals named locals activations starts numbers heap : List ℕ) (a b : ℕ) (ns bs : List ℕ)
    (e : reverse activations ≡ a ∷ ns) (f : reverse starts ≡ b ∷ bs) (s m : ℕ) (st : IsStore r globals (named ++ m ∷ []) (locals ++ s ∷ []) activations starts numbers heap) (some : b ≤ length locals) where
  abbrev q' : pool.Region Slot
  q' = pool.with_block r s free

  abbrev number : ℕ → ℕ
  number k = local_at (reverse activations) (reverse starts) k

  long : length (locals ++ s ∷ []) ≡ suc (length locals)
  long = let n = length-append locals (s ∷ []) in omega arith

  -- the name of the block
  pub last_name : name_at r s ≡ Some (number (length locals))
  last_name = ap (name_at r) (sym (get_or_push locals s 0 (length locals) refl)) ∙ st.locals_held.named (length locals) (omega (arith, long))

  pub last_number : m ≡ number (length locals)
  last_number =
      let w : length (named ++ m ∷ []) ≡ length (locals ++ s ∷ []) = st.as_many_names in
      let n = length-append named (m ∷ []) in
      sym (get_or_push named m 0 (length locals) (let z : length named ≡ length locals = omega (arith, long, w, n) in z)) ∙ st.locals_named (length locals) (omega (arith, long))

  front : (k : ℕ) → k < length locals → get_or (locals ++ s ∷ []) k 0 ≡ get_or locals k 0
  front k h = get_or_append_left locals (s ∷ []) 0 k h

  locals_apart : Apart locals s
  locals_apart k h same =
      let here : name_at r s ≡ Some (number k) = ap (name_at r) (sym same ∙ sym (front k h)) ∙ st.locals_held.named k (omega (arith, long)) in
      let two : Some (number k) ≡ Some (number (length locals)) = sym here ∙ last_name in
      let one : number k ≡ number (length locals) = cc in
      let v = locals_rise 1099511627776 (length (locals ++ s ∷ [])) (reverse activations) (reverse starts) k (length locals) st.opened st.few_locals h (omega (arith, long)) in
      omega (arith, v, one)

  range : (9223372036854775808 ≤ number (length locals)) × (number (length locals) < 13835058055282163712)
  range = local_range 1099511627776 (length (locals ++ s ∷ [])) (reverse activations) (reverse starts) (length locals) st.opened st.few_locals (omega arith) (omega (arith, long))

  globals_apart : Apart globals s
  globals_apart = named_apart r global_at globals s (number (length locals)) st.globals_held last_name (λ k h same. let w = global_range k (omega (arith, h, st.few_globals)) in omega (arith, w.1, same, range.0))

  heap_apart : Apart heap s
  heap_apart = named_apart r (heap_at numbers) heap s (number (length locals)) st.heap_held last_name (λ k h same. let w = heap_range (get_or numbers k 0) in omega (arith, w, same, range.1))

  pub dropped_frames : memory_of q' globals locals activations starts numbers heap ≡ with_locals (length locals - b) (memory_of r globals (locals ++ s ∷ []) activations starts numbers heap)
  dropped_frames =
      let g = blocks_length r locals in
      let d = length-drop b (blocks_at r locals) in
      rw (
        apart_blocks r globals s free globals_apart,
        apart_blocks r locals s free locals_apart,
        apart_blocks r heap s free heap_apart,
        map_push (cells_at r) locals s,
        e,
        f,
        drop-append-le b (blocks_at r locals) (cells_at r s ∷ []) (omega (arith, some, g)),
        take-append-le b (blocks_at r locals) (cells_at r s ∷ []) (omega (arith, some, g)),
        take_at (drop b (blocks_at r locals)) (cells_at r s ∷ []) (length locals - b) (omega (arith, d, g)),
      ) refl

  pub dropped_store : IsStore q' globals named locals activations starts numbers heap
  dropped_store =
      let w : length (named ++ m ∷ []) ≡ length (locals ++ s ∷ []) = st.as_many_names in
      let n = length-append named (m ∷ []) in
      let top : AreOpen 1099511627776 (length (locals ++ s ∷ [])) (a ∷ ns) (b ∷ bs) = rw (e, f) at st.opened in
      record {
        globals_held = held_apart r global_at globals s free globals_apart st.globals_held;
        few_globals = st.few_globals;
        locals_held = held_apart r number locals s free locals_apart (record { named = λ k h. ap (name_at r) (sym (front k h)) ∙ st.locals_held.named k (omega (arith, long)) });
        few_locals = let z = st.few_locals in omega (arith, z, long);
        as_many_names = omega (arith, long, w, n);
        locals_named = λ k h. sym (get_or_append_left named (m ∷ []) 0 k (omega (arith, long, w, n, h))) ∙ st.locals_named k (omega (arith, long));
        opened = rw (e, f) (top.0, some, top.2);
        heap_held = held_apart r (heap_at numbers) heap s free heap_apart st.heap_held;
        as_many_numbers = st.as_many_numbers;
        heap_rises = st.heap_rises;
        heap_below = st.heap_below;
        counted =
            let c1 = ap (sum_by chunks_of) (apart_blocks r globals s free globals_apart) in
            let c2 = ap (sum_by chunks_of) (apart_blocks r heap s free heap_apart) in
            let c3 = ap (sum_by chunks_of) (apart_blocks r locals s free locals_apart) in
            let c4 = ap (sum_by chunks_of) (map_push (cells_at r) locals s) ∙ sum_by_push chunks_of (blocks_at r locals) (cells_at r s) in
            let c5 = chunks_given r s (number (length locals)) last_name in
            omega (arith, c1, c2, c3, c4, c5, st.counted);
      }
