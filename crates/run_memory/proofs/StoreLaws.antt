-- Which block a name means, and what a change of one block comes to in the memory.
use Rattle.std.proofs.Common.{◌≡◌, ◌⊎◌, ℕ, zero, suc, ◌+◌, ◌-◌, ◌<◌, ◌≤◌, List, [], ◌∷◌, length, take, drop, get_or, reverse, Option, Some, None, refl, sym, ap, ◌∙◌, inl, inr, arith}
use Rattle.std.specs.Prelude.{nat_le, slice_get, option_map}
use Rattle.std.proofs.lemmas.Bool.{cases_eq, cases_lt, cases_order, eq-eqb, ne_eqb, le-leb, lt-leb, cond-true, cond-false}
use Rattle.std.proofs.lemmas.List.{length-map, length-take, length-drop}
use Rattle.std.proofs.lemmas.List.Sums.{sum_by-cons}
use Rattle.std.proofs.lemmas.Option.{slice_get-get_or, slice_get_past, slice_get-map}
use Rattle.step_meaning.specs.declared.value.NameKind.{NameKind}
use Rattle.step_meaning.specs.declared.value.NameKind.TheVariants as names
use Rattle.step_meaning.specs.Memory.{Slot, Block, Memory, at_block, changed, block_in}
use Rattle.step_meaning.specs.Limits.{chunks_of}
use Rattle.cell_pool.specs.Region as pool
use Rattle.run_memory.specs.Numbering.{name_number, IsNumbered}
use Rattle.run_memory.specs.View.{cells_in, cells_at, name_in, name_at, blocks_at, frames_of, local_at, AreOpen, memory_of}
use Rattle.run_memory.specs.Inside.{Held, global_at, heap_at, LocatedIn, chunks_at, IsStore}
use Rattle.run_memory.proofs.FrameLaws.{local_block, local_found, local_missing, local_changed, locals_below, locals_rise}
use Rattle.run_memory.proofs.HeapLaws.{heap_found, heap_missing, heap_changed, rise_apart}
use Rattle.run_memory.proofs.RegionLaws.{Apart, other_cells, same_cells, apart_blocks, own_block, held_same, named_apart, named_within, chunks_stay}

-- ---- numbers of different kinds

pub global_range : (k : ℕ) → k < 4194304 → (4611686018427387904 ≤ global_at k) × (global_at k < 9223372036854775808)
unfolding name_number
global_range k h = (omega arith, omega arith)

local_least : (n i : ℕ) → 9223372036854775808 ≤ name_number names.Local n i
unfolding name_number
local_least n i = omega arith

local_most : (m : ℕ) → m ≤ 1099511627776 → name_number names.Local m 0 ≤ 13835058055282163712
unfolding name_number
local_most m h = omega arith

pub locals_from : (m l : ℕ) (ns bs : List ℕ) (k : ℕ) → AreOpen m l ns bs → k < l → 9223372036854775808 ≤ local_at ns bs k
locals_from m l [] [] k o h = let z : l ≡ 0 = o in absurd (omega arith)
locals_from m l [] (b ∷ bs) k o h = absurd o
locals_from m l (n ∷ ns) [] k o h = absurd o
locals_from m l (n ∷ ns) (b ∷ bs) k o h =
    elim (cases_lt k b) [
      | inl p ↦ rw (cond-false (nat_le b k) (name_number names.Local n (k - b)) (local_at ns bs k) (lt-leb b k p)) (locals_from n b ns bs k o.2 p)
      | inr p ↦ rw (cond-true (nat_le b k) (name_number names.Local n (k - b)) (local_at ns bs k) (le-leb b k p)) (local_least n (k - b))
    ]

pub local_range : (m l : ℕ) (ns bs : List ℕ) (k : ℕ) → AreOpen m l ns bs → l ≤ 4194304 → m ≤ 1099511627776 → k < l → (9223372036854775808 ≤ local_at ns bs k) × (local_at ns bs k < 13835058055282163712)
local_range m l ns bs k o s t h =
    let below : local_at ns bs k < name_number names.Local m 0 = locals_below m l ns bs k o s h in
    let most = local_most m t in
    (locals_from m l ns bs k o h, omega arith)

pub heap_range : (n : ℕ) → 13835058055282163712 ≤ name_number names.Heap n 0
unfolding name_number
heap_range n = omega arith

pub same_heap : (n m : ℕ) → name_number names.Heap n 0 ≡ name_number names.Heap m 0 → n ≡ m
unfolding name_number
same_heap n m e = omega arith

pub same_global : (i j : ℕ) → global_at i ≡ global_at j → i ≡ j
unfolding name_number
same_global i j e = omega arith

-- ---- lists of blocks

pub blocks_get : (r : pool.Region Slot) (slots : List ℕ) (k s : ℕ) → k < length slots → get_or slots k 0 ≡ s → slice_get (blocks_at r slots) k ≡ Some (cells_at r s)
blocks_get r slots k s h e = slice_get-map (cells_at r) slots k ∙ ap (option_map (cells_at r)) (slice_get-get_or slots k 0 h) ∙ ap (λ t. Some (cells_at r t)) e

pub blocks_length : (r : pool.Region Slot) (slots : List ℕ) → length (blocks_at r slots) ≡ length slots
blocks_length r slots = length-map slots (cells_at r)

pub blocks_past : (r : pool.Region Slot) (slots : List ℕ) (k : ℕ) → length slots ≤ k → slice_get (blocks_at r slots) k ≡ None
blocks_past r slots k h = slice_get_past (blocks_at r slots) k (let e = blocks_length r slots in omega arith)

-- the other slots of a list are other ones, where the names differ
pub own_apart : (r : pool.Region Slot) (numbers : ℕ → ℕ) (slots : List ℕ) (k s : ℕ) → Held r numbers slots → k < length slots → get_or slots k 0 ≡ s
    → ((j : ℕ) → j < length slots → (j ≡ k → ⊥) → numbers j ≡ numbers k → ⊥)
    → (j : ℕ) → j < length slots → (j ≡ k → ⊥) → get_or slots j 0 ≡ s → ⊥
own_apart r numbers slots k s held h e differ j q n same =
    let f : Some (numbers j) ≡ Some (numbers k) = sym (held.named j q) ∙ ap (λ t. name_at r t) (same ∙ sym e) ∙ held.named k h in
    let g : numbers j ≡ numbers k = cc in
    differ j q n g

-- ---- names that are out of range

local_none : (m l : ℕ) (ns bs : List ℕ) (d : List Block) (a i : ℕ) → AreOpen m l ns bs → m ≤ a → local_block a i (frames_of ns bs d) ≡ None
local_none m l [] bs d a i o h = refl
local_none m l (n ∷ ns) [] d a i o h = refl
local_none m l (n ∷ ns) (b ∷ bs) d a i o h = rw (ne_eqb n a (λ e. omega (arith, o.0, e))) (local_none n b ns bs (take b d) a i o.2 (omega (arith, o.0)))

local_past : (ns bs : List ℕ) (d : List Block) (a i : ℕ) → length d ≤ i → local_block a i (frames_of ns bs d) ≡ None
local_past [] bs d a i h = refl
local_past (n ∷ ns) [] d a i h = refl
local_past (n ∷ ns) (b ∷ bs) d a i h =
    elim (cases_eq n a) [
      | inl e ↦ rw (eq-eqb n a e) (slice_get_past (drop b d) i (let t = length-drop b d in omega arith))
      | inr e ↦ rw (ne_eqb n a e) (local_past ns bs (take b d) a i (let t = length-take b d in omega arith))
    ]

-- ---- a store

module _ (r : pool.Region Slot) (globals named locals activations starts numbers heap : List ℕ) where
  abbrev pub memory : Memory
  memory = memory_of r globals locals activations starts numbers heap

  abbrev pub Located : NameKind → ℕ → ℕ → ℕ → Type 0
  Located k a i s = LocatedIn globals named locals numbers heap k a i s

  abbrev local_number : ℕ → ℕ
  local_number k = local_at (reverse activations) (reverse starts) k

  pub located_name : (k : NameKind) (a i s : ℕ) → IsStore r globals named locals activations starts numbers heap → Located k a i s → (name_at r s ≡ Some (name_number k a i)) × IsNumbered k a i
  located_name names.Global a i s st l =
      let e : a ≡ 0 = l.0 in (
        ap (λ t. name_at r t) (sym l.2) ∙ st.globals_held.named i l.1 ∙ ap (λ b. Some (name_number names.Global b i)) (sym e),
        record { in_memory = omega arith; activation_fits = omega arith; index_fits = omega (arith, l.1, st.few_globals) },
      )
  located_name names.Local a i s st (p, q, (k, h, e, f)) = (
    ap (λ t. name_at r t) (sym f) ∙ st.locals_held.named k h ∙ ap Some (sym (st.locals_named k h) ∙ e),
    record { in_memory = omega arith; activation_fits = p; index_fits = q },
  )
  located_name names.Heap a i s st (z, (k, h, e, f)) = (
    ap (λ t. name_at r t) (sym f) ∙ st.heap_held.named k (omega (arith, h, st.as_many_numbers)) ∙ rw (e, z) refl,
    record { in_memory = omega arith; activation_fits = let w = st.heap_below k h in omega (arith, w, e); index_fits = omega (arith, z) },
  )
  located_name names.Register a i s st l = absurd l
  located_name names.GhostGlobal a i s st l = absurd l
  located_name names.GhostLocal a i s st l = absurd l

  pub located_within : (k : NameKind) (a i s : ℕ) → IsStore r globals named locals activations starts numbers heap → Located k a i s → s < length r.blocks
  located_within k a i s st l = named_within r s (name_number k a i) (located_name k a i s st l).0

  -- a located name means the block at its slot
  pub block_found : (k : NameKind) (a i s : ℕ) → IsStore r globals named locals activations starts numbers heap → Located k a i s → block_in memory k a i ≡ Some (cells_at r s)
  block_found names.Global a i s st l = let e : a ≡ 0 = l.0 in rw e (blocks_get r globals i s l.1 l.2)
  block_found names.Local a i s st (p, q, (k, h, e, f)) =
      local_found 1099511627776 (length locals) (reverse activations) (reverse starts) (blocks_at r locals) k a i st.opened st.few_locals h q (sym (st.locals_named k h) ∙ e)
      ∙ blocks_get r locals k s h f
  block_found names.Heap a i s st (z, (k, h, e, f)) =
      rw (z, ← e) (heap_found 0 numbers (blocks_at r heap) k st.heap_rises (st.as_many_numbers ∙ sym (blocks_length r heap)) h ∙ blocks_get r heap k s (omega (arith, h, st.as_many_numbers)) f)
  block_found names.Register a i s st l = absurd l
  block_found names.GhostGlobal a i s st l = absurd l
  block_found names.GhostLocal a i s st l = absurd l

  -- a name that isn't located means none
  pub block_missing : (k : NameKind) (a i : ℕ) → IsStore r globals named locals activations starts numbers heap → ((s : ℕ) → Located k a i s → ⊥) → block_in memory k a i ≡ None
  block_missing names.Global zero i st none =
      elim (cases_lt i (length globals)) [
        | inl l ↦ absurd (none (get_or globals i 0) (refl, l, refl))
        | inr l ↦ blocks_past r globals i l
      ]
  block_missing names.Global (suc a) i st none = refl
  block_missing names.Local a i st none =
      elim (cases_lt a 1099511627776) [
        | inl p ↦ elim (cases_lt i 4194304) [
          | inl q ↦
              local_missing (reverse activations) (reverse starts) (blocks_at r locals) a i (λ k h e.
              let g : k < length locals = let t = blocks_length r locals in omega arith in
              none (get_or locals k 0) (p, q, (k, g, st.locals_named k g ∙ e, refl)))
          | inr q ↦ local_past (reverse activations) (reverse starts) (blocks_at r locals) a i (let t = blocks_length r locals in omega (arith, st.few_locals, t))
        ]
        | inr p ↦ local_none 1099511627776 (length locals) (reverse activations) (reverse starts) (blocks_at r locals) a i st.opened p
      ]
  block_missing names.Heap a zero st none = heap_missing numbers (blocks_at r heap) a (λ k h e. none (get_or heap k 0) (refl, (k, h, e, refl)))
  block_missing names.Heap a (suc i) st none = refl
  block_missing names.Register a i st none = refl
  block_missing names.GhostGlobal a i st none = refl
  block_missing names.GhostLocal a i st none = refl

  -- ---- a slot of one kind is none of the others

  pub apart_globals : (s m : ℕ) → IsStore r globals named locals activations starts numbers heap → name_at r s ≡ Some m → 9223372036854775808 ≤ m → Apart globals s
  apart_globals s m st e h = named_apart r global_at globals s m st.globals_held e (λ k l f. let w = global_range k (omega (arith, l, st.few_globals)) in omega (arith, w.1, f, h))

  pub apart_locals : (s m : ℕ) → IsStore r globals named locals activations starts numbers heap → name_at r s ≡ Some m → (m < 9223372036854775808) ⊎ (13835058055282163712 ≤ m) → Apart locals s
  apart_locals s m st e h =
      named_apart r local_number locals s m st.locals_held e (λ k l f.
      let w = local_range 1099511627776 (length locals) (reverse activations) (reverse starts) k st.opened st.few_locals (omega arith) l in
      elim h [ inl p ↦ omega (arith, w.0, f, p) | inr p ↦ omega (arith, w.1, f, p) ])

  pub apart_heap : (s m : ℕ) → IsStore r globals named locals activations starts numbers heap → name_at r s ≡ Some m → m < 13835058055282163712 → Apart heap s
  apart_heap s m st e h = named_apart r (heap_at numbers) heap s m st.heap_held e (λ k l f. let w = heap_range (get_or numbers k 0) in omega (arith, w, f, h))

  global_number_range : (a i : ℕ) → a ≡ 0 → i < 4194304 → name_number names.Global a i < 9223372036854775808
  unfolding name_number
  global_number_range a i e h = omega arith

  local_number_range : (a i : ℕ) → a < 1099511627776 → i < 4194304 → (9223372036854775808 ≤ name_number names.Local a i) × (name_number names.Local a i < 13835058055282163712)
  unfolding name_number
  local_number_range a i p q = (omega arith, omega arith)

  heap_number_range : (a i : ℕ) → 13835058055282163712 ≤ name_number names.Heap a i
  unfolding name_number
  heap_number_range a i = omega arith

  -- ---- a change of the block at a located slot

  pub store_changed : (k : NameKind) (a i s : ℕ) (x : Option (pool.Block Slot)) (f : Block → Block) → IsStore r globals named locals activations starts numbers heap → Located k a i s → cells_in x ≡ f (cells_at r s)
      → memory_of (pool.with_block r s x) globals locals activations starts numbers heap ≡ changed memory k a i f
  store_changed names.Global a i s x f st l c =
      let n = (located_name names.Global a i s st l).0 in
      let w = global_number_range a i l.0 (omega (arith, l.1, st.few_globals)) in
      let g : blocks_at (pool.with_block r s x) globals ≡ at_block f i (blocks_at r globals) =
      own_block r globals i s x f l.1 l.2 (located_within names.Global a i s st l) (own_apart r global_at globals i s st.globals_held l.1 l.2 (λ j q d e. d (same_global j i e))) c in
      rw (g, apart_blocks r locals s x (apart_locals s (name_number names.Global a i) st n (inl w)), apart_blocks r heap s x (apart_heap s (name_number names.Global a i) st n (omega arith))) refl
  store_changed names.Local a i s x f st (p, q, (k, h, e, y)) c =
      let n = (located_name names.Local a i s st (p, q, (k, h, e, y))).0 in
      let w = local_number_range a i p q in
      let g : blocks_at (pool.with_block r s x) locals ≡ at_block f k (blocks_at r locals) =
      own_block r locals k s x f h y (located_within names.Local a i s st (p, q, (k, h, e, y))) (own_apart r local_number locals k s st.locals_held h y (λ j l d same. differ j l d same)) c in
      rw (
        g,
        apart_blocks r globals s x (apart_globals s (name_number names.Local a i) st n w.0),
        apart_blocks r heap s x (apart_heap s (name_number names.Local a i) st n w.1),
        local_changed 1099511627776 (length locals) (reverse activations) (reverse starts) (blocks_at r locals) f k a i st.opened st.few_locals h q (sym (st.locals_named k h) ∙ e),
      ) refl
    where
      differ : (j : ℕ) → j < length locals → (j ≡ k → ⊥) → local_number j ≡ local_number k → ⊥
      differ j l d same =
          elim (cases_order j k) [
            | inl z ↦ d z
            | inr (inl z) ↦ let v = locals_rise 1099511627776 (length locals) (reverse activations) (reverse starts) j k st.opened st.few_locals z h in omega (arith, v, same)
            | inr (inr z) ↦ let v = locals_rise 1099511627776 (length locals) (reverse activations) (reverse starts) k j st.opened st.few_locals z l in omega (arith, v, same)
          ]
  store_changed names.Heap a i s x f st (z, (k, h, e, y)) c =
      let n = (located_name names.Heap a i s st (z, (k, h, e, y))).0 in
      let w = heap_number_range a i in
      let g : blocks_at (pool.with_block r s x) heap ≡ at_block f k (blocks_at r heap) =
      own_block r heap k s x f (omega (arith, h, st.as_many_numbers)) y (located_within names.Heap a i s st (z, (k, h, e, y))) (own_apart r (heap_at numbers) heap k s st.heap_held (omega (arith, h, st.as_many_numbers)) y (λ j l d same. differ j (omega (arith, l, st.as_many_numbers)) d (same_heap (get_or numbers j 0) (get_or numbers k 0) same))) c in
      rw (
        z,
        g,
        apart_blocks r globals s x (apart_globals s (name_number names.Heap a i) st n (omega arith)),
        apart_blocks r locals s x (apart_locals s (name_number names.Heap a i) st n (inr w)),
        heap_changed 0 numbers (blocks_at r heap) f k st.heap_rises (st.as_many_numbers ∙ sym (blocks_length r heap)) h,
        e,
      ) refl
    where
      differ : (j : ℕ) → j < length numbers → (j ≡ k → ⊥) → get_or numbers j 0 ≡ get_or numbers k 0 → ⊥
      differ j l d same =
          elim (cases_order j k) [
            | inl z ↦ d z
            | inr (inl z) ↦ let v = rise_apart 0 numbers j k st.heap_rises z h in omega (arith, v, same)
            | inr (inr z) ↦ let v = rise_apart 0 numbers k j st.heap_rises z l in omega (arith, v, same)
          ]
  store_changed names.Register a i s x f st l c = absurd l
  store_changed names.GhostGlobal a i s x f st l c = absurd l
  store_changed names.GhostLocal a i s x f st l c = absurd l

  -- ---- what is true of a store stays

  chunks_same : (slots : List ℕ) (s : ℕ) (x : Option (pool.Block Slot)) → s < length r.blocks → length (cells_in x) ≡ length (cells_at r s) → chunks_at (pool.with_block r s x) slots ≡ chunks_at r slots
  chunks_same [] s x l e = refl
  chunks_same (t ∷ ts) s x l e =
      sum_by-cons chunks_of (cells_at (pool.with_block r s x) t) (blocks_at (pool.with_block r s x) ts)
      ∙ ap (λ c. c + chunks_at (pool.with_block r s x) ts) one
      ∙ ap (λ c. chunks_of (cells_at r t) + c) (chunks_same ts s x l e)
      ∙ sym (sum_by-cons chunks_of (cells_at r t) (blocks_at r ts))
    where
      one : chunks_of (cells_at (pool.with_block r s x) t) ≡ chunks_of (cells_at r t)
      one =
          elim (cases_eq t s) [
            | inl same ↦ rw (same, same_cells r s x l, e) refl
            | inr other ↦ ap chunks_of (other_cells r t s x other)
          ]

  pub store_kept : (s m name : ℕ) (cells : Block) → IsStore r globals named locals activations starts numbers heap → name_at r s ≡ Some m → name ≡ m → length cells ≡ length (cells_at r s)
      → IsStore (pool.with_block r s (Some (record { name = name; cells = cells }))) globals named locals activations starts numbers heap
  store_kept s m name cells st e f g =
      let l : s < length r.blocks = named_within r s m e in
      let x : Option (pool.Block Slot) = Some (record { name = name; cells = cells }) in
      let same : name_in x ≡ name_at r s = ap Some f ∙ sym e in
      record {
        globals_held = held_same r global_at globals s x l same st.globals_held;
        few_globals = st.few_globals;
        locals_held = held_same r local_number locals s x l same st.locals_held;
        few_locals = st.few_locals;
        as_many_names = st.as_many_names;
        locals_named = st.locals_named;
        opened = st.opened;
        heap_held = held_same r (heap_at numbers) heap s x l same st.heap_held;
        as_many_numbers = st.as_many_numbers;
        heap_rises = st.heap_rises;
        heap_below = st.heap_below;
        counted = rw (chunks_same globals s x l g, chunks_same locals s x l g, chunks_same heap s x l g, chunks_stay r s m name cells e g) st.counted;
      }
