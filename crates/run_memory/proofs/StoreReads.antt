-- What a read and a write of the store come to.
use Rattle.std.proofs.Common.{◌≡◌, ℕ, zero, suc, ◌<◌, Bool, true, false, cond, List, [], ◌∷◌, length, reverse, Option, Some, None, refl, sym, ap, ◌∙◌, inl, inr, arith}
use Rattle.std.specs.Prelude.{slice_get, option_map}
use Rattle.std.specs.Option.{is_some}
use Rattle.std.proofs.lemmas.Bool.{cases_eq}
use Rattle.step_meaning.specs.declared.value.CType.{CType}
use Rattle.step_meaning.specs.declared.value.Cell.{Cell}
use Rattle.step_meaning.specs.declared.value.Name.{Name}
use Rattle.step_meaning.specs.declared.value.Value.TheVariants as value
use Rattle.step_meaning.specs.Memory.{Slot, Block, Memory, set_cell, stored, reached, room_at, slot_at, typed}
use Rattle.cell_pool.specs.Region as pool
use Rattle.run_memory.specs.declared.cell.PoolCell.{PoolCell}
use Rattle.run_memory.specs.Numbering.{name_number}
use Rattle.run_memory.specs.Cells.{slot_of, seen}
use Rattle.run_memory.specs.View.{cells_at, name_at, memory_of}
use Rattle.run_memory.specs.Inside.{DontFall, LocatedIn, IsStore}
use Rattle.run_memory.specs.Filling.{with_held}
use Rattle.run_memory.proofs.FrameLaws.{locals_rise}
use Rattle.run_memory.proofs.HeapLaws.{rise_apart}
use Rattle.run_memory.proofs.RegionLaws.{block_named, cell_named, cell_put, set_cell-past}
use Rattle.run_memory.proofs.StoreLaws.{located_name, block_found, block_missing, store_changed, store_kept}
use Rattle.run_memory.proofs.Seeing.{seen_cell_of}
use Rattle.run_memory.proofs.TypeCells.{stays}

set_cell-length : (c : Cell) (o : ℕ) (b : Block) → length (set_cell c o b) ≡ length b
set_cell-length c o [] = refl
set_cell-length c zero (s ∷ b) = refl
set_cell-length c (suc o) (s ∷ b) = ap suc (set_cell-length c o b)

-- another value in a cell of the block with its name
pub held_put : (r : pool.Region Slot) (s m o : ℕ) (c : Cell) → name_at r s ≡ Some m → with_held r s m o c ≡ pool.with_block r s (Some (record { name = m; cells = set_cell c o (cells_at r s) }))
held_put r s m o c e = by (pool.cell_of r s m o) refl
  where
    by : (x : Option Slot) → pool.cell_of r s m o ≡ x → with_held r s m o c ≡ pool.with_block r s (Some (record { name = m; cells = set_cell c o (cells_at r s) }))
    by None f =
        let past : slice_get (cells_at r s) o ≡ None = sym (cell_named r s m o e) ∙ f in
        rw f (stays r s m (set_cell c o (cells_at r s)) e (sym (set_cell-past c o (cells_at r s) past)))
    by (Some t) f = ap (Rattle.run_memory.specs.Filling.with_held_in r s m o c) f ∙ cell_put r s m o c t e f

module _ (p : pool.Region PoolCell) (globals named locals activations starts numbers heap : List ℕ) (st : IsStore (seen p) globals named locals activations starts numbers heap) where
  pub names_rise : DontFall named
  names_rise j k h l =
      let m : k < length locals = omega (arith, l, st.as_many_names) in
      rw (st.locals_named j (omega arith), st.locals_named k m)
      (elim (cases_eq j k) [
        | inl e ↦ rw e (omega arith)
        | inr n ↦ let w = locals_rise 1099511627776 (length locals) (reverse activations) (reverse starts) j k st.opened st.few_locals (omega arith) m in omega arith
      ])

  pub numbers_rise : DontFall numbers
  numbers_rise j k h l =
      elim (cases_eq j k) [
        | inl e ↦ rw e (omega arith)
        | inr n ↦ let w = rise_apart 0 numbers j k st.heap_rises (omega arith) l in omega arith
      ]

  abbrev memory : Memory
  memory = memory_of (seen p) globals locals activations starts numbers heap

  pub read_found : (n : Name) (o s : ℕ) (t : CType) → LocatedIn globals named locals numbers heap n.kind n.activation n.index s
      → reached memory (value.Pointer n o) t ≡ typed (pool.cell_of (seen p) s (name_number n.kind n.activation n.index) o) t
  read_found n o s t l =
      let named_so = (located_name (seen p) globals named locals activations starts numbers heap n.kind n.activation n.index s st l).0 in
      ap (λ b. typed (slot_at b o) t) (block_found (seen p) globals named locals activations starts numbers heap n.kind n.activation n.index s st l)
      ∙ ap (λ x. typed x t) (sym (cell_named (seen p) s (name_number n.kind n.activation n.index) o named_so))

  pub read_cell : (n : Name) (o s : ℕ) (t : CType) → LocatedIn globals named locals numbers heap n.kind n.activation n.index s
      → reached memory (value.Pointer n o) t ≡ typed (option_map slot_of (pool.cell_of p s (name_number n.kind n.activation n.index) o)) t
  read_cell n o s t l = read_found n o s t l ∙ ap (λ x. typed x t) (seen_cell_of p s (name_number n.kind n.activation n.index) o)

  pub read_missing : (n : Name) (o : ℕ) (t : CType) → ((s : ℕ) → LocatedIn globals named locals numbers heap n.kind n.activation n.index s → ⊥) → reached memory (value.Pointer n o) t ≡ None
  read_missing n o t none = ap (λ b. typed (slot_at b o) t) (block_missing (seen p) globals named locals activations starts numbers heap n.kind n.activation n.index st none)

  pub room_found : (n : Name) (o s : ℕ) → LocatedIn globals named locals numbers heap n.kind n.activation n.index s
      → room_at memory (value.Pointer n o) ≡ option_map (λ b. length b.cells) (pool.block_of p s (name_number n.kind n.activation n.index))
  room_found n o s l =
      let named_so = (located_name (seen p) globals named locals activations starts numbers heap n.kind n.activation n.index s st l).0 in
      ap (option_map length) (block_found (seen p) globals named locals activations starts numbers heap n.kind n.activation n.index s st l)
      ∙ sym (ap (option_map (λ b. length b.cells)) (block_named (seen p) s (name_number n.kind n.activation n.index) named_so))
      ∙ Rattle.run_memory.proofs.Seeing.seen_size p s (name_number n.kind n.activation n.index)

  pub room_missing : (n : Name) (o : ℕ) → ((s : ℕ) → LocatedIn globals named locals numbers heap n.kind n.activation n.index s → ⊥) → room_at memory (value.Pointer n o) ≡ None
  room_missing n o none = ap (option_map length) (block_missing (seen p) globals named locals activations starts numbers heap n.kind n.activation n.index st none)

  -- ---- a write

  pub wrote : (p' : pool.Region PoolCell) (n : Name) (o s : ℕ) (c : Cell) → LocatedIn globals named locals numbers heap n.kind n.activation n.index s
      → seen p' ≡ with_held (seen p) s (name_number n.kind n.activation n.index) o c
      → (memory_of (seen p') globals locals activations starts numbers heap ≡ stored memory (value.Pointer n o) c) × IsStore (seen p') globals named locals activations starts numbers heap
  wrote p' n o s c l e =
      let m = name_number n.kind n.activation n.index in
      let named_so = (located_name (seen p) globals named locals activations starts numbers heap n.kind n.activation n.index s st l).0 in
      let is : seen p' ≡ pool.with_block (seen p) s (Some (record { name = m; cells = set_cell c o (cells_at (seen p) s) })) = e ∙ held_put (seen p) s m o c named_so in
      rw is (
        store_changed (seen p) globals named locals activations starts numbers heap n.kind n.activation n.index s (Some (record { name = m; cells = set_cell c o (cells_at (seen p) s) })) (set_cell c o) st l refl,
        store_kept (seen p) globals named locals activations starts numbers heap s m m (set_cell c o (cells_at (seen p) s)) st named_so refl (set_cell-length c o (cells_at (seen p) s)),
      )

-- ---- a write of one cell

pub untyped : (s : Slot) (t : CType) → Rattle.step_meaning.specs.Types.same_type s.declared t ≡ false → is_some (typed (Some s) t) ≡ false
untyped s t e = rw e refl

pub typed_so : (s : Slot) (t : CType) → Rattle.step_meaning.specs.Types.same_type s.declared t ≡ true → is_some (typed (Some s) t) ≡ true
typed_so s t e = rw e refl

pub no_cell : (p : pool.Region PoolCell) (s m o : ℕ) (t : CType) → pool.cell_of p s m o ≡ None → is_some (typed (pool.cell_of (seen p) s m o) t) ≡ false
no_cell p s m o t e = ap (λ x. is_some (typed x t)) (seen_cell_of p s m o ∙ ap (option_map slot_of) e)

pub some_cell : (p : pool.Region PoolCell) (s m o : ℕ) (t : CType) (c : PoolCell) → pool.cell_of p s m o ≡ Some c → is_some (typed (pool.cell_of (seen p) s m o) t) ≡ is_some (typed (Some (slot_of c)) t)
some_cell p s m o t c e = ap (λ x. is_some (typed x t)) (seen_cell_of p s m o ∙ ap (option_map slot_of) e)

pub cell_written : (p p' : pool.Region PoolCell) (s m o : ℕ) (c : PoolCell) (h : Rattle.run_memory.specs.declared.cell.Held.Held) → pool.cell_of p s m o ≡ Some c → p' ≡ pool.with_cell p s m o (record { held = h; ctype = c.ctype })
    → seen p' ≡ with_held (seen p) s m o (Rattle.run_memory.specs.Cells.cell_of h)
cell_written p p' s m o c h e f =
    ap seen f ∙ Rattle.run_memory.proofs.Seeing.seen_with_cell p s m o (record { held = h; ctype = c.ctype })
    ∙ sym (ap (Rattle.run_memory.specs.Filling.with_held_in (seen p) s m o (Rattle.run_memory.specs.Cells.cell_of h)) (seen_cell_of p s m o ∙ ap (option_map slot_of) e))

-- ---- the whole of a write

held_length : (r : pool.Region Slot) (s m o : ℕ) (c : Cell) → name_at r s ≡ Some m → length (with_held r s m o c).blocks ≡ length r.blocks
held_length r s m o c e = ap (λ q. length q.blocks) (held_put r s m o c e) ∙ Rattle.std.proofs.lemmas.List.length-set r.blocks s (Some (record { name = m; cells = set_cell c o (cells_at r s) }))

module _ (p : pool.Region PoolCell) (globals named locals activations starts numbers heap : List ℕ) (st : IsStore (seen p) globals named locals activations starts numbers heap) where
  pub write_law : (p' : pool.Region PoolCell) (b : Bool) (n : Name) (o s : ℕ) (c : Cell) → LocatedIn globals named locals numbers heap n.kind n.activation n.index s
      → seen p' ≡ cond b (with_held (seen p) s (name_number n.kind n.activation n.index) o c) (seen p)
      → (memory_of (seen p') globals locals activations starts numbers heap ≡ cond b (stored (memory_of (seen p) globals locals activations starts numbers heap) (value.Pointer n o) c) (memory_of (seen p) globals locals activations starts numbers heap))
      × IsStore (seen p') globals named locals activations starts numbers heap
      × (length p'.blocks ≡ length p.blocks)
  write_law p' true n o s c l e =
      let w = wrote p globals named locals activations starts numbers heap st p' n o s c l e in
      let named_so = (located_name (seen p) globals named locals activations starts numbers heap n.kind n.activation n.index s st l).0 in (
        w.0,
        w.1,
        sym (Rattle.run_memory.proofs.Seeing.seen_length p') ∙ ap (λ q. length q.blocks) e ∙ held_length (seen p) s (name_number n.kind n.activation n.index) o c named_so ∙ Rattle.run_memory.proofs.Seeing.seen_length p,
      )
  write_law p' false n o s c l e = (
    ap (λ r. memory_of r globals locals activations starts numbers heap) e,
    rw e st,
    sym (Rattle.run_memory.proofs.Seeing.seen_length p') ∙ ap (λ q. length q.blocks) e ∙ Rattle.run_memory.proofs.Seeing.seen_length p,
  )

pub storage_written : (b : Bool) (m' m1 m0 : Memory) (n' n k : ℕ) → m' ≡ cond b m1 m0 → n' ≡ n
    → ◌≡◌ {A = Rattle.run_memory.specs.Storage.Storage} (record { memory = m'; chunk_limit = n'; call_limit = k }) (cond b (record { memory = m1; chunk_limit = n; call_limit = k }) (record { memory = m0; chunk_limit = n; call_limit = k }))
storage_written true m' m1 m0 n' n k e f = rw (e, f) refl
storage_written false m' m1 m0 n' n k e f = rw (e, f) refl
