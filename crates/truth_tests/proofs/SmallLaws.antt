-- What is seen of the small program.
use Rattle.std.proofs.Common.{◌≡◌, ℕ, zero, suc, Bool, true, false, Option, Some, None, refl, ap, ◌∙◌}
use Rattle.std.specs.Prelude.{ℤ, pos, ◌==◌, cond, option_map, slice_get, replicate}
use Rattle.step_meaning.specs.declared.value.CType.{CType}
use Rattle.step_meaning.specs.declared.value.NameKind.{NameKind}
use Rattle.step_meaning.specs.declared.value.NameKind.TheVariants as names
use Rattle.step_meaning.specs.declared.value.Name.{Name}
use Rattle.step_meaning.specs.declared.value.Cell.{Cell}
use Rattle.step_meaning.specs.Types.{same_type}
use Rattle.step_meaning.specs.Memory.{Block, Slot, block_in, slot_at, typed}
use Rattle.step_meaning.specs.Views.{now, visible_block}
use Rattle.truth_tests.specs.declared.view.SmallView.{SmallView}
use Rattle.truth_tests.specs.Small.{int, int_cell, memory_of, sight_of}

-- all cells have the type int
AreInts : Option Slot → Type 0
AreInts None = Unit {0}
AreInts (Some s) = s.declared ≡ int

ints_there : (z : ℤ) (n o : ℕ) → AreInts (slice_get (replicate n (int_cell z)) o)
unfolding AreInts
ints_there z zero o = tt
ints_there z (suc n) zero = refl
ints_there z (suc n) (suc o) = ints_there z n o

are_ints : (x : ℤ) (k : NameKind) (a i o : ℕ) → AreInts (slot_at (block_in (memory_of x) k a i) o)
unfolding AreInts
are_ints x names.Global zero zero o = ints_there x 1 o
are_ints x names.Global zero (suc zero) o = ints_there (pos 0) 10 o
are_ints x names.Global zero (suc (suc i)) o = tt
are_ints x names.Global (suc a) i o = tt
are_ints x names.Local a i o = tt
are_ints x names.Heap a zero o = tt
are_ints x names.Heap a (suc i) o = tt
are_ints x names.Register a i o = tt
are_ints x names.GhostGlobal a i o = tt
are_ints x names.GhostLocal a i o = tt

typed_cell : (s : Option Slot) (t : CType) → AreInts s → typed s t ≡ cond (same_type int t) (option_map (λ s. s.cell) s) None
unfolding AreInts
typed_cell None t h = of_none (same_type int t)
  where
    of_none : (b : Bool) → ◌≡◌ {A = Option Cell} None (cond {A = Option Cell} b None None)
    of_none true = refl
    of_none false = refl
typed_cell (Some s) t h = ap (λ u. cond (same_type u t) (Some s.cell) None) h

pub reached_at_int : (x : ℤ) (k : NameKind) (a i o : ℕ) (t : CType) → same_type int t ≡ true
    → typed (slot_at (block_in (memory_of x) k a i) o) t ≡ option_map (λ s. s.cell) (slot_at (block_in (memory_of x) k a i) o)
reached_at_int x k a i o t h =
    let s = slot_at (block_in (memory_of x) k a i) o in
    typed_cell s t (are_ints x k a i o) ∙ ap (λ b. cond b (option_map (λ s. s.cell) s) None) h

pub not_reached : (x : ℤ) (k : NameKind) (a i o : ℕ) (t : CType) → same_type int t ≡ false → typed (slot_at (block_in (memory_of x) k a i) o) t ≡ None
not_reached x k a i o t h =
    let s = slot_at (block_in (memory_of x) k a i) o in
    typed_cell s t (are_ints x k a i o) ∙ ap (λ b. cond b (option_map (λ s. s.cell) s) None) h

-- no register and no ghost variable is seen
pub seen_now : (v : SmallView) (n : Name) (o : ℕ) (t : CType) → now (sight_of v) n o t ≡ typed (slot_at (block_in (memory_of v.x) n.kind n.activation n.index) o) t
seen_now v n o t = of n.kind n.activation n.index
  where
    of : (k : NameKind) (a i : ℕ) → typed (slot_at (visible_block (sight_of v) k (record { kind = k; activation = a; index = i })) o) t ≡ typed (slot_at (block_in (memory_of v.x) k a i) o) t
    of names.Global a i = refl
    of names.Local a i = refl
    of names.Heap a i = refl
    of names.Register a i = no_register (a == 0)
      where
        no_register : (b : Bool) → typed (slot_at (cond {A = Option Block} b None None) o) t ≡ None
        no_register true = refl
        no_register false = refl
    of names.GhostGlobal zero i = refl
    of names.GhostGlobal (suc a) i = refl
    of names.GhostLocal a i = refl
