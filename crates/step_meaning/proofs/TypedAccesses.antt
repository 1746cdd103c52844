-- Accesses, addresses and operators keep types: what is loaded has the type of the access, what is stored has it, and a moved pointer is a pointer.
use Rattle.std.proofs.Common.{◌≡◌, ℕ, zero, suc, ◌≤◌, ◌<◌, ◌%◌, ◌^◌, Bool, true, false, cond, List, [], ◌∷◌, map, Option, Some, None, Ok, Err, refl, ap, ◌∙◌, arith, mod-lt}
use Rattle.std.specs.Prelude.{ℤ, pos, negsuc, ◌+ℤ◌, nat_le, slice_get}
use Rattle.std.proofs.lemmas.Bool.{leb-true}
use Rattle.step_meaning.specs.declared.value.IntKind.{IntKind}
use Rattle.step_meaning.specs.declared.value.IntKind.TheVariants as kind
use Rattle.step_meaning.specs.declared.value.CType.{CType}
use Rattle.step_meaning.specs.declared.value.CType.TheVariants as type
use Rattle.step_meaning.specs.declared.value.Value.{Value}
use Rattle.step_meaning.specs.declared.value.Value.TheVariants as value
use Rattle.step_meaning.specs.declared.value.Cell.{Cell}
use Rattle.step_meaning.specs.declared.value.Cell.TheVariants.{Nothing, Holds}
use Rattle.step_meaning.specs.declared.value.RunFault.TheVariants as fault
use Rattle.step_meaning.specs.declared.value.Action.TheVariants as act
use Rattle.step_meaning.specs.Numbers.{Checked, low_bits}
use Rattle.step_meaning.specs.declared.program.Core.{Core}
use Rattle.step_meaning.specs.Names.{within, moved, of_truth, integer}
use Rattle.step_meaning.specs.Memory.{room_at, reached}
use Rattle.step_meaning.specs.State.{Here, Registers, Lvalue, InRegister, At, register_at, set_register}
use Rattle.step_meaning.specs.Flow.{direct, World}
use Rattle.step_meaning.specs.Accesses as acc
use Rattle.step_meaning.specs.Traced.{CellHasType, SlotTyped}
use Rattle.step_meaning.proofs.Ranges.{natural_in_range, low_bits_below}
use Rattle.step_meaning.proofs.OperatorRanges.{OnOk, InRange}
use Rattle.step_meaning.proofs.TypedMemory.{Each, WhereSome, get_fits, InCell, Takes, typed_fits, takes_typed, Shape, reached_fits, room_fits, stored_fits, stored_falls}
use Rattle.step_meaning.proofs.StepsFit.{IsAddress}
use Rattle.step_meaning.proofs.Kept.{RegistersFit, Fits, GivesFit, Keeps, Always, step_fits, keeps_pure, keeps_bind, keeps_halt, keeps_misuse, keeps_get, keeps_registers, keeps_emit, keeps_put_input}

-- ---- pointers

-- a value of a pointer type is one
pub address_of_type : (b : _) (t : _) (v : Value) → InCell (type.Pointer' b t) v → IsAddress v
address_of_type b t (value.Int z) h = h.0
address_of_type b t value.Null h = tt
address_of_type b t (value.Pointer n o) h = (h.0, h.1)

pub type_of_address : (b : _) (t : _) (v : Value) → IsAddress v → InCell (type.Pointer' b t) v
type_of_address b t (value.Int z) h = absurd h
type_of_address b t value.Null h = (tt, tt)
type_of_address b t (value.Pointer n o) h = (h.0, h.1)

moved_fits : (v : Value) (room : Option ℕ) (by : ℤ) → IsAddress v → WhereSome (λ r. r < 2 ^ 32) room → OnOk IsAddress (moved v room by)
moved_fits (value.Int z) room by h k = tt
moved_fits value.Null room (pos zero) h k = tt
moved_fits value.Null room (pos (suc n)) h k = tt
moved_fits value.Null room (negsuc n) h k = tt
moved_fits (value.Pointer n o) None by h k = tt
moved_fits (value.Pointer n o) (Some room) by h k = at (pos o +ℤ by)
  where
    at : (z : ℤ) → OnOk IsAddress (within n (Some room) z)
    at (negsuc i) = tt
    at (pos i) = on (nat_le i room) refl
      where
        on : (c : Bool) → nat_le i room ≡ c → OnOk IsAddress (cond c (Ok (value.Pointer n i)) (Err fault.Pointer))
        on true e = (let l : i ≤ room = leb-true i room e in omega arith, h.1)
        on false e = tt

-- ---- registers

pub set_registers_fit : (types : List CType) (r : Registers) (i : ℕ) (t : CType) (v : Value) (c : Cell) → register_at r i t ≡ Some c → InCell t v → RegistersFit types r → RegistersFit types (set_register r i v)
set_registers_fit types r i t v c e k h = record { declared = declared_same r i ∙ h.declared; fit = slots_fit r i (takes_typed (slice_get r i) t v c e k) h.fit }
  where
    declared_same : (r : Registers) (i : ℕ) → map (λ s. s.declared) (set_register r i v) ≡ map (λ s. s.declared) r
    declared_same [] i = refl
    declared_same (s ∷ r) zero = refl
    declared_same (s ∷ r) (suc i) = ap (λ ts. s.declared ∷ ts) (declared_same r i)

    slots_fit : (r : Registers) (i : ℕ) → WhereSome (Takes (Holds v)) (slice_get r i) → Each SlotTyped r → Each SlotTyped (set_register r i v)
    slots_fit [] i f h = tt
    slots_fit (s ∷ r) zero f h = (f, h.1)
    slots_fit (s ∷ r) (suc i) f h = (h.0, slots_fit r i f h.1)

-- the truth of a test is 1 or 0
truth_fits : (b : Bool) → InCell (type.Int kind.Int) (of_truth b)
truth_fits true = (refl, tt)
truth_fits false = (refl, tt)

-- ---- accesses

-- what an lvalue designates: a register, or an object at an address
abbrev pub IsPlace : Lvalue → Type 0
IsPlace (InRegister i) = Unit {0}
IsPlace (At p) = IsAddress p

module _ {q : Core} {frames : List Shape} {registers : List CType} (here : Here) where
  pub keeps_checked : {A : Type 0} {P : A → Type 0} (c : Checked A) → OnOk P c → Keeps q frames registers P (acc.checked direct here c)
  keeps_checked (Ok a) h = keeps_pure a h
  keeps_checked (Err f) h = keeps_halt here f

  keeps_held : (t : CType) (c : Option Cell) → WhereSome (CellHasType t) c → Keeps q frames registers (InCell t) (acc.held direct here c)
  keeps_held t None h = keeps_halt here fault.Invalid
  keeps_held t (Some Nothing) h = keeps_halt here fault.Uninit
  keeps_held t (Some (Holds v)) h = keeps_pure v h

  keeps_held_register : (t : CType) (c : Option Cell) → WhereSome (CellHasType t) c → Keeps q frames registers (InCell t) (acc.held_register direct here c)
  keeps_held_register t None h = keeps_misuse here fault.Invalid
  keeps_held_register t (Some Nothing) h = keeps_misuse here fault.Uninit
  keeps_held_register t (Some (Holds v)) h = keeps_pure v h

  -- what is loaded has the type of the access
  pub keeps_load : (t : CType) (l : Lvalue) → IsPlace l → Keeps q frames registers (InCell t) (acc.load direct here t l)
  keeps_load t (InRegister i) a = keeps_bind keeps_registers (λ r h. keeps_held_register t (register_at r i t) (typed_fits (slice_get r i) t (get_fits SlotTyped r i h.fit)))
  keeps_load t (At p) a = keeps_bind (keeps_emit here (act.Read p) (λ fs. a)) (λ u h. keeps_bind keeps_get (λ s m. keeps_held t (reached s.memory p t) (reached_fits m p t)))

  -- what is stored has it
  pub keeps_store : (t : CType) (l : Lvalue) (v : Value) → IsPlace l → InCell t v → Keeps q frames registers (InCell t) (acc.store direct here t l v)
  keeps_store t (InRegister i) v a h = record { by = λ w r m k. at w r m k (register_at r i t) refl }
    where
      at : (w : World) (r : Registers) → Fits q frames w → RegistersFit registers r → (c : Option Cell) → register_at r i t ≡ c → GivesFit q frames registers (InCell t) (acc.write_register direct here i v c w r)
      at w r m k None e = (refl, (step_fits q frames here (act.Halt fault.Invalid) w m tt, m.1))
      at w r m k (Some c) e = (h, m, set_registers_fit registers r i t v c e h k)
  keeps_store t (At p) v a h = keeps_bind (keeps_emit here (act.Write p v) (λ fs. a)) (λ u g. record { by = λ w r m k. at w r m k (reached w.memory p t) refl })
    where
      at : (w : World) (r : Registers) → Fits q frames w → RegistersFit registers r → (c : Option Cell) → reached w.memory p t ≡ c → GivesFit q frames registers (InCell t) (acc.write_at direct here p v c w r)
      at w r m k None e = (refl, (step_fits q frames here (act.Halt fault.Invalid) w m tt, m.1))
      at w r m k (Some c) e = (h, (stored_fits m.0 p t v c e h, m.1, stored_falls w.memory p (Holds v) w.allocated m.2), k)

  -- ---- addresses

  pub keeps_move_by : (v : Value) (by : ℤ) → IsAddress v → Keeps q frames registers IsAddress (acc.move_by direct here v by)
  keeps_move_by v by h = keeps_bind keeps_get (λ s m. keeps_checked (moved v (room_at s.memory v) by) (moved_fits v (room_at s.memory v) by h (room_fits m v)))

  -- ---- operators

  pub keeps_int : (k : IntKind) (c : Checked ℤ) → OnOk (InRange k) c → Keeps q frames registers (InCell (type.Int k)) (acc.as_int direct (acc.checked direct here c))
  keeps_int k c h = keeps_bind (keeps_checked c h) (λ z r. keeps_pure (value.Int z) (r, tt))

  pub keeps_truth : (b : Bool) → Keeps q frames registers (InCell (type.Int kind.Int)) (direct.pure (of_truth b))
  keeps_truth b = keeps_pure (of_truth b) (truth_fits b)

  pub keeps_checked_truth : (c : Checked Bool) → Keeps q frames registers (InCell (type.Int kind.Int)) (acc.as_truth direct (acc.checked direct here c))
  keeps_checked_truth (Ok b) = keeps_bind (keeps_pure {P = Always} b tt) (λ b h. keeps_truth b)
  keeps_checked_truth (Err f) = record { by = λ w r m k. (refl, (step_fits q frames here (act.Halt f) w m tt, m.1)) }

  -- ---- `getchar` and `putchar`

  keeps_next_byte : (bs : List ℕ) → Keeps q frames registers (InCell (type.Int kind.Int)) (acc.next_byte direct here bs)
  keeps_next_byte [] = keeps_pure (value.Int (negsuc 0)) (refl, tt)
  keeps_next_byte (b ∷ bs) = keeps_bind (keeps_put_input bs) (λ u h. keeps_pure (value.Int (pos (b % 256))) (natural_in_range kind.Int (b % 256) (let l : b % 256 < 256 = mod-lt b (omega arith) in omega arith), tt))

  pub keeps_get_char : Keeps q frames registers (InCell (type.Int kind.Int)) (acc.get_char direct here)
  keeps_get_char = keeps_bind (keeps_emit here act.Input (λ fs. tt)) (λ u h. keeps_bind keeps_get (λ s m. keeps_next_byte s.input))

  pub keeps_put_char : (v : Value) → Keeps q frames registers (InCell (type.Int kind.Int)) (acc.put_char direct here v)
  keeps_put_char v = keeps_bind (keeps_emit here _ (λ fs. tt)) (λ u h. keeps_pure (value.Int (pos (low_bits 8 (integer v)))) (natural_in_range kind.Int (low_bits 8 (integer v)) (let l : low_bits 8 (integer v) < 256 = low_bits_below 8 (integer v) (omega arith) in omega arith), tt))
