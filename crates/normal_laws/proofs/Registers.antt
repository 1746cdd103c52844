-- Registers: what a typed slot holds after a write, and which stay.
use Rattle.std.proofs.Common.{◌≡◌, ℕ, zero, suc, ◌<◌, Bool, true, false, List, [], ◌∷◌, ◌++◌, map, Some, None, refl, ap, ◌∙◌, arith}
use Rattle.std.specs.Prelude.{if◌then◌else◌, slice_get}
use Rattle.step_meaning.specs.declared.value.CType.{CType}
use Rattle.step_meaning.specs.declared.value.Value.{Value}
use Rattle.step_meaning.specs.declared.value.Cell.{Cell}
use Rattle.step_meaning.specs.declared.value.Cell.TheVariants.{Holds}
use Rattle.step_meaning.specs.declared.program.Declared.{Declared}
use Rattle.step_meaning.specs.Types.{same_type}
use Rattle.step_meaning.specs.State.{Registers, register_at, set_register, unset_registers}
use Rattle.step_meaning.proofs.SameTypes.{same_itself}
use Rattle.normal_laws.specs.NormalForm.{Typed, Is}

-- the declared types of the registers
abbrev pub shape : Registers → List CType
shape r = map (λ s. s.declared) r

pub shape_set : (r : Registers) (i : ℕ) (v : Value) → shape (set_register r i v) ≡ shape r
shape_set [] i v = refl
shape_set (s ∷ r) zero v = refl
shape_set (s ∷ r) (suc i) v = ap (λ ts. s.declared ∷ ts) (shape_set r i v)

pub shape_unset : (ds : List Declared) → shape (unset_registers ds) ≡ map (λ d. d.ctype) ds
shape_unset [] = refl
shape_unset (d ∷ ds) = ap (λ ts. d.ctype ∷ ts) (shape_unset ds)

some_is : {A : Type 0} {a b : A} → Some a ≡ Some b → a ≡ b
some_is e = cc

-- a declared register is there, at its type
pub slot_there : (r : Registers) (i : ℕ) (t : CType) → slice_get (shape r) i ≡ Some t → (c : Cell) × (register_at r i t ≡ Some c)
slot_there [] zero t e = absurd cc
slot_there [] (suc i) t e = absurd cc
slot_there (s ∷ r) zero t e = (s.cell, ap (λ u. if same_type u t then Some s.cell else None) (some_is e) ∙ ap (λ b. if b then Some s.cell else None) (same_itself t))
slot_there (s ∷ r) (suc i) t e = slot_there r i t e

typed_set : (b : Bool) (c d x : Cell) → (if b then Some c else None) ≡ Some x → (if b then Some d else None) ≡ Some d
typed_set true c d x e = refl
typed_set false c d x e = absurd cc

pub set_held : (r : Registers) (i : ℕ) (t : CType) (v : Value) (c : Cell) → register_at r i t ≡ Some c → register_at (set_register r i v) i t ≡ Some (Holds v)
set_held [] zero t v c e = absurd cc
set_held [] (suc i) t v c e = absurd cc
set_held (s ∷ r) zero t v c e = typed_set (same_type s.declared t) s.cell (Holds v) c e
set_held (s ∷ r) (suc i) t v c e = set_held r i t v c e

pub set_others : (r : Registers) (i j : ℕ) (v : Value) → j < i → slice_get (set_register r i v) j ≡ slice_get r j
set_others [] i j v h = refl
set_others (s ∷ r) zero j v h = absurd (omega arith)
set_others (s ∷ r) (suc i) zero v h = refl
set_others (s ∷ r) (suc i) (suc j) v h = set_others r i j v (omega arith)

-- the registers have these types
abbrev pub AreAt : List CType → List Typed → Type 0
AreAt all [] = Unit {0}
AreAt all (Is i t ∷ ts) = (slice_get all i ≡ Some t) × AreAt all ts

pub at_split : (D : List CType) (a b : List Typed) → AreAt D (a ++ b) → AreAt D a × AreAt D b
at_split D [] b h = (tt, h)
at_split D (Is i t ∷ a) b h = let k = at_split D a b h.1 in ((h.0, k.0), k.1)
