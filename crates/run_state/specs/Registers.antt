-- The registers of the open activations.
use Rattle.std.specs.Prelude.{◌≡◌, ℕ, ◌+◌, ◌<◌, ◌≤◌, List, [], ◌∷◌, length, map, take, drop}
use Rattle.step_meaning.specs.declared.value.CType.{CType}
use Rattle.step_meaning.specs.declared.value.Cell.TheVariants.{Nothing}
use Rattle.step_meaning.specs.Memory.{Slot}
use Rattle.step_meaning.specs.State.{Registers}
use Rattle.run_state.specs.declared.registers.Register.{Register}

pub record RegisterFile : Type 0 where
  -- those of each open activation, the innermost first
  pub activations : List Registers
  -- how many registers there may be
  pub room : ℕ
  -- how many activations may be open
  pub calls : ℕ

-- those of the innermost activation
abbrev pub innermost : List Registers → Registers
innermost [] = []
innermost (r ∷ rs) = r

-- with others for the innermost activation
abbrev pub with_innermost : Registers → List Registers → List Registers
with_innermost r [] = []
with_innermost r (x ∷ rs) = r ∷ rs

-- how many there are
abbrev pub total : List Registers → ℕ
total [] = 0
total (r ∷ rs) = length r + total rs

abbrev pub unset_register : CType → Slot
unset_register t = record { declared = t; cell = Nothing }

-- ---- inside

abbrev pub slot_of : Register → Slot
slot_of r = record { declared = r.ctype.now; cell = r.cell }

-- the registers of all activations in one list, the outermost activation first, and the places at which those of each begin, the innermost first
abbrev pub parted : List Register → List ℕ → List Registers
parted cells [] = []
parted cells (s ∷ ss) = map slot_of (drop s cells) ∷ parted (take s cells) ss

-- the registers of an activation begin where those of its caller end, and those of the outermost one at the start
abbrev pub AreStarts : ℕ → List ℕ → Type 0
AreStarts n [] = n ≡ 0
AreStarts n (s ∷ ss) = (s ≤ n) × AreStarts s ss

-- the place of the register with number i of the innermost activation, where it has one
abbrev pub IsPlace : ℕ → List ℕ → ℕ → ℕ → Type 0
IsPlace n [] i p = ⊥
IsPlace n (s ∷ ss) i p = (p ≡ s + i) × (p < n)

-- it has none
abbrev pub IsPast : ℕ → List ℕ → ℕ → Type 0
IsPast n [] i = Unit {0}
IsPast n (s ∷ ss) i = n ≤ s + i
