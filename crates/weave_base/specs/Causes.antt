-- Why a call of the outside failed: its object's count of faults rose.
use Rattle.std.specs.Prelude.{ℕ, ◌+◌, ◌-◌, ◌^◌, ◌≤◌, min}

-- the count rose by one at least, or stands at the last value of a `u64`
abbrev pub Rose : ℕ → ℕ → Type 0
Rose before now = min (before + 1) (2 ^ 64 - 1) ≤ now

-- a count that doesn't fall, and rose where the call failed
pub record HasCause (before now : ℕ) (Fails : Type 0) : Type 0 where
  pub later : before ≤ now
  pub failed : Fails → Rose before now
