-- Ends of a run, by the answers at which its machine stops, and their causes.
use Rattle.std.proofs.Common.{◌≡◌, ℕ, ◌+◌, ◌-◌, ◌<◌, ◌≤◌, Some, None, refl, arith}
use Rattle.std.specs.Prelude.{min, ◌^◌}
use Rattle.weave_base.specs.Causes.{HasCause}
use Rattle.run_check.specs.declared.advance.Advance.{Advance}
use Rattle.run_check.specs.declared.advance.Advance.TheVariants as advance
use Rattle.run_check.specs.declared.run_to.RunEnd.{RunEnd}
use Rattle.run_check.specs.declared.run_to.RunEnd.TheVariants as end
use Rattle.run_check.specs.RunningTo.{last_end}

some_is_not_none : (e : RunEnd) → Some e ≡ None → ⊥
some_is_not_none e h = cc

pub end_none : (a : Advance) → last_end a ≡ None → a ≡ advance.Step
end_none advance.Step e = refl
end_none (advance.Exit z) e = absurd (some_is_not_none (end.Exit z) e)
end_none (advance.Fault x) e = absurd (some_is_not_none (end.Fault x) e)
end_none advance.CellsFull e = absurd (some_is_not_none end.Cells e)
end_none advance.CallsFull e = absurd (some_is_not_none end.Calls e)
end_none advance.ReadFault e = absurd (some_is_not_none end.ReadFault e)
end_none advance.WriteFault e = absurd (some_is_not_none end.WriteFault e)

pub read_end : (a : Advance) (e : RunEnd) → last_end a ≡ Some e → e ≡ end.ReadFault → a ≡ advance.ReadFault
read_end advance.Step e h k = absurd (no h)
  where
    no : None ≡ Some e → ⊥
    no h = cc
read_end (advance.Exit z) e h k = absurd (no h k)
  where
    no : Some (end.Exit z) ≡ Some e → e ≡ end.ReadFault → ⊥
    no h k = cc
read_end (advance.Fault x) e h k = absurd (no h k)
  where
    no : Some (end.Fault x) ≡ Some e → e ≡ end.ReadFault → ⊥
    no h k = cc
read_end advance.CellsFull e h k = absurd (no h k)
  where
    no : Some end.Cells ≡ Some e → e ≡ end.ReadFault → ⊥
    no h k = cc
read_end advance.CallsFull e h k = absurd (no h k)
  where
    no : Some end.Calls ≡ Some e → e ≡ end.ReadFault → ⊥
    no h k = cc
read_end advance.ReadFault e h k = refl
read_end advance.WriteFault e h k = absurd (no h k)
  where
    no : Some end.WriteFault ≡ Some e → e ≡ end.ReadFault → ⊥
    no h k = cc

pub write_end : (a : Advance) (e : RunEnd) → last_end a ≡ Some e → e ≡ end.WriteFault → a ≡ advance.WriteFault
write_end advance.Step e h k = absurd (no h)
  where
    no : None ≡ Some e → ⊥
    no h = cc
write_end (advance.Exit z) e h k = absurd (no h k)
  where
    no : Some (end.Exit z) ≡ Some e → e ≡ end.WriteFault → ⊥
    no h k = cc
write_end (advance.Fault x) e h k = absurd (no h k)
  where
    no : Some (end.Fault x) ≡ Some e → e ≡ end.WriteFault → ⊥
    no h k = cc
write_end advance.CellsFull e h k = absurd (no h k)
  where
    no : Some end.Cells ≡ Some e → e ≡ end.WriteFault → ⊥
    no h k = cc
write_end advance.CallsFull e h k = absurd (no h k)
  where
    no : Some end.Calls ≡ Some e → e ≡ end.WriteFault → ⊥
    no h k = cc
write_end advance.ReadFault e h k = absurd (no h k)
  where
    no : Some end.ReadFault ≡ Some e → e ≡ end.WriteFault → ⊥
    no h k = cc
write_end advance.WriteFault e h k = refl

-- ---- causes

rose_before : (a b c most : ℕ) → a ≤ b → min (b + 1) most ≤ c → min (a + 1) most ≤ c
rose_before a b c most l k = omega (arith, l, k)

both_later : (a b c : ℕ) → a ≤ b → b ≤ c → a ≤ c
both_later a b c l k = omega (arith, l, k)

-- of a call after others
pub cause_later : (a b c : ℕ) (Fails Ends : Type 0) → a ≤ b → HasCause b c Fails → (Ends → Fails) → HasCause a c Ends
cause_later a b c Fails Ends l h g = record { later = both_later a b c l h.later; failed = λ e. rose_before a b c (2 ^ 64 - 1) l (h.failed (g e)) }

pub cause_none : (a b : ℕ) (Fails : Type 0) → a ≤ b → (Fails → ⊥) → HasCause a b Fails
cause_none a b Fails l none = record { later = l; failed = λ f. absurd (none f) }

-- ---- the steps that are left

pub less_left : (limit old new : ℕ) → old < limit → new ≡ old + 1 → limit - new < limit - old
less_left limit old new l e = omega (arith, l, e)
