-- Pending parts whose turns need nothing but the machine.
use Rattle.std.specs.Prelude.{ℕ, suc, Option, Some, None}
use Rattle.step_meaning.specs.declared.value.Action.{Action}
use Rattle.run_turns.specs.Pending as pending

-- no `getchar`, no start of an activation, and no fault that is due
abbrev pub IsInside : pending.Pending → Type 0
IsInside pending.Input = ⊥
IsInside (pending.Enter g n) = ⊥
IsInside (pending.Halt x) = ⊥
IsInside p = Unit {0}

-- how many steps were made after a turn
abbrev pub steps_after : Option Action → ℕ → ℕ
steps_after None n = n
steps_after (Some a) n = suc n
