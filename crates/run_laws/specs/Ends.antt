-- A machine after a turn: it runs on, or the run ends.
use Rattle.std.specs.Prelude.{◌≡◌, ℕ, suc, Bool, true, false, ℤ, [], IsTrue}
use Rattle.step_meaning.specs.declared.value.IntKind.TheVariants as kind
use Rattle.step_meaning.specs.declared.value.Value.TheVariants as value
use Rattle.step_meaning.specs.Numbers.{is_in_range}
use Rattle.run_turns.specs.Pending as pending
use Rattle.run_turns.specs.Turns.{Configuration}
use Rattle.run_state.specs.Machine.{Fixed}
use Rattle.run_start.specs.Running.{IsLeft, Runs}
use Rattle.run_steps.specs.Turning.{fixed_after}

-- after a step: where nothing is left to do, `main` has given back an `int`
pub record GoesOn (steps : ℕ) (f : Fixed) (m : Configuration) : Type 0 where
  pub exits : m.work ≡ [] → (z : ℤ) × (m.told ≡ pending.Gave (value.Int z)) × IsTrue (is_in_range kind.Int z)
  pub runs : IsLeft m.work → Runs steps f m

-- after a turn at the part, which made a step or none
abbrev pub Goes : Bool → ℕ → Fixed → pending.Pending → Configuration → Type 0
Goes true steps f p m = GoesOn (suc steps) (fixed_after p true f) m
Goes false steps f p m = Runs steps f m
