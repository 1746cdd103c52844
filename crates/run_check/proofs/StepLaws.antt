-- After a step: something is left to do, or `main` has ended.
use Rattle.std.proofs.Common.{◌≡◌, ℕ, suc, ◌<◌, List, [], ◌∷◌, length, refl, sym, ap, ◌∙◌, arith}
use Rattle.std.specs.Prelude.{ℤ, IsTrue}
use Rattle.step_meaning.specs.declared.value.IntKind.TheVariants as kind
use Rattle.step_meaning.specs.declared.value.Value.{Value}
use Rattle.step_meaning.specs.declared.value.Value.TheVariants as value
use Rattle.step_meaning.specs.declared.program.Core.{Core}
use Rattle.step_meaning.specs.Numbers.{is_in_range}
use Rattle.step_meaning.specs.Steps.{Exit, Stop}
use Rattle.run_turns.specs.Pending as pending
use Rattle.run_turns.specs.Rest.{rest}
use Rattle.run_state.specs.declared.machine.Machine.{Machine}
use Rattle.run_state.specs.declared.work.Work.{Work}
use Rattle.run_state.specs.Machine.{all_pending, configuration_of, fixed_of, told_of}
use Rattle.run_laws.specs.Ends.{GoesOn}
use Rattle.run_start.specs.Running.{IsLeft}
use Rattle.run_laws.proofs.Ending.{exits}

pub something_left : (q : Core) (ws : List Work) → 0 < length ws → IsLeft (all_pending q ws)
something_left q [] h = absurd (no h)
  where
    no : 0 < 0 → ⊥
    no h = omega (arith, h)
something_left q (w ∷ ws) h = tt

pub nothing_pending : (q : Core) (ws : List Work) → length ws ≡ 0 → all_pending q ws ≡ []
nothing_pending q [] e = refl
nothing_pending q (w ∷ ws) e = absurd (no (length ws) e)
  where
    no : (n : ℕ) → suc n ≡ 0 → ⊥
    no n e = omega (arith, e)

-- ---- the exit

gave_same : (v w : Value) → pending.Gave v ≡ pending.Gave w → v ≡ w
gave_same v w e = cc

module _ (x : Machine) (none : length x.work.0 ≡ 0) (v : Value) (gave : told_of x.told ≡ pending.Gave v) where
  pub exit_given : (steps : ℕ) → GoesOn steps (fixed_of x) (configuration_of x) → (z : ℤ) × (v ≡ value.Int z) × IsTrue (is_in_range kind.Int z)
  exit_given steps g = let e = g.exits (nothing_pending x.core.now x.work.0 none) in (e.0, gave_same v (value.Int e.0) (sym gave ∙ e.1), e.2)

  pub exits_with : (z : ℤ) → v ≡ value.Int z → (bytes : List ℕ) (n : ℕ) → rest x.core.now (configuration_of x) bytes n ≡ Stop (Exit z)
  exits_with z e bytes n = exits x.core.now (configuration_of x) z bytes n (nothing_pending x.core.now x.work.0 none) (gave ∙ ap pending.Gave e)
