-- The ends of a run: the step of a fault that is due, and the exit after the end of `main`.
use Rattle.std.proofs.Common.{◌≡◌, ℕ, suc, List, [], sym, ap, subst, ◌∙◌}
use Rattle.std.specs.Prelude.{ℤ}
use Rattle.step_meaning.specs.declared.value.Action.TheVariants as act
use Rattle.step_meaning.specs.declared.value.RunFault.{RunFault}
use Rattle.step_meaning.specs.declared.value.Value.TheVariants as value
use Rattle.step_meaning.specs.declared.program.Core.{Core}
use Rattle.step_meaning.specs.Flow.{step_by}
use Rattle.step_meaning.specs.Steps.{Exit, Fault, Stop, Then}
use Rattle.run_turns.specs.Pending as pending
use Rattle.run_turns.specs.Rest.{rest}
use Rattle.run_turns.specs.Turns.{Configuration, pushed}
use Rattle.run_turns.proofs.Devices.{exit_ends, fault_ends}
use Rattle.run_laws.proofs.Following.{plainly}

-- a fault that is due is the last step
pub halts : (q : Core) (x : RunFault) (m : Configuration) (input : List ℕ) (n : ℕ) → rest q (pushed (pending.Halt x) m) input (suc n) ≡ Then (step_by m.context.here (act.Halt x) m.memory) (Stop (Fault x))
halts q x m input n = plainly q (pending.Halt x) m.told tt m input n ∙ ap (Then (step_by m.context.here (act.Halt x) m.memory)) (fault_ends q m x input n)

-- after the end of `main` there is no step
pub exits : (q : Core) (m : Configuration) (z : ℤ) (input : List ℕ) (n : ℕ) → m.work ≡ [] → m.told ≡ pending.Gave (value.Int z) → rest q m input n ≡ Stop (Exit z)
exits q m z input n none gave = subst (λ t. rest q (record m { told = t }) input n ≡ Stop (Exit z)) (sym gave) (exit_ends q m (value.Int z) input n none)
