-- Calls whose only fault is want of memory.
use Rattle.std.proofs.Common.{◌≡◌, Ok, Err, refl}
use Rattle.std.specs.Prelude.{IfErr}
use Rattle.typing_rules.specs.declared.fault.TypeFault.TheVariants as fault
use Rattle.typing_rules.specs.Checked.{Checked, Gives}

pub memory_alone : (r : Checked (Unit {0})) → IfErr r (λ e. e ≡ fault.Memory) → Gives (Ok tt) r
memory_alone (Ok u) h = refl
memory_alone (Err e) h = λ n. absurd (n h)
