-- A run of a well-formed program ends by a fault at a Halt step of that fault alone: it does nothing that no typed program does, since that ends a run by a fault without a Halt step.
use Rattle.std.specs.Prelude.{◌≡◌, ℕ, List}
use Rattle.step_meaning.specs.declared.value.RunFault.{RunFault}
use Rattle.step_meaning.specs.declared.value.Action.TheVariants as act
use Rattle.step_meaning.specs.declared.program.Core.{Core}
use Rattle.step_meaning.specs.Steps.{Item, Made, Judged, Fault, Trace, Stop, Then}
use Rattle.step_meaning.specs.Runs.{run}
use Rattle.step_meaning.specs.WellFormed.{IsWellFormed}

abbrev pub IsHalt : RunFault → Item → Type 0
IsHalt f (Made s) = s.action ≡ act.Halt f
IsHalt f (Judged v) = ⊥

-- where the run ends by a fault, its last item is a Halt step of that fault
abbrev pub FaultsHalt : Trace → Type 0
FaultsHalt (Stop (Fault f)) = ⊥
FaultsHalt (Stop e) = Unit {0}
FaultsHalt (Then i (Stop (Fault f))) = IsHalt f i
FaultsHalt (Then i t) = FaultsHalt t

abbrev pub WellFormedFaultsHalt : Type 0
WellFormedFaultsHalt = (q : Core) → IsWellFormed q → (input : List ℕ) (k : ℕ) → FaultsHalt (run q input k)
