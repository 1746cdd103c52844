-- Steps after which a machine still has the memory of the step.
use Rattle.std.specs.Prelude.{◌≡◌, Option, Some, None}
use Rattle.step_meaning.specs.declared.value.Action.{Action}
use Rattle.step_meaning.specs.declared.value.Action.TheVariants as act
use Rattle.step_meaning.specs.Memory.{Memory}

-- those that change no variable and no heap block after the memory was seen
abbrev pub ShowsMemory : Action → Type 0
ShowsMemory (act.Enter g vs) = Unit {0}
ShowsMemory (act.Call g) = Unit {0}
ShowsMemory (act.Read p) = Unit {0}
ShowsMemory act.Input = Unit {0}
ShowsMemory (act.Output b) = Unit {0}
ShowsMemory act.Turn = Unit {0}
ShowsMemory (act.Halt x) = Unit {0}
ShowsMemory a = ⊥

-- a step or none, from one memory to another
abbrev pub IsShown : Option Action → Memory → Memory → Type 0
IsShown None before after = Unit {0}
IsShown (Some a) before after = ShowsMemory a → after ≡ before
