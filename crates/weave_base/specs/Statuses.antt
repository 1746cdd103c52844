-- The exit statuses as numbers.
use Rattle.std.specs.Prelude.{ℕ}
use Rattle.weave_base.specs.declared.status.Status.{Status}
use Rattle.weave_base.specs.declared.status.Status.TheVariants.{Done, Violated, Words, Refused, ReadFault, WriteFault, NoMemory, RunFault, StepsSpent, CellsFull, CallsFull}

-- the number that the process ends with
abbrev pub code_of : Status → ℕ
code_of Done = 0
code_of Violated = 1
code_of Words = 2
code_of Refused = 3
code_of ReadFault = 4
code_of WriteFault = 5
code_of NoMemory = 6
code_of RunFault = 7
code_of StepsSpent = 8
code_of CellsFull = 9
code_of CallsFull = 10
