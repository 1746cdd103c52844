-- Runs in which the misuse of a register ends the run at once, without a Halt step. Where these are a program's runs, none of them uses a register that holds nothing (C11 6.3.2.1, 2), or one at another type than its own.
use Rattle.std.specs.Prelude.{◌≡◌, ℕ, List, [], Some, slice_get}
use Rattle.step_meaning.specs.declared.value.Value.{Value}
use Rattle.step_meaning.specs.declared.value.RunFault.TheVariants as fault
use Rattle.step_meaning.specs.declared.stmt.Stmt.{Stmt}
use Rattle.step_meaning.specs.declared.program.Core.{Core}
use Rattle.step_meaning.specs.declared.program.Function.{Function}
use Rattle.step_meaning.specs.Steps.{Fault, Trace, Stop}
use Rattle.step_meaning.specs.State.{unset_registers}
use Rattle.step_meaning.specs.Flow.{Flow, resting, direct, World, Gives, Done, Over, Stuck}
use Rattle.step_meaning.specs.Calls.{activation, calls}
use Rattle.step_meaning.specs.Runs.{run, exit_of, start_state}

-- the definition of the meaning, but that the misuse of a register ends the run by a fault without a Halt step
abbrev pub strict : Flow
strict = record resting { misuse = λ here f. λ rest s r. Stop (Fault fault.Invalid) }

abbrev pub strict_run : Core → List ℕ → ℕ → Trace
strict_run q input k = calls strict q k k q.start [] (λ v s. Stop (exit_of v)) (start_state q input)

-- no run uses a register that holds nothing, or one at another type than its own: a run of a well-formed program ends by a fault at a Halt step alone, and a strict run with a misuse ends without one
abbrev pub SetsRegisters : Core → Type 0
SetsRegisters q = (input : List ℕ) (k : ℕ) → strict_run q input k ≡ run q input k

-- ---- the same of each activation by itself

-- a part of a program isn't left by the misuse of a register
abbrev pub IsNotStuck : {A : Type 0} → Gives A → Type 0
IsNotStuck (Done a w r) = Unit {0}
IsNotStuck (Over e l) = Unit {0}
IsNotStuck (Stuck e l) = ⊥

-- no activation of a function with a body is left so, whatever its arguments, the world that it begins in and the bounds
abbrev pub ActivationsSetRegisters : Core → Type 0
ActivationsSetRegisters q =
    (k n g : ℕ) (f : Function) (body : List Stmt) (vs : List Value) (w : World) → slice_get q.functions g ≡ Some f → f.body ≡ Some body
    → IsNotStuck (activation direct q k (calls direct q k n) g f body vs w (unset_registers f.registers))

-- where no activation is, no run is
abbrev pub StrictRunsAgree : Type 0
StrictRunsAgree = (q : Core) → ActivationsSetRegisters q → SetsRegisters q
