-- What the normal form of a program promises of its runs: they are those of the program, with the same numbers of functions, and none of them uses a register that holds nothing.
use Rattle.std.specs.Prelude.{◌≡◌, ℕ, ◌==◌, true, List, Option, Some, None, slice_get}
use Rattle.step_meaning.specs.declared.value.IntKind.TheVariants as kind
use Rattle.step_meaning.specs.declared.value.CType.TheVariants as type
use Rattle.step_meaning.specs.declared.stmt.Stmt.{Stmt}
use Rattle.step_meaning.specs.declared.program.Core.{Core}
use Rattle.step_meaning.specs.declared.program.Function.{Function}
use Rattle.step_meaning.specs.Settings.{code_setting}
use Rattle.step_meaning.specs.Runs.{run}
use Rattle.step_meaning.specs.Erasure.{Agrees}
use Rattle.step_meaning.specs.Sources.{IsSource}
use Rattle.step_meaning.specs.Strict.{ActivationsSetRegisters, SetsRegisters}
use Rattle.normal_laws.specs.NormalForm.{normal_core}
use Rattle.normal_laws.specs.SourceCode.{IsSourceBody}

-- ---- what is asked of a program

abbrev pub OfSourceBody : Core → Function → Option (List Stmt) → Type 0
OfSourceBody q f None = Unit {0}
OfSourceBody q f (Some ss) = IsSourceBody (code_setting q f) ss

pub record HasSourceCode (q : Core) (g : ℕ) (f : Function) : Type 0 where
  pub body : OfSourceBody q f f.body
  pub main_result : (g == q.start) ≡ true → f.result ≡ type.Int kind.Int

-- its code names variables of file scope and locals alone, has no annotation, and its `main` gives back an `int`
pub record IsSourceCore (q : Core) : Type 0 where
  pub functions : (g : ℕ) (f : Function) → slice_get q.functions g ≡ Some f → HasSourceCode q g f

-- ---- runs

-- for every input and bound the same items and the same end
abbrev pub SameRuns : Core → Core → Type 0
SameRuns p q = (input : List ℕ) (k : ℕ) → run p input k ≡ run q input k

-- ---- the laws

-- the core of a source is such a program
abbrev pub SourcesHaveSourceCode : Type 0
SourcesHaveSourceCode = (q : Core) → IsSource q → IsSourceCore q

abbrev pub NormalRunsAgree : Type 0
NormalRunsAgree = (q : Core) → IsSourceCore q → SameRuns (normal_core q) q

-- so what both show outside is the same
abbrev pub NormalAgrees : Type 0
NormalAgrees = (q : Core) → IsSourceCore q → Agrees (normal_core q) q

-- no activation is left by the misuse of a register, whatever its arguments and the world that it begins in, and no run is
abbrev pub NormalSetsRegisters : Type 0
NormalSetsRegisters = (q : Core) → IsSourceCore q → ActivationsSetRegisters (normal_core q) × SetsRegisters (normal_core q)
