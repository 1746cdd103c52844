-- The task of a source of the first form: its core, and its property where it has one.
use Rattle.std.specs.Prelude.{◌≡◌, ℕ, Bool, false, List, [], ◌∷◌, map, Option, Some, None}
use Rattle.std.specs.Option.{option_map}
use Rattle.std.specs.List.{AllByRecursion}
use Rattle.step_meaning.specs.declared.value.Value.{Value}
use Rattle.step_meaning.specs.declared.value.Value.TheVariants as value
use Rattle.step_meaning.specs.declared.value.NameKind.TheVariants as names
use Rattle.step_meaning.specs.declared.value.Action.{Action}
use Rattle.step_meaning.specs.declared.value.Action.TheVariants as act
use Rattle.step_meaning.specs.declared.stmt.Stmt.{Stmt}
use Rattle.step_meaning.specs.declared.stmt.Stmt.TheVariants as core
use Rattle.step_meaning.specs.declared.program.Function.{Function as CoreFunction}
use Rattle.step_meaning.specs.declared.program.Core.{Core}
use Rattle.step_meaning.specs.Steps.{Step}
use Rattle.c_words.specs.declared.word.Mode.TheVariants as mode
use Rattle.c_parser.specs.FirstForm.Program.{Program}
use Rattle.c_parser.specs.FirstForm.Texts.{IsTextOf}
use Rattle.weave_cli.specs.FirstForm.Cores.{first_core}
use Rattle.weave_cli.specs.Simulation.{Simulates}

-- the pointer names the variable of file scope with this number
abbrev pub PointsInto : ℕ → Value → Type 0
PointsInto x (value.Pointer n o) = (n.kind ≡ names.Global) × (n.index ≡ x)
PointsInto x _ = ⊥

-- the action writes the variable
abbrev pub Writes : ℕ → Action → Type 0
Writes x (act.Write p v) = PointsInto x p
Writes x _ = ⊥

-- no Write step of the list accesses the variable
abbrev pub NeverWrites : ℕ → List Step → Type 0
NeverWrites x steps = AllByRecursion (λ s. Writes x s.action → ⊥) steps

-- the core of a source, and the variable of its property where it has one
pub record Task : Type 0 where
  pub core : Core
  pub property : Option ℕ

abbrev pub first_task : Program → Task
first_task p = record { core = first_core p; property = option_map (λ m. m.variable) p.property }

abbrev pub monitor_count : Option ℕ → ℕ
monitor_count None = 0
monitor_count (Some x) = 1

-- the steps meet the property
abbrev pub meets : Option ℕ → List Step → Type 0
meets None steps = Unit {0}
meets (Some x) steps = NeverWrites x steps

abbrev pub no_automaton : ℕ → Bool
no_automaton j = false

-- the core simulates that of the task, and its assertions judge the task's property
abbrev pub SimulatesTask : Task → Core → Type 0
SimulatesTask t q = Simulates t.core q (monitor_count t.property) no_automaton (λ j steps. meets t.property steps) (λ j steps. ⊥)

-- the statements of a body without the annotations and the null statements
abbrev pub program_statements : List Stmt → List Stmt
program_statements [] = []
program_statements (core.Empty ∷ ss) = program_statements ss
program_statements (core.Assert v k r ∷ ss) = program_statements ss
program_statements (s ∷ ss) = s ∷ program_statements ss

-- a function without what weaving adds to it
abbrev pub program_function : CoreFunction → CoreFunction
program_function f = record f { body = option_map program_statements f.body }

-- The variables of file scope with their names and initial values, and each function with its number, name, result, parameters and locals, are those
-- of the task; so are the statements of each function but for annotations and null statements, also where the function is never called.
pub record KeepsProgram (source woven : Core) : Type 0 where
  pub globals : woven.globals ≡ source.globals
  pub initial : woven.initial ≡ source.initial
  pub start : woven.start ≡ source.start
  pub functions : map program_function woven.functions ≡ map program_function source.functions

-- the source is of the first form, and this is its task
pub record IsTaskOf (source : List ℕ) (t : Task) : Type 0 where
  pub program : Program
  pub spelled : IsTextOf mode.Source source program
  pub task : t ≡ first_task program

-- the text is of the woven first form, and this is its core
pub record IsCoreOf (text : List ℕ) (q : Core) : Type 0 where
  pub program : Program
  pub spelled : IsTextOf mode.Woven text program
  pub core : q ≡ first_core program

-- the text is of the woven first form, and its core keeps the source's program, simulates it and judges its property
pub record IsWeavingOf (source text : List ℕ) : Type 0 where
  pub task : Task
  pub core : Core
  pub of_source : IsTaskOf source task
  pub of_text : IsCoreOf text core
  pub keeps : KeepsProgram task.core core
  pub simulates : SimulatesTask task core
