-- The runs of a source of the first form and of its woven program, item by item.
use Rattle.std.proofs.Common.{◌≡◌, ℕ, suc, Bool, true, false, not, List, [], ◌∷◌, ◌++◌, Option, Some, None, refl}
use Rattle.std.specs.Prelude.{◌==◌}
use Rattle.std.specs.List.{AllByRecursion}
use Rattle.step_meaning.specs.declared.value.Value.{Value}
use Rattle.step_meaning.specs.declared.value.Value.TheVariants as value
use Rattle.step_meaning.specs.declared.value.Cell.{Cell}
use Rattle.step_meaning.specs.declared.value.NameKind.TheVariants as names
use Rattle.step_meaning.specs.declared.value.Action.{Action}
use Rattle.step_meaning.specs.declared.value.Action.TheVariants as act
use Rattle.step_meaning.specs.declared.stmt.VerdictKind.TheVariants.{Safe}
use Rattle.step_meaning.specs.declared.stmt.Stmt.{Stmt}
use Rattle.step_meaning.specs.Memory.{Memory, reached}
use Rattle.step_meaning.specs.Steps.{Step, Verdict, Made, Judged, End, Trace, Stop, Then}
use Rattle.step_meaning.specs.State.{State, Registers, Here}
use Rattle.step_meaning.specs.Flow.{Resting, RestingCall, resting}
use Rattle.step_meaning.specs.Ghosts.{assertion_holds}
use Rattle.step_meaning.specs.Accesses.{write_at}
use Rattle.step_meaning.specs.Statements.{Completion, exec_all}
use Rattle.c_parser.specs.declared.first_form.tree.FirstStmt.{FirstStmt}
use Rattle.c_parser.specs.declared.first_form.tree.FirstStmt.TheVariants as stmt
use Rattle.c_words.specs.declared.word.Mode.TheVariants as mode
use Rattle.c_parser.specs.FirstForm.Texts.{StatementFits}
use Rattle.weave_cli.specs.FirstForm.Cores.{int, separated, core_statements}
use Rattle.weave_cli.specs.FirstForm.Weaving.{woven_statements}

-- an action that writes nothing
abbrev pub IsQuiet : Action → Type 0
IsQuiet (act.Write p v) = ⊥
IsQuiet _ = Unit {0}

abbrev pub global_pointer : ℕ → Value
global_pointer y = value.Pointer (record { kind = names.Global; activation = 0; index = y }) 0

-- The trace of the source and that of the woven program, where the property is of the variable x: each write has a verdict before it, and nothing else has.
pub data Woven (x : ℕ) : Trace → Trace → Type 0 where
  stops : {e : End} → Woven x (Stop e) (Stop e)
  quiet : {t u : Trace} (s : Step) → IsQuiet s.action → Woven x t u → Woven x (Then (Made s) t) (Then (Made s) u)
  writes : {t u : Trace} (s : Step) (v : Verdict) (y : ℕ) (z : Value) → s.action ≡ act.Write (global_pointer y) z
      → v.monitor ≡ 1 → v.kind ≡ Safe → v.truth ≡ not (y == x)
      → Woven x t u → Woven x (Then (Made s) t) (Then (Judged v) (Then (Made s) u))

-- two parts of a run that lead from woven continuations to woven traces
pub record Alike (x : ℕ) {A : Type 0} (d d' : Resting A) : Type 0 where
  pub by : (rest rest' : A → State → Registers → Trace) → ((a : A) (s : State) (r : Registers) → Woven x (rest a s r) (rest' a s r))
      → (s : State) (r : Registers) → Woven x (d rest s r) (d' rest' s r)

-- the same for calls
pub record CallsAlike (x : ℕ) (c c' : ℕ → List Value → RestingCall) : Type 0 where
  pub by : (g : ℕ) (vs : List Value) (rest rest' : Value → State → Trace) → ((v : Value) (s : State) → Woven x (rest v s) (rest' v s))
      → (s : State) → Woven x (c g vs rest s) (c' g vs rest' s)

-- ---- one write with its assertion

-- what the assertion finds, in each state
separated_holds : (y x : ℕ) (here : Here) (memory ghosts : Memory) (r : Registers) → assertion_holds [] here memory r ghosts (separated y x) ≡ not (y == x)
separated_holds y x here memory ghosts r = of (y == x) refl
  where
    of : (b : Bool) → (y == x) ≡ b → assertion_holds [] here memory r ghosts (separated y x) ≡ not (y == x)
    of true e = rw e refl
    of false e = rw e refl

-- the write itself, by whether its access is allowed
write_alike : (x : ℕ) (here : Here) (p v : Value) (c : Option Cell) → Alike x (write_at resting here p v c) (write_at resting here p v c)
write_alike x here p v None = record { by = λ rest rest' h s r. quiet _ tt stops }
write_alike x here p v (Some c) = record { by = λ rest rest' h s r. h v _ r }

-- ---- statements

pub source_is_not_woven : mode.Source ≡ mode.Woven → ⊥
source_is_not_woven e = cc

module _ (x : ℕ) (call call' : ℕ → List Value → RestingCall) (alike : CallsAlike x call call') (here : Here) (k : ℕ) where
  abbrev source_all : List Stmt → Resting Completion
  source_all ss = exec_all resting [] call here k ss

  abbrev woven_all : List Stmt → Resting Completion
  woven_all ss = exec_all resting [] call' here k ss

  pub statements_alike : (variables earlier : ℕ) (ss : List FirstStmt) (tail : List Stmt) → AllByRecursion (StatementFits mode.Source variables earlier) ss
      → Alike x (source_all tail) (woven_all tail) → Alike x (source_all (core_statements ss ++ tail)) (woven_all (core_statements (woven_statements x ss) ++ tail))
  statements_alike n e [] tail fits after = after
  statements_alike n e (stmt.Assign y z ∷ ss) tail fits after = record {
    by = λ rest rest' h s r.
        let more = statements_alike n e ss tail fits.1 after in
        writes _ _ y (value.Int z) refl refl refl (separated_holds y x here s.memory s.ghosts r)
        ((write_alike x here (global_pointer y) (value.Int z) (reached s.memory (global_pointer y) int)).by _ _ (λ v s r. more.by rest rest' h s r) s r);
  }
  statements_alike n e (stmt.Call f ∷ ss) tail fits after = record {
    by = λ rest rest' h s r.
        let more = statements_alike n e ss tail fits.1 after in
        quiet _ tt (alike.by (suc (suc (suc (suc f)))) [] _ _ (λ v s. more.by rest rest' h s r) s);
  }
  statements_alike n e (stmt.Empty ∷ ss) tail fits after = absurd (source_is_not_woven fits.0)
  statements_alike n e (stmt.Assert y z ∷ ss) tail fits after = absurd (source_is_not_woven fits.0.0)
