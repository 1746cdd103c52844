-- What a statement does, and how it is left (C11 6.8). A loop makes at most so many turns as the bound says.
use Rattle.std.specs.Prelude.{ℕ, zero, suc, cond, List, [], ◌∷◌, Option, Some, None, option_map}
use Rattle.step_meaning.specs.declared.value.Value.{Value}
use Rattle.step_meaning.specs.declared.value.Action.TheVariants as act
use Rattle.step_meaning.specs.declared.expr.Expr.{Expr}
use Rattle.step_meaning.specs.declared.predicate.Predicate.{Predicate}
use Rattle.step_meaning.specs.declared.stmt.VerdictKind.{VerdictKind}
use Rattle.step_meaning.specs.declared.stmt.GhostStmt.{GhostStmt}
use Rattle.step_meaning.specs.declared.stmt.Stmt.{Stmt, Row_of-Stmt, end_of-Stmt, more_of-Stmt}
use Rattle.step_meaning.specs.declared.stmt.Stmt.TheVariants.{Empty, Eval, Init, Block', If', While', Do', For', Break, Continue, Return, Ghost, Assert}
use Rattle.step_meaning.specs.declared.program.Layout.{Layout}
use Rattle.step_meaning.specs.Names.{truth}
use Rattle.step_meaning.specs.Steps.{More}
use Rattle.step_meaning.specs.State.{Here, designated}
use Rattle.step_meaning.specs.Ghosts.{ghosts_after, assertion_holds}
use Rattle.step_meaning.specs.Flow.{Flow}
use Rattle.step_meaning.specs.Accesses.{store}
use Rattle.step_meaning.specs.Expressions.{eval}

-- how a statement is left (C11 6.8.6): at its end, by `break`, by `continue`, or by `return`
pub data Completion : Type 0 where
  Next : Completion
  Broken : Completion
  Continued : Completion
  Returned : Option Value → Completion

module _ (F : Flow) where
  -- ---- ghost code and assertions

  abbrev pub ghost_code : List Layout → Here → GhostStmt → F.Does (Unit {0})
  ghost_code layouts here g = F.bind F.get (λ s. F.bind F.registers (λ r. F.put_ghosts (ghosts_after layouts here s.memory r g s.ghosts)))

  abbrev pub assertion : List Layout → Here → VerdictKind → ℕ → Predicate → F.Does (Unit {0})
  assertion layouts here v k p = F.bind F.get (λ s. F.bind F.registers (λ r. F.judge k v (assertion_holds layouts here s.memory r s.ghosts p)))

  -- ---- loops (C11 6.8.5)

  -- the next statement runs where the one before it was left at its end
  abbrev pub on_next : F.Does Completion → Completion → F.Does Completion
  on_next more Next = more
  on_next more c = F.pure c

  -- what ends a turn after the body, also after a `continue`
  abbrev pub at_turn_end : F.Does Completion → Completion → F.Does Completion
  at_turn_end d Next = d
  at_turn_end d Continued = d
  at_turn_end d Broken = F.pure Broken
  at_turn_end d (Returned v) = F.pure (Returned v)

  -- how a loop goes on after a turn
  abbrev pub after_turn : F.Does Completion → Completion → F.Does Completion
  after_turn again Next = again
  after_turn again Continued = again
  after_turn again Broken = F.pure Next
  after_turn again (Returned v) = F.pure (Returned v)

  -- at most n turns, each a Turn step first. Where a turn after the last would begin, the bound is spent
  abbrev pub turns : Here → F.Does Completion → ℕ → F.Does Completion
  turns here turn zero = F.stop More
  turns here turn (suc n) = F.bind (F.emit here act.Turn) (λ u. F.bind turn (after_turn (turns here turn n)))

  -- a loop's test, which leaves the loop where it doesn't hold. A `for` without test goes on
  abbrev pub when_test : Option (F.Does Value) → F.Does Completion → F.Does Completion
  when_test None d = d
  when_test (Some test) d = F.bind test (λ v. cond (truth v) d (F.pure Broken))

  -- the step of a `for`
  abbrev pub loop_step : Option (F.Does Value) → F.Does Completion
  loop_step None = F.pure Next
  loop_step (Some d) = F.bind d (λ v. F.pure Next)

  -- ---- statements

  module _ (layouts : List Layout) (call : ℕ → List Value → F.Plain) (here : Here) (bound : ℕ) where
    abbrev pub exec_return : Option Expr → F.Does Completion
    exec_return None = F.pure (Returned None)
    exec_return (Some e) = F.bind (eval F layouts call here e) (λ v. F.pure (Returned (Some v)))

    abbrev mutual
      pub exec : Stmt → F.Does Completion
      exec Empty = F.pure Next
      exec (Eval e) = F.bind (eval F layouts call here e) (λ v. F.pure Next)
      exec (Init v o t e) = F.bind (eval F layouts call here e) (λ w. F.bind (store F here t (designated here.activation v o) w) (λ written. F.pure Next))
      exec (Block' b ss) = exec_row ss
      exec (If' e b (more_of-Stmt s end_of-Stmt) c (more_of-Stmt u end_of-Stmt)) = F.bind (eval F layouts call here e) (λ v. cond (truth v) (exec s) (exec u))
      exec (While' e b (more_of-Stmt s end_of-Stmt)) = turns here (when_test (Some (eval F layouts call here e)) (exec s)) bound
      exec (Do' b (more_of-Stmt s end_of-Stmt) e) = turns here (F.bind (exec s) (at_turn_end (when_test (Some (eval F layouts call here e)) (F.pure Next)))) bound
      exec (For' test step b (more_of-Stmt s end_of-Stmt)) = turns here (when_test (option_map (eval F layouts call here) test) (F.bind (exec s) (at_turn_end (loop_step (option_map (eval F layouts call here) step))))) bound
      exec Break = F.pure Broken
      exec Continue = F.pure Continued
      exec (Return e) = exec_return e
      exec (Ghost g) = F.bind (ghost_code layouts here g) (λ u. F.pure Next)
      exec (Assert v k r) = F.bind (assertion layouts here v k r) (λ u. F.pure Next)

      pub exec_row : {n : _} → Row_of-Stmt n → F.Does Completion
      exec_row end_of-Stmt = F.pure Next
      exec_row (more_of-Stmt s more) = F.bind (exec s) (on_next (exec_row more))

    abbrev pub exec_all : List Stmt → F.Does Completion
    exec_all [] = F.pure Next
    exec_all (s ∷ ss) = F.bind (exec s) (on_next (exec_all ss))
