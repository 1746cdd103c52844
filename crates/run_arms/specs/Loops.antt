-- The turn of a `for` by its condition.
use Rattle.std.specs.Prelude.{Option, Some, None}
use Rattle.step_meaning.specs.declared.expr.Expr.{Expr}
use Rattle.step_meaning.specs.declared.stmt.Stmt.{Stmt}
use Rattle.run_turns.specs.Pending as pending
use Rattle.run_turns.specs.Turns.{Configuration, pushed}

-- the turn of this `for`: its condition comes, and where it has none its body does
abbrev pub for_turning : Option Expr → Stmt → Stmt → Configuration → Configuration
for_turning None s body m = pushed (pending.Execute body) (pushed (pending.Pass (pending.TurnEnd s)) m)
for_turning (Some e) s body m = pushed (pending.Evaluate e) (pushed (pending.Conclude s) m)
