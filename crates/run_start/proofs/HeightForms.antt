-- The room of each form of statement, at the variants that code sees.
use Rattle.std.proofs.Common.{◌≡◌, ℕ, ◌+◌, max, refl, ap, Option, List, [], ◌∷◌}
use denote.Hole.Carrier.{hidden}
use Rattle.step_meaning.specs.declared.value.CType.{CType}
use Rattle.step_meaning.specs.declared.expr.Variable.{Variable}
use Rattle.step_meaning.specs.declared.expr.Expr.{Expr}
use Rattle.step_meaning.specs.declared.predicate.Predicate.{Predicate}
use Rattle.step_meaning.specs.declared.stmt.GhostStmt.{GhostStmt}
use Rattle.step_meaning.specs.declared.stmt.VerdictKind.{VerdictKind}
use Rattle.step_meaning.specs.declared.stmt.Stmt.{Stmt}
use Rattle.step_meaning.specs.declared.stmt.Stmt.TheVariants as form
use Rattle.step_meaning.specs.declared.stmt.Stmt.TheBlock.{shape-the_row-Stmt-0, hidden-the_row-Stmt-0, shape-the_row-Stmt-1, hidden-the_row-Stmt-1}
use Rattle.run_turns.specs.Room.{depth, depth_if_any, height, height_row, height_all}

row_height : (ss : List Stmt) → height_row (hidden-the_row-Stmt-0 ss) ≡ height_all ss
unfolding shape-the_row-Stmt-0 hidden-the_row-Stmt-0 hidden
row_height [] = refl
row_height (s ∷ ss) = ap (λ n. max (height s + 1) n) (row_height ss)

pub height-Empty : height (form.Empty) ≡ 3
unfolding shape-the_row-Stmt-0 hidden-the_row-Stmt-0 shape-the_row-Stmt-1 hidden-the_row-Stmt-1 hidden
height-Empty = refl

pub height-Eval : (e : Expr) → height (form.Eval e) ≡ depth e + 1
unfolding shape-the_row-Stmt-0 hidden-the_row-Stmt-0 shape-the_row-Stmt-1 hidden-the_row-Stmt-1 hidden
height-Eval e = refl

pub height-Init : (v : Variable) (o : ℕ) (t : CType) (e : Expr) → height (form.Init v o t e) ≡ max (depth e + 1) 4
unfolding shape-the_row-Stmt-0 hidden-the_row-Stmt-0 shape-the_row-Stmt-1 hidden-the_row-Stmt-1 hidden
height-Init v o t e = refl

pub height-Block : (ss : List Stmt) → height (form.Block ss) ≡ height_all ss
unfolding shape-the_row-Stmt-0 hidden-the_row-Stmt-0 shape-the_row-Stmt-1 hidden-the_row-Stmt-1 hidden
height-Block ss = row_height ss

pub height-If : (e : Expr) (s u : Stmt) → height (form.If e s u) ≡ max (depth e + 1) (max (height s) (height u))
unfolding shape-the_row-Stmt-0 hidden-the_row-Stmt-0 shape-the_row-Stmt-1 hidden-the_row-Stmt-1 hidden
height-If e s u = refl

pub height-While : (e : Expr) (s : Stmt) → height (form.While e s) ≡ max (depth e) (height s) + 2
unfolding shape-the_row-Stmt-0 hidden-the_row-Stmt-0 shape-the_row-Stmt-1 hidden-the_row-Stmt-1 hidden
height-While e s = refl

pub height-Do : (s : Stmt) (e : Expr) → height (form.Do s e) ≡ max (depth e) (height s) + 2
unfolding shape-the_row-Stmt-0 hidden-the_row-Stmt-0 shape-the_row-Stmt-1 hidden-the_row-Stmt-1 hidden
height-Do s e = refl

pub height-For : (test step : Option Expr) (s : Stmt) → height (form.For test step s) ≡ max (max (depth_if_any test) (depth_if_any step)) (height s) + 2
unfolding shape-the_row-Stmt-0 hidden-the_row-Stmt-0 shape-the_row-Stmt-1 hidden-the_row-Stmt-1 hidden
height-For test step s = refl

pub height-Break : height (form.Break) ≡ 3
unfolding shape-the_row-Stmt-0 hidden-the_row-Stmt-0 shape-the_row-Stmt-1 hidden-the_row-Stmt-1 hidden
height-Break = refl

pub height-Continue : height (form.Continue) ≡ 3
unfolding shape-the_row-Stmt-0 hidden-the_row-Stmt-0 shape-the_row-Stmt-1 hidden-the_row-Stmt-1 hidden
height-Continue = refl

pub height-Return : (e : Option Expr) → height (form.Return e) ≡ depth_if_any e
unfolding shape-the_row-Stmt-0 hidden-the_row-Stmt-0 shape-the_row-Stmt-1 hidden-the_row-Stmt-1 hidden
height-Return e = refl

pub height-Ghost : (g : GhostStmt) → height (form.Ghost g) ≡ 3
unfolding shape-the_row-Stmt-0 hidden-the_row-Stmt-0 shape-the_row-Stmt-1 hidden-the_row-Stmt-1 hidden
height-Ghost g = refl

pub height-Assert : (v : VerdictKind) (k : ℕ) (r : Predicate) → height (form.Assert v k r) ≡ 3
unfolding shape-the_row-Stmt-0 hidden-the_row-Stmt-0 shape-the_row-Stmt-1 hidden-the_row-Stmt-1 hidden
height-Assert v k r = refl

pub ruleset height_forms = (height-Empty, height-Eval, height-Init, height-Block, height-If, height-While, height-Do, height-For, height-Break, height-Continue, height-Return, height-Ghost, height-Assert)
