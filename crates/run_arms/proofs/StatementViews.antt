-- What a turn makes of each form of statement, at the variants that code sees.
use Rattle.std.proofs.Common.{◌≡◌, ap, cond, refl, List, [], ◌∷◌, Option, Some, None}
use Rattle.step_meaning.specs.declared.value.Value.{Value}
use Rattle.step_meaning.specs.declared.expr.Expr.{Expr}
use Rattle.step_meaning.specs.declared.stmt.Stmt.{Stmt, items-the_row-Stmt}
use Rattle.step_meaning.specs.declared.stmt.Stmt.TheVariants as st
use Rattle.step_meaning.specs.declared.stmt.Stmt.TheBlock.{shape-the_row-Stmt-0, hidden-the_row-Stmt-0, shape-the_row-Stmt-1, hidden-the_row-Stmt-1}
use Rattle.step_meaning.specs.Names.{truth}
use Rattle.step_meaning.specs.Statements.{Broken}
use denote.Hole.Carrier.{hidden}
use Rattle.run_turns.specs.Pending as pending
use Rattle.run_turns.specs.Turns.{Configuration, concluded, ending, executed, left_by, pushed, ready, stepping, turning}
use Rattle.run_state.specs.Machine.{block_items}
use Rattle.run_arms.specs.Loops.{for_turning}

statements_back : (ss : List Stmt) → items-the_row-Stmt _ (hidden-the_row-Stmt-0 ss) ≡ ss
unfolding shape-the_row-Stmt-0 hidden-the_row-Stmt-0 shape-the_row-Stmt-1 hidden-the_row-Stmt-1 hidden
statements_back [] = refl
statements_back (s ∷ ss) = ap (λ l. s ∷ l) (statements_back ss)

module _ (m : Configuration) where
  pub executed-Block : (ss : List Stmt) → executed (st.Block ss) m ≡ pushed (pending.Pass (pending.Rest ss)) m
  unfolding shape-the_row-Stmt-0 hidden-the_row-Stmt-0 shape-the_row-Stmt-1 hidden-the_row-Stmt-1 hidden
  executed-Block ss = ap (λ l. pushed (pending.Pass (pending.Rest l)) m) (statements_back ss)

  pub executed-If : (a : Expr) (s u : Stmt) → executed (st.If a s u) m ≡ pushed (pending.Evaluate a) (pushed (pending.Conclude (st.If a s u)) m)
  unfolding shape-the_row-Stmt-0 hidden-the_row-Stmt-0 shape-the_row-Stmt-1 hidden-the_row-Stmt-1 hidden
  executed-If a s u = refl

  pub executed-While : (a : Expr) (s : Stmt) → executed (st.While a s) m ≡ pushed (pending.Pass (pending.Again (st.While a s))) m
  unfolding shape-the_row-Stmt-0 hidden-the_row-Stmt-0 shape-the_row-Stmt-1 hidden-the_row-Stmt-1 hidden
  executed-While a s = refl

  pub executed-Do : (s : Stmt) (a : Expr) → executed (st.Do s a) m ≡ pushed (pending.Pass (pending.Again (st.Do s a))) m
  unfolding shape-the_row-Stmt-0 hidden-the_row-Stmt-0 shape-the_row-Stmt-1 hidden-the_row-Stmt-1 hidden
  executed-Do s a = refl

  pub executed-For : (a b : Option Expr) (s : Stmt) → executed (st.For a b s) m ≡ pushed (pending.Pass (pending.Again (st.For a b s))) m
  unfolding shape-the_row-Stmt-0 hidden-the_row-Stmt-0 shape-the_row-Stmt-1 hidden-the_row-Stmt-1 hidden
  executed-For a b s = refl

  pub concluded-If : (a : Expr) (s u : Stmt) (v : Value) → concluded (st.If a s u) v m ≡ pushed (pending.Execute (cond (truth v) s u)) (ready m)
  unfolding shape-the_row-Stmt-0 hidden-the_row-Stmt-0 shape-the_row-Stmt-1 hidden-the_row-Stmt-1 hidden
  concluded-If a s u v = refl

  pub concluded-While : (a : Expr) (s : Stmt) (v : Value) → concluded (st.While a s) v m ≡ cond (truth v) (pushed (pending.Execute s) (ready m)) (left_by Broken m)
  unfolding shape-the_row-Stmt-0 hidden-the_row-Stmt-0 shape-the_row-Stmt-1 hidden-the_row-Stmt-1 hidden
  concluded-While a s v = refl

  pub concluded-Do : (s : Stmt) (a : Expr) (v : Value) → concluded (st.Do s a) v m ≡ cond (truth v) (ready m) (left_by Broken m)
  unfolding shape-the_row-Stmt-0 hidden-the_row-Stmt-0 shape-the_row-Stmt-1 hidden-the_row-Stmt-1 hidden
  concluded-Do s a v = refl

  pub concluded-For : (a b : Option Expr) (s : Stmt) (v : Value) → concluded (st.For a b s) v m ≡ cond (truth v) (pushed (pending.Execute s) (pushed (pending.Pass (pending.TurnEnd (st.For a b s))) (ready m))) (left_by Broken m)
  unfolding shape-the_row-Stmt-0 hidden-the_row-Stmt-0 shape-the_row-Stmt-1 hidden-the_row-Stmt-1 hidden
  concluded-For a b s v = refl

  pub turning-While : (a : Expr) (s : Stmt) → turning (st.While a s) m ≡ pushed (pending.Evaluate a) (pushed (pending.Conclude (st.While a s)) m)
  unfolding shape-the_row-Stmt-0 hidden-the_row-Stmt-0 shape-the_row-Stmt-1 hidden-the_row-Stmt-1 hidden
  turning-While a s = refl

  pub turning-Do : (s : Stmt) (a : Expr) → turning (st.Do s a) m ≡ pushed (pending.Execute s) (pushed (pending.Pass (pending.TurnEnd (st.Do s a))) m)
  unfolding shape-the_row-Stmt-0 hidden-the_row-Stmt-0 shape-the_row-Stmt-1 hidden-the_row-Stmt-1 hidden
  turning-Do s a = refl

  pub turning-For : (a b : Option Expr) (s : Stmt) → turning (st.For a b s) m ≡ for_turning a (st.For a b s) s m
  unfolding shape-the_row-Stmt-0 hidden-the_row-Stmt-0 shape-the_row-Stmt-1 hidden-the_row-Stmt-1 hidden
  turning-For None b s = refl
  turning-For (Some a) b s = refl

  pub ending-Do : (s : Stmt) (a : Expr) → ending (st.Do s a) m ≡ pushed (pending.Evaluate a) (pushed (pending.Conclude (st.Do s a)) (ready m))
  unfolding shape-the_row-Stmt-0 hidden-the_row-Stmt-0 shape-the_row-Stmt-1 hidden-the_row-Stmt-1 hidden
  ending-Do s a = refl

  pub ending-For : (a b : Option Expr) (s : Stmt) → ending (st.For a b s) m ≡ stepping b m
  unfolding shape-the_row-Stmt-0 hidden-the_row-Stmt-0 shape-the_row-Stmt-1 hidden-the_row-Stmt-1 hidden
  ending-For a b s = refl

pub items_block : (ss : List Stmt) → block_items (st.Block ss) ≡ ss
unfolding shape-the_row-Stmt-0 hidden-the_row-Stmt-0 shape-the_row-Stmt-1 hidden-the_row-Stmt-1 hidden
items_block ss = statements_back ss

pub ruleset at_statements = (executed-Block, executed-If, executed-While, executed-Do, executed-For)

pub ruleset at_conclusions = (concluded-If, concluded-While, concluded-Do, concluded-For)

pub ruleset at_turns = (turning-While, turning-Do, turning-For)

pub ruleset at_ends = (ending-Do, ending-For)

pub ruleset at_blocks = (items_block)
