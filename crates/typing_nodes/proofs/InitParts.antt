-- The cells of locals' initialisers in the statements of a core.
use Rattle.std.proofs.lemmas.List.{drop_all}
use Rattle.std.proofs.Common.{◌≡◌, ℕ, ◌+◌, ◌≤◌, List, [], ◌∷◌, drop, length, sum_by, Option, Some, None, refl, ap, ◌∙◌}
use Rattle.std.proofs.lemmas.List.Sums.{sum_by-cons}
use Rattle.step_meaning.specs.declared.expr.Expr.{Expr}
use Rattle.step_meaning.specs.declared.stmt.Stmt.{Stmt, Row_of-Stmt, end_of-Stmt, more_of-Stmt, items-the_row-Stmt}
use Rattle.step_meaning.specs.declared.stmt.Stmt.TheVariants as st
use Rattle.step_meaning.specs.declared.stmt.Stmt.TheBlock.{shape-the_row-Stmt-0, shape-the_row-Stmt-1, hidden-the_row-Stmt-0, hidden-the_row-Stmt-1}
use Rattle.step_meaning.specs.declared.program.Function.{Function}
use Rattle.typing_rules.specs.Weights.{inits, all_inits, init_cells}
use Rattle.typing_nodes.specs.Counts.{init_nodes, function_nodes}
use denote.Hole.Carrier.{hidden}

row_inits : (n : _) (r : Row_of-Stmt n) → all_inits r ≡ init_nodes (items-the_row-Stmt n r)
unfolding init_nodes
row_inits n end_of-Stmt = refl
row_inits n (more_of-Stmt s r) = ap (λ k. inits s + k) (row_inits _ r)

statements_back : (ss : List Stmt) → items-the_row-Stmt _ (hidden-the_row-Stmt-0 ss) ≡ ss
unfolding shape-the_row-Stmt-0 hidden-the_row-Stmt-0 shape-the_row-Stmt-1 hidden-the_row-Stmt-1 hidden
statements_back [] = refl
statements_back (s ∷ ss) = ap (λ l. s ∷ l) (statements_back ss)

pub inits-Block : (ss : List Stmt) → inits (st.Block ss) ≡ init_nodes ss
unfolding shape-the_row-Stmt-0 hidden-the_row-Stmt-0 shape-the_row-Stmt-1 hidden-the_row-Stmt-1 hidden
inits-Block ss = row_inits _ (hidden-the_row-Stmt-0 ss) ∙ ap init_nodes (statements_back ss)

pub inits-If : (e : Expr) (a b : Stmt) → inits (st.If e a b) ≡ inits a + inits b
unfolding shape-the_row-Stmt-1 hidden-the_row-Stmt-1 hidden
inits-If e a b = refl

pub inits-While : (e : Expr) (a : Stmt) → inits (st.While e a) ≡ inits a
unfolding shape-the_row-Stmt-1 hidden-the_row-Stmt-1 hidden
inits-While e a = refl

pub inits-Do : (a : Stmt) (e : Expr) → inits (st.Do a e) ≡ inits a
unfolding shape-the_row-Stmt-1 hidden-the_row-Stmt-1 hidden
inits-Do a e = refl

pub inits-For : (x y : Option Expr) (a : Stmt) → inits (st.For x y a) ≡ inits a
unfolding shape-the_row-Stmt-1 hidden-the_row-Stmt-1 hidden
inits-For x y a = refl

pub ruleset inits_of = (inits-Block, inits-If, inits-While, inits-Do, inits-For)

pub statements_first : (ss : List Stmt) → sum_by inits ss ≡ init_nodes ss
unfolding init_nodes
statements_first [] = refl
statements_first (s ∷ ss) = sum_by-cons inits s ss ∙ ap (λ k. inits s + k) (statements_first ss)

pub functions_first : (fs : List Function) → sum_by init_cells fs ≡ function_nodes fs
unfolding function_nodes
functions_first [] = refl
functions_first (f ∷ fs) = sum_by-cons init_cells f fs ∙ ap (λ k. init_cells f + k) (functions_first fs)

pub no_function : (fs : List Function) (i : ℕ) → length fs ≤ i → function_nodes (drop i fs) ≡ 0
unfolding function_nodes
no_function fs i past = ap function_nodes (drop_all i fs past)
