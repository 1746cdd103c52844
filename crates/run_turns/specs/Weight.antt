-- How much is left to do at most before the next step: it falls with each turn that makes none.
use Rattle.std.specs.Prelude.{ℕ, ◌+◌, List, [], ◌∷◌, Option, Some, None}
use Rattle.step_meaning.specs.declared.expr.Expr.{Expr, Row_of-Expr, end_of-Expr, more_of-Expr}
use Rattle.step_meaning.specs.declared.expr.Expr.TheVariants.{Literal, Null, Load, Address, Convert', Unary', Binary', Compare', Move', Difference', Not', Both', Either', Choose', Assign', Update', Invoke', GetChar, PutChar', Malloc', Free', Discard', Own, Deref', Member', Index'}
use Rattle.step_meaning.specs.declared.expr.Place_.{Place_, end_of-Place_, more_of-Place_}
use Rattle.step_meaning.specs.declared.stmt.Stmt.{Stmt, Row_of-Stmt, end_of-Stmt, more_of-Stmt}
use Rattle.step_meaning.specs.declared.stmt.Stmt.TheVariants as st
use Rattle.run_turns.specs.Pending as pending

abbrev mutual
  pub weigh : Expr → ℕ
  weigh (Literal k z) = 1
  weigh Null = 1
  weigh (Load p t) = weigh_place p + 3
  weigh (Address p t) = weigh_place p + 3
  weigh (Convert' k b (more_of-Expr e end_of-Expr)) = weigh e + 3
  weigh (Unary' o k b (more_of-Expr e end_of-Expr)) = weigh e + 3
  weigh (Binary' o k b (more_of-Expr e end_of-Expr) c (more_of-Expr f end_of-Expr)) = weigh e + weigh f + 4
  weigh (Compare' o b (more_of-Expr e end_of-Expr) c (more_of-Expr f end_of-Expr)) = weigh e + weigh f + 4
  weigh (Move' b (more_of-Expr e end_of-Expr) c (more_of-Expr f end_of-Expr) size side) = weigh e + weigh f + 4
  weigh (Difference' b (more_of-Expr e end_of-Expr) c (more_of-Expr f end_of-Expr) unit) = weigh e + weigh f + 4
  weigh (Not' b (more_of-Expr e end_of-Expr)) = weigh e + 3
  weigh (Both' b (more_of-Expr e end_of-Expr) c (more_of-Expr f end_of-Expr)) = weigh e + weigh f + 4
  weigh (Either' b (more_of-Expr e end_of-Expr) c (more_of-Expr f end_of-Expr)) = weigh e + weigh f + 4
  weigh (Choose' b (more_of-Expr e end_of-Expr) c (more_of-Expr f end_of-Expr) d (more_of-Expr g end_of-Expr)) = weigh e + weigh f + weigh g + 4
  weigh (Assign' p t b (more_of-Expr e end_of-Expr)) = weigh_place p + weigh e + 4
  weigh (Update' p t o b (more_of-Expr e end_of-Expr) w) = weigh_place p + weigh e + 9
  weigh (Invoke' f b es) = weigh_row es + 2
  weigh GetChar = 2
  weigh (PutChar' b (more_of-Expr e end_of-Expr)) = weigh e + 3
  weigh (Malloc' b (more_of-Expr e end_of-Expr) t) = weigh e + 3
  weigh (Free' b (more_of-Expr e end_of-Expr)) = weigh e + 3
  weigh (Discard' b (more_of-Expr e end_of-Expr)) = weigh e + 3

  pub weigh_place : Place_ → ℕ
  weigh_place (Own v) = 1
  weigh_place (Deref' b (more_of-Expr e end_of-Expr)) = weigh e + 3
  weigh_place (Member' b (more_of-Place_ p end_of-Place_) o) = weigh_place p + 3
  weigh_place (Index' b (more_of-Place_ p end_of-Place_) c (more_of-Expr e end_of-Expr) size) = weigh_place p + weigh e + 4

  pub weigh_row : {n : _} → Row_of-Expr n → ℕ
  weigh_row end_of-Expr = 0
  weigh_row (more_of-Expr e more) = weigh e + 2 + weigh_row more

abbrev pub weigh_all : List Expr → ℕ
weigh_all [] = 0
weigh_all (e ∷ es) = weigh e + 2 + weigh_all es

abbrev pub weigh_if_any : Option Expr → ℕ
weigh_if_any None = 0
weigh_if_any (Some e) = weigh e + 2

abbrev mutual
  pub burden : Stmt → ℕ
  burden st.Empty = 1
  burden (st.Eval e) = weigh e + 3
  burden (st.Init v o t e) = weigh e + 6
  burden (st.Block' b ss) = burden_row ss + 2
  burden (st.If' e b (more_of-Stmt s end_of-Stmt) c (more_of-Stmt u end_of-Stmt)) = weigh e + burden s + burden u + 3
  burden (st.While' e b (more_of-Stmt s end_of-Stmt)) = burden s + 3
  burden (st.Do' b (more_of-Stmt s end_of-Stmt) e) = weigh e + 5
  burden (st.For' test step b (more_of-Stmt s end_of-Stmt)) = burden s + weigh_if_any step + 5
  burden st.Break = 1
  burden st.Continue = 1
  burden (st.Return e) = weigh_if_any e + 3
  burden (st.Ghost g) = 1
  burden (st.Assert v k r) = 1

  pub burden_row : {n : _} → Row_of-Stmt n → ℕ
  burden_row end_of-Stmt = 0
  burden_row (more_of-Stmt s more) = burden s + 1 + burden_row more

abbrev pub burden_all : List Stmt → ℕ
burden_all [] = 0
burden_all (s ∷ ss) = burden s + 1 + burden_all ss

abbrev pub weight_of_operand : pending.Operand → ℕ
weight_of_operand (pending.BinaryRight o k f) = weigh f + 3
weight_of_operand (pending.CompareRight o f) = weigh f + 3
weight_of_operand (pending.BothRight f) = weigh f + 3
weight_of_operand (pending.EitherRight f) = weigh f + 3
weight_of_operand (pending.Choose f g) = weigh f + weigh g + 1
weight_of_operand (pending.MoveRight size side f) = weigh f + 3
weight_of_operand (pending.DifferenceRight unit f) = weigh f + 3
weight_of_operand (pending.UpdateRight t o e w l) = weigh e + 6
weight_of_operand (pending.UpdateNow t o w l v) = 5
weight_of_operand _ = 2

abbrev pub weight_of_access : pending.Access → ℕ
weight_of_access (pending.AssignRight t e) = weigh e + 3
weight_of_access (pending.UpdateOld t o e w) = weigh e + 8
weight_of_access _ = 2

abbrev pub weight_of_selection : pending.Selection → ℕ
weight_of_selection (pending.MemberAt o) = 2
weight_of_selection (pending.ElementAt e size) = weigh e + 3

-- a statement whose expression was evaluated
abbrev pub weight_of_conclusion : Stmt → ℕ
weight_of_conclusion (st.Init v o t e) = 4
weight_of_conclusion (st.If' e b (more_of-Stmt s end_of-Stmt) c (more_of-Stmt u end_of-Stmt)) = burden s + burden u + 1
weight_of_conclusion (st.While' e b (more_of-Stmt s end_of-Stmt)) = burden s + 1
weight_of_conclusion (st.For' test step b (more_of-Stmt s end_of-Stmt)) = burden s + weigh_if_any step + 3
weight_of_conclusion _ = 1

abbrev pub weight_of_end : Stmt → ℕ
weight_of_end (st.Do' b (more_of-Stmt s end_of-Stmt) e) = weigh e + 3
weight_of_end (st.For' test step b (more_of-Stmt s end_of-Stmt)) = weigh_if_any step + 2
weight_of_end _ = 1

abbrev pub weight_of_passing : pending.Passing → ℕ
weight_of_passing (pending.Rest ss) = burden_all ss + 1
weight_of_passing (pending.Again s) = 1
weight_of_passing (pending.TurnEnd s) = weight_of_end s

abbrev pub weight : pending.Pending → ℕ
weight (pending.Evaluate e) = weigh e
weight (pending.Locate p) = weigh_place p
weight (pending.Execute s) = burden s
weight (pending.Operate o) = weight_of_operand o
weight (pending.Accessed a) = weight_of_access a
weight (pending.Select x) = weight_of_selection x
weight (pending.Designate x) = 2
weight (pending.Conclude s) = weight_of_conclusion s
weight pending.Ignore = 1
weight (pending.Pass x) = weight_of_passing x
weight pending.Input = 1
weight pending.Output = 1
weight (pending.Arguments f es n) = weigh_all es + 1
weight (pending.Argument f es n) = weigh_all es + 2
weight (pending.Enter f n) = 1
weight (pending.Leave g t) = 2
weight (pending.Halt f) = 1
weight (pending.Over f) = 1

abbrev pub load : List pending.Pending → ℕ
load [] = 0
load (p ∷ ps) = weight p + load ps
