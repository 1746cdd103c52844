-- How much room a pending part needs on the stack from its own place on: its height above what stands below it, with the arguments that are evaluated above it.
use Rattle.std.specs.Prelude.{ℕ, suc, ◌+◌, ◌*◌, ◌≤◌, max, List, [], ◌∷◌, length, drop, Option, Some, None}
use Rattle.step_meaning.specs.declared.value.Value.{Value}
use Rattle.step_meaning.specs.declared.expr.Expr.{Expr, Row_of-Expr, end_of-Expr, more_of-Expr}
use Rattle.step_meaning.specs.declared.expr.Expr.TheVariants.{Literal, Null, Load, Address, Convert', Unary', Binary', Compare', Move', Difference', Not', Both', Either', Choose', Assign', Update', Invoke', GetChar, PutChar', Malloc', Free', Discard', Own, Deref', Member', Index'}
use Rattle.step_meaning.specs.declared.expr.Place_.{Place_, end_of-Place_, more_of-Place_}
use Rattle.step_meaning.specs.declared.stmt.Stmt.{Stmt, Row_of-Stmt, end_of-Stmt, more_of-Stmt}
use Rattle.step_meaning.specs.declared.stmt.Stmt.TheVariants as st
use Rattle.run_turns.specs.Pending as pending

abbrev mutual
  pub depth : Expr → ℕ
  depth (Literal k z) = 3
  depth Null = 3
  depth (Load p t) = depth_place p + 1
  depth (Address p t) = depth_place p + 1
  depth (Convert' k b (more_of-Expr e end_of-Expr)) = depth e + 1
  depth (Unary' o k b (more_of-Expr e end_of-Expr)) = depth e + 1
  depth (Binary' o k b (more_of-Expr e end_of-Expr) c (more_of-Expr f end_of-Expr)) = max (depth e) (depth f) + 1
  depth (Compare' o b (more_of-Expr e end_of-Expr) c (more_of-Expr f end_of-Expr)) = max (depth e) (depth f) + 1
  depth (Move' b (more_of-Expr e end_of-Expr) c (more_of-Expr f end_of-Expr) size side) = max (depth e) (depth f) + 1
  depth (Difference' b (more_of-Expr e end_of-Expr) c (more_of-Expr f end_of-Expr) unit) = max (depth e) (depth f) + 1
  depth (Not' b (more_of-Expr e end_of-Expr)) = depth e + 1
  depth (Both' b (more_of-Expr e end_of-Expr) c (more_of-Expr f end_of-Expr)) = max (depth e) (depth f) + 1
  depth (Either' b (more_of-Expr e end_of-Expr) c (more_of-Expr f end_of-Expr)) = max (depth e) (depth f) + 1
  depth (Choose' b (more_of-Expr e end_of-Expr) c (more_of-Expr f end_of-Expr) d (more_of-Expr g end_of-Expr)) = max (depth e) (max (depth f) (depth g)) + 1
  depth (Assign' p t b (more_of-Expr e end_of-Expr)) = max (depth_place p) (depth e) + 1
  depth (Update' p t o b (more_of-Expr e end_of-Expr) w) = max (depth_place p) (depth e) + 1
  depth (Invoke' f b es) = depth_row es
  depth GetChar = 3
  depth (PutChar' b (more_of-Expr e end_of-Expr)) = depth e + 1
  depth (Malloc' b (more_of-Expr e end_of-Expr) t) = depth e + 1
  depth (Free' b (more_of-Expr e end_of-Expr)) = depth e + 1
  depth (Discard' b (more_of-Expr e end_of-Expr)) = depth e + 1

  pub depth_place : Place_ → ℕ
  depth_place (Own v) = 3
  depth_place (Deref' b (more_of-Expr e end_of-Expr)) = depth e + 1
  depth_place (Member' b (more_of-Place_ p end_of-Place_) o) = depth_place p + 1
  depth_place (Index' b (more_of-Place_ p end_of-Place_) c (more_of-Expr e end_of-Expr) size) = max (depth_place p) (depth e) + 1

  pub depth_row : {n : _} → Row_of-Expr n → ℕ
  depth_row end_of-Expr = 3
  depth_row (more_of-Expr e more) = max (depth e + 1) (depth_row more + 1)

abbrev pub depth_all : List Expr → ℕ
depth_all [] = 3
depth_all (e ∷ es) = max (depth e + 1) (depth_all es + 1)

abbrev pub depth_if_any : Option Expr → ℕ
depth_if_any None = 3
depth_if_any (Some e) = depth e + 1

abbrev mutual
  pub height : Stmt → ℕ
  height st.Empty = 3
  height (st.Eval e) = depth e + 1
  height (st.Init v o t e) = max (depth e + 1) 4
  height (st.Block' b ss) = height_row ss
  height (st.If' e b (more_of-Stmt s end_of-Stmt) c (more_of-Stmt u end_of-Stmt)) = max (depth e + 1) (max (height s) (height u))
  height (st.While' e b (more_of-Stmt s end_of-Stmt)) = max (depth e) (height s) + 2
  height (st.Do' b (more_of-Stmt s end_of-Stmt) e) = max (depth e) (height s) + 2
  height (st.For' test step b (more_of-Stmt s end_of-Stmt)) = max (max (depth_if_any test) (depth_if_any step)) (height s) + 2
  height st.Break = 3
  height st.Continue = 3
  height (st.Return e) = depth_if_any e
  height (st.Ghost g) = 3
  height (st.Assert v k r) = 3

  pub height_row : {n : _} → Row_of-Stmt n → ℕ
  height_row end_of-Stmt = 3
  height_row (more_of-Stmt s more) = max (height s + 1) (height_row more)

abbrev pub height_all : List Stmt → ℕ
height_all [] = 3
height_all (s ∷ ss) = max (height s + 1) (height_all ss)

abbrev pub need_of_operand : pending.Operand → ℕ
need_of_operand (pending.BinaryRight o k f) = depth f + 1
need_of_operand (pending.CompareRight o f) = depth f + 1
need_of_operand (pending.BothRight f) = depth f + 1
need_of_operand (pending.EitherRight f) = depth f + 1
need_of_operand (pending.Choose f g) = max (depth f) (depth g)
need_of_operand (pending.MoveRight size side f) = depth f + 1
need_of_operand (pending.DifferenceRight unit f) = depth f + 1
need_of_operand (pending.UpdateRight t o e w l) = depth e + 1
need_of_operand (pending.UpdateNow t o w l v) = 4
need_of_operand _ = 3

abbrev pub need_of_access : pending.Access → ℕ
need_of_access (pending.AssignRight t e) = depth e + 1
need_of_access (pending.UpdateOld t o e w) = depth e + 1
need_of_access _ = 3

abbrev pub need_of_selection : pending.Selection → ℕ
need_of_selection (pending.MemberAt o) = 3
need_of_selection (pending.ElementAt e size) = depth e + 1

-- a statement whose expression was evaluated
abbrev pub need_of_conclusion : Stmt → ℕ
need_of_conclusion (st.If' e b (more_of-Stmt s end_of-Stmt) c (more_of-Stmt u end_of-Stmt)) = max (height s) (height u)
need_of_conclusion (st.While' e b (more_of-Stmt s end_of-Stmt)) = height s + 1
need_of_conclusion (st.For' test step b (more_of-Stmt s end_of-Stmt)) = max (depth_if_any step) (height s) + 1
need_of_conclusion (st.Init v o t e) = 4
need_of_conclusion _ = 3

abbrev pub need_of_end : Stmt → ℕ
need_of_end (st.Do' b (more_of-Stmt s end_of-Stmt) e) = depth e + 1
need_of_end (st.For' test step b (more_of-Stmt s end_of-Stmt)) = depth_if_any step
need_of_end _ = 3

abbrev pub need_of_passing : pending.Passing → ℕ
need_of_passing (pending.Rest ss) = height_all ss
need_of_passing (pending.Again s) = height s
need_of_passing (pending.TurnEnd s) = need_of_end s

abbrev pub need : pending.Pending → ℕ
need (pending.Evaluate e) = depth e
need (pending.Locate p) = depth_place p
need (pending.Execute s) = height s
need (pending.Operate o) = need_of_operand o
need (pending.Accessed a) = need_of_access a
need (pending.Select x) = need_of_selection x
need (pending.Conclude s) = need_of_conclusion s
need (pending.Pass x) = need_of_passing x
need (pending.Arguments f es n) = depth_all es
need (pending.Argument f es n) = depth_all es + 1
need _ = 3

-- how many activations end on the stack
abbrev pub open_ends : List pending.Pending → ℕ
open_ends [] = 0
open_ends (pending.Leave g t ∷ ps) = suc (open_ends ps)
open_ends (_ ∷ ps) = open_ends ps

-- the arguments below those of a call that is being made
abbrev pub arguments_below : pending.Pending → List Value → List Value
arguments_below (pending.Arguments f es n) vs = drop n vs
arguments_below (pending.Argument f es n) vs = drop n vs
arguments_below (pending.Enter f n) vs = drop n vs
arguments_below _ vs = vs

-- what is on the stack has the room that it needs beside the arguments evaluated so far, where each activation has so much room above its caller's
abbrev pub Roomy : ℕ → List pending.Pending → List Value → Type 0
Roomy room [] vs = Unit {0}
Roomy room (p ∷ ps) vs = (length ps + length vs + need p ≤ room * suc (open_ends ps)) × Roomy room ps (arguments_below p vs)

-- the arguments of each call that is being made are among those evaluated so far
abbrev pub AreCounted : List pending.Pending → List Value → Type 0
AreCounted [] vs = Unit {0}
AreCounted (pending.Arguments f es n ∷ ps) vs = (n ≤ length vs) × AreCounted ps (drop n vs)
AreCounted (pending.Argument f es n ∷ ps) vs = (n ≤ length vs) × AreCounted ps (drop n vs)
AreCounted (pending.Enter f n ∷ ps) vs = (n ≤ length vs) × AreCounted ps (drop n vs)
AreCounted (_ ∷ ps) vs = AreCounted ps vs
