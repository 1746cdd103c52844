-- The weight of what is left falls with each turn that makes no step.
use Rattle.std.proofs.Common.{◌≡◌, ℕ, ◌+◌, ◌<◌, ◌≤◌, Bool, true, false, cond, List, [], ◌∷◌, Option, Some, None, Result, Ok, Err, refl, ap, arith}
use Rattle.std.specs.Prelude.{ℤ}
use Rattle.step_meaning.specs.declared.expr.Expr.{Expr, Row_of-Expr, end_of-Expr, more_of-Expr, items-the_row-Expr}
use Rattle.step_meaning.specs.declared.expr.Expr.TheVariants.{Literal, Null, Load, Address, Convert', Unary', Binary', Compare', Move', Difference', Not', Both', Either', Choose', Assign', Update', Invoke', GetChar, PutChar', Malloc', Free', Discard', Own, Deref', Member', Index'}
use Rattle.step_meaning.specs.declared.expr.Place_.{Place_, end_of-Place_, more_of-Place_}
use Rattle.step_meaning.specs.declared.stmt.Stmt.{Stmt, Row_of-Stmt, end_of-Stmt, more_of-Stmt, items-the_row-Stmt}
use Rattle.step_meaning.specs.declared.stmt.Stmt.TheVariants as st
use Rattle.step_meaning.specs.declared.value.CType.{CType}
use Rattle.step_meaning.specs.declared.value.Cell.{Cell}
use Rattle.step_meaning.specs.declared.value.Cell.TheVariants.{Nothing, Holds}
use Rattle.step_meaning.specs.declared.expr.Answer.{Answer}
use Rattle.step_meaning.specs.declared.program.Core.{Core}
use Rattle.step_meaning.specs.Memory.{Memory, Block}
use Rattle.step_meaning.specs.State.{Lvalue, InRegister, At}
use Rattle.step_meaning.specs.declared.value.Value.{Value}
use Rattle.step_meaning.specs.declared.value.RunFault.{RunFault}
use Rattle.step_meaning.specs.Names.{truth}
use Rattle.step_meaning.specs.Sources.{is_bare}
use Rattle.step_meaning.proofs.Ranges.{false_is_not_true}
use Rattle.step_meaning.specs.Statements.{Completion, Next, Broken, Continued, Returned}
use Rattle.run_turns.specs.Pending as pending
use Rattle.run_turns.specs.Turns as turns
use Rattle.run_turns.specs.Turns.{Configuration}
use Rattle.run_turns.specs.Weight.{weigh, weigh_all, weigh_row, burden, burden_all, burden_row, weigh_if_any, weight_of_end, weight, load}

row_weight : (n : _) (r : Row_of-Expr n) → weigh_all (items-the_row-Expr n r) ≡ weigh_row r
row_weight n end_of-Expr = refl
row_weight n (more_of-Expr e r) = ap (λ d. weigh e + 2 + d) (row_weight _ r)

statements_weight : (n : _) (r : Row_of-Stmt n) → burden_all (items-the_row-Stmt n r) ≡ burden_row r
statements_weight n end_of-Stmt = refl
statements_weight n (more_of-Stmt s r) = ap (λ d. burden s + 1 + d) (statements_weight _ r)

-- a turn made of a part of this weight
abbrev pub Falls : ℕ → Configuration → Configuration → Type 0
Falls w m after = load after.work < w + load m.work

pub evaluated_falls : (e : Expr) (m : Configuration) → Falls (weigh e) m (turns.evaluated e m)
evaluated_falls (Literal k z) m = omega arith
evaluated_falls Null m = omega arith
evaluated_falls (Load p t) m = omega arith
evaluated_falls (Address p t) m = omega arith
evaluated_falls (Convert' k b (more_of-Expr e end_of-Expr)) m = omega arith
evaluated_falls (Unary' o k b (more_of-Expr e end_of-Expr)) m = omega arith
evaluated_falls (Binary' o k b (more_of-Expr e end_of-Expr) c (more_of-Expr f end_of-Expr)) m = omega arith
evaluated_falls (Compare' o b (more_of-Expr e end_of-Expr) c (more_of-Expr f end_of-Expr)) m = omega arith
evaluated_falls (Move' b (more_of-Expr e end_of-Expr) c (more_of-Expr f end_of-Expr) size side) m = omega arith
evaluated_falls (Difference' b (more_of-Expr e end_of-Expr) c (more_of-Expr f end_of-Expr) unit) m = omega arith
evaluated_falls (Not' b (more_of-Expr e end_of-Expr)) m = omega arith
evaluated_falls (Both' b (more_of-Expr e end_of-Expr) c (more_of-Expr f end_of-Expr)) m = omega arith
evaluated_falls (Either' b (more_of-Expr e end_of-Expr) c (more_of-Expr f end_of-Expr)) m = omega arith
evaluated_falls (Choose' b (more_of-Expr e end_of-Expr) c (more_of-Expr f end_of-Expr) d (more_of-Expr g end_of-Expr)) m = omega arith
evaluated_falls (Assign' p t b (more_of-Expr e end_of-Expr)) m = omega arith
evaluated_falls (Update' p t o b (more_of-Expr e end_of-Expr) w) m = omega arith
evaluated_falls (Invoke' f b es) m = omega (arith, row_weight _ es)
evaluated_falls GetChar m = omega arith
evaluated_falls (PutChar' b (more_of-Expr e end_of-Expr)) m = omega arith
evaluated_falls (Malloc' b (more_of-Expr e end_of-Expr) t) m = omega arith
evaluated_falls (Free' b (more_of-Expr e end_of-Expr)) m = omega arith
evaluated_falls (Discard' b (more_of-Expr e end_of-Expr)) m = omega arith

pub executed_falls : (s : Stmt) → is_bare s ≡ true → (m : Configuration) → Falls (burden s) m (turns.executed s m)
executed_falls st.Empty h m = omega arith
executed_falls (st.Eval e) h m = omega arith
executed_falls (st.Init v o t e) h m = omega arith
executed_falls (st.Block' b ss) h m = omega (arith, statements_weight _ ss)
executed_falls (st.If' e b (more_of-Stmt s end_of-Stmt) c (more_of-Stmt u end_of-Stmt)) h m = omega arith
executed_falls (st.While' e b (more_of-Stmt s end_of-Stmt)) h m = omega arith
executed_falls (st.Do' b (more_of-Stmt s end_of-Stmt) e) h m = omega arith
executed_falls (st.For' test step b (more_of-Stmt s end_of-Stmt)) h m = omega arith
executed_falls st.Break h m = omega arith
executed_falls st.Continue h m = omega arith
executed_falls (st.Return None) h m = omega arith
executed_falls (st.Return (Some e)) h m = omega arith
executed_falls (st.Ghost g) h m = false_is_not_true h
executed_falls (st.Assert v k r) h m = false_is_not_true h

chosen_falls : (b : Bool) (w : ℕ) (m x y : Configuration) → Falls w m x → Falls w m y → Falls w m (cond b x y)
chosen_falls true w m x y h g = h
chosen_falls false w m x y h g = g

one_of : (b : Bool) (s u : Stmt) → burden (cond b s u) ≤ burden s + burden u
one_of true s u = omega arith
one_of false s u = omega arith

pub concluded_falls : (s : Stmt) (v : Value) (m : Configuration) → Falls (weight (pending.Conclude s)) m (turns.concluded s v m)
concluded_falls (st.Init x o t e) v m = omega arith
concluded_falls (st.If' e b (more_of-Stmt s end_of-Stmt) c (more_of-Stmt u end_of-Stmt)) v m = omega (arith, one_of (truth v) s u)
concluded_falls (st.While' e b (more_of-Stmt s end_of-Stmt)) v m = chosen_falls (truth v) _ m _ _ (omega arith) (omega arith)
concluded_falls (st.Do' b (more_of-Stmt s end_of-Stmt) e) v m = chosen_falls (truth v) _ m _ _ (omega arith) (omega arith)
concluded_falls (st.For' test step b (more_of-Stmt s end_of-Stmt)) v m = chosen_falls (truth v) _ m _ _ (omega arith) (omega arith)
concluded_falls (st.Return e) v m = omega arith
concluded_falls st.Empty v m = omega arith
concluded_falls (st.Eval e) v m = omega arith
concluded_falls (st.Block' b ss) v m = omega arith
concluded_falls st.Break v m = omega arith
concluded_falls st.Continue v m = omega arith
concluded_falls (st.Ghost g) v m = omega arith
concluded_falls (st.Assert w k r) v m = omega arith

pub located_falls : (p : Place_) (m : Configuration) → Falls (weight (pending.Locate p)) m (turns.located p m)
located_falls (Own v) m = omega arith
located_falls (Deref' b (more_of-Expr e end_of-Expr)) m = omega arith
located_falls (Member' b (more_of-Place_ p end_of-Place_) o) m = omega arith
located_falls (Index' b (more_of-Place_ p end_of-Place_) c (more_of-Expr e end_of-Expr) size) m = omega arith

-- ---- what may halt

finished_falls : (c : Result ℤ RunFault) (m : Configuration) → Falls 2 m (turns.finished c m)
finished_falls (Ok z) m = omega arith
finished_falls (Err f) m = omega arith

decided_falls : (c : Result Bool RunFault) (m : Configuration) → Falls 2 m (turns.decided c m)
decided_falls (Ok b) m = omega arith
decided_falls (Err f) m = omega arith

pointing_falls : (c : Result Value RunFault) (m : Configuration) → Falls 2 m (turns.pointing c m)
pointing_falls (Ok p) m = omega arith
pointing_falls (Err f) m = omega arith

designated_falls : (c : Result Value RunFault) (m : Configuration) → Falls 2 m (turns.designated_by c m)
designated_falls (Ok p) m = omega arith
designated_falls (Err f) m = omega arith

object_falls : (l : Lvalue) (by : ℤ) (m : Configuration) → Falls 2 m (turns.object_after l by m)
object_falls (InRegister i) by m = omega arith
object_falls (At p) by m = designated_falls _ m

updating_falls : (t : CType) (w : Answer) (l : Lvalue) (old : Value) (c : Result Value RunFault) (m : Configuration) → Falls 5 m (turns.updating t w l old c m)
updating_falls t w l old (Ok v) m = omega arith
updating_falls t w l old (Err f) m = omega arith

holding_falls : (c : Option Cell) (m : Configuration) → Falls 2 m (turns.holding c m)
holding_falls None m = omega arith
holding_falls (Some Nothing) m = omega arith
holding_falls (Some (Holds v)) m = omega arith

loaded_falls : (t : CType) (l : Lvalue) (m : Configuration) → Falls 2 m (turns.loaded t l m).after
loaded_falls t (InRegister i) m = holding_falls _ m
loaded_falls t (At p) m = holding_falls _ m

written_falls : (p v : Value) (c : Option Cell) (m : Configuration) → Falls 2 m (turns.written p v c m)
written_falls p v None m = omega arith
written_falls p v (Some c) m = omega arith

written_register_falls : (i : ℕ) (v : Value) (c : Option Cell) (m : Configuration) → Falls 2 m (turns.written_register i v c m)
written_register_falls i v None m = omega arith
written_register_falls i v (Some c) m = omega arith

kept_falls : (t : CType) (l : Lvalue) (v : Value) (m : Configuration) → Falls 2 m (turns.kept t l v m).after
kept_falls t (InRegister i) v m = written_register_falls i v _ m
kept_falls t (At p) v m = written_falls p v _ m

allocated_falls : (count : ℕ) (b : Option Block) (m : Configuration) → Falls 2 m (turns.allocated_block count b m).after
allocated_falls count None m = omega arith
allocated_falls count (Some b) m = omega arith

released_falls : (o : Option Memory) (m : Configuration) → Falls 2 m (turns.released o m)
released_falls None m = omega arith
released_falls (Some memory) m = omega arith

-- ---- parts that wait for a value or an lvalue

branch_falls : (b : Bool) (f g : Expr) (m : Configuration) → Falls (weigh f + weigh g + 1) m (turns.pushed (pending.Evaluate (cond b f g)) m)
branch_falls true f g m = omega arith
branch_falls false f g m = omega arith

pub operated_falls : (q : Core) (o : pending.Operand) (v : Value) (m : Configuration) → Falls (weight (pending.Operate o)) m (turns.operated q o v m).after
operated_falls q (pending.Convert k) v m = omega arith
operated_falls q (pending.Unary o k) v m = finished_falls _ m
operated_falls q (pending.BinaryRight o k f) v m = omega arith
operated_falls q (pending.BinaryNow o k w) v m = finished_falls _ m
operated_falls q (pending.CompareRight o f) v m = omega arith
operated_falls q (pending.CompareNow o w) v m = decided_falls _ m
operated_falls q pending.Negated v m = omega arith
operated_falls q (pending.BothRight f) v m = chosen_falls (truth v) _ m _ _ (omega arith) (omega arith)
operated_falls q (pending.EitherRight f) v m = chosen_falls (truth v) _ m _ _ (omega arith) (omega arith)
operated_falls q pending.Truth v m = omega arith
operated_falls q (pending.Choose f g) v m = branch_falls (truth v) f g (turns.ready m)
operated_falls q pending.Discard v m = omega arith
operated_falls q (pending.MoveRight size side f) v m = omega arith
operated_falls q (pending.MoveNow size side w) v m = pointing_falls _ m
operated_falls q (pending.DifferenceRight unit f) v m = omega arith
operated_falls q (pending.DifferenceNow unit w) v m = finished_falls _ m
operated_falls q (pending.Store t l) v m = kept_falls t l v m
operated_falls q (pending.UpdateRight t o e w l) v m = omega arith
operated_falls q (pending.UpdateNow t o w l old) v m = updating_falls t w l old _ m
operated_falls q (pending.Instead w) v m = omega arith
operated_falls q (pending.Allocate t) v m = allocated_falls _ _ m
operated_falls q pending.Release v m = released_falls _ m

pub accessed_falls : (a : pending.Access) (l : Lvalue) (m : Configuration) → Falls (weight (pending.Accessed a)) m (turns.accessed a l m).after
accessed_falls (pending.LoadAt t) l m = loaded_falls t l m
accessed_falls pending.AddressOf (At p) m = omega arith
accessed_falls pending.AddressOf (InRegister i) m = omega arith
accessed_falls (pending.AssignRight t e) l m = omega arith
accessed_falls (pending.UpdateOld t o e w) l m =
    let h = loaded_falls t l (turns.pushed (pending.Operate (pending.UpdateRight t o e w l)) m) in omega (arith, h)

pub selected_falls : (x : pending.Selection) (l : Lvalue) (m : Configuration) → Falls (weight (pending.Select x)) m (turns.selected x l m)
selected_falls (pending.MemberAt o) l m = object_falls l _ m
selected_falls (pending.ElementAt e size) l m = omega arith

pub designating_falls : (x : pending.Designation) (v : Value) (m : Configuration) → Falls (weight (pending.Designate x)) m (turns.designating x v m)
designating_falls pending.Dereference v m = omega arith
designating_falls (pending.ElementNow l size) v m = object_falls l _ m

-- ---- parts that wait until a statement is left

pub next_falls : (ss : List Stmt) (l : Completion) (m : Configuration) → Falls (burden_all ss + 1) m (turns.on_next (turns.next_of ss (turns.ready m)) l m)
next_falls [] Next m = omega arith
next_falls (s ∷ ss) Next m = omega arith
next_falls ss Broken m = omega arith
next_falls ss Continued m = omega arith
next_falls ss (Returned v) m = omega arith

stepping_falls : (o : Option Expr) (m : Configuration) → Falls (weigh_if_any o + 2) m (turns.stepping o m)
stepping_falls None m = omega arith
stepping_falls (Some e) m = omega arith

ending_falls : (s : Stmt) (m : Configuration) → Falls (weight_of_end s) m (turns.ending s m)
ending_falls (st.Do' b (more_of-Stmt s end_of-Stmt) e) m = omega arith
ending_falls (st.For' test step b (more_of-Stmt s end_of-Stmt)) m = stepping_falls step m
ending_falls st.Empty m = omega arith
ending_falls (st.Eval e) m = omega arith
ending_falls (st.Init x o t e) m = omega arith
ending_falls (st.Block' b ss) m = omega arith
ending_falls (st.If' e b r c r') m = omega arith
ending_falls (st.While' e b r) m = omega arith
ending_falls st.Break m = omega arith
ending_falls st.Continue m = omega arith
ending_falls (st.Return e) m = omega arith
ending_falls (st.Ghost g) m = omega arith
ending_falls (st.Assert v k r) m = omega arith

weight_of_end_is_some : (s : Stmt) → 1 ≤ weight_of_end s
weight_of_end_is_some (st.Do' b (more_of-Stmt s end_of-Stmt) e) = omega arith
weight_of_end_is_some (st.For' test step b (more_of-Stmt s end_of-Stmt)) = omega arith
weight_of_end_is_some st.Empty = omega arith
weight_of_end_is_some (st.Eval e) = omega arith
weight_of_end_is_some (st.Init x o t e) = omega arith
weight_of_end_is_some (st.Block' b ss) = omega arith
weight_of_end_is_some (st.If' e b r c r') = omega arith
weight_of_end_is_some (st.While' e b r) = omega arith
weight_of_end_is_some st.Break = omega arith
weight_of_end_is_some st.Continue = omega arith
weight_of_end_is_some (st.Return e) = omega arith
weight_of_end_is_some (st.Ghost g) = omega arith
weight_of_end_is_some (st.Assert v k r) = omega arith

pub turn_end_falls : (s : Stmt) (l : Completion) (m : Configuration) → Falls (weight_of_end s) m (turns.at_turn_end (turns.ending s m) l m)
turn_end_falls s Next m = ending_falls s m
turn_end_falls s Continued m = ending_falls s m
turn_end_falls s Broken m = omega (arith, weight_of_end_is_some s)
turn_end_falls s (Returned v) m = omega (arith, weight_of_end_is_some s)
