-- A turn leaves the arguments of each call that is being made among those evaluated so far.
use Rattle.std.proofs.Common.{◌≡◌, ℕ, suc, ◌≤◌, Bool, true, false, cond, List, [], ◌∷◌, length, drop, Option, Some, None, Result, Ok, Err, refl, sym, subst, arith}
use Rattle.std.specs.Prelude.{ℤ, pos, ◌==◌}
use Rattle.step_meaning.specs.declared.value.CType.{CType}
use Rattle.step_meaning.specs.declared.value.CType.TheVariants as type
use Rattle.step_meaning.specs.declared.value.Value.{Value}
use Rattle.step_meaning.specs.declared.value.Value.TheVariants as value
use Rattle.step_meaning.specs.declared.value.Cell.{Cell}
use Rattle.step_meaning.specs.declared.value.Cell.TheVariants.{Nothing, Holds}
use Rattle.step_meaning.specs.declared.value.RunFault.{RunFault}
use Rattle.step_meaning.specs.declared.expr.Answer.{Answer}
use Rattle.step_meaning.specs.declared.expr.Expr.{Expr, end_of-Expr, more_of-Expr}
use Rattle.step_meaning.specs.declared.expr.Expr.TheVariants.{Literal, Null, Load, Address, Convert', Unary', Binary', Compare', Move', Difference', Not', Both', Either', Choose', Assign', Update', Invoke', GetChar, PutChar', Malloc', Free', Discard', Own, Deref', Member', Index'}
use Rattle.step_meaning.specs.declared.expr.Place_.{Place_, end_of-Place_, more_of-Place_}
use Rattle.step_meaning.specs.declared.stmt.Stmt.{Stmt, end_of-Stmt, more_of-Stmt}
use Rattle.step_meaning.specs.declared.stmt.Stmt.TheVariants as st
use Rattle.step_meaning.specs.declared.program.Core.{Core}
use Rattle.step_meaning.specs.Names.{truth}
use Rattle.step_meaning.specs.Memory.{Memory, Block}
use Rattle.step_meaning.specs.State.{Lvalue, InRegister, At}
use Rattle.step_meaning.specs.Statements.{Completion, Next, Broken, Continued, Returned}
use Rattle.run_turns.specs.Pending as pending
use Rattle.run_turns.specs.Turns as turns
use Rattle.run_turns.specs.Turns.{Configuration, turn_at}
use Rattle.run_turns.specs.Room.{AreCounted}

abbrev pub HasArguments : Configuration → Type 0
HasArguments m = AreCounted m.work m.context.arguments

evaluated_counted : (e : Expr) (m : Configuration) → HasArguments m → HasArguments (turns.evaluated e m)
evaluated_counted (Literal k z) m h = h
evaluated_counted Null m h = h
evaluated_counted (Load p t) m h = h
evaluated_counted (Address p t) m h = h
evaluated_counted (Convert' k b (more_of-Expr e end_of-Expr)) m h = h
evaluated_counted (Unary' o k b (more_of-Expr e end_of-Expr)) m h = h
evaluated_counted (Binary' o k b (more_of-Expr e end_of-Expr) c (more_of-Expr f end_of-Expr)) m h = h
evaluated_counted (Compare' o b (more_of-Expr e end_of-Expr) c (more_of-Expr f end_of-Expr)) m h = h
evaluated_counted (Move' b (more_of-Expr e end_of-Expr) c (more_of-Expr f end_of-Expr) size side) m h = h
evaluated_counted (Difference' b (more_of-Expr e end_of-Expr) c (more_of-Expr f end_of-Expr) unit) m h = h
evaluated_counted (Not' b (more_of-Expr e end_of-Expr)) m h = h
evaluated_counted (Both' b (more_of-Expr e end_of-Expr) c (more_of-Expr f end_of-Expr)) m h = h
evaluated_counted (Either' b (more_of-Expr e end_of-Expr) c (more_of-Expr f end_of-Expr)) m h = h
evaluated_counted (Choose' b (more_of-Expr e end_of-Expr) c (more_of-Expr f end_of-Expr) d (more_of-Expr g end_of-Expr)) m h = h
evaluated_counted (Assign' p t b (more_of-Expr e end_of-Expr)) m h = h
evaluated_counted (Update' p t o b (more_of-Expr e end_of-Expr) w) m h = h
evaluated_counted (Invoke' f b es) m h = (omega arith, h)
evaluated_counted GetChar m h = h
evaluated_counted (PutChar' b (more_of-Expr e end_of-Expr)) m h = h
evaluated_counted (Malloc' b (more_of-Expr e end_of-Expr) t) m h = h
evaluated_counted (Free' b (more_of-Expr e end_of-Expr)) m h = h
evaluated_counted (Discard' b (more_of-Expr e end_of-Expr)) m h = h

located_counted : (p : Place_) (m : Configuration) → HasArguments m → HasArguments (turns.located p m)
located_counted (Own v) m h = h
located_counted (Deref' b (more_of-Expr e end_of-Expr)) m h = h
located_counted (Member' b (more_of-Place_ p end_of-Place_) o) m h = h
located_counted (Index' b (more_of-Place_ p end_of-Place_) c (more_of-Expr e end_of-Expr) size) m h = h

answering_counted : (e : Option Expr) (m : Configuration) → HasArguments m → HasArguments (turns.answering e m)
answering_counted None m h = h
answering_counted (Some e) m h = h

executed_counted : (s : Stmt) (m : Configuration) → HasArguments m → HasArguments (turns.executed s m)
executed_counted st.Empty m h = h
executed_counted (st.Eval e) m h = h
executed_counted (st.Init x o t e) m h = h
executed_counted (st.Block' b ss) m h = h
executed_counted (st.If' e b (more_of-Stmt s end_of-Stmt) c (more_of-Stmt u end_of-Stmt)) m h = h
executed_counted (st.While' e b (more_of-Stmt s end_of-Stmt)) m h = h
executed_counted (st.Do' b (more_of-Stmt s end_of-Stmt) e) m h = h
executed_counted (st.For' test step b (more_of-Stmt s end_of-Stmt)) m h = h
executed_counted st.Break m h = h
executed_counted st.Continue m h = h
executed_counted (st.Return e) m h = answering_counted e m h
executed_counted (st.Ghost g) m h = h
executed_counted (st.Assert v k r) m h = h

finished_counted : (r : Result ℤ RunFault) (m : Configuration) → HasArguments m → HasArguments (turns.finished r m)
finished_counted (Ok z) m h = h
finished_counted (Err f) m h = h

decided_counted : (r : Result Bool RunFault) (m : Configuration) → HasArguments m → HasArguments (turns.decided r m)
decided_counted (Ok z) m h = h
decided_counted (Err f) m h = h

pointing_counted : (r : Result Value RunFault) (m : Configuration) → HasArguments m → HasArguments (turns.pointing r m)
pointing_counted (Ok z) m h = h
pointing_counted (Err f) m h = h

designated_by_counted : (r : Result Value RunFault) (m : Configuration) → HasArguments m → HasArguments (turns.designated_by r m)
designated_by_counted (Ok z) m h = h
designated_by_counted (Err f) m h = h

both_counted : (b : Bool) (m n : Configuration) → HasArguments m → HasArguments n → HasArguments (cond b m n)
both_counted true m n h g = h
both_counted false m n h g = g

holding_counted : (c : Option Cell) (m : Configuration) → HasArguments m → HasArguments (turns.holding c m)
holding_counted None m h = h
holding_counted (Some Nothing) m h = h
holding_counted (Some (Holds v)) m h = h

loaded_counted : (t : CType) (l : Lvalue) (m : Configuration) → HasArguments m → HasArguments (turns.loaded t l m).after
loaded_counted t (InRegister i) m h = holding_counted _ m h
loaded_counted t (At p) m h = holding_counted _ m h

written_counted : (p v : Value) (c : Option Cell) (m : Configuration) → HasArguments m → HasArguments (turns.written p v c m)
written_counted p v None m h = h
written_counted p v (Some c) m h = h

written_register_counted : (i : ℕ) (v : Value) (c : Option Cell) (m : Configuration) → HasArguments m → HasArguments (turns.written_register i v c m)
written_register_counted i v None m h = h
written_register_counted i v (Some c) m h = h

kept_counted : (t : CType) (l : Lvalue) (v : Value) (m : Configuration) → HasArguments m → HasArguments (turns.kept t l v m).after
kept_counted t (InRegister i) v m h = written_register_counted i v _ m h
kept_counted t (At p) v m h = written_counted p v _ m h

object_counted : (l : Lvalue) (by : ℤ) (m : Configuration) → HasArguments m → HasArguments (turns.object_after l by m)
object_counted (InRegister i) by m h = h
object_counted (At p) by m h = designated_by_counted _ m h

updating_counted : (t : CType) (w : Answer) (l : Lvalue) (old : Value) (r : Result Value RunFault) (m : Configuration) → HasArguments m → HasArguments (turns.updating t w l old r m)
updating_counted t w l old (Ok v) m h = h
updating_counted t w l old (Err f) m h = h

allocated_counted : (count : ℕ) (b : Option Block) (m : Configuration) → HasArguments m → HasArguments (turns.allocated_block count b m).after
allocated_counted count None m h = h
allocated_counted count (Some b) m h = h

released_counted : (o : Option Memory) (m : Configuration) → HasArguments m → HasArguments (turns.released o m)
released_counted None m h = h
released_counted (Some memory) m h = h

operated_counted : (q : Core) (o : pending.Operand) (v : Value) (m : Configuration) → HasArguments m → HasArguments (turns.operated q o v m).after
operated_counted q (pending.Convert j) v m h = h
operated_counted q (pending.Unary o j) v m h = finished_counted _ m h
operated_counted q (pending.BinaryRight o j f) v m h = h
operated_counted q (pending.BinaryNow o j w) v m h = finished_counted _ m h
operated_counted q (pending.CompareRight o f) v m h = h
operated_counted q (pending.CompareNow o w) v m h = decided_counted _ m h
operated_counted q pending.Negated v m h = h
operated_counted q (pending.BothRight f) v m h = both_counted (truth v) _ _ h h
operated_counted q (pending.EitherRight f) v m h = both_counted (truth v) _ _ h h
operated_counted q pending.Truth v m h = h
operated_counted q (pending.Choose f g) v m h = h
operated_counted q pending.Discard v m h = h
operated_counted q (pending.MoveRight size side f) v m h = h
operated_counted q (pending.MoveNow size side w) v m h = pointing_counted _ m h
operated_counted q (pending.DifferenceRight unit f) v m h = h
operated_counted q (pending.DifferenceNow unit w) v m h = finished_counted _ m h
operated_counted q (pending.Store t l) v m h = kept_counted t l v m h
operated_counted q (pending.UpdateRight t o e w l) v m h = h
operated_counted q (pending.UpdateNow t o w l old) v m h = updating_counted t w l old _ m h
operated_counted q (pending.Instead w) v m h = h
operated_counted q (pending.Allocate t) v m h = allocated_counted _ _ m h
operated_counted q pending.Release v m h = released_counted _ m h

accessed_counted : (a : pending.Access) (l : Lvalue) (m : Configuration) → HasArguments m → HasArguments (turns.accessed a l m).after
accessed_counted (pending.LoadAt t) l m h = loaded_counted t l m h
accessed_counted pending.AddressOf (At p) m h = h
accessed_counted pending.AddressOf (InRegister i) m h = h
accessed_counted (pending.AssignRight t e) l m h = h
accessed_counted (pending.UpdateOld t o e w) l m h = loaded_counted t l (turns.pushed (pending.Operate (pending.UpdateRight t o e w l)) m) h

selected_counted : (x : pending.Selection) (l : Lvalue) (m : Configuration) → HasArguments m → HasArguments (turns.selected x l m)
selected_counted (pending.MemberAt o) l m h = object_counted l _ m h
selected_counted (pending.ElementAt e size) l m h = h

designating_counted : (x : pending.Designation) (v : Value) (m : Configuration) → HasArguments m → HasArguments (turns.designating x v m)
designating_counted pending.Dereference v m h = h
designating_counted (pending.ElementNow l size) v m h = object_counted l _ m h

concluded_counted : (s : Stmt) (v : Value) (m : Configuration) → HasArguments m → HasArguments (turns.concluded s v m)
concluded_counted st.Empty v m h = h
concluded_counted (st.Eval e) v m h = h
concluded_counted (st.Init x o t e) v m h = h
concluded_counted (st.Block' b ss) v m h = h
concluded_counted (st.If' e b (more_of-Stmt s end_of-Stmt) c (more_of-Stmt u end_of-Stmt)) v m h = h
concluded_counted (st.While' e b (more_of-Stmt s end_of-Stmt)) v m h = both_counted (truth v) _ _ h h
concluded_counted (st.Do' b (more_of-Stmt s end_of-Stmt) e) v m h = both_counted (truth v) _ _ h h
concluded_counted (st.For' test step b (more_of-Stmt s end_of-Stmt)) v m h = both_counted (truth v) _ _ h h
concluded_counted st.Break v m h = h
concluded_counted st.Continue v m h = h
concluded_counted (st.Return e) v m h = h
concluded_counted (st.Ghost g) v m h = h
concluded_counted (st.Assert w k r) v m h = h

next_counted : (ss : List Stmt) (m : Configuration) → HasArguments m → HasArguments (turns.next_of ss m)
next_counted [] m h = h
next_counted (s ∷ ss) m h = h

stepping_counted : (e : Option Expr) (m : Configuration) → HasArguments m → HasArguments (turns.stepping e m)
stepping_counted None m h = h
stepping_counted (Some e) m h = h

ending_counted : (s : Stmt) (m : Configuration) → HasArguments m → HasArguments (turns.ending s m)
ending_counted st.Empty m h = h
ending_counted (st.Eval e) m h = h
ending_counted (st.Init x o t e) m h = h
ending_counted (st.Block' b ss) m h = h
ending_counted (st.If' e b (more_of-Stmt s end_of-Stmt) c (more_of-Stmt u end_of-Stmt)) m h = h
ending_counted (st.While' e b (more_of-Stmt s end_of-Stmt)) m h = h
ending_counted (st.Do' b (more_of-Stmt s end_of-Stmt) e) m h = h
ending_counted (st.For' test step b (more_of-Stmt s end_of-Stmt)) m h = stepping_counted step m h
ending_counted st.Break m h = h
ending_counted st.Continue m h = h
ending_counted (st.Return e) m h = h
ending_counted (st.Ghost g) m h = h
ending_counted (st.Assert v k r) m h = h

turning_counted : (s : Stmt) (m : Configuration) → HasArguments m → HasArguments (turns.turning s m)
turning_counted st.Empty m h = h
turning_counted (st.Eval e) m h = h
turning_counted (st.Init x o t e) m h = h
turning_counted (st.Block' b ss) m h = h
turning_counted (st.If' e b (more_of-Stmt s end_of-Stmt) c (more_of-Stmt u end_of-Stmt)) m h = h
turning_counted (st.While' e b (more_of-Stmt s end_of-Stmt)) m h = h
turning_counted (st.Do' b (more_of-Stmt s end_of-Stmt) e) m h = h
turning_counted (st.For' None step b (more_of-Stmt s end_of-Stmt)) m h = h
turning_counted (st.For' (Some e) step b (more_of-Stmt s end_of-Stmt)) m h = h
turning_counted st.Break m h = h
turning_counted st.Continue m h = h
turning_counted (st.Return e) m h = h
turning_counted (st.Ghost g) m h = h
turning_counted (st.Assert v k r) m h = h

passed_counted : (x : pending.Passing) (l : Completion) (m : Configuration) → HasArguments m → HasArguments (turns.passed x l m).after
passed_counted (pending.Rest ss) Next m h = next_counted ss (turns.ready m) h
passed_counted (pending.Rest ss) Broken m h = h
passed_counted (pending.Rest ss) Continued m h = h
passed_counted (pending.Rest ss) (Returned v) m h = h
passed_counted (pending.Again s) Next m h = turning_counted s (turns.pushed (pending.Pass (pending.Again s)) (turns.ready m)) h
passed_counted (pending.Again s) Continued m h = turning_counted s (turns.pushed (pending.Pass (pending.Again s)) (turns.ready m)) h
passed_counted (pending.Again s) Broken m h = h
passed_counted (pending.Again s) (Returned v) m h = h
passed_counted (pending.TurnEnd s) Next m h = ending_counted s m h
passed_counted (pending.TurnEnd s) Continued m h = ending_counted s m h
passed_counted (pending.TurnEnd s) Broken m h = h
passed_counted (pending.TurnEnd s) (Returned v) m h = h

arguing_counted : (f : ℕ) (es : List Expr) (n : ℕ) (m : Configuration) → (n ≤ length m.context.arguments) × AreCounted m.work (drop n m.context.arguments) → HasArguments (turns.arguing f es n m).after
arguing_counted f [] n m h = h
arguing_counted f (e ∷ es) n m h = h

argued_counted : (f : ℕ) (es : List Expr) (n : ℕ) (v : Value) (m : Configuration) → (n ≤ length m.context.arguments) × AreCounted m.work (drop n m.context.arguments) → HasArguments (turns.argued f es n v m)
argued_counted f es n v m h = (omega (arith, h.0), h.1)

back_arguments : (rs : List pending.Caller) (c : pending.Context) → (pending.back_to rs c).arguments ≡ c.arguments
back_arguments [] c = refl
back_arguments (r ∷ rs) c = refl

closed_counted : (g : ℕ) (v : Option Value) (m : Configuration) → HasArguments m → HasArguments (turns.closed g v m).after
closed_counted g v m h = subst (AreCounted m.work) (sym (back_arguments m.context.callers m.context)) h

returned_counted : (g : ℕ) (t : CType) (v : Option Value) (m : Configuration) → HasArguments m → HasArguments (turns.returned g t v m).after
returned_counted g type.Void None m h = closed_counted g None m h
returned_counted g type.Void (Some v) m h = h
returned_counted g (type.Int j) None m h = h
returned_counted g (type.Int j) (Some v) m h = closed_counted g (Some v) m h
returned_counted g (type.Pointer' b j) None m h = h
returned_counted g (type.Pointer' b j) (Some v) m h = closed_counted g (Some v) m h
returned_counted g (type.Array' b j n) None m h = h
returned_counted g (type.Array' b j n) (Some v) m h = closed_counted g (Some v) m h
returned_counted g (type.Struct j) None m h = h
returned_counted g (type.Struct j) (Some v) m h = closed_counted g (Some v) m h

fallen_off_counted : (g : ℕ) (b : Bool) (t : CType) (m : Configuration) → HasArguments m → HasArguments (turns.fallen_off g b t m).after
fallen_off_counted g true t m h = closed_counted g (Some (value.Int (pos 0))) m h
fallen_off_counted g false type.Void m h = closed_counted g None m h
fallen_off_counted g false (type.Int j) m h = h
fallen_off_counted g false (type.Pointer' b j) m h = h
fallen_off_counted g false (type.Array' b j n) m h = h
fallen_off_counted g false (type.Struct j) m h = h

given_back_counted : (g : ℕ) (b : Bool) (t : CType) (l : Completion) (m : Configuration) → HasArguments m → HasArguments (turns.given_back g b t l m).after
given_back_counted g b t (Returned v) m h = returned_counted g t v m h
given_back_counted g b t Next m h = fallen_off_counted g b t m h
given_back_counted g b t Broken m h = h
given_back_counted g b t Continued m h = h

-- ---- the turn at a part that takes what was told

-- a part of a call takes what was told
abbrev pub IsTaken : pending.Pending → pending.Told → Type 0
IsTaken (pending.Arguments g es n) (pending.Left Next) = Unit {0}
IsTaken (pending.Arguments g es n) t = ⊥
IsTaken (pending.Argument g es n) (pending.Gave v) = Unit {0}
IsTaken (pending.Argument g es n) t = ⊥
IsTaken (pending.Enter g n) t = ⊥
IsTaken p t = Unit {0}

pub turn_counted : (q : Core) (p : pending.Pending) (t : pending.Told) (m : Configuration) → IsTaken p t → AreCounted (p ∷ m.work) m.context.arguments → HasArguments (turn_at q p t (turns.telling t m)).after
turn_counted q (pending.Evaluate x) (pending.Gave v) m e h = h
turn_counted q (pending.Evaluate x) (pending.Found l) m e h = h
turn_counted q (pending.Evaluate x) (pending.Left Next) m e h = evaluated_counted x (turns.ready m) h
turn_counted q (pending.Evaluate x) (pending.Left Broken) m e h = h
turn_counted q (pending.Evaluate x) (pending.Left Continued) m e h = h
turn_counted q (pending.Evaluate x) (pending.Left (Returned v)) m e h = h
turn_counted q (pending.Locate p) (pending.Gave v) m e h = h
turn_counted q (pending.Locate p) (pending.Found l) m e h = h
turn_counted q (pending.Locate p) (pending.Left Next) m e h = located_counted p (turns.ready m) h
turn_counted q (pending.Locate p) (pending.Left Broken) m e h = h
turn_counted q (pending.Locate p) (pending.Left Continued) m e h = h
turn_counted q (pending.Locate p) (pending.Left (Returned v)) m e h = h
turn_counted q (pending.Execute x) (pending.Gave v) m e h = h
turn_counted q (pending.Execute x) (pending.Found l) m e h = h
turn_counted q (pending.Execute x) (pending.Left Next) m e h = executed_counted x (turns.ready m) h
turn_counted q (pending.Execute x) (pending.Left Broken) m e h = h
turn_counted q (pending.Execute x) (pending.Left Continued) m e h = h
turn_counted q (pending.Execute x) (pending.Left (Returned v)) m e h = h
turn_counted q (pending.Operate o) (pending.Gave v) m e h = operated_counted q o v (turns.telling (pending.Gave v) m) h
turn_counted q (pending.Operate o) (pending.Found l) m e h = h
turn_counted q (pending.Operate o) (pending.Left Next) m e h = h
turn_counted q (pending.Operate o) (pending.Left Broken) m e h = h
turn_counted q (pending.Operate o) (pending.Left Continued) m e h = h
turn_counted q (pending.Operate o) (pending.Left (Returned v)) m e h = h
turn_counted q (pending.Accessed a) (pending.Gave v) m e h = h
turn_counted q (pending.Accessed a) (pending.Found l) m e h = accessed_counted a l (turns.telling (pending.Found l) m) h
turn_counted q (pending.Accessed a) (pending.Left Next) m e h = h
turn_counted q (pending.Accessed a) (pending.Left Broken) m e h = h
turn_counted q (pending.Accessed a) (pending.Left Continued) m e h = h
turn_counted q (pending.Accessed a) (pending.Left (Returned v)) m e h = h
turn_counted q (pending.Select x) (pending.Gave v) m e h = h
turn_counted q (pending.Select x) (pending.Found l) m e h = selected_counted x l (turns.ready m) h
turn_counted q (pending.Select x) (pending.Left Next) m e h = h
turn_counted q (pending.Select x) (pending.Left Broken) m e h = h
turn_counted q (pending.Select x) (pending.Left Continued) m e h = h
turn_counted q (pending.Select x) (pending.Left (Returned v)) m e h = h
turn_counted q (pending.Designate x) (pending.Gave v) m e h = designating_counted x v (turns.ready m) h
turn_counted q (pending.Designate x) (pending.Found l) m e h = h
turn_counted q (pending.Designate x) (pending.Left Next) m e h = h
turn_counted q (pending.Designate x) (pending.Left Broken) m e h = h
turn_counted q (pending.Designate x) (pending.Left Continued) m e h = h
turn_counted q (pending.Designate x) (pending.Left (Returned v)) m e h = h
turn_counted q (pending.Conclude x) (pending.Gave v) m e h = concluded_counted x v (turns.telling (pending.Gave v) m) h
turn_counted q (pending.Conclude x) (pending.Found l) m e h = h
turn_counted q (pending.Conclude x) (pending.Left Next) m e h = h
turn_counted q (pending.Conclude x) (pending.Left Broken) m e h = h
turn_counted q (pending.Conclude x) (pending.Left Continued) m e h = h
turn_counted q (pending.Conclude x) (pending.Left (Returned v)) m e h = h
turn_counted q pending.Ignore (pending.Gave v) m e h = h
turn_counted q pending.Ignore (pending.Found l) m e h = h
turn_counted q pending.Ignore (pending.Left Next) m e h = h
turn_counted q pending.Ignore (pending.Left Broken) m e h = h
turn_counted q pending.Ignore (pending.Left Continued) m e h = h
turn_counted q pending.Ignore (pending.Left (Returned v)) m e h = h
turn_counted q (pending.Pass x) (pending.Gave v) m e h = h
turn_counted q (pending.Pass x) (pending.Found l) m e h = h
turn_counted q (pending.Pass x) (pending.Left Next) m e h = passed_counted x Next (turns.telling (pending.Left Next) m) h
turn_counted q (pending.Pass x) (pending.Left Broken) m e h = passed_counted x Broken (turns.telling (pending.Left Broken) m) h
turn_counted q (pending.Pass x) (pending.Left Continued) m e h = passed_counted x Continued (turns.telling (pending.Left Continued) m) h
turn_counted q (pending.Pass x) (pending.Left (Returned v)) m e h = passed_counted x (Returned v) (turns.telling (pending.Left (Returned v)) m) h
turn_counted q pending.Input (pending.Gave v) m e h = h
turn_counted q pending.Input (pending.Found l) m e h = h
turn_counted q pending.Input (pending.Left Next) m e h = h
turn_counted q pending.Input (pending.Left Broken) m e h = h
turn_counted q pending.Input (pending.Left Continued) m e h = h
turn_counted q pending.Input (pending.Left (Returned v)) m e h = h
turn_counted q pending.Output (pending.Gave v) m e h = h
turn_counted q pending.Output (pending.Found l) m e h = h
turn_counted q pending.Output (pending.Left Next) m e h = h
turn_counted q pending.Output (pending.Left Broken) m e h = h
turn_counted q pending.Output (pending.Left Continued) m e h = h
turn_counted q pending.Output (pending.Left (Returned v)) m e h = h
turn_counted q (pending.Arguments g es n) (pending.Gave v) m e h = absurd e
turn_counted q (pending.Arguments g es n) (pending.Found l) m e h = absurd e
turn_counted q (pending.Arguments g es n) (pending.Left Next) m e h = arguing_counted g es n (turns.ready m) h
turn_counted q (pending.Arguments g es n) (pending.Left Broken) m e h = absurd e
turn_counted q (pending.Arguments g es n) (pending.Left Continued) m e h = absurd e
turn_counted q (pending.Arguments g es n) (pending.Left (Returned v)) m e h = absurd e
turn_counted q (pending.Argument g es n) (pending.Gave v) m e h = argued_counted g es n v (turns.telling (pending.Gave v) m) h
turn_counted q (pending.Argument g es n) (pending.Found l) m e h = absurd e
turn_counted q (pending.Argument g es n) (pending.Left Next) m e h = absurd e
turn_counted q (pending.Argument g es n) (pending.Left Broken) m e h = absurd e
turn_counted q (pending.Argument g es n) (pending.Left Continued) m e h = absurd e
turn_counted q (pending.Argument g es n) (pending.Left (Returned v)) m e h = absurd e
turn_counted q (pending.Enter g n) (pending.Gave v) m e h = absurd e
turn_counted q (pending.Enter g n) (pending.Found l) m e h = absurd e
turn_counted q (pending.Enter g n) (pending.Left Next) m e h = absurd e
turn_counted q (pending.Enter g n) (pending.Left Broken) m e h = absurd e
turn_counted q (pending.Enter g n) (pending.Left Continued) m e h = absurd e
turn_counted q (pending.Enter g n) (pending.Left (Returned v)) m e h = absurd e
turn_counted q (pending.Halt x) (pending.Gave v) m e h = h
turn_counted q (pending.Halt x) (pending.Found l) m e h = h
turn_counted q (pending.Halt x) (pending.Left Next) m e h = h
turn_counted q (pending.Halt x) (pending.Left Broken) m e h = h
turn_counted q (pending.Halt x) (pending.Left Continued) m e h = h
turn_counted q (pending.Halt x) (pending.Left (Returned v)) m e h = h
turn_counted q (pending.Over x) (pending.Gave v) m e h = h
turn_counted q (pending.Over x) (pending.Found l) m e h = h
turn_counted q (pending.Over x) (pending.Left Next) m e h = h
turn_counted q (pending.Over x) (pending.Left Broken) m e h = h
turn_counted q (pending.Over x) (pending.Left Continued) m e h = h
turn_counted q (pending.Over x) (pending.Left (Returned v)) m e h = h
turn_counted q (pending.Leave g x) (pending.Gave v) m e h = h
turn_counted q (pending.Leave g x) (pending.Found l) m e h = h
turn_counted q (pending.Leave g x) (pending.Left Next) m e h = given_back_counted g (g == q.start) x Next (turns.telling (pending.Left Next) m) h
turn_counted q (pending.Leave g x) (pending.Left Broken) m e h = given_back_counted g (g == q.start) x Broken (turns.telling (pending.Left Broken) m) h
turn_counted q (pending.Leave g x) (pending.Left Continued) m e h = given_back_counted g (g == q.start) x Continued (turns.telling (pending.Left Continued) m) h
turn_counted q (pending.Leave g x) (pending.Left (Returned v)) m e h = given_back_counted g (g == q.start) x (Returned v) (turns.telling (pending.Left (Returned v)) m) h
