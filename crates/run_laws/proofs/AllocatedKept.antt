-- A turn makes no heap block, but that of `malloc`.
use Rattle.std.proofs.Common.{◌≡◌, ℕ, Bool, true, false, cond, List, [], ◌∷◌, Option, Some, None, Result, Ok, Err, refl}
use Rattle.std.specs.Prelude.{ℤ, ◌==◌, if◌then◌else◌}
use Rattle.step_meaning.specs.declared.value.CType.{CType}
use Rattle.step_meaning.specs.declared.value.CType.TheVariants as type
use Rattle.step_meaning.specs.declared.value.Value.{Value}
use Rattle.step_meaning.specs.declared.value.Value.TheVariants as value
use Rattle.step_meaning.specs.declared.value.Cell.{Cell}
use Rattle.step_meaning.specs.declared.value.Cell.TheVariants.{Nothing, Holds}
use Rattle.step_meaning.specs.declared.value.RunFault.{RunFault}
use Rattle.step_meaning.specs.declared.expr.Answer.{Answer}
use Rattle.step_meaning.specs.declared.expr.Expr.{Expr, end_of-Expr, more_of-Expr}
use Rattle.step_meaning.specs.declared.expr.Expr.TheVariants.{Literal, Null, Load, Address, Convert', Unary', Binary', Compare', Move', Difference', Not', Both', Either', Choose', Assign', Update', Invoke', GetChar, PutChar', Malloc', Free', Discard', Own, Deref', Member', Index'}
use Rattle.step_meaning.specs.declared.expr.Place_.{Place_, end_of-Place_, more_of-Place_}
use Rattle.step_meaning.specs.declared.stmt.Stmt.{Stmt, end_of-Stmt, more_of-Stmt}
use Rattle.step_meaning.specs.declared.stmt.Stmt.TheVariants as st
use Rattle.step_meaning.specs.declared.program.Core.{Core}
use Rattle.step_meaning.specs.Names.{truth}
use Rattle.step_meaning.specs.Memory.{begins_block, freed, without}
use Rattle.step_meaning.specs.State.{Lvalue, InRegister, At}
use Rattle.step_meaning.specs.Statements.{Completion, Next, Broken, Continued, Returned}
use Rattle.run_turns.specs.Pending as pending
use Rattle.run_turns.specs.Turns as turns
use Rattle.run_turns.specs.Turns.{Configuration, turn_at}

abbrev pub Allocates : Configuration → Configuration → Type 0
Allocates m n = n.allocated ≡ m.allocated

evaluated_allocates : (e : Expr) (m : Configuration) → Allocates m (turns.evaluated e m)
evaluated_allocates (Literal k z) m = refl
evaluated_allocates Null m = refl
evaluated_allocates (Load p t) m = refl
evaluated_allocates (Address p t) m = refl
evaluated_allocates (Convert' k b (more_of-Expr e end_of-Expr)) m = refl
evaluated_allocates (Unary' o k b (more_of-Expr e end_of-Expr)) m = refl
evaluated_allocates (Binary' o k b (more_of-Expr e end_of-Expr) c (more_of-Expr f end_of-Expr)) m = refl
evaluated_allocates (Compare' o b (more_of-Expr e end_of-Expr) c (more_of-Expr f end_of-Expr)) m = refl
evaluated_allocates (Move' b (more_of-Expr e end_of-Expr) c (more_of-Expr f end_of-Expr) size side) m = refl
evaluated_allocates (Difference' b (more_of-Expr e end_of-Expr) c (more_of-Expr f end_of-Expr) unit) m = refl
evaluated_allocates (Not' b (more_of-Expr e end_of-Expr)) m = refl
evaluated_allocates (Both' b (more_of-Expr e end_of-Expr) c (more_of-Expr f end_of-Expr)) m = refl
evaluated_allocates (Either' b (more_of-Expr e end_of-Expr) c (more_of-Expr f end_of-Expr)) m = refl
evaluated_allocates (Choose' b (more_of-Expr e end_of-Expr) c (more_of-Expr f end_of-Expr) d (more_of-Expr g end_of-Expr)) m = refl
evaluated_allocates (Assign' p t b (more_of-Expr e end_of-Expr)) m = refl
evaluated_allocates (Update' p t o b (more_of-Expr e end_of-Expr) w) m = refl
evaluated_allocates (Invoke' f b es) m = refl
evaluated_allocates GetChar m = refl
evaluated_allocates (PutChar' b (more_of-Expr e end_of-Expr)) m = refl
evaluated_allocates (Malloc' b (more_of-Expr e end_of-Expr) t) m = refl
evaluated_allocates (Free' b (more_of-Expr e end_of-Expr)) m = refl
evaluated_allocates (Discard' b (more_of-Expr e end_of-Expr)) m = refl

located_allocates : (p : Place_) (m : Configuration) → Allocates m (turns.located p m)
located_allocates (Own v) m = refl
located_allocates (Deref' b (more_of-Expr e end_of-Expr)) m = refl
located_allocates (Member' b (more_of-Place_ p end_of-Place_) o) m = refl
located_allocates (Index' b (more_of-Place_ p end_of-Place_) c (more_of-Expr e end_of-Expr) size) m = refl

answering_allocates : (e : Option Expr) (m : Configuration) → Allocates m (turns.answering e m)
answering_allocates None m = refl
answering_allocates (Some e) m = refl

executed_allocates : (s : Stmt) (m : Configuration) → Allocates m (turns.executed s m)
executed_allocates st.Empty m = refl
executed_allocates (st.Eval e) m = refl
executed_allocates (st.Init x o t e) m = refl
executed_allocates (st.Block' b ss) m = refl
executed_allocates (st.If' e b (more_of-Stmt s end_of-Stmt) c (more_of-Stmt u end_of-Stmt)) m = refl
executed_allocates (st.While' e b (more_of-Stmt s end_of-Stmt)) m = refl
executed_allocates (st.Do' b (more_of-Stmt s end_of-Stmt) e) m = refl
executed_allocates (st.For' test step b (more_of-Stmt s end_of-Stmt)) m = refl
executed_allocates st.Break m = refl
executed_allocates st.Continue m = refl
executed_allocates (st.Return e) m = answering_allocates e m
executed_allocates (st.Ghost g) m = refl
executed_allocates (st.Assert v k r) m = refl

finished_allocates : (r : Result ℤ RunFault) (m : Configuration) → Allocates m (turns.finished r m)
finished_allocates (Ok z) m = refl
finished_allocates (Err f) m = refl

decided_allocates : (r : Result Bool RunFault) (m : Configuration) → Allocates m (turns.decided r m)
decided_allocates (Ok z) m = refl
decided_allocates (Err f) m = refl

pointing_allocates : (r : Result Value RunFault) (m : Configuration) → Allocates m (turns.pointing r m)
pointing_allocates (Ok z) m = refl
pointing_allocates (Err f) m = refl

designated_by_allocates : (r : Result Value RunFault) (m : Configuration) → Allocates m (turns.designated_by r m)
designated_by_allocates (Ok z) m = refl
designated_by_allocates (Err f) m = refl

both_allocate : (b : Bool) (m n k : Configuration) → Allocates m n → Allocates m k → Allocates m (cond b n k)
both_allocate true m n k h g = h
both_allocate false m n k h g = g

holding_allocates : (c : Option Cell) (m : Configuration) → Allocates m (turns.holding c m)
holding_allocates None m = refl
holding_allocates (Some Nothing) m = refl
holding_allocates (Some (Holds v)) m = refl

loaded_allocates : (t : CType) (l : Lvalue) (m : Configuration) → Allocates m (turns.loaded t l m).after
loaded_allocates t (InRegister i) m = holding_allocates _ m
loaded_allocates t (At p) m = holding_allocates _ m

written_allocates : (p v : Value) (c : Option Cell) (m : Configuration) → Allocates m (turns.written p v c m)
written_allocates p v None m = refl
written_allocates p v (Some c) m = refl

written_register_allocates : (i : ℕ) (v : Value) (c : Option Cell) (m : Configuration) → Allocates m (turns.written_register i v c m)
written_register_allocates i v None m = refl
written_register_allocates i v (Some c) m = refl

kept_allocates : (t : CType) (l : Lvalue) (v : Value) (m : Configuration) → Allocates m (turns.kept t l v m).after
kept_allocates t (InRegister i) v m = written_register_allocates i v _ m
kept_allocates t (At p) v m = written_allocates p v _ m

object_allocates : (l : Lvalue) (by : ℤ) (m : Configuration) → Allocates m (turns.object_after l by m)
object_allocates (InRegister i) by m = refl
object_allocates (At p) by m = designated_by_allocates _ m

updating_allocates : (t : CType) (w : Answer) (l : Lvalue) (old : Value) (r : Result Value RunFault) (m : Configuration) → Allocates m (turns.updating t w l old r m)
updating_allocates t w l old (Ok v) m = refl
updating_allocates t w l old (Err f) m = refl

released_allocates : (m : Configuration) (v : Value) → Allocates m (turns.released (freed m.memory v) m)
released_allocates m value.Null = refl
released_allocates m (value.Int z) = refl
released_allocates m (value.Pointer n i) = by (begins_block m.memory n i)
  where
    by : (b : Bool) → Allocates m (turns.released (if b then Some (record m.memory { heap = without n.activation m.memory.heap }) else None) m)
    by true = refl
    by false = refl

-- no block is made
abbrev pub BlocksNone : pending.Operand → Type 0
BlocksNone (pending.Allocate t) = ⊥
BlocksNone o = Unit {0}

operated_allocates : (q : Core) (o : pending.Operand) (v : Value) (m : Configuration) → BlocksNone o → Allocates m (turns.operated q o v m).after
operated_allocates q (pending.Convert j) v m b = refl
operated_allocates q (pending.Unary o j) v m b = finished_allocates _ m
operated_allocates q (pending.BinaryRight o j f) v m b = refl
operated_allocates q (pending.BinaryNow o j w) v m b = finished_allocates _ m
operated_allocates q (pending.CompareRight o f) v m b = refl
operated_allocates q (pending.CompareNow o w) v m b = decided_allocates _ m
operated_allocates q pending.Negated v m b = refl
operated_allocates q (pending.BothRight f) v m b = both_allocate (truth v) m _ _ refl refl
operated_allocates q (pending.EitherRight f) v m b = both_allocate (truth v) m _ _ refl refl
operated_allocates q pending.Truth v m b = refl
operated_allocates q (pending.Choose f g) v m b = refl
operated_allocates q pending.Discard v m b = refl
operated_allocates q (pending.MoveRight size side f) v m b = refl
operated_allocates q (pending.MoveNow size side w) v m b = pointing_allocates _ m
operated_allocates q (pending.DifferenceRight unit f) v m b = refl
operated_allocates q (pending.DifferenceNow unit w) v m b = finished_allocates _ m
operated_allocates q (pending.Store t l) v m b = kept_allocates t l v m
operated_allocates q (pending.UpdateRight t o e w l) v m b = refl
operated_allocates q (pending.UpdateNow t o w l old) v m b = updating_allocates t w l old _ m
operated_allocates q (pending.Instead w) v m b = refl
operated_allocates q (pending.Allocate t) v m b = absurd b
operated_allocates q pending.Release v m b = released_allocates m v

accessed_allocates : (a : pending.Access) (l : Lvalue) (m : Configuration) → Allocates m (turns.accessed a l m).after
accessed_allocates (pending.LoadAt t) l m = loaded_allocates t l m
accessed_allocates pending.AddressOf (At p) m = refl
accessed_allocates pending.AddressOf (InRegister i) m = refl
accessed_allocates (pending.AssignRight t e) l m = refl
accessed_allocates (pending.UpdateOld t o e w) l m = loaded_allocates t l (turns.pushed (pending.Operate (pending.UpdateRight t o e w l)) m)

selected_allocates : (x : pending.Selection) (l : Lvalue) (m : Configuration) → Allocates m (turns.selected x l m)
selected_allocates (pending.MemberAt o) l m = object_allocates l _ m
selected_allocates (pending.ElementAt e size) l m = refl

designating_allocates : (x : pending.Designation) (v : Value) (m : Configuration) → Allocates m (turns.designating x v m)
designating_allocates pending.Dereference v m = refl
designating_allocates (pending.ElementNow l size) v m = object_allocates l _ m

concluded_allocates : (s : Stmt) (v : Value) (m : Configuration) → Allocates m (turns.concluded s v m)
concluded_allocates st.Empty v m = refl
concluded_allocates (st.Eval e) v m = refl
concluded_allocates (st.Init x o t e) v m = refl
concluded_allocates (st.Block' b ss) v m = refl
concluded_allocates (st.If' e b (more_of-Stmt s end_of-Stmt) c (more_of-Stmt u end_of-Stmt)) v m = refl
concluded_allocates (st.While' e b (more_of-Stmt s end_of-Stmt)) v m = both_allocate (truth v) m _ _ refl refl
concluded_allocates (st.Do' b (more_of-Stmt s end_of-Stmt) e) v m = both_allocate (truth v) m _ _ refl refl
concluded_allocates (st.For' test step b (more_of-Stmt s end_of-Stmt)) v m = both_allocate (truth v) m _ _ refl refl
concluded_allocates st.Break v m = refl
concluded_allocates st.Continue v m = refl
concluded_allocates (st.Return e) v m = refl
concluded_allocates (st.Ghost g) v m = refl
concluded_allocates (st.Assert w k r) v m = refl

next_allocates : (ss : List Stmt) (m : Configuration) → Allocates m (turns.next_of ss m)
next_allocates [] m = refl
next_allocates (s ∷ ss) m = refl

stepping_allocates : (e : Option Expr) (m : Configuration) → Allocates m (turns.stepping e m)
stepping_allocates None m = refl
stepping_allocates (Some e) m = refl

ending_allocates : (s : Stmt) (m : Configuration) → Allocates m (turns.ending s m)
ending_allocates st.Empty m = refl
ending_allocates (st.Eval e) m = refl
ending_allocates (st.Init x o t e) m = refl
ending_allocates (st.Block' b ss) m = refl
ending_allocates (st.If' e b (more_of-Stmt s end_of-Stmt) c (more_of-Stmt u end_of-Stmt)) m = refl
ending_allocates (st.While' e b (more_of-Stmt s end_of-Stmt)) m = refl
ending_allocates (st.Do' b (more_of-Stmt s end_of-Stmt) e) m = refl
ending_allocates (st.For' test step b (more_of-Stmt s end_of-Stmt)) m = stepping_allocates step m
ending_allocates st.Break m = refl
ending_allocates st.Continue m = refl
ending_allocates (st.Return e) m = refl
ending_allocates (st.Ghost g) m = refl
ending_allocates (st.Assert v k r) m = refl

turning_allocates : (s : Stmt) (m : Configuration) → Allocates m (turns.turning s m)
turning_allocates st.Empty m = refl
turning_allocates (st.Eval e) m = refl
turning_allocates (st.Init x o t e) m = refl
turning_allocates (st.Block' b ss) m = refl
turning_allocates (st.If' e b (more_of-Stmt s end_of-Stmt) c (more_of-Stmt u end_of-Stmt)) m = refl
turning_allocates (st.While' e b (more_of-Stmt s end_of-Stmt)) m = refl
turning_allocates (st.Do' b (more_of-Stmt s end_of-Stmt) e) m = refl
turning_allocates (st.For' None step b (more_of-Stmt s end_of-Stmt)) m = refl
turning_allocates (st.For' (Some e) step b (more_of-Stmt s end_of-Stmt)) m = refl
turning_allocates st.Break m = refl
turning_allocates st.Continue m = refl
turning_allocates (st.Return e) m = refl
turning_allocates (st.Ghost g) m = refl
turning_allocates (st.Assert v k r) m = refl

passed_allocates : (x : pending.Passing) (l : Completion) (m : Configuration) → Allocates m (turns.passed x l m).after
passed_allocates (pending.Rest ss) Next m = next_allocates ss (turns.ready m)
passed_allocates (pending.Rest ss) Broken m = refl
passed_allocates (pending.Rest ss) Continued m = refl
passed_allocates (pending.Rest ss) (Returned v) m = refl
passed_allocates (pending.Again s) Next m = turning_allocates s (turns.pushed (pending.Pass (pending.Again s)) (turns.ready m))
passed_allocates (pending.Again s) Continued m = turning_allocates s (turns.pushed (pending.Pass (pending.Again s)) (turns.ready m))
passed_allocates (pending.Again s) Broken m = refl
passed_allocates (pending.Again s) (Returned v) m = refl
passed_allocates (pending.TurnEnd s) Next m = ending_allocates s m
passed_allocates (pending.TurnEnd s) Continued m = ending_allocates s m
passed_allocates (pending.TurnEnd s) Broken m = refl
passed_allocates (pending.TurnEnd s) (Returned v) m = refl

arguing_allocates : (f : ℕ) (es : List Expr) (n : ℕ) (m : Configuration) → Allocates m (turns.arguing f es n m).after
arguing_allocates f [] n m = refl
arguing_allocates f (e ∷ es) n m = refl

closed_allocates : (g : ℕ) (v : Option Value) (m : Configuration) → Allocates m (turns.closed g v m).after
closed_allocates g v m = refl

returned_allocates : (g : ℕ) (t : CType) (v : Option Value) (m : Configuration) → Allocates m (turns.returned g t v m).after
returned_allocates g type.Void None m = refl
returned_allocates g type.Void (Some v) m = refl
returned_allocates g (type.Int j) None m = refl
returned_allocates g (type.Int j) (Some v) m = refl
returned_allocates g (type.Pointer' b j) None m = refl
returned_allocates g (type.Pointer' b j) (Some v) m = refl
returned_allocates g (type.Array' b j n) None m = refl
returned_allocates g (type.Array' b j n) (Some v) m = refl
returned_allocates g (type.Struct j) None m = refl
returned_allocates g (type.Struct j) (Some v) m = refl

fallen_off_allocates : (g : ℕ) (b : Bool) (t : CType) (m : Configuration) → Allocates m (turns.fallen_off g b t m).after
fallen_off_allocates g true t m = refl
fallen_off_allocates g false type.Void m = refl
fallen_off_allocates g false (type.Int j) m = refl
fallen_off_allocates g false (type.Pointer' b j) m = refl
fallen_off_allocates g false (type.Array' b j n) m = refl
fallen_off_allocates g false (type.Struct j) m = refl

given_back_allocates : (g : ℕ) (b : Bool) (t : CType) (l : Completion) (m : Configuration) → Allocates m (turns.given_back g b t l m).after
given_back_allocates g b t (Returned v) m = returned_allocates g t v m
given_back_allocates g b t Next m = fallen_off_allocates g b t m
given_back_allocates g b t Broken m = refl
given_back_allocates g b t Continued m = refl

-- ---- the turn at a part that makes no block

abbrev pub MakesNone : pending.Pending → Type 0
MakesNone (pending.Operate o) = BlocksNone o
MakesNone p = Unit {0}

pub turn_allocates : (q : Core) (p : pending.Pending) (t : pending.Told) (m : Configuration) → MakesNone p → Allocates m (turn_at q p t (turns.telling t m)).after
turn_allocates q (pending.Evaluate x) (pending.Gave v) m e = refl
turn_allocates q (pending.Evaluate x) (pending.Found l) m e = refl
turn_allocates q (pending.Evaluate x) (pending.Left Next) m e = evaluated_allocates x (turns.ready m)
turn_allocates q (pending.Evaluate x) (pending.Left Broken) m e = refl
turn_allocates q (pending.Evaluate x) (pending.Left Continued) m e = refl
turn_allocates q (pending.Evaluate x) (pending.Left (Returned v)) m e = refl
turn_allocates q (pending.Locate p) (pending.Gave v) m e = refl
turn_allocates q (pending.Locate p) (pending.Found l) m e = refl
turn_allocates q (pending.Locate p) (pending.Left Next) m e = located_allocates p (turns.ready m)
turn_allocates q (pending.Locate p) (pending.Left Broken) m e = refl
turn_allocates q (pending.Locate p) (pending.Left Continued) m e = refl
turn_allocates q (pending.Locate p) (pending.Left (Returned v)) m e = refl
turn_allocates q (pending.Execute x) (pending.Gave v) m e = refl
turn_allocates q (pending.Execute x) (pending.Found l) m e = refl
turn_allocates q (pending.Execute x) (pending.Left Next) m e = executed_allocates x (turns.ready m)
turn_allocates q (pending.Execute x) (pending.Left Broken) m e = refl
turn_allocates q (pending.Execute x) (pending.Left Continued) m e = refl
turn_allocates q (pending.Execute x) (pending.Left (Returned v)) m e = refl
turn_allocates q (pending.Operate o) (pending.Gave v) m e = operated_allocates q o v (turns.telling (pending.Gave v) m) e
turn_allocates q (pending.Operate o) (pending.Found l) m e = refl
turn_allocates q (pending.Operate o) (pending.Left Next) m e = refl
turn_allocates q (pending.Operate o) (pending.Left Broken) m e = refl
turn_allocates q (pending.Operate o) (pending.Left Continued) m e = refl
turn_allocates q (pending.Operate o) (pending.Left (Returned v)) m e = refl
turn_allocates q (pending.Accessed a) (pending.Gave v) m e = refl
turn_allocates q (pending.Accessed a) (pending.Found l) m e = accessed_allocates a l (turns.telling (pending.Found l) m)
turn_allocates q (pending.Accessed a) (pending.Left Next) m e = refl
turn_allocates q (pending.Accessed a) (pending.Left Broken) m e = refl
turn_allocates q (pending.Accessed a) (pending.Left Continued) m e = refl
turn_allocates q (pending.Accessed a) (pending.Left (Returned v)) m e = refl
turn_allocates q (pending.Select x) (pending.Gave v) m e = refl
turn_allocates q (pending.Select x) (pending.Found l) m e = selected_allocates x l (turns.ready m)
turn_allocates q (pending.Select x) (pending.Left Next) m e = refl
turn_allocates q (pending.Select x) (pending.Left Broken) m e = refl
turn_allocates q (pending.Select x) (pending.Left Continued) m e = refl
turn_allocates q (pending.Select x) (pending.Left (Returned v)) m e = refl
turn_allocates q (pending.Designate x) (pending.Gave v) m e = designating_allocates x v (turns.ready m)
turn_allocates q (pending.Designate x) (pending.Found l) m e = refl
turn_allocates q (pending.Designate x) (pending.Left Next) m e = refl
turn_allocates q (pending.Designate x) (pending.Left Broken) m e = refl
turn_allocates q (pending.Designate x) (pending.Left Continued) m e = refl
turn_allocates q (pending.Designate x) (pending.Left (Returned v)) m e = refl
turn_allocates q (pending.Conclude x) (pending.Gave v) m e = concluded_allocates x v (turns.telling (pending.Gave v) m)
turn_allocates q (pending.Conclude x) (pending.Found l) m e = refl
turn_allocates q (pending.Conclude x) (pending.Left Next) m e = refl
turn_allocates q (pending.Conclude x) (pending.Left Broken) m e = refl
turn_allocates q (pending.Conclude x) (pending.Left Continued) m e = refl
turn_allocates q (pending.Conclude x) (pending.Left (Returned v)) m e = refl
turn_allocates q pending.Ignore (pending.Gave v) m e = refl
turn_allocates q pending.Ignore (pending.Found l) m e = refl
turn_allocates q pending.Ignore (pending.Left Next) m e = refl
turn_allocates q pending.Ignore (pending.Left Broken) m e = refl
turn_allocates q pending.Ignore (pending.Left Continued) m e = refl
turn_allocates q pending.Ignore (pending.Left (Returned v)) m e = refl
turn_allocates q (pending.Pass x) (pending.Gave v) m e = refl
turn_allocates q (pending.Pass x) (pending.Found l) m e = refl
turn_allocates q (pending.Pass x) (pending.Left Next) m e = passed_allocates x Next (turns.telling (pending.Left Next) m)
turn_allocates q (pending.Pass x) (pending.Left Broken) m e = passed_allocates x Broken (turns.telling (pending.Left Broken) m)
turn_allocates q (pending.Pass x) (pending.Left Continued) m e = passed_allocates x Continued (turns.telling (pending.Left Continued) m)
turn_allocates q (pending.Pass x) (pending.Left (Returned v)) m e = passed_allocates x (Returned v) (turns.telling (pending.Left (Returned v)) m)
turn_allocates q pending.Input (pending.Gave v) m e = refl
turn_allocates q pending.Input (pending.Found l) m e = refl
turn_allocates q pending.Input (pending.Left Next) m e = refl
turn_allocates q pending.Input (pending.Left Broken) m e = refl
turn_allocates q pending.Input (pending.Left Continued) m e = refl
turn_allocates q pending.Input (pending.Left (Returned v)) m e = refl
turn_allocates q pending.Output (pending.Gave v) m e = refl
turn_allocates q pending.Output (pending.Found l) m e = refl
turn_allocates q pending.Output (pending.Left Next) m e = refl
turn_allocates q pending.Output (pending.Left Broken) m e = refl
turn_allocates q pending.Output (pending.Left Continued) m e = refl
turn_allocates q pending.Output (pending.Left (Returned v)) m e = refl
turn_allocates q (pending.Arguments g es n) (pending.Gave v) m e = refl
turn_allocates q (pending.Arguments g es n) (pending.Found l) m e = refl
turn_allocates q (pending.Arguments g es n) (pending.Left Next) m e = arguing_allocates g es n (turns.ready m)
turn_allocates q (pending.Arguments g es n) (pending.Left Broken) m e = refl
turn_allocates q (pending.Arguments g es n) (pending.Left Continued) m e = refl
turn_allocates q (pending.Arguments g es n) (pending.Left (Returned v)) m e = refl
turn_allocates q (pending.Argument g es n) (pending.Gave v) m e = refl
turn_allocates q (pending.Argument g es n) (pending.Found l) m e = refl
turn_allocates q (pending.Argument g es n) (pending.Left Next) m e = refl
turn_allocates q (pending.Argument g es n) (pending.Left Broken) m e = refl
turn_allocates q (pending.Argument g es n) (pending.Left Continued) m e = refl
turn_allocates q (pending.Argument g es n) (pending.Left (Returned v)) m e = refl
turn_allocates q (pending.Enter g n) (pending.Gave v) m e = refl
turn_allocates q (pending.Enter g n) (pending.Found l) m e = refl
turn_allocates q (pending.Enter g n) (pending.Left Next) m e = refl
turn_allocates q (pending.Enter g n) (pending.Left Broken) m e = refl
turn_allocates q (pending.Enter g n) (pending.Left Continued) m e = refl
turn_allocates q (pending.Enter g n) (pending.Left (Returned v)) m e = refl
turn_allocates q (pending.Halt x) (pending.Gave v) m e = refl
turn_allocates q (pending.Halt x) (pending.Found l) m e = refl
turn_allocates q (pending.Halt x) (pending.Left Next) m e = refl
turn_allocates q (pending.Halt x) (pending.Left Broken) m e = refl
turn_allocates q (pending.Halt x) (pending.Left Continued) m e = refl
turn_allocates q (pending.Halt x) (pending.Left (Returned v)) m e = refl
turn_allocates q (pending.Over x) (pending.Gave v) m e = refl
turn_allocates q (pending.Over x) (pending.Found l) m e = refl
turn_allocates q (pending.Over x) (pending.Left Next) m e = refl
turn_allocates q (pending.Over x) (pending.Left Broken) m e = refl
turn_allocates q (pending.Over x) (pending.Left Continued) m e = refl
turn_allocates q (pending.Over x) (pending.Left (Returned v)) m e = refl
turn_allocates q (pending.Leave g x) (pending.Gave v) m e = refl
turn_allocates q (pending.Leave g x) (pending.Found l) m e = refl
turn_allocates q (pending.Leave g x) (pending.Left l) m e = given_back_allocates g (g == q.start) x l (turns.telling (pending.Left l) m)
