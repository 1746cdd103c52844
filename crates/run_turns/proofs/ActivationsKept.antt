-- A turn leaves the activations that are open as they are, but that at the end of one.
use Rattle.std.proofs.Common.{◌≡◌, ℕ, zero, suc, Bool, true, false, cond, List, [], ◌∷◌, Option, Some, None, Result, Ok, Err, refl, ap, ◌∙◌}
use Rattle.std.specs.Prelude.{ℤ, ◌==◌, if◌then◌else◌}
use Rattle.step_meaning.specs.declared.value.CType.{CType}
use Rattle.step_meaning.specs.declared.value.Value.{Value}
use Rattle.step_meaning.specs.declared.value.Value.TheVariants as value
use Rattle.step_meaning.specs.declared.value.NameKind.{NameKind}
use Rattle.step_meaning.specs.declared.value.NameKind.TheVariants as names
use Rattle.step_meaning.specs.declared.value.Cell.{Cell}
use Rattle.step_meaning.specs.declared.value.Cell.TheVariants.{Nothing, Holds}
use Rattle.step_meaning.specs.declared.value.RunFault.{RunFault}
use Rattle.step_meaning.specs.declared.expr.Answer.{Answer}
use Rattle.step_meaning.specs.declared.expr.Expr.{Expr, end_of-Expr, more_of-Expr}
use Rattle.step_meaning.specs.declared.expr.Expr.TheVariants.{Literal, Null, Load, Address, Convert', Unary', Binary', Compare', Move', Difference', Not', Both', Either', Choose', Assign', Update', Invoke', GetChar, PutChar', Malloc', Free', Discard', Own, Deref', Member', Index'}
use Rattle.step_meaning.specs.declared.expr.Place_.{Place_, end_of-Place_, more_of-Place_}
use Rattle.step_meaning.specs.declared.stmt.Stmt.{Stmt, end_of-Stmt, more_of-Stmt}
use Rattle.step_meaning.specs.declared.stmt.Stmt.TheVariants as st
use Rattle.step_meaning.specs.declared.program.Core.{Core}
use Rattle.step_meaning.specs.Names.{truth}
use Rattle.step_meaning.specs.Memory.{Memory, Block, Frame, at_frame, begins_block, changed, freed, stored, without}
use Rattle.step_meaning.specs.State.{Lvalue, InRegister, At}
use Rattle.step_meaning.specs.Statements.{Completion, Next, Broken, Continued, Returned}
use Rattle.run_turns.specs.Pending as pending
use Rattle.run_turns.specs.Turns as turns
use Rattle.run_turns.specs.Turns.{Configuration, turn_at}
use Rattle.run_turns.specs.Activations.{numbers, activations_of}

-- ---- memory

same_frames : (g : List Block → List Block) (a : ℕ) (fs : List Frame) → numbers (at_frame g a fs) ≡ numbers fs
same_frames g a [] = refl
same_frames g a (f ∷ fs) = by (f.activation == a) (same_frames g a fs)
  where
    by : (b : Bool) → numbers (at_frame g a fs) ≡ numbers fs → numbers (if b then record f { locals = g f.locals } ∷ fs else f ∷ at_frame g a fs) ≡ f.activation ∷ numbers fs
    by true e = refl
    by false e = ap (λ l. f.activation ∷ l) e

same_changed : (memory : Memory) (k : NameKind) (a i : ℕ) (g : Block → Block) → numbers (changed memory k a i g).frames ≡ numbers memory.frames
same_changed memory names.Global a i g = refl
same_changed memory names.Local a i g = same_frames (λ bs. Rattle.step_meaning.specs.Memory.at_block g i bs) a memory.frames
same_changed memory names.Heap a zero g = refl
same_changed memory names.Heap a (suc i) g = refl
same_changed memory names.Register a i g = refl
same_changed memory names.GhostGlobal a i g = refl
same_changed memory names.GhostLocal a i g = refl

same_stored : (memory : Memory) (p : Value) (c : Cell) → numbers (stored memory p c).frames ≡ numbers memory.frames
same_stored memory (value.Pointer n o) c = same_changed memory n.kind n.activation n.index _
same_stored memory value.Null c = refl
same_stored memory (value.Int z) c = refl

-- ---- turns

abbrev pub Keeps : Configuration → Configuration → Type 0
Keeps m n = activations_of n ≡ activations_of m

with_frames : (m : Configuration) (t : pending.Told) (memory : Memory) → numbers memory.frames ≡ numbers m.memory.frames → Keeps m (turns.telling t (record m { memory = memory }))
with_frames m t memory e = ap (λ l. record (activations_of m) { frames = l }) e

evaluated_keeps : (e : Expr) (m : Configuration) → Keeps m (turns.evaluated e m)
evaluated_keeps (Literal k z) m = refl
evaluated_keeps Null m = refl
evaluated_keeps (Load p t) m = refl
evaluated_keeps (Address p t) m = refl
evaluated_keeps (Convert' k b (more_of-Expr e end_of-Expr)) m = refl
evaluated_keeps (Unary' o k b (more_of-Expr e end_of-Expr)) m = refl
evaluated_keeps (Binary' o k b (more_of-Expr e end_of-Expr) c (more_of-Expr f end_of-Expr)) m = refl
evaluated_keeps (Compare' o b (more_of-Expr e end_of-Expr) c (more_of-Expr f end_of-Expr)) m = refl
evaluated_keeps (Move' b (more_of-Expr e end_of-Expr) c (more_of-Expr f end_of-Expr) size side) m = refl
evaluated_keeps (Difference' b (more_of-Expr e end_of-Expr) c (more_of-Expr f end_of-Expr) unit) m = refl
evaluated_keeps (Not' b (more_of-Expr e end_of-Expr)) m = refl
evaluated_keeps (Both' b (more_of-Expr e end_of-Expr) c (more_of-Expr f end_of-Expr)) m = refl
evaluated_keeps (Either' b (more_of-Expr e end_of-Expr) c (more_of-Expr f end_of-Expr)) m = refl
evaluated_keeps (Choose' b (more_of-Expr e end_of-Expr) c (more_of-Expr f end_of-Expr) d (more_of-Expr g end_of-Expr)) m = refl
evaluated_keeps (Assign' p t b (more_of-Expr e end_of-Expr)) m = refl
evaluated_keeps (Update' p t o b (more_of-Expr e end_of-Expr) w) m = refl
evaluated_keeps (Invoke' f b es) m = refl
evaluated_keeps GetChar m = refl
evaluated_keeps (PutChar' b (more_of-Expr e end_of-Expr)) m = refl
evaluated_keeps (Malloc' b (more_of-Expr e end_of-Expr) t) m = refl
evaluated_keeps (Free' b (more_of-Expr e end_of-Expr)) m = refl
evaluated_keeps (Discard' b (more_of-Expr e end_of-Expr)) m = refl

located_keeps : (p : Place_) (m : Configuration) → Keeps m (turns.located p m)
located_keeps (Own v) m = refl
located_keeps (Deref' b (more_of-Expr e end_of-Expr)) m = refl
located_keeps (Member' b (more_of-Place_ p end_of-Place_) o) m = refl
located_keeps (Index' b (more_of-Place_ p end_of-Place_) c (more_of-Expr e end_of-Expr) size) m = refl

answering_keeps : (e : Option Expr) (m : Configuration) → Keeps m (turns.answering e m)
answering_keeps None m = refl
answering_keeps (Some e) m = refl

executed_keeps : (s : Stmt) (m : Configuration) → Keeps m (turns.executed s m)
executed_keeps st.Empty m = refl
executed_keeps (st.Eval e) m = refl
executed_keeps (st.Init x o t e) m = refl
executed_keeps (st.Block' b ss) m = refl
executed_keeps (st.If' e b (more_of-Stmt s end_of-Stmt) c (more_of-Stmt u end_of-Stmt)) m = refl
executed_keeps (st.While' e b (more_of-Stmt s end_of-Stmt)) m = refl
executed_keeps (st.Do' b (more_of-Stmt s end_of-Stmt) e) m = refl
executed_keeps (st.For' test step b (more_of-Stmt s end_of-Stmt)) m = refl
executed_keeps st.Break m = refl
executed_keeps st.Continue m = refl
executed_keeps (st.Return e) m = answering_keeps e m
executed_keeps (st.Ghost g) m = refl
executed_keeps (st.Assert v k r) m = refl

finished_keeps : (r : Result ℤ RunFault) (m : Configuration) → Keeps m (turns.finished r m)
finished_keeps (Ok z) m = refl
finished_keeps (Err f) m = refl

decided_keeps : (r : Result Bool RunFault) (m : Configuration) → Keeps m (turns.decided r m)
decided_keeps (Ok z) m = refl
decided_keeps (Err f) m = refl

pointing_keeps : (r : Result Value RunFault) (m : Configuration) → Keeps m (turns.pointing r m)
pointing_keeps (Ok z) m = refl
pointing_keeps (Err f) m = refl

designated_by_keeps : (r : Result Value RunFault) (m : Configuration) → Keeps m (turns.designated_by r m)
designated_by_keeps (Ok z) m = refl
designated_by_keeps (Err f) m = refl

both_keep : (b : Bool) (m n k : Configuration) → Keeps m n → Keeps m k → Keeps m (cond b n k)
both_keep true m n k h g = h
both_keep false m n k h g = g

holding_keeps : (c : Option Cell) (m : Configuration) → Keeps m (turns.holding c m)
holding_keeps None m = refl
holding_keeps (Some Nothing) m = refl
holding_keeps (Some (Holds v)) m = refl

loaded_keeps : (t : CType) (l : Lvalue) (m : Configuration) → Keeps m (turns.loaded t l m).after
loaded_keeps t (InRegister i) m = holding_keeps _ m
loaded_keeps t (At p) m = holding_keeps _ m

written_keeps : (p v : Value) (c : Option Cell) (m : Configuration) → Keeps m (turns.written p v c m)
written_keeps p v None m = refl
written_keeps p v (Some c) m = with_frames m (pending.Gave v) (stored m.memory p (Holds v)) (same_stored m.memory p (Holds v))

written_register_keeps : (i : ℕ) (v : Value) (c : Option Cell) (m : Configuration) → Keeps m (turns.written_register i v c m)
written_register_keeps i v None m = refl
written_register_keeps i v (Some c) m = refl

kept_keeps : (t : CType) (l : Lvalue) (v : Value) (m : Configuration) → Keeps m (turns.kept t l v m).after
kept_keeps t (InRegister i) v m = written_register_keeps i v _ m
kept_keeps t (At p) v m = written_keeps p v _ m

object_keeps : (l : Lvalue) (by : ℤ) (m : Configuration) → Keeps m (turns.object_after l by m)
object_keeps (InRegister i) by m = refl
object_keeps (At p) by m = designated_by_keeps _ m

updating_keeps : (t : CType) (w : Answer) (l : Lvalue) (old : Value) (r : Result Value RunFault) (m : Configuration) → Keeps m (turns.updating t w l old r m)
updating_keeps t w l old (Ok v) m = refl
updating_keeps t w l old (Err f) m = refl

allocated_keeps : (count : ℕ) (b : Option Block) (m : Configuration) → Keeps m (turns.allocated_block count b m).after
allocated_keeps count None m = refl
allocated_keeps count (Some b) m = refl

released_keeps : (m : Configuration) (v : Value) → Keeps m (turns.released (freed m.memory v) m)
released_keeps m value.Null = refl
released_keeps m (value.Int z) = refl
released_keeps m (value.Pointer n i) = by (begins_block m.memory n i)
  where
    by : (b : Bool) → Keeps m (turns.released (if b then Some (record m.memory { heap = without n.activation m.memory.heap }) else None) m)
    by true = refl
    by false = refl

operated_keeps : (q : Core) (o : pending.Operand) (v : Value) (m : Configuration) → Keeps m (turns.operated q o v m).after
operated_keeps q (pending.Convert j) v m = refl
operated_keeps q (pending.Unary o j) v m = finished_keeps _ m
operated_keeps q (pending.BinaryRight o j f) v m = refl
operated_keeps q (pending.BinaryNow o j w) v m = finished_keeps _ m
operated_keeps q (pending.CompareRight o f) v m = refl
operated_keeps q (pending.CompareNow o w) v m = decided_keeps _ m
operated_keeps q pending.Negated v m = refl
operated_keeps q (pending.BothRight f) v m = both_keep (truth v) m _ _ refl refl
operated_keeps q (pending.EitherRight f) v m = both_keep (truth v) m _ _ refl refl
operated_keeps q pending.Truth v m = refl
operated_keeps q (pending.Choose f g) v m = refl
operated_keeps q pending.Discard v m = refl
operated_keeps q (pending.MoveRight size side f) v m = refl
operated_keeps q (pending.MoveNow size side w) v m = pointing_keeps _ m
operated_keeps q (pending.DifferenceRight unit f) v m = refl
operated_keeps q (pending.DifferenceNow unit w) v m = finished_keeps _ m
operated_keeps q (pending.Store t l) v m = kept_keeps t l v m
operated_keeps q (pending.UpdateRight t o e w l) v m = refl
operated_keeps q (pending.UpdateNow t o w l old) v m = updating_keeps t w l old _ m
operated_keeps q (pending.Instead w) v m = refl
operated_keeps q (pending.Allocate t) v m = allocated_keeps _ _ m
operated_keeps q pending.Release v m = released_keeps m v

accessed_keeps : (a : pending.Access) (l : Lvalue) (m : Configuration) → Keeps m (turns.accessed a l m).after
accessed_keeps (pending.LoadAt t) l m = loaded_keeps t l m
accessed_keeps pending.AddressOf (At p) m = refl
accessed_keeps pending.AddressOf (InRegister i) m = refl
accessed_keeps (pending.AssignRight t e) l m = refl
accessed_keeps (pending.UpdateOld t o e w) l m = loaded_keeps t l (turns.pushed (pending.Operate (pending.UpdateRight t o e w l)) m)

selected_keeps : (x : pending.Selection) (l : Lvalue) (m : Configuration) → Keeps m (turns.selected x l m)
selected_keeps (pending.MemberAt o) l m = object_keeps l _ m
selected_keeps (pending.ElementAt e size) l m = refl

designating_keeps : (x : pending.Designation) (v : Value) (m : Configuration) → Keeps m (turns.designating x v m)
designating_keeps pending.Dereference v m = refl
designating_keeps (pending.ElementNow l size) v m = object_keeps l _ m

concluded_keeps : (s : Stmt) (v : Value) (m : Configuration) → Keeps m (turns.concluded s v m)
concluded_keeps st.Empty v m = refl
concluded_keeps (st.Eval e) v m = refl
concluded_keeps (st.Init x o t e) v m = refl
concluded_keeps (st.Block' b ss) v m = refl
concluded_keeps (st.If' e b (more_of-Stmt s end_of-Stmt) c (more_of-Stmt u end_of-Stmt)) v m = refl
concluded_keeps (st.While' e b (more_of-Stmt s end_of-Stmt)) v m = both_keep (truth v) m _ _ refl refl
concluded_keeps (st.Do' b (more_of-Stmt s end_of-Stmt) e) v m = both_keep (truth v) m _ _ refl refl
concluded_keeps (st.For' test step b (more_of-Stmt s end_of-Stmt)) v m = both_keep (truth v) m _ _ refl refl
concluded_keeps st.Break v m = refl
concluded_keeps st.Continue v m = refl
concluded_keeps (st.Return e) v m = refl
concluded_keeps (st.Ghost g) v m = refl
concluded_keeps (st.Assert w k r) v m = refl

next_keeps : (ss : List Stmt) (m : Configuration) → Keeps m (turns.next_of ss m)
next_keeps [] m = refl
next_keeps (s ∷ ss) m = refl

stepping_keeps : (e : Option Expr) (m : Configuration) → Keeps m (turns.stepping e m)
stepping_keeps None m = refl
stepping_keeps (Some e) m = refl

ending_keeps : (s : Stmt) (m : Configuration) → Keeps m (turns.ending s m)
ending_keeps st.Empty m = refl
ending_keeps (st.Eval e) m = refl
ending_keeps (st.Init x o t e) m = refl
ending_keeps (st.Block' b ss) m = refl
ending_keeps (st.If' e b (more_of-Stmt s end_of-Stmt) c (more_of-Stmt u end_of-Stmt)) m = refl
ending_keeps (st.While' e b (more_of-Stmt s end_of-Stmt)) m = refl
ending_keeps (st.Do' b (more_of-Stmt s end_of-Stmt) e) m = refl
ending_keeps (st.For' test step b (more_of-Stmt s end_of-Stmt)) m = stepping_keeps step m
ending_keeps st.Break m = refl
ending_keeps st.Continue m = refl
ending_keeps (st.Return e) m = refl
ending_keeps (st.Ghost g) m = refl
ending_keeps (st.Assert v k r) m = refl

turning_keeps : (s : Stmt) (m : Configuration) → Keeps m (turns.turning s m)
turning_keeps st.Empty m = refl
turning_keeps (st.Eval e) m = refl
turning_keeps (st.Init x o t e) m = refl
turning_keeps (st.Block' b ss) m = refl
turning_keeps (st.If' e b (more_of-Stmt s end_of-Stmt) c (more_of-Stmt u end_of-Stmt)) m = refl
turning_keeps (st.While' e b (more_of-Stmt s end_of-Stmt)) m = refl
turning_keeps (st.Do' b (more_of-Stmt s end_of-Stmt) e) m = refl
turning_keeps (st.For' None step b (more_of-Stmt s end_of-Stmt)) m = refl
turning_keeps (st.For' (Some e) step b (more_of-Stmt s end_of-Stmt)) m = refl
turning_keeps st.Break m = refl
turning_keeps st.Continue m = refl
turning_keeps (st.Return e) m = refl
turning_keeps (st.Ghost g) m = refl
turning_keeps (st.Assert v k r) m = refl

passed_keeps : (x : pending.Passing) (l : Completion) (m : Configuration) → Keeps m (turns.passed x l m).after
passed_keeps (pending.Rest ss) Next m = next_keeps ss (turns.ready m)
passed_keeps (pending.Rest ss) Broken m = refl
passed_keeps (pending.Rest ss) Continued m = refl
passed_keeps (pending.Rest ss) (Returned v) m = refl
passed_keeps (pending.Again s) Next m = turning_keeps s (turns.pushed (pending.Pass (pending.Again s)) (turns.ready m))
passed_keeps (pending.Again s) Continued m = turning_keeps s (turns.pushed (pending.Pass (pending.Again s)) (turns.ready m))
passed_keeps (pending.Again s) Broken m = refl
passed_keeps (pending.Again s) (Returned v) m = refl
passed_keeps (pending.TurnEnd s) Next m = ending_keeps s m
passed_keeps (pending.TurnEnd s) Continued m = ending_keeps s m
passed_keeps (pending.TurnEnd s) Broken m = refl
passed_keeps (pending.TurnEnd s) (Returned v) m = refl

arguing_keeps : (f : ℕ) (es : List Expr) (n : ℕ) (m : Configuration) → Keeps m (turns.arguing f es n m).after
arguing_keeps f [] n m = refl
arguing_keeps f (e ∷ es) n m = refl

-- ---- the turn at a part that doesn't end an activation

abbrev pub EndsNone : pending.Pending → Type 0
EndsNone (pending.Leave g t) = ⊥
EndsNone p = Unit {0}

pub turn_keeps : (q : Core) (p : pending.Pending) (t : pending.Told) (m : Configuration) → EndsNone p → Keeps m (turn_at q p t (turns.telling t m)).after
turn_keeps q (pending.Evaluate x) (pending.Gave v) m e = refl
turn_keeps q (pending.Evaluate x) (pending.Found l) m e = refl
turn_keeps q (pending.Evaluate x) (pending.Left Next) m e = evaluated_keeps x (turns.ready m)
turn_keeps q (pending.Evaluate x) (pending.Left Broken) m e = refl
turn_keeps q (pending.Evaluate x) (pending.Left Continued) m e = refl
turn_keeps q (pending.Evaluate x) (pending.Left (Returned v)) m e = refl
turn_keeps q (pending.Locate p) (pending.Gave v) m e = refl
turn_keeps q (pending.Locate p) (pending.Found l) m e = refl
turn_keeps q (pending.Locate p) (pending.Left Next) m e = located_keeps p (turns.ready m)
turn_keeps q (pending.Locate p) (pending.Left Broken) m e = refl
turn_keeps q (pending.Locate p) (pending.Left Continued) m e = refl
turn_keeps q (pending.Locate p) (pending.Left (Returned v)) m e = refl
turn_keeps q (pending.Execute x) (pending.Gave v) m e = refl
turn_keeps q (pending.Execute x) (pending.Found l) m e = refl
turn_keeps q (pending.Execute x) (pending.Left Next) m e = executed_keeps x (turns.ready m)
turn_keeps q (pending.Execute x) (pending.Left Broken) m e = refl
turn_keeps q (pending.Execute x) (pending.Left Continued) m e = refl
turn_keeps q (pending.Execute x) (pending.Left (Returned v)) m e = refl
turn_keeps q (pending.Operate o) (pending.Gave v) m e = operated_keeps q o v (turns.telling (pending.Gave v) m)
turn_keeps q (pending.Operate o) (pending.Found l) m e = refl
turn_keeps q (pending.Operate o) (pending.Left Next) m e = refl
turn_keeps q (pending.Operate o) (pending.Left Broken) m e = refl
turn_keeps q (pending.Operate o) (pending.Left Continued) m e = refl
turn_keeps q (pending.Operate o) (pending.Left (Returned v)) m e = refl
turn_keeps q (pending.Accessed a) (pending.Gave v) m e = refl
turn_keeps q (pending.Accessed a) (pending.Found l) m e = accessed_keeps a l (turns.telling (pending.Found l) m)
turn_keeps q (pending.Accessed a) (pending.Left Next) m e = refl
turn_keeps q (pending.Accessed a) (pending.Left Broken) m e = refl
turn_keeps q (pending.Accessed a) (pending.Left Continued) m e = refl
turn_keeps q (pending.Accessed a) (pending.Left (Returned v)) m e = refl
turn_keeps q (pending.Select x) (pending.Gave v) m e = refl
turn_keeps q (pending.Select x) (pending.Found l) m e = selected_keeps x l (turns.ready m)
turn_keeps q (pending.Select x) (pending.Left Next) m e = refl
turn_keeps q (pending.Select x) (pending.Left Broken) m e = refl
turn_keeps q (pending.Select x) (pending.Left Continued) m e = refl
turn_keeps q (pending.Select x) (pending.Left (Returned v)) m e = refl
turn_keeps q (pending.Designate x) (pending.Gave v) m e = designating_keeps x v (turns.ready m)
turn_keeps q (pending.Designate x) (pending.Found l) m e = refl
turn_keeps q (pending.Designate x) (pending.Left Next) m e = refl
turn_keeps q (pending.Designate x) (pending.Left Broken) m e = refl
turn_keeps q (pending.Designate x) (pending.Left Continued) m e = refl
turn_keeps q (pending.Designate x) (pending.Left (Returned v)) m e = refl
turn_keeps q (pending.Conclude x) (pending.Gave v) m e = concluded_keeps x v (turns.telling (pending.Gave v) m)
turn_keeps q (pending.Conclude x) (pending.Found l) m e = refl
turn_keeps q (pending.Conclude x) (pending.Left Next) m e = refl
turn_keeps q (pending.Conclude x) (pending.Left Broken) m e = refl
turn_keeps q (pending.Conclude x) (pending.Left Continued) m e = refl
turn_keeps q (pending.Conclude x) (pending.Left (Returned v)) m e = refl
turn_keeps q pending.Ignore (pending.Gave v) m e = refl
turn_keeps q pending.Ignore (pending.Found l) m e = refl
turn_keeps q pending.Ignore (pending.Left Next) m e = refl
turn_keeps q pending.Ignore (pending.Left Broken) m e = refl
turn_keeps q pending.Ignore (pending.Left Continued) m e = refl
turn_keeps q pending.Ignore (pending.Left (Returned v)) m e = refl
turn_keeps q (pending.Pass x) (pending.Gave v) m e = refl
turn_keeps q (pending.Pass x) (pending.Found l) m e = refl
turn_keeps q (pending.Pass x) (pending.Left Next) m e = passed_keeps x Next (turns.telling (pending.Left Next) m)
turn_keeps q (pending.Pass x) (pending.Left Broken) m e = passed_keeps x Broken (turns.telling (pending.Left Broken) m)
turn_keeps q (pending.Pass x) (pending.Left Continued) m e = passed_keeps x Continued (turns.telling (pending.Left Continued) m)
turn_keeps q (pending.Pass x) (pending.Left (Returned v)) m e = passed_keeps x (Returned v) (turns.telling (pending.Left (Returned v)) m)
turn_keeps q pending.Input (pending.Gave v) m e = refl
turn_keeps q pending.Input (pending.Found l) m e = refl
turn_keeps q pending.Input (pending.Left Next) m e = refl
turn_keeps q pending.Input (pending.Left Broken) m e = refl
turn_keeps q pending.Input (pending.Left Continued) m e = refl
turn_keeps q pending.Input (pending.Left (Returned v)) m e = refl
turn_keeps q pending.Output (pending.Gave v) m e = refl
turn_keeps q pending.Output (pending.Found l) m e = refl
turn_keeps q pending.Output (pending.Left Next) m e = refl
turn_keeps q pending.Output (pending.Left Broken) m e = refl
turn_keeps q pending.Output (pending.Left Continued) m e = refl
turn_keeps q pending.Output (pending.Left (Returned v)) m e = refl
turn_keeps q (pending.Arguments g es n) (pending.Gave v) m e = refl
turn_keeps q (pending.Arguments g es n) (pending.Found l) m e = refl
turn_keeps q (pending.Arguments g es n) (pending.Left Next) m e = arguing_keeps g es n (turns.ready m)
turn_keeps q (pending.Arguments g es n) (pending.Left Broken) m e = refl
turn_keeps q (pending.Arguments g es n) (pending.Left Continued) m e = refl
turn_keeps q (pending.Arguments g es n) (pending.Left (Returned v)) m e = refl
turn_keeps q (pending.Argument g es n) (pending.Gave v) m e = refl
turn_keeps q (pending.Argument g es n) (pending.Found l) m e = refl
turn_keeps q (pending.Argument g es n) (pending.Left Next) m e = refl
turn_keeps q (pending.Argument g es n) (pending.Left Broken) m e = refl
turn_keeps q (pending.Argument g es n) (pending.Left Continued) m e = refl
turn_keeps q (pending.Argument g es n) (pending.Left (Returned v)) m e = refl
turn_keeps q (pending.Enter g n) (pending.Gave v) m e = refl
turn_keeps q (pending.Enter g n) (pending.Found l) m e = refl
turn_keeps q (pending.Enter g n) (pending.Left Next) m e = refl
turn_keeps q (pending.Enter g n) (pending.Left Broken) m e = refl
turn_keeps q (pending.Enter g n) (pending.Left Continued) m e = refl
turn_keeps q (pending.Enter g n) (pending.Left (Returned v)) m e = refl
turn_keeps q (pending.Halt x) (pending.Gave v) m e = refl
turn_keeps q (pending.Halt x) (pending.Found l) m e = refl
turn_keeps q (pending.Halt x) (pending.Left Next) m e = refl
turn_keeps q (pending.Halt x) (pending.Left Broken) m e = refl
turn_keeps q (pending.Halt x) (pending.Left Continued) m e = refl
turn_keeps q (pending.Halt x) (pending.Left (Returned v)) m e = refl
turn_keeps q (pending.Over x) (pending.Gave v) m e = refl
turn_keeps q (pending.Over x) (pending.Found l) m e = refl
turn_keeps q (pending.Over x) (pending.Left Next) m e = refl
turn_keeps q (pending.Over x) (pending.Left Broken) m e = refl
turn_keeps q (pending.Over x) (pending.Left Continued) m e = refl
turn_keeps q (pending.Over x) (pending.Left (Returned v)) m e = refl
turn_keeps q (pending.Leave g x) t m e = absurd e
