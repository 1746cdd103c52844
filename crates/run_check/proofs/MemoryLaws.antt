-- A turn changes the memory at none of the steps that show it.
use Rattle.std.proofs.Common.{◌≡◌, ℕ, Bool, true, false, List, [], ◌∷◌, Option, Some, None, refl}
use Rattle.std.specs.Prelude.{◌==◌}
use Rattle.step_meaning.specs.declared.value.CType.{CType}
use Rattle.step_meaning.specs.declared.value.CType.TheVariants as type
use Rattle.step_meaning.specs.declared.value.Cell.{Cell}
use Rattle.step_meaning.specs.declared.value.Cell.TheVariants.{Nothing, Holds}
use Rattle.step_meaning.specs.declared.value.Value.{Value}
use Rattle.step_meaning.specs.declared.expr.Expr.{Expr}
use Rattle.step_meaning.specs.declared.stmt.Stmt.{Stmt, end_of-Stmt, more_of-Stmt}
use Rattle.step_meaning.specs.declared.stmt.Stmt.TheVariants as st
use Rattle.step_meaning.specs.declared.program.Core.{Core}
use Rattle.step_meaning.specs.State.{Lvalue, InRegister, At}
use Rattle.step_meaning.specs.Statements.{Completion, Next, Broken, Continued, Returned}
use Rattle.run_turns.specs.Pending as pending
use Rattle.run_turns.specs.Turns as turns
use Rattle.run_turns.specs.Turns.{Configuration, turn_at}
use Rattle.run_laws.specs.Actions.{IsPlainPart}
use Rattle.run_check.specs.Showing.{IsShown}

holding_keeps : (o : Option Cell) (m : Configuration) → (turns.holding o m).memory ≡ m.memory
holding_keeps None m = refl
holding_keeps (Some Nothing) m = refl
holding_keeps (Some (Holds v)) m = refl

turning_keeps : (s : Stmt) (m : Configuration) → (turns.turning s m).memory ≡ m.memory
turning_keeps st.Empty m = refl
turning_keeps (st.Eval x) m = refl
turning_keeps (st.Init x o y d) m = refl
turning_keeps (st.Block' b n) m = refl
turning_keeps (st.If' d b n c k) m = refl
turning_keeps (st.While' d b (more_of-Stmt s end_of-Stmt)) m = refl
turning_keeps (st.Do' b (more_of-Stmt s end_of-Stmt) d) m = refl
turning_keeps (st.For' None step b (more_of-Stmt s end_of-Stmt)) m = refl
turning_keeps (st.For' (Some e) step b (more_of-Stmt s end_of-Stmt)) m = refl
turning_keeps st.Break m = refl
turning_keeps st.Continue m = refl
turning_keeps (st.Return d) m = refl
turning_keeps (st.Ghost g) m = refl
turning_keeps (st.Assert v k r) m = refl

loaded_shown : (t : CType) (l : Lvalue) (m : Configuration) → IsShown (turns.loaded t l m).step m.memory (turns.loaded t l m).after.memory
loaded_shown t (InRegister i) m = tt
loaded_shown t (At p) m = λ h. holding_keeps (Rattle.step_meaning.specs.Memory.reached m.memory p t) m

kept_shown : (t : CType) (l : Lvalue) (v : Value) (m : Configuration) → IsShown (turns.kept t l v m).step m.memory (turns.kept t l v m).after.memory
kept_shown t (InRegister i) v m = tt
kept_shown t (At p) v m = λ h. absurd h

operated_shown : (q : Core) (o : pending.Operand) (v : Value) (m : Configuration) → IsPlainPart (pending.Operate o) → IsShown (turns.operated q o v m).step m.memory (turns.operated q o v m).after.memory
operated_shown q (pending.Convert j) v m i = tt
operated_shown q (pending.Unary o j) v m i = tt
operated_shown q (pending.BinaryRight o j e) v m i = tt
operated_shown q (pending.BinaryNow o j w) v m i = tt
operated_shown q (pending.CompareRight o e) v m i = tt
operated_shown q (pending.CompareNow o w) v m i = tt
operated_shown q pending.Negated v m i = tt
operated_shown q (pending.BothRight e) v m i = tt
operated_shown q (pending.EitherRight e) v m i = tt
operated_shown q pending.Truth v m i = tt
operated_shown q (pending.Choose e d) v m i = tt
operated_shown q pending.Discard v m i = tt
operated_shown q (pending.MoveRight size side e) v m i = tt
operated_shown q (pending.MoveNow size side w) v m i = tt
operated_shown q (pending.DifferenceRight unit e) v m i = tt
operated_shown q (pending.DifferenceNow unit w) v m i = tt
operated_shown q (pending.Store y l) v m i = kept_shown y l v m
operated_shown q (pending.UpdateRight y o e w l) v m i = tt
operated_shown q (pending.UpdateNow y o w l old) v m i = tt
operated_shown q (pending.Instead w) v m i = tt
operated_shown q (pending.Allocate y) v m i = absurd i
operated_shown q pending.Release v m i = λ h. absurd h

accessed_shown : (a : pending.Access) (l : Lvalue) (m : Configuration) → IsShown (turns.accessed a l m).step m.memory (turns.accessed a l m).after.memory
accessed_shown (pending.LoadAt t) l m = loaded_shown t l m
accessed_shown pending.AddressOf (At p) m = tt
accessed_shown pending.AddressOf (InRegister i) m = tt
accessed_shown (pending.AssignRight t e) l m = tt
accessed_shown (pending.UpdateOld t o e w) l m = loaded_shown t l (turns.pushed (pending.Operate (pending.UpdateRight t o e w l)) m)

looped_shown : (s : Stmt) (l : Completion) (m : Configuration) → IsShown (turns.looped s l m).step m.memory (turns.looped s l m).after.memory
looped_shown s Next m = λ h. turning_keeps s (turns.pushed (pending.Pass (pending.Again s)) (turns.ready m))
looped_shown s Broken m = tt
looped_shown s Continued m = λ h. turning_keeps s (turns.pushed (pending.Pass (pending.Again s)) (turns.ready m))
looped_shown s (Returned v) m = tt

passed_shown : (x : pending.Passing) (l : Completion) (m : Configuration) → IsShown (turns.passed x l m).step m.memory (turns.passed x l m).after.memory
passed_shown (pending.Rest ss) l m = tt
passed_shown (pending.Again s) l m = looped_shown s l m
passed_shown (pending.TurnEnd s) l m = tt

arguing_shown : (f : ℕ) (es : List Expr) (n : ℕ) (m : Configuration) → IsShown (turns.arguing f es n m).step m.memory (turns.arguing f es n m).after.memory
arguing_shown f [] n m = λ h. refl
arguing_shown f (e ∷ es) n m = tt

returned_shown : (g : ℕ) (t : CType) (v : Option Value) (m : Configuration) → IsShown (turns.returned g t v m).step m.memory (turns.returned g t v m).after.memory
returned_shown g type.Void None m = λ h. absurd h
returned_shown g type.Void (Some v) m = tt
returned_shown g (type.Int j) None m = tt
returned_shown g (type.Int j) (Some v) m = λ h. absurd h
returned_shown g (type.Pointer' b j) None m = tt
returned_shown g (type.Pointer' b j) (Some v) m = λ h. absurd h
returned_shown g (type.Array' b j n) None m = tt
returned_shown g (type.Array' b j n) (Some v) m = λ h. absurd h
returned_shown g (type.Struct j) None m = tt
returned_shown g (type.Struct j) (Some v) m = λ h. absurd h

fallen_off_shown : (g : ℕ) (b : Bool) (t : CType) (m : Configuration) → IsShown (turns.fallen_off g b t m).step m.memory (turns.fallen_off g b t m).after.memory
fallen_off_shown g true t m = λ h. absurd h
fallen_off_shown g false type.Void m = λ h. absurd h
fallen_off_shown g false (type.Int j) m = tt
fallen_off_shown g false (type.Pointer' b j) m = tt
fallen_off_shown g false (type.Array' b j n) m = tt
fallen_off_shown g false (type.Struct j) m = tt

given_back_shown : (g : ℕ) (b : Bool) (t : CType) (l : Completion) (m : Configuration) → IsShown (turns.given_back g b t l m).step m.memory (turns.given_back g b t l m).after.memory
given_back_shown g b t (Returned v) m = returned_shown g t v m
given_back_shown g b t Next m = fallen_off_shown g b t m
given_back_shown g b t Broken m = tt
given_back_shown g b t Continued m = tt

pub turn_shown : (q : Core) (p : pending.Pending) (t : pending.Told) (m : Configuration) → IsPlainPart p → IsShown (turn_at q p t m).step m.memory (turn_at q p t m).after.memory
turn_shown q (pending.Evaluate x) (pending.Gave v) m i = tt
turn_shown q (pending.Evaluate x) (pending.Found l) m i = tt
turn_shown q (pending.Evaluate x) (pending.Left Next) m i = tt
turn_shown q (pending.Evaluate x) (pending.Left Broken) m i = tt
turn_shown q (pending.Evaluate x) (pending.Left Continued) m i = tt
turn_shown q (pending.Evaluate x) (pending.Left (Returned w)) m i = tt
turn_shown q (pending.Locate x) (pending.Gave v) m i = tt
turn_shown q (pending.Locate x) (pending.Found l) m i = tt
turn_shown q (pending.Locate x) (pending.Left Next) m i = tt
turn_shown q (pending.Locate x) (pending.Left Broken) m i = tt
turn_shown q (pending.Locate x) (pending.Left Continued) m i = tt
turn_shown q (pending.Locate x) (pending.Left (Returned w)) m i = tt
turn_shown q (pending.Execute x) (pending.Gave v) m i = tt
turn_shown q (pending.Execute x) (pending.Found l) m i = tt
turn_shown q (pending.Execute x) (pending.Left Next) m i = tt
turn_shown q (pending.Execute x) (pending.Left Broken) m i = tt
turn_shown q (pending.Execute x) (pending.Left Continued) m i = tt
turn_shown q (pending.Execute x) (pending.Left (Returned w)) m i = tt
turn_shown q (pending.Operate o) (pending.Gave v) m i = operated_shown q o v m i
turn_shown q (pending.Operate o) (pending.Found l) m i = tt
turn_shown q (pending.Operate o) (pending.Left Next) m i = tt
turn_shown q (pending.Operate o) (pending.Left Broken) m i = tt
turn_shown q (pending.Operate o) (pending.Left Continued) m i = tt
turn_shown q (pending.Operate o) (pending.Left (Returned w)) m i = tt
turn_shown q (pending.Accessed y) (pending.Gave v) m i = tt
turn_shown q (pending.Accessed y) (pending.Found l) m i = accessed_shown y l m
turn_shown q (pending.Accessed y) (pending.Left Next) m i = tt
turn_shown q (pending.Accessed y) (pending.Left Broken) m i = tt
turn_shown q (pending.Accessed y) (pending.Left Continued) m i = tt
turn_shown q (pending.Accessed y) (pending.Left (Returned w)) m i = tt
turn_shown q (pending.Select x) (pending.Gave v) m i = tt
turn_shown q (pending.Select x) (pending.Found l) m i = tt
turn_shown q (pending.Select x) (pending.Left Next) m i = tt
turn_shown q (pending.Select x) (pending.Left Broken) m i = tt
turn_shown q (pending.Select x) (pending.Left Continued) m i = tt
turn_shown q (pending.Select x) (pending.Left (Returned w)) m i = tt
turn_shown q (pending.Designate x) (pending.Gave v) m i = tt
turn_shown q (pending.Designate x) (pending.Found l) m i = tt
turn_shown q (pending.Designate x) (pending.Left Next) m i = tt
turn_shown q (pending.Designate x) (pending.Left Broken) m i = tt
turn_shown q (pending.Designate x) (pending.Left Continued) m i = tt
turn_shown q (pending.Designate x) (pending.Left (Returned w)) m i = tt
turn_shown q (pending.Conclude x) (pending.Gave v) m i = tt
turn_shown q (pending.Conclude x) (pending.Found l) m i = tt
turn_shown q (pending.Conclude x) (pending.Left Next) m i = tt
turn_shown q (pending.Conclude x) (pending.Left Broken) m i = tt
turn_shown q (pending.Conclude x) (pending.Left Continued) m i = tt
turn_shown q (pending.Conclude x) (pending.Left (Returned w)) m i = tt
turn_shown q pending.Ignore (pending.Gave v) m i = tt
turn_shown q pending.Ignore (pending.Found l) m i = tt
turn_shown q pending.Ignore (pending.Left Next) m i = tt
turn_shown q pending.Ignore (pending.Left Broken) m i = tt
turn_shown q pending.Ignore (pending.Left Continued) m i = tt
turn_shown q pending.Ignore (pending.Left (Returned w)) m i = tt
turn_shown q (pending.Pass x) (pending.Gave v) m i = tt
turn_shown q (pending.Pass x) (pending.Found l) m i = tt
turn_shown q (pending.Pass x) (pending.Left Next) m i = passed_shown x Next m
turn_shown q (pending.Pass x) (pending.Left Broken) m i = passed_shown x Broken m
turn_shown q (pending.Pass x) (pending.Left Continued) m i = passed_shown x Continued m
turn_shown q (pending.Pass x) (pending.Left (Returned w)) m i = passed_shown x (Returned w) m
turn_shown q pending.Input (pending.Gave v) m i = tt
turn_shown q pending.Input (pending.Found l) m i = tt
turn_shown q pending.Input (pending.Left Next) m i = tt
turn_shown q pending.Input (pending.Left Broken) m i = tt
turn_shown q pending.Input (pending.Left Continued) m i = tt
turn_shown q pending.Input (pending.Left (Returned w)) m i = tt
turn_shown q pending.Output (pending.Gave v) m i = absurd i
turn_shown q pending.Output (pending.Found l) m i = absurd i
turn_shown q pending.Output (pending.Left Next) m i = absurd i
turn_shown q pending.Output (pending.Left Broken) m i = absurd i
turn_shown q pending.Output (pending.Left Continued) m i = absurd i
turn_shown q pending.Output (pending.Left (Returned w)) m i = absurd i
turn_shown q (pending.Arguments g es c) (pending.Gave v) m i = tt
turn_shown q (pending.Arguments g es c) (pending.Found l) m i = tt
turn_shown q (pending.Arguments g es c) (pending.Left Next) m i = arguing_shown g es c (turns.ready m)
turn_shown q (pending.Arguments g es c) (pending.Left Broken) m i = tt
turn_shown q (pending.Arguments g es c) (pending.Left Continued) m i = tt
turn_shown q (pending.Arguments g es c) (pending.Left (Returned w)) m i = tt
turn_shown q (pending.Argument g es c) (pending.Gave v) m i = tt
turn_shown q (pending.Argument g es c) (pending.Found l) m i = tt
turn_shown q (pending.Argument g es c) (pending.Left Next) m i = tt
turn_shown q (pending.Argument g es c) (pending.Left Broken) m i = tt
turn_shown q (pending.Argument g es c) (pending.Left Continued) m i = tt
turn_shown q (pending.Argument g es c) (pending.Left (Returned w)) m i = tt
turn_shown q (pending.Enter g c) (pending.Gave v) m i = tt
turn_shown q (pending.Enter g c) (pending.Found l) m i = tt
turn_shown q (pending.Enter g c) (pending.Left Next) m i = tt
turn_shown q (pending.Enter g c) (pending.Left Broken) m i = tt
turn_shown q (pending.Enter g c) (pending.Left Continued) m i = tt
turn_shown q (pending.Enter g c) (pending.Left (Returned w)) m i = tt
turn_shown q (pending.Leave g y) (pending.Gave v) m i = tt
turn_shown q (pending.Leave g y) (pending.Found l) m i = tt
turn_shown q (pending.Leave g y) (pending.Left Next) m i = given_back_shown g (g == q.start) y Next m
turn_shown q (pending.Leave g y) (pending.Left Broken) m i = given_back_shown g (g == q.start) y Broken m
turn_shown q (pending.Leave g y) (pending.Left Continued) m i = given_back_shown g (g == q.start) y Continued m
turn_shown q (pending.Leave g y) (pending.Left (Returned w)) m i = given_back_shown g (g == q.start) y (Returned w) m
turn_shown q (pending.Halt x) (pending.Gave v) m i = λ h. refl
turn_shown q (pending.Halt x) (pending.Found l) m i = λ h. refl
turn_shown q (pending.Halt x) (pending.Left Next) m i = λ h. refl
turn_shown q (pending.Halt x) (pending.Left Broken) m i = λ h. refl
turn_shown q (pending.Halt x) (pending.Left Continued) m i = λ h. refl
turn_shown q (pending.Halt x) (pending.Left (Returned w)) m i = λ h. refl
turn_shown q (pending.Over x) (pending.Gave v) m i = tt
turn_shown q (pending.Over x) (pending.Found l) m i = tt
turn_shown q (pending.Over x) (pending.Left Next) m i = tt
turn_shown q (pending.Over x) (pending.Left Broken) m i = tt
turn_shown q (pending.Over x) (pending.Left Continued) m i = tt
turn_shown q (pending.Over x) (pending.Left (Returned w)) m i = tt
