-- The steps that a turn makes are plain, but those of `putchar` and `malloc`.
use Rattle.std.proofs.Common.{ℕ, Bool, true, false, List, [], ◌∷◌, Option, Some, None}
use Rattle.std.specs.Prelude.{◌==◌}
use Rattle.step_meaning.specs.declared.value.CType.{CType}
use Rattle.step_meaning.specs.declared.value.CType.TheVariants as type
use Rattle.step_meaning.specs.declared.value.Value.{Value}
use Rattle.step_meaning.specs.declared.expr.Expr.{Expr}
use Rattle.step_meaning.specs.declared.stmt.Stmt.{Stmt}
use Rattle.step_meaning.specs.declared.program.Core.{Core}
use Rattle.step_meaning.specs.State.{Lvalue, InRegister, At}
use Rattle.step_meaning.specs.Statements.{Completion, Next, Broken, Continued, Returned}
use Rattle.run_turns.specs.Pending as pending
use Rattle.run_turns.specs.Turns as turns
use Rattle.run_turns.specs.Turns.{Configuration, turn_at}
use Rattle.run_laws.specs.Actions.{IsPlainPart, IsPlainStep}

loaded_plain : (t : CType) (l : Lvalue) (m : Configuration) → IsPlainStep (turns.loaded t l m).step
loaded_plain t (InRegister i) m = tt
loaded_plain t (At p) m = tt

kept_plain : (t : CType) (l : Lvalue) (v : Value) (m : Configuration) → IsPlainStep (turns.kept t l v m).step
kept_plain t (InRegister i) v m = tt
kept_plain t (At p) v m = tt

operated_plain : (q : Core) (o : pending.Operand) (v : Value) (m : Configuration) → IsPlainPart (pending.Operate o) → IsPlainStep (turns.operated q o v m).step
operated_plain q (pending.Convert j) v m i = tt
operated_plain q (pending.Unary o j) v m i = tt
operated_plain q (pending.BinaryRight o j e) v m i = tt
operated_plain q (pending.BinaryNow o j w) v m i = tt
operated_plain q (pending.CompareRight o e) v m i = tt
operated_plain q (pending.CompareNow o w) v m i = tt
operated_plain q pending.Negated v m i = tt
operated_plain q (pending.BothRight e) v m i = tt
operated_plain q (pending.EitherRight e) v m i = tt
operated_plain q pending.Truth v m i = tt
operated_plain q (pending.Choose e d) v m i = tt
operated_plain q pending.Discard v m i = tt
operated_plain q (pending.MoveRight size side e) v m i = tt
operated_plain q (pending.MoveNow size side w) v m i = tt
operated_plain q (pending.DifferenceRight unit e) v m i = tt
operated_plain q (pending.DifferenceNow unit w) v m i = tt
operated_plain q (pending.Store y l) v m i = kept_plain y l v m
operated_plain q (pending.UpdateRight y o e w l) v m i = tt
operated_plain q (pending.UpdateNow y o w l old) v m i = tt
operated_plain q (pending.Instead w) v m i = tt
operated_plain q (pending.Allocate y) v m i = absurd i
operated_plain q pending.Release v m i = tt

accessed_plain : (a : pending.Access) (l : Lvalue) (m : Configuration) → IsPlainStep (turns.accessed a l m).step
accessed_plain (pending.LoadAt t) l m = loaded_plain t l m
accessed_plain pending.AddressOf (At p) m = tt
accessed_plain pending.AddressOf (InRegister i) m = tt
accessed_plain (pending.AssignRight t e) l m = tt
accessed_plain (pending.UpdateOld t o e w) l m = loaded_plain t l (turns.pushed (pending.Operate (pending.UpdateRight t o e w l)) m)

looped_plain : (s : Stmt) (l : Completion) (m : Configuration) → IsPlainStep (turns.looped s l m).step
looped_plain s Next m = tt
looped_plain s Broken m = tt
looped_plain s Continued m = tt
looped_plain s (Returned v) m = tt

passed_plain : (x : pending.Passing) (l : Completion) (m : Configuration) → IsPlainStep (turns.passed x l m).step
passed_plain (pending.Rest ss) l m = tt
passed_plain (pending.Again s) l m = looped_plain s l m
passed_plain (pending.TurnEnd s) l m = tt

arguing_plain : (f : ℕ) (es : List Expr) (n : ℕ) (m : Configuration) → IsPlainStep (turns.arguing f es n m).step
arguing_plain f [] n m = tt
arguing_plain f (e ∷ es) n m = tt

returned_plain : (g : ℕ) (t : CType) (v : Option Value) (m : Configuration) → IsPlainStep (turns.returned g t v m).step
returned_plain g type.Void None m = tt
returned_plain g type.Void (Some v) m = tt
returned_plain g (type.Int j) None m = tt
returned_plain g (type.Int j) (Some v) m = tt
returned_plain g (type.Pointer' b j) None m = tt
returned_plain g (type.Pointer' b j) (Some v) m = tt
returned_plain g (type.Array' b j n) None m = tt
returned_plain g (type.Array' b j n) (Some v) m = tt
returned_plain g (type.Struct j) None m = tt
returned_plain g (type.Struct j) (Some v) m = tt

fallen_off_plain : (g : ℕ) (b : Bool) (t : CType) (m : Configuration) → IsPlainStep (turns.fallen_off g b t m).step
fallen_off_plain g true t m = tt
fallen_off_plain g false type.Void m = tt
fallen_off_plain g false (type.Int j) m = tt
fallen_off_plain g false (type.Pointer' b j) m = tt
fallen_off_plain g false (type.Array' b j n) m = tt
fallen_off_plain g false (type.Struct j) m = tt

given_back_plain : (g : ℕ) (b : Bool) (t : CType) (l : Completion) (m : Configuration) → IsPlainStep (turns.given_back g b t l m).step
given_back_plain g b t (Returned v) m = returned_plain g t v m
given_back_plain g b t Next m = fallen_off_plain g b t m
given_back_plain g b t Broken m = tt
given_back_plain g b t Continued m = tt

pub turn_plain : (q : Core) (p : pending.Pending) (t : pending.Told) (m : Configuration) → IsPlainPart p → IsPlainStep (turn_at q p t m).step
turn_plain q (pending.Evaluate x) (pending.Gave v) m i = tt
turn_plain q (pending.Evaluate x) (pending.Found l) m i = tt
turn_plain q (pending.Evaluate x) (pending.Left Next) m i = tt
turn_plain q (pending.Evaluate x) (pending.Left Broken) m i = tt
turn_plain q (pending.Evaluate x) (pending.Left Continued) m i = tt
turn_plain q (pending.Evaluate x) (pending.Left (Returned w)) m i = tt
turn_plain q (pending.Locate x) (pending.Gave v) m i = tt
turn_plain q (pending.Locate x) (pending.Found l) m i = tt
turn_plain q (pending.Locate x) (pending.Left Next) m i = tt
turn_plain q (pending.Locate x) (pending.Left Broken) m i = tt
turn_plain q (pending.Locate x) (pending.Left Continued) m i = tt
turn_plain q (pending.Locate x) (pending.Left (Returned w)) m i = tt
turn_plain q (pending.Execute x) (pending.Gave v) m i = tt
turn_plain q (pending.Execute x) (pending.Found l) m i = tt
turn_plain q (pending.Execute x) (pending.Left Next) m i = tt
turn_plain q (pending.Execute x) (pending.Left Broken) m i = tt
turn_plain q (pending.Execute x) (pending.Left Continued) m i = tt
turn_plain q (pending.Execute x) (pending.Left (Returned w)) m i = tt
turn_plain q (pending.Operate o) (pending.Gave v) m i = operated_plain q o v m i
turn_plain q (pending.Operate o) (pending.Found l) m i = tt
turn_plain q (pending.Operate o) (pending.Left Next) m i = tt
turn_plain q (pending.Operate o) (pending.Left Broken) m i = tt
turn_plain q (pending.Operate o) (pending.Left Continued) m i = tt
turn_plain q (pending.Operate o) (pending.Left (Returned w)) m i = tt
turn_plain q (pending.Accessed y) (pending.Gave v) m i = tt
turn_plain q (pending.Accessed y) (pending.Found l) m i = accessed_plain y l m
turn_plain q (pending.Accessed y) (pending.Left Next) m i = tt
turn_plain q (pending.Accessed y) (pending.Left Broken) m i = tt
turn_plain q (pending.Accessed y) (pending.Left Continued) m i = tt
turn_plain q (pending.Accessed y) (pending.Left (Returned w)) m i = tt
turn_plain q (pending.Select x) (pending.Gave v) m i = tt
turn_plain q (pending.Select x) (pending.Found l) m i = tt
turn_plain q (pending.Select x) (pending.Left Next) m i = tt
turn_plain q (pending.Select x) (pending.Left Broken) m i = tt
turn_plain q (pending.Select x) (pending.Left Continued) m i = tt
turn_plain q (pending.Select x) (pending.Left (Returned w)) m i = tt
turn_plain q (pending.Designate x) (pending.Gave v) m i = tt
turn_plain q (pending.Designate x) (pending.Found l) m i = tt
turn_plain q (pending.Designate x) (pending.Left Next) m i = tt
turn_plain q (pending.Designate x) (pending.Left Broken) m i = tt
turn_plain q (pending.Designate x) (pending.Left Continued) m i = tt
turn_plain q (pending.Designate x) (pending.Left (Returned w)) m i = tt
turn_plain q (pending.Conclude x) (pending.Gave v) m i = tt
turn_plain q (pending.Conclude x) (pending.Found l) m i = tt
turn_plain q (pending.Conclude x) (pending.Left Next) m i = tt
turn_plain q (pending.Conclude x) (pending.Left Broken) m i = tt
turn_plain q (pending.Conclude x) (pending.Left Continued) m i = tt
turn_plain q (pending.Conclude x) (pending.Left (Returned w)) m i = tt
turn_plain q pending.Ignore (pending.Gave v) m i = tt
turn_plain q pending.Ignore (pending.Found l) m i = tt
turn_plain q pending.Ignore (pending.Left Next) m i = tt
turn_plain q pending.Ignore (pending.Left Broken) m i = tt
turn_plain q pending.Ignore (pending.Left Continued) m i = tt
turn_plain q pending.Ignore (pending.Left (Returned w)) m i = tt
turn_plain q (pending.Pass x) (pending.Gave v) m i = tt
turn_plain q (pending.Pass x) (pending.Found l) m i = tt
turn_plain q (pending.Pass x) (pending.Left Next) m i = passed_plain x Next m
turn_plain q (pending.Pass x) (pending.Left Broken) m i = passed_plain x Broken m
turn_plain q (pending.Pass x) (pending.Left Continued) m i = passed_plain x Continued m
turn_plain q (pending.Pass x) (pending.Left (Returned w)) m i = passed_plain x (Returned w) m
turn_plain q pending.Input (pending.Gave v) m i = tt
turn_plain q pending.Input (pending.Found l) m i = tt
turn_plain q pending.Input (pending.Left Next) m i = tt
turn_plain q pending.Input (pending.Left Broken) m i = tt
turn_plain q pending.Input (pending.Left Continued) m i = tt
turn_plain q pending.Input (pending.Left (Returned w)) m i = tt
turn_plain q pending.Output (pending.Gave v) m i = absurd i
turn_plain q pending.Output (pending.Found l) m i = absurd i
turn_plain q pending.Output (pending.Left Next) m i = absurd i
turn_plain q pending.Output (pending.Left Broken) m i = absurd i
turn_plain q pending.Output (pending.Left Continued) m i = absurd i
turn_plain q pending.Output (pending.Left (Returned w)) m i = absurd i
turn_plain q (pending.Arguments g es c) (pending.Gave v) m i = tt
turn_plain q (pending.Arguments g es c) (pending.Found l) m i = tt
turn_plain q (pending.Arguments g es c) (pending.Left Next) m i = arguing_plain g es c (turns.ready m)
turn_plain q (pending.Arguments g es c) (pending.Left Broken) m i = tt
turn_plain q (pending.Arguments g es c) (pending.Left Continued) m i = tt
turn_plain q (pending.Arguments g es c) (pending.Left (Returned w)) m i = tt
turn_plain q (pending.Argument g es c) (pending.Gave v) m i = tt
turn_plain q (pending.Argument g es c) (pending.Found l) m i = tt
turn_plain q (pending.Argument g es c) (pending.Left Next) m i = tt
turn_plain q (pending.Argument g es c) (pending.Left Broken) m i = tt
turn_plain q (pending.Argument g es c) (pending.Left Continued) m i = tt
turn_plain q (pending.Argument g es c) (pending.Left (Returned w)) m i = tt
turn_plain q (pending.Enter g c) (pending.Gave v) m i = tt
turn_plain q (pending.Enter g c) (pending.Found l) m i = tt
turn_plain q (pending.Enter g c) (pending.Left Next) m i = tt
turn_plain q (pending.Enter g c) (pending.Left Broken) m i = tt
turn_plain q (pending.Enter g c) (pending.Left Continued) m i = tt
turn_plain q (pending.Enter g c) (pending.Left (Returned w)) m i = tt
turn_plain q (pending.Leave g y) (pending.Gave v) m i = tt
turn_plain q (pending.Leave g y) (pending.Found l) m i = tt
turn_plain q (pending.Leave g y) (pending.Left Next) m i = given_back_plain g (g == q.start) y Next m
turn_plain q (pending.Leave g y) (pending.Left Broken) m i = given_back_plain g (g == q.start) y Broken m
turn_plain q (pending.Leave g y) (pending.Left Continued) m i = given_back_plain g (g == q.start) y Continued m
turn_plain q (pending.Leave g y) (pending.Left (Returned w)) m i = given_back_plain g (g == q.start) y (Returned w) m
turn_plain q (pending.Halt x) (pending.Gave v) m i = tt
turn_plain q (pending.Halt x) (pending.Found l) m i = tt
turn_plain q (pending.Halt x) (pending.Left Next) m i = tt
turn_plain q (pending.Halt x) (pending.Left Broken) m i = tt
turn_plain q (pending.Halt x) (pending.Left Continued) m i = tt
turn_plain q (pending.Halt x) (pending.Left (Returned w)) m i = tt
turn_plain q (pending.Over x) (pending.Gave v) m i = tt
turn_plain q (pending.Over x) (pending.Found l) m i = tt
turn_plain q (pending.Over x) (pending.Left Next) m i = tt
turn_plain q (pending.Over x) (pending.Left Broken) m i = tt
turn_plain q (pending.Over x) (pending.Left Continued) m i = tt
turn_plain q (pending.Over x) (pending.Left (Returned w)) m i = tt
