-- The laws on each turn, for a typed machine: what is left falls where no step is made, and the stack keeps its room.
use Rattle.std.proofs.Common.{◌≡◌, ℕ, ◌+◌, ◌<◌, Bool, true, false, List, [], ◌∷◌, Option, Some, None, arith}
use Rattle.std.specs.Prelude.{◌==◌}
use Rattle.step_meaning.specs.declared.value.CType.{CType}
use Rattle.step_meaning.specs.declared.value.CType.TheVariants as type
use Rattle.step_meaning.specs.declared.value.Value.{Value}
use Rattle.step_meaning.specs.declared.value.Action.{Action}
use Rattle.step_meaning.specs.declared.expr.Expr.{Expr}
use Rattle.step_meaning.specs.declared.stmt.Stmt.{Stmt}
use Rattle.step_meaning.specs.declared.stmt.Stmt.TheVariants as st
use Rattle.step_meaning.specs.declared.program.Core.{Core}
use Rattle.step_meaning.specs.declared.program.Function.{Function}
use Rattle.step_meaning.specs.Statements.{Completion, Next, Broken, Continued, Returned}
use Rattle.run_turns.specs.Pending as pending
use Rattle.run_turns.specs.Turns as turns
use Rattle.run_turns.specs.Turns.{Configuration, Turn, ready, telling, turn_at}
use Rattle.run_turns.specs.Weight.{weight, load}
use Rattle.run_turns.specs.Room.{need, arguments_below}
use Rattle.run_turns.specs.Typed.{Takes, TakesEnd, IsLoop, PassingTakes}
use Rattle.run_turns.proofs.Falls.{Falls, evaluated_falls, located_falls, executed_falls, operated_falls, accessed_falls, selected_falls, designating_falls, concluded_falls, next_falls, turn_end_falls}
use Rattle.run_turns.proofs.RoomLaw.{Fits, FitsAbove, HasRoom, evaluated_fits, located_fits, executed_fits, operated_fits, accessed_fits, selected_fits, designating_fits, concluded_fits, passed_fits, arguing_fits, argued_fits, given_back_fits}
use Rattle.run_turns.proofs.RoomLaw as room_law
use Rattle.run_turns.proofs.CallsTyped.{IsInner}

some_is_not_none : {a : Action} {A : Type 0} → Some a ≡ None → A
some_is_not_none {a} e = absurd (no e)
  where
    no : Some a ≡ None → ⊥
    no e = cc

-- ---- turns without a step

passing_falls : (x : pending.Passing) (l : Completion) (m : Configuration) → (turns.passed x l m).step ≡ None → Falls (weight (pending.Pass x)) m (turns.passed x l m).after
passing_falls (pending.Rest ss) l m e = next_falls ss l m
passing_falls (pending.Again s) Next m e = some_is_not_none e
passing_falls (pending.Again s) Continued m e = some_is_not_none e
passing_falls (pending.Again s) Broken m e = omega arith
passing_falls (pending.Again s) (Returned v) m e = omega arith
passing_falls (pending.TurnEnd s) l m e = turn_end_falls s l m

arguing_falls : (g : ℕ) (es : List Expr) (n : ℕ) (m : Configuration) → (turns.arguing g es n m).step ≡ None → Falls (weight (pending.Arguments g es n)) m (turns.arguing g es n m).after
arguing_falls g [] n m e = some_is_not_none e
arguing_falls g (x ∷ es) n m e = omega arith

argued_falls : (g : ℕ) (es : List Expr) (n : ℕ) (v : Value) (m : Configuration) → Falls (weight (pending.Argument g es n)) m (turns.argued g es n v m)
argued_falls g es n v m = omega arith

returned_falls : (g : ℕ) (t : CType) (v : Option Value) (m : Configuration) → (turns.returned g t v m).step ≡ None → Falls 2 m (turns.returned g t v m).after
returned_falls g type.Void None m e = some_is_not_none e
returned_falls g type.Void (Some v) m e = omega arith
returned_falls g (type.Int j) None m e = omega arith
returned_falls g (type.Int j) (Some v) m e = some_is_not_none e
returned_falls g (type.Pointer' b j) None m e = omega arith
returned_falls g (type.Pointer' b j) (Some v) m e = some_is_not_none e
returned_falls g (type.Array' b j n) None m e = omega arith
returned_falls g (type.Array' b j n) (Some v) m e = some_is_not_none e
returned_falls g (type.Struct j) None m e = omega arith
returned_falls g (type.Struct j) (Some v) m e = some_is_not_none e

fallen_off_falls : (g : ℕ) (b : Bool) (t : CType) (m : Configuration) → (turns.fallen_off g b t m).step ≡ None → Falls 2 m (turns.fallen_off g b t m).after
fallen_off_falls g true t m e = some_is_not_none e
fallen_off_falls g false type.Void m e = some_is_not_none e
fallen_off_falls g false (type.Int j) m e = omega arith
fallen_off_falls g false (type.Pointer' b j) m e = omega arith
fallen_off_falls g false (type.Array' b j n) m e = omega arith
fallen_off_falls g false (type.Struct j) m e = omega arith

given_back_falls : (g : ℕ) (b : Bool) (t : CType) (l : Completion) (m : Configuration) → (turns.given_back g b t l m).step ≡ None → Falls 2 m (turns.given_back g b t l m).after
given_back_falls g b t (Returned v) m e = returned_falls g t v m e
given_back_falls g b t Next m e = fallen_off_falls g b t m e
given_back_falls g b t Broken m e = omega arith
given_back_falls g b t Continued m e = omega arith

module _ (q : Core) (h : Rattle.step_meaning.specs.WellFormed.IsWellFormed q) (f : Function) (fs : List Function) where
  pub turn_falls : (p : pending.Pending) (t : pending.Told) → IsInner q h f fs p → (m : Configuration) → Takes q (f ∷ fs) m.context.arguments (p ∷ m.work) t → (turn_at q p t (telling t m)).step ≡ None → load (turn_at q p t (telling t m)).after.work < weight p + load m.work
  turn_falls (pending.Evaluate x) (pending.Gave v) i m k e = absurd k
  turn_falls (pending.Evaluate x) (pending.Found l) i m k e = absurd k
  turn_falls (pending.Evaluate x) (pending.Left Next) i m k e = evaluated_falls x (ready m)
  turn_falls (pending.Evaluate x) (pending.Left Broken) i m k e = absurd k
  turn_falls (pending.Evaluate x) (pending.Left Continued) i m k e = absurd k
  turn_falls (pending.Evaluate x) (pending.Left (Returned v)) i m k e = absurd k
  turn_falls (pending.Locate p) (pending.Gave v) i m k e = absurd k
  turn_falls (pending.Locate p) (pending.Found l) i m k e = absurd k
  turn_falls (pending.Locate p) (pending.Left Next) i m k e = located_falls p (ready m)
  turn_falls (pending.Locate p) (pending.Left Broken) i m k e = absurd k
  turn_falls (pending.Locate p) (pending.Left Continued) i m k e = absurd k
  turn_falls (pending.Locate p) (pending.Left (Returned v)) i m k e = absurd k
  turn_falls (pending.Execute x) (pending.Gave v) i m k e = absurd k
  turn_falls (pending.Execute x) (pending.Found l) i m k e = absurd k
  turn_falls (pending.Execute x) (pending.Left Next) i m k e = executed_falls x k.2.1 (ready m)
  turn_falls (pending.Execute x) (pending.Left Broken) i m k e = absurd k
  turn_falls (pending.Execute x) (pending.Left Continued) i m k e = absurd k
  turn_falls (pending.Execute x) (pending.Left (Returned v)) i m k e = absurd k
  turn_falls (pending.Operate o) (pending.Gave v) i m k e = operated_falls q o v (telling (pending.Gave v) m)
  turn_falls (pending.Operate o) (pending.Found l) i m k e = absurd k
  turn_falls (pending.Operate o) (pending.Left Next) i m k e = absurd k
  turn_falls (pending.Operate o) (pending.Left Broken) i m k e = absurd k
  turn_falls (pending.Operate o) (pending.Left Continued) i m k e = absurd k
  turn_falls (pending.Operate o) (pending.Left (Returned v)) i m k e = absurd k
  turn_falls (pending.Accessed a) (pending.Gave v) i m k e = absurd k
  turn_falls (pending.Accessed a) (pending.Found l) i m k e = accessed_falls a l (telling (pending.Found l) m)
  turn_falls (pending.Accessed a) (pending.Left Next) i m k e = absurd k
  turn_falls (pending.Accessed a) (pending.Left Broken) i m k e = absurd k
  turn_falls (pending.Accessed a) (pending.Left Continued) i m k e = absurd k
  turn_falls (pending.Accessed a) (pending.Left (Returned v)) i m k e = absurd k
  turn_falls (pending.Select x) (pending.Gave v) i m k e = absurd k
  turn_falls (pending.Select x) (pending.Found l) i m k e = selected_falls x l (ready m)
  turn_falls (pending.Select x) (pending.Left Next) i m k e = absurd k
  turn_falls (pending.Select x) (pending.Left Broken) i m k e = absurd k
  turn_falls (pending.Select x) (pending.Left Continued) i m k e = absurd k
  turn_falls (pending.Select x) (pending.Left (Returned v)) i m k e = absurd k
  turn_falls (pending.Designate x) (pending.Gave v) i m k e = designating_falls x v (ready m)
  turn_falls (pending.Designate x) (pending.Found l) i m k e = absurd k
  turn_falls (pending.Designate x) (pending.Left Next) i m k e = absurd k
  turn_falls (pending.Designate x) (pending.Left Broken) i m k e = absurd k
  turn_falls (pending.Designate x) (pending.Left Continued) i m k e = absurd k
  turn_falls (pending.Designate x) (pending.Left (Returned v)) i m k e = absurd k
  turn_falls (pending.Conclude x) (pending.Gave v) i m k e = concluded_falls x v (telling (pending.Gave v) m)
  turn_falls (pending.Conclude x) (pending.Found l) i m k e = absurd k
  turn_falls (pending.Conclude x) (pending.Left Next) i m k e = absurd k
  turn_falls (pending.Conclude x) (pending.Left Broken) i m k e = absurd k
  turn_falls (pending.Conclude x) (pending.Left Continued) i m k e = absurd k
  turn_falls (pending.Conclude x) (pending.Left (Returned v)) i m k e = absurd k
  turn_falls pending.Ignore (pending.Gave v) i m k e = omega arith
  turn_falls pending.Ignore (pending.Found l) i m k e = absurd k
  turn_falls pending.Ignore (pending.Left Next) i m k e = absurd k
  turn_falls pending.Ignore (pending.Left Broken) i m k e = absurd k
  turn_falls pending.Ignore (pending.Left Continued) i m k e = absurd k
  turn_falls pending.Ignore (pending.Left (Returned v)) i m k e = absurd k
  turn_falls (pending.Pass x) (pending.Gave v) i m k e = absurd k
  turn_falls (pending.Pass x) (pending.Found l) i m k e = absurd k
  turn_falls (pending.Pass x) (pending.Left Next) i m k e = passing_falls x Next (telling (pending.Left Next) m) e
  turn_falls (pending.Pass x) (pending.Left Broken) i m k e = passing_falls x Broken (telling (pending.Left Broken) m) e
  turn_falls (pending.Pass x) (pending.Left Continued) i m k e = passing_falls x Continued (telling (pending.Left Continued) m) e
  turn_falls (pending.Pass x) (pending.Left (Returned v)) i m k e = passing_falls x (Returned v) (telling (pending.Left (Returned v)) m) e
  turn_falls pending.Input (pending.Gave v) i m k e = absurd i
  turn_falls pending.Input (pending.Found l) i m k e = absurd i
  turn_falls pending.Input (pending.Left Next) i m k e = absurd i
  turn_falls pending.Input (pending.Left Broken) i m k e = absurd i
  turn_falls pending.Input (pending.Left Continued) i m k e = absurd i
  turn_falls pending.Input (pending.Left (Returned v)) i m k e = absurd i
  turn_falls pending.Output (pending.Gave v) i m k e = some_is_not_none e
  turn_falls pending.Output (pending.Found l) i m k e = absurd k
  turn_falls pending.Output (pending.Left Next) i m k e = absurd k
  turn_falls pending.Output (pending.Left Broken) i m k e = absurd k
  turn_falls pending.Output (pending.Left Continued) i m k e = absurd k
  turn_falls pending.Output (pending.Left (Returned v)) i m k e = absurd k
  turn_falls (pending.Arguments g es n) (pending.Gave v) i m k e = absurd k
  turn_falls (pending.Arguments g es n) (pending.Found l) i m k e = absurd k
  turn_falls (pending.Arguments g es n) (pending.Left Next) i m k e = arguing_falls g es n (ready m) e
  turn_falls (pending.Arguments g es n) (pending.Left Broken) i m k e = absurd k
  turn_falls (pending.Arguments g es n) (pending.Left Continued) i m k e = absurd k
  turn_falls (pending.Arguments g es n) (pending.Left (Returned v)) i m k e = absurd k
  turn_falls (pending.Argument g es n) (pending.Gave v) i m k e = argued_falls g es n v (telling (pending.Gave v) m)
  turn_falls (pending.Argument g es n) (pending.Found l) i m k e = absurd k
  turn_falls (pending.Argument g es n) (pending.Left Next) i m k e = absurd k
  turn_falls (pending.Argument g es n) (pending.Left Broken) i m k e = absurd k
  turn_falls (pending.Argument g es n) (pending.Left Continued) i m k e = absurd k
  turn_falls (pending.Argument g es n) (pending.Left (Returned v)) i m k e = absurd k
  turn_falls (pending.Enter g n) (pending.Gave v) i m k e = absurd i
  turn_falls (pending.Enter g n) (pending.Found l) i m k e = absurd i
  turn_falls (pending.Enter g n) (pending.Left Next) i m k e = absurd i
  turn_falls (pending.Enter g n) (pending.Left Broken) i m k e = absurd i
  turn_falls (pending.Enter g n) (pending.Left Continued) i m k e = absurd i
  turn_falls (pending.Enter g n) (pending.Left (Returned v)) i m k e = absurd i
  turn_falls (pending.Leave g t) (pending.Gave v) i m k e = absurd k
  turn_falls (pending.Leave g t) (pending.Found l) i m k e = absurd k
  turn_falls (pending.Leave g t) (pending.Left Next) i m k e = given_back_falls g (g == q.start) t Next (telling (pending.Left Next) m) e
  turn_falls (pending.Leave g t) (pending.Left Broken) i m k e = given_back_falls g (g == q.start) t Broken (telling (pending.Left Broken) m) e
  turn_falls (pending.Leave g t) (pending.Left Continued) i m k e = given_back_falls g (g == q.start) t Continued (telling (pending.Left Continued) m) e
  turn_falls (pending.Leave g t) (pending.Left (Returned v)) i m k e = given_back_falls g (g == q.start) t (Returned v) (telling (pending.Left (Returned v)) m) e
  turn_falls (pending.Halt x) (pending.Gave v) i m k e = absurd i
  turn_falls (pending.Halt x) (pending.Found l) i m k e = absurd i
  turn_falls (pending.Halt x) (pending.Left Next) i m k e = absurd i
  turn_falls (pending.Halt x) (pending.Left Broken) i m k e = absurd i
  turn_falls (pending.Halt x) (pending.Left Continued) i m k e = absurd i
  turn_falls (pending.Halt x) (pending.Left (Returned v)) i m k e = absurd i
  turn_falls (pending.Over x) (pending.Gave v) i m k e = absurd k
  turn_falls (pending.Over x) (pending.Found l) i m k e = absurd k
  turn_falls (pending.Over x) (pending.Left Next) i m k e = absurd k
  turn_falls (pending.Over x) (pending.Left Broken) i m k e = absurd k
  turn_falls (pending.Over x) (pending.Left Continued) i m k e = absurd k
  turn_falls (pending.Over x) (pending.Left (Returned v)) i m k e = absurd k

  loops : (s : Stmt) → IsLoop q s → Rattle.run_turns.proofs.Steps.IsLoop s
  loops (st.While' e b r) k = tt
  loops (st.Do' b r e) k = tt
  loops (st.For' test step b r) k = tt
  loops st.Empty k = absurd k
  loops (st.Eval _) k = absurd k
  loops (st.Init _ _ _ _) k = absurd k
  loops (st.Block' _ _) k = absurd k
  loops (st.If' _ _ _ _ _) k = absurd k
  loops st.Break k = absurd k
  loops st.Continue k = absurd k
  loops (st.Return _) k = absurd k
  loops (st.Ghost _) k = absurd k
  loops (st.Assert _ _ _) k = absurd k

  -- a loop that goes on is one
  is_loop : (takes : Completion → Type 0) (x : pending.Passing) → PassingTakes q f takes x Next → room_law.LoopsAlone 0 x
  is_loop takes (pending.Rest ss) k = tt
  is_loop takes (pending.Again s) k = loops s k.0
  is_loop takes (pending.TurnEnd s) k = tt

  is_continued : (takes : Completion → Type 0) (x : pending.Passing) → PassingTakes q f takes x Continued → room_law.LoopsAlone 0 x
  is_continued takes (pending.Rest ss) k = tt
  is_continued takes (pending.Again s) k = loops s k.0
  is_continued takes (pending.TurnEnd s) k = tt

  abbrev IsLeft : Completion → Type 0
  IsLeft Broken = Unit {0}
  IsLeft (Returned v) = Unit {0}
  IsLeft l = ⊥

  passed_left : (room : ℕ) (x : pending.Passing) (l : Completion) (m : Configuration) → IsLeft l → Fits room (need (pending.Pass x)) m → HasRoom room (turns.passed x l m).after
  passed_left room (pending.Rest ss) Broken m i h = h.1
  passed_left room (pending.Rest ss) (Returned v) m i h = h.1
  passed_left room (pending.Again s) Broken m i h = h.1
  passed_left room (pending.Again s) (Returned v) m i h = h.1
  passed_left room (pending.TurnEnd s) Broken m i h = h.1
  passed_left room (pending.TurnEnd s) (Returned v) m i h = h.1
  passed_left room x Next m i h = absurd i
  passed_left room x Continued m i h = absurd i

  pub turn_fits : (room : ℕ) (p : pending.Pending) (t : pending.Told) → IsInner q h f fs p → (m : Configuration) → Takes q (f ∷ fs) m.context.arguments (p ∷ m.work) t → FitsAbove room (arguments_below p m.context.arguments) (need p) m → HasRoom room (turn_at q p t (telling t m)).after
  turn_fits room (pending.Evaluate e) (pending.Gave v) i m k h = absurd k
  turn_fits room (pending.Evaluate e) (pending.Found l) i m k h = absurd k
  turn_fits room (pending.Evaluate e) (pending.Left Next) i m k h = evaluated_fits room e (ready m) h
  turn_fits room (pending.Evaluate e) (pending.Left Broken) i m k h = absurd k
  turn_fits room (pending.Evaluate e) (pending.Left Continued) i m k h = absurd k
  turn_fits room (pending.Evaluate e) (pending.Left (Returned v)) i m k h = absurd k
  turn_fits room (pending.Locate p) (pending.Gave v) i m k h = absurd k
  turn_fits room (pending.Locate p) (pending.Found l) i m k h = absurd k
  turn_fits room (pending.Locate p) (pending.Left Next) i m k h = located_fits room p (ready m) h
  turn_fits room (pending.Locate p) (pending.Left Broken) i m k h = absurd k
  turn_fits room (pending.Locate p) (pending.Left Continued) i m k h = absurd k
  turn_fits room (pending.Locate p) (pending.Left (Returned v)) i m k h = absurd k
  turn_fits room (pending.Execute x) (pending.Gave v) i m k h = absurd k
  turn_fits room (pending.Execute x) (pending.Found l) i m k h = absurd k
  turn_fits room (pending.Execute x) (pending.Left Next) i m k h = executed_fits room x (ready m) h
  turn_fits room (pending.Execute x) (pending.Left Broken) i m k h = absurd k
  turn_fits room (pending.Execute x) (pending.Left Continued) i m k h = absurd k
  turn_fits room (pending.Execute x) (pending.Left (Returned v)) i m k h = absurd k
  turn_fits room (pending.Operate o) (pending.Gave v) i m k h = operated_fits room q o v (telling (pending.Gave v) m) h
  turn_fits room (pending.Operate o) (pending.Found l) i m k h = absurd k
  turn_fits room (pending.Operate o) (pending.Left Next) i m k h = absurd k
  turn_fits room (pending.Operate o) (pending.Left Broken) i m k h = absurd k
  turn_fits room (pending.Operate o) (pending.Left Continued) i m k h = absurd k
  turn_fits room (pending.Operate o) (pending.Left (Returned v)) i m k h = absurd k
  turn_fits room (pending.Accessed a) (pending.Gave v) i m k h = absurd k
  turn_fits room (pending.Accessed a) (pending.Found l) i m k h = accessed_fits room a l (telling (pending.Found l) m) h
  turn_fits room (pending.Accessed a) (pending.Left Next) i m k h = absurd k
  turn_fits room (pending.Accessed a) (pending.Left Broken) i m k h = absurd k
  turn_fits room (pending.Accessed a) (pending.Left Continued) i m k h = absurd k
  turn_fits room (pending.Accessed a) (pending.Left (Returned v)) i m k h = absurd k
  turn_fits room (pending.Select x) (pending.Gave v) i m k h = absurd k
  turn_fits room (pending.Select x) (pending.Found l) i m k h = selected_fits room x l (ready m) h
  turn_fits room (pending.Select x) (pending.Left Next) i m k h = absurd k
  turn_fits room (pending.Select x) (pending.Left Broken) i m k h = absurd k
  turn_fits room (pending.Select x) (pending.Left Continued) i m k h = absurd k
  turn_fits room (pending.Select x) (pending.Left (Returned v)) i m k h = absurd k
  turn_fits room (pending.Designate x) (pending.Gave v) i m k h = designating_fits room x v (ready m) h
  turn_fits room (pending.Designate x) (pending.Found l) i m k h = absurd k
  turn_fits room (pending.Designate x) (pending.Left Next) i m k h = absurd k
  turn_fits room (pending.Designate x) (pending.Left Broken) i m k h = absurd k
  turn_fits room (pending.Designate x) (pending.Left Continued) i m k h = absurd k
  turn_fits room (pending.Designate x) (pending.Left (Returned v)) i m k h = absurd k
  turn_fits room (pending.Conclude x) (pending.Gave v) i m k h = concluded_fits room x v (telling (pending.Gave v) m) h
  turn_fits room (pending.Conclude x) (pending.Found l) i m k h = absurd k
  turn_fits room (pending.Conclude x) (pending.Left Next) i m k h = absurd k
  turn_fits room (pending.Conclude x) (pending.Left Broken) i m k h = absurd k
  turn_fits room (pending.Conclude x) (pending.Left Continued) i m k h = absurd k
  turn_fits room (pending.Conclude x) (pending.Left (Returned v)) i m k h = absurd k
  turn_fits room pending.Ignore (pending.Gave v) i m k h = h.1
  turn_fits room pending.Ignore (pending.Found l) i m k h = absurd k
  turn_fits room pending.Ignore (pending.Left Next) i m k h = absurd k
  turn_fits room pending.Ignore (pending.Left Broken) i m k h = absurd k
  turn_fits room pending.Ignore (pending.Left Continued) i m k h = absurd k
  turn_fits room pending.Ignore (pending.Left (Returned v)) i m k h = absurd k
  turn_fits room (pending.Pass x) (pending.Gave v) i m k h = absurd k
  turn_fits room (pending.Pass x) (pending.Found l) i m k h = absurd k
  turn_fits room (pending.Pass x) (pending.Left Next) i m k h = passed_fits room x Next (telling (pending.Left Next) m) (is_loop (TakesEnd q (f ∷ fs) m.context.arguments m.work) x k) h
  turn_fits room (pending.Pass x) (pending.Left Broken) i m k h = passed_left room x Broken (telling (pending.Left Broken) m) tt h
  turn_fits room (pending.Pass x) (pending.Left Continued) i m k h = passed_fits room x Continued (telling (pending.Left Continued) m) (is_continued (TakesEnd q (f ∷ fs) m.context.arguments m.work) x k) h
  turn_fits room (pending.Pass x) (pending.Left (Returned v)) i m k h = passed_left room x (Returned v) (telling (pending.Left (Returned v)) m) tt h
  turn_fits room pending.Input (pending.Gave v) i m k h = absurd i
  turn_fits room pending.Input (pending.Found l) i m k h = absurd i
  turn_fits room pending.Input (pending.Left Next) i m k h = absurd i
  turn_fits room pending.Input (pending.Left Broken) i m k h = absurd i
  turn_fits room pending.Input (pending.Left Continued) i m k h = absurd i
  turn_fits room pending.Input (pending.Left (Returned v)) i m k h = absurd i
  turn_fits room pending.Output (pending.Gave v) i m k h = h.1
  turn_fits room pending.Output (pending.Found l) i m k h = absurd k
  turn_fits room pending.Output (pending.Left Next) i m k h = absurd k
  turn_fits room pending.Output (pending.Left Broken) i m k h = absurd k
  turn_fits room pending.Output (pending.Left Continued) i m k h = absurd k
  turn_fits room pending.Output (pending.Left (Returned v)) i m k h = absurd k
  turn_fits room (pending.Arguments g es n) (pending.Gave v) i m k h = absurd k
  turn_fits room (pending.Arguments g es n) (pending.Found l) i m k h = absurd k
  turn_fits room (pending.Arguments g es n) (pending.Left Next) i m k h = arguing_fits room g es n (ready m) h
  turn_fits room (pending.Arguments g es n) (pending.Left Broken) i m k h = absurd k
  turn_fits room (pending.Arguments g es n) (pending.Left Continued) i m k h = absurd k
  turn_fits room (pending.Arguments g es n) (pending.Left (Returned v)) i m k h = absurd k
  turn_fits room (pending.Argument g es n) (pending.Gave v) i m k h = argued_fits room g es n v (telling (pending.Gave v) m) h
  turn_fits room (pending.Argument g es n) (pending.Found l) i m k h = absurd k
  turn_fits room (pending.Argument g es n) (pending.Left Next) i m k h = absurd k
  turn_fits room (pending.Argument g es n) (pending.Left Broken) i m k h = absurd k
  turn_fits room (pending.Argument g es n) (pending.Left Continued) i m k h = absurd k
  turn_fits room (pending.Argument g es n) (pending.Left (Returned v)) i m k h = absurd k
  turn_fits room (pending.Enter g n) (pending.Gave v) i m k h = absurd i
  turn_fits room (pending.Enter g n) (pending.Found l) i m k h = absurd i
  turn_fits room (pending.Enter g n) (pending.Left Next) i m k h = absurd i
  turn_fits room (pending.Enter g n) (pending.Left Broken) i m k h = absurd i
  turn_fits room (pending.Enter g n) (pending.Left Continued) i m k h = absurd i
  turn_fits room (pending.Enter g n) (pending.Left (Returned v)) i m k h = absurd i
  turn_fits room (pending.Leave g t) (pending.Gave v) i m k h = absurd k
  turn_fits room (pending.Leave g t) (pending.Found l) i m k h = absurd k
  turn_fits room (pending.Leave g t) (pending.Left Next) i m k h = given_back_fits room g (g == q.start) t Next (telling (pending.Left Next) m) h
  turn_fits room (pending.Leave g t) (pending.Left Broken) i m k h = given_back_fits room g (g == q.start) t Broken (telling (pending.Left Broken) m) h
  turn_fits room (pending.Leave g t) (pending.Left Continued) i m k h = given_back_fits room g (g == q.start) t Continued (telling (pending.Left Continued) m) h
  turn_fits room (pending.Leave g t) (pending.Left (Returned v)) i m k h = given_back_fits room g (g == q.start) t (Returned v) (telling (pending.Left (Returned v)) m) h
  turn_fits room (pending.Halt x) (pending.Gave v) i m k h = absurd i
  turn_fits room (pending.Halt x) (pending.Found l) i m k h = absurd i
  turn_fits room (pending.Halt x) (pending.Left Next) i m k h = absurd i
  turn_fits room (pending.Halt x) (pending.Left Broken) i m k h = absurd i
  turn_fits room (pending.Halt x) (pending.Left Continued) i m k h = absurd i
  turn_fits room (pending.Halt x) (pending.Left (Returned v)) i m k h = absurd i
  turn_fits room (pending.Over x) (pending.Gave v) i m k h = absurd k
  turn_fits room (pending.Over x) (pending.Found l) i m k h = absurd k
  turn_fits room (pending.Over x) (pending.Left Next) i m k h = absurd k
  turn_fits room (pending.Over x) (pending.Left Broken) i m k h = absurd k
  turn_fits room (pending.Over x) (pending.Left Continued) i m k h = absurd k
  turn_fits room (pending.Over x) (pending.Left (Returned v)) i m k h = absurd k
