-- What a turn has made of a machine is a part of its run.
use Rattle.std.proofs.Common.{◌≡◌, ℕ, suc, List, ◌∷◌, Option, Some, None, refl, ◌∙◌}
use Rattle.step_meaning.specs.declared.value.Action.{Action}
use Rattle.step_meaning.specs.declared.stmt.Stmt.{Stmt}
use Rattle.step_meaning.specs.declared.stmt.Stmt.TheVariants as st
use Rattle.step_meaning.specs.declared.program.Core.{Core}
use Rattle.step_meaning.specs.declared.program.Function.{Function}
use Rattle.step_meaning.specs.Statements.{Next, Broken, Continued, Returned}
use Rattle.run_turns.specs.Pending as pending
use Rattle.run_turns.specs.Rest.{rest}
use Rattle.run_turns.specs.Turns.{Configuration, Turn, pushed, telling, turn_at}
use Rattle.run_turns.specs.Typed.{Takes}
use Rattle.run_turns.specs.Typed as typed
use Rattle.run_turns.proofs.Steps.{IsLoop, IsPlain, loop_makes, looping, plain_turn, turn_makes, turn_moves}
use Rattle.run_laws.specs.Follows.{Follows}
use Rattle.run_laws.specs.Parts.{IsInside}

is_loop : (q : Core) (s : Stmt) → typed.IsLoop q s → IsLoop s
is_loop q st.Empty h = absurd h
is_loop q (st.Eval e) h = absurd h
is_loop q (st.Init x o y e) h = absurd h
is_loop q (st.Block' b ss) h = absurd h
is_loop q (st.If' e b n c k) h = absurd h
is_loop q (st.While' e b n) h = tt
is_loop q (st.Do' b n e) h = tt
is_loop q (st.For' test step b n) h = tt
is_loop q st.Break h = absurd h
is_loop q st.Continue h = absurd h
is_loop q (st.Return e) h = absurd h
is_loop q (st.Ghost g) h = absurd h
is_loop q (st.Assert v k r) h = absurd h

-- the turn at a plain part
pub plainly : (q : Core) (p : pending.Pending) (t : pending.Told) → IsPlain p t → (m : Configuration) → Follows q (turn_at q p t (telling t m)).step (pushed p (telling t m)) m.context.here m.memory (turn_at q p t (telling t m)).after
plainly q p t h m = by (turn_at q p t (telling t m)) (plain_turn q p t h m)
  where
    by : (x : Turn) → Rattle.run_turns.proofs.Steps.IsTurn q (pushed p (telling t m)) x.step x.after → Follows q x.step (pushed p (telling t m)) m.context.here m.memory x.after
    by x = on x.step x.after
      where
        on : (o : Option Action) (n : Configuration) → Rattle.run_turns.proofs.Steps.IsTurn q (pushed p (telling t m)) o n → Follows q o (pushed p (telling t m)) m.context.here m.memory n
        on None n h = turn_moves q (pushed p (telling t m)) n h
        on (Some a) n h = turn_makes q (pushed p (telling t m)) n a h

-- a loop that goes on after `continue` does so as after its body's end
continued : (q : Core) (s : Stmt) (m : Configuration) (input : List ℕ) (n : ℕ) → rest q (pushed (pending.Pass (pending.Again s)) (telling (pending.Left Continued) m)) input n ≡ rest q (looping s m) input n
unfolding rest
continued q s m input n = refl

module _ (q : Core) (f : Function) (fs : List Function) where
  pub follows : (p : pending.Pending) (t : pending.Told) → IsInside p → (m : Configuration) → Takes q (f ∷ fs) m.context.arguments (p ∷ m.work) t → Follows q (turn_at q p t (telling t m)).step (pushed p (telling t m)) m.context.here m.memory (turn_at q p t (telling t m)).after
  follows (pending.Evaluate x) (pending.Gave v) i m k = plainly q (pending.Evaluate x) (pending.Gave v) tt m
  follows (pending.Evaluate x) (pending.Found l) i m k = plainly q (pending.Evaluate x) (pending.Found l) tt m
  follows (pending.Evaluate x) (pending.Left Next) i m k = plainly q (pending.Evaluate x) (pending.Left Next) tt m
  follows (pending.Evaluate x) (pending.Left Broken) i m k = plainly q (pending.Evaluate x) (pending.Left Broken) tt m
  follows (pending.Evaluate x) (pending.Left Continued) i m k = plainly q (pending.Evaluate x) (pending.Left Continued) tt m
  follows (pending.Evaluate x) (pending.Left (Returned w)) i m k = plainly q (pending.Evaluate x) (pending.Left (Returned w)) tt m
  follows (pending.Locate x) (pending.Gave v) i m k = plainly q (pending.Locate x) (pending.Gave v) tt m
  follows (pending.Locate x) (pending.Found l) i m k = plainly q (pending.Locate x) (pending.Found l) tt m
  follows (pending.Locate x) (pending.Left Next) i m k = plainly q (pending.Locate x) (pending.Left Next) tt m
  follows (pending.Locate x) (pending.Left Broken) i m k = plainly q (pending.Locate x) (pending.Left Broken) tt m
  follows (pending.Locate x) (pending.Left Continued) i m k = plainly q (pending.Locate x) (pending.Left Continued) tt m
  follows (pending.Locate x) (pending.Left (Returned w)) i m k = plainly q (pending.Locate x) (pending.Left (Returned w)) tt m
  follows (pending.Execute x) (pending.Gave v) i m k = plainly q (pending.Execute x) (pending.Gave v) tt m
  follows (pending.Execute x) (pending.Found l) i m k = plainly q (pending.Execute x) (pending.Found l) tt m
  follows (pending.Execute x) (pending.Left Next) i m k = plainly q (pending.Execute x) (pending.Left Next) tt m
  follows (pending.Execute x) (pending.Left Broken) i m k = plainly q (pending.Execute x) (pending.Left Broken) tt m
  follows (pending.Execute x) (pending.Left Continued) i m k = plainly q (pending.Execute x) (pending.Left Continued) tt m
  follows (pending.Execute x) (pending.Left (Returned w)) i m k = plainly q (pending.Execute x) (pending.Left (Returned w)) tt m
  follows (pending.Operate o) (pending.Gave v) i m k = plainly q (pending.Operate o) (pending.Gave v) tt m
  follows (pending.Operate o) (pending.Found l) i m k = plainly q (pending.Operate o) (pending.Found l) tt m
  follows (pending.Operate o) (pending.Left Next) i m k = plainly q (pending.Operate o) (pending.Left Next) tt m
  follows (pending.Operate o) (pending.Left Broken) i m k = plainly q (pending.Operate o) (pending.Left Broken) tt m
  follows (pending.Operate o) (pending.Left Continued) i m k = plainly q (pending.Operate o) (pending.Left Continued) tt m
  follows (pending.Operate o) (pending.Left (Returned w)) i m k = plainly q (pending.Operate o) (pending.Left (Returned w)) tt m
  follows (pending.Accessed a) (pending.Gave v) i m k = plainly q (pending.Accessed a) (pending.Gave v) tt m
  follows (pending.Accessed a) (pending.Found l) i m k = plainly q (pending.Accessed a) (pending.Found l) tt m
  follows (pending.Accessed a) (pending.Left Next) i m k = plainly q (pending.Accessed a) (pending.Left Next) tt m
  follows (pending.Accessed a) (pending.Left Broken) i m k = plainly q (pending.Accessed a) (pending.Left Broken) tt m
  follows (pending.Accessed a) (pending.Left Continued) i m k = plainly q (pending.Accessed a) (pending.Left Continued) tt m
  follows (pending.Accessed a) (pending.Left (Returned w)) i m k = plainly q (pending.Accessed a) (pending.Left (Returned w)) tt m
  follows (pending.Select x) (pending.Gave v) i m k = plainly q (pending.Select x) (pending.Gave v) tt m
  follows (pending.Select x) (pending.Found l) i m k = plainly q (pending.Select x) (pending.Found l) tt m
  follows (pending.Select x) (pending.Left Next) i m k = plainly q (pending.Select x) (pending.Left Next) tt m
  follows (pending.Select x) (pending.Left Broken) i m k = plainly q (pending.Select x) (pending.Left Broken) tt m
  follows (pending.Select x) (pending.Left Continued) i m k = plainly q (pending.Select x) (pending.Left Continued) tt m
  follows (pending.Select x) (pending.Left (Returned w)) i m k = plainly q (pending.Select x) (pending.Left (Returned w)) tt m
  follows (pending.Designate x) (pending.Gave v) i m k = plainly q (pending.Designate x) (pending.Gave v) tt m
  follows (pending.Designate x) (pending.Found l) i m k = plainly q (pending.Designate x) (pending.Found l) tt m
  follows (pending.Designate x) (pending.Left Next) i m k = plainly q (pending.Designate x) (pending.Left Next) tt m
  follows (pending.Designate x) (pending.Left Broken) i m k = plainly q (pending.Designate x) (pending.Left Broken) tt m
  follows (pending.Designate x) (pending.Left Continued) i m k = plainly q (pending.Designate x) (pending.Left Continued) tt m
  follows (pending.Designate x) (pending.Left (Returned w)) i m k = plainly q (pending.Designate x) (pending.Left (Returned w)) tt m
  follows (pending.Conclude x) (pending.Gave v) i m k = plainly q (pending.Conclude x) (pending.Gave v) tt m
  follows (pending.Conclude x) (pending.Found l) i m k = plainly q (pending.Conclude x) (pending.Found l) tt m
  follows (pending.Conclude x) (pending.Left Next) i m k = plainly q (pending.Conclude x) (pending.Left Next) tt m
  follows (pending.Conclude x) (pending.Left Broken) i m k = plainly q (pending.Conclude x) (pending.Left Broken) tt m
  follows (pending.Conclude x) (pending.Left Continued) i m k = plainly q (pending.Conclude x) (pending.Left Continued) tt m
  follows (pending.Conclude x) (pending.Left (Returned w)) i m k = plainly q (pending.Conclude x) (pending.Left (Returned w)) tt m
  follows pending.Ignore (pending.Gave v) i m k = plainly q pending.Ignore (pending.Gave v) tt m
  follows pending.Ignore (pending.Found l) i m k = plainly q pending.Ignore (pending.Found l) tt m
  follows pending.Ignore (pending.Left Next) i m k = plainly q pending.Ignore (pending.Left Next) tt m
  follows pending.Ignore (pending.Left Broken) i m k = plainly q pending.Ignore (pending.Left Broken) tt m
  follows pending.Ignore (pending.Left Continued) i m k = plainly q pending.Ignore (pending.Left Continued) tt m
  follows pending.Ignore (pending.Left (Returned w)) i m k = plainly q pending.Ignore (pending.Left (Returned w)) tt m
  follows (pending.Pass x) (pending.Gave v) i m k = plainly q (pending.Pass x) (pending.Gave v) tt m
  follows (pending.Pass x) (pending.Found l) i m k = plainly q (pending.Pass x) (pending.Found l) tt m
  follows (pending.Pass (pending.Rest ss)) (pending.Left Next) i m k = plainly q (pending.Pass (pending.Rest ss)) (pending.Left Next) tt m
  follows (pending.Pass (pending.TurnEnd s)) (pending.Left Next) i m k = plainly q (pending.Pass (pending.TurnEnd s)) (pending.Left Next) tt m
  follows (pending.Pass (pending.Again s)) (pending.Left Next) i m k = loop_makes q s (is_loop q s k.0) m
  follows (pending.Pass (pending.Rest ss)) (pending.Left Broken) i m k = plainly q (pending.Pass (pending.Rest ss)) (pending.Left Broken) tt m
  follows (pending.Pass (pending.TurnEnd s)) (pending.Left Broken) i m k = plainly q (pending.Pass (pending.TurnEnd s)) (pending.Left Broken) tt m
  follows (pending.Pass (pending.Again s)) (pending.Left Broken) i m k = plainly q (pending.Pass (pending.Again s)) (pending.Left Broken) tt m
  follows (pending.Pass (pending.Rest ss)) (pending.Left Continued) i m k = plainly q (pending.Pass (pending.Rest ss)) (pending.Left Continued) tt m
  follows (pending.Pass (pending.TurnEnd s)) (pending.Left Continued) i m k = plainly q (pending.Pass (pending.TurnEnd s)) (pending.Left Continued) tt m
  follows (pending.Pass (pending.Again s)) (pending.Left Continued) i m k = λ input n. continued q s m input (suc n) ∙ loop_makes q s (is_loop q s k.0) m input n
  follows (pending.Pass (pending.Rest ss)) (pending.Left (Returned w)) i m k = plainly q (pending.Pass (pending.Rest ss)) (pending.Left (Returned w)) tt m
  follows (pending.Pass (pending.TurnEnd s)) (pending.Left (Returned w)) i m k = plainly q (pending.Pass (pending.TurnEnd s)) (pending.Left (Returned w)) tt m
  follows (pending.Pass (pending.Again s)) (pending.Left (Returned w)) i m k = plainly q (pending.Pass (pending.Again s)) (pending.Left (Returned w)) tt m
  follows pending.Input t i m k = absurd i
  follows pending.Output (pending.Gave v) i m k = plainly q pending.Output (pending.Gave v) tt m
  follows pending.Output (pending.Found l) i m k = plainly q pending.Output (pending.Found l) tt m
  follows pending.Output (pending.Left Next) i m k = plainly q pending.Output (pending.Left Next) tt m
  follows pending.Output (pending.Left Broken) i m k = plainly q pending.Output (pending.Left Broken) tt m
  follows pending.Output (pending.Left Continued) i m k = plainly q pending.Output (pending.Left Continued) tt m
  follows pending.Output (pending.Left (Returned w)) i m k = plainly q pending.Output (pending.Left (Returned w)) tt m
  follows (pending.Arguments g es n) (pending.Gave v) i m k = plainly q (pending.Arguments g es n) (pending.Gave v) tt m
  follows (pending.Arguments g es n) (pending.Found l) i m k = plainly q (pending.Arguments g es n) (pending.Found l) tt m
  follows (pending.Arguments g es n) (pending.Left Next) i m k = plainly q (pending.Arguments g es n) (pending.Left Next) tt m
  follows (pending.Arguments g es n) (pending.Left Broken) i m k = plainly q (pending.Arguments g es n) (pending.Left Broken) tt m
  follows (pending.Arguments g es n) (pending.Left Continued) i m k = plainly q (pending.Arguments g es n) (pending.Left Continued) tt m
  follows (pending.Arguments g es n) (pending.Left (Returned w)) i m k = plainly q (pending.Arguments g es n) (pending.Left (Returned w)) tt m
  follows (pending.Argument g es n) (pending.Gave v) i m k = plainly q (pending.Argument g es n) (pending.Gave v) tt m
  follows (pending.Argument g es n) (pending.Found l) i m k = plainly q (pending.Argument g es n) (pending.Found l) tt m
  follows (pending.Argument g es n) (pending.Left Next) i m k = plainly q (pending.Argument g es n) (pending.Left Next) tt m
  follows (pending.Argument g es n) (pending.Left Broken) i m k = plainly q (pending.Argument g es n) (pending.Left Broken) tt m
  follows (pending.Argument g es n) (pending.Left Continued) i m k = plainly q (pending.Argument g es n) (pending.Left Continued) tt m
  follows (pending.Argument g es n) (pending.Left (Returned w)) i m k = plainly q (pending.Argument g es n) (pending.Left (Returned w)) tt m
  follows (pending.Enter g n) t i m k = absurd i
  follows (pending.Leave g y) (pending.Gave v) i m k = plainly q (pending.Leave g y) (pending.Gave v) tt m
  follows (pending.Leave g y) (pending.Found l) i m k = plainly q (pending.Leave g y) (pending.Found l) tt m
  follows (pending.Leave g y) (pending.Left Next) i m k = plainly q (pending.Leave g y) (pending.Left Next) tt m
  follows (pending.Leave g y) (pending.Left Broken) i m k = plainly q (pending.Leave g y) (pending.Left Broken) tt m
  follows (pending.Leave g y) (pending.Left Continued) i m k = plainly q (pending.Leave g y) (pending.Left Continued) tt m
  follows (pending.Leave g y) (pending.Left (Returned w)) i m k = plainly q (pending.Leave g y) (pending.Left (Returned w)) tt m
  follows (pending.Halt x) t i m k = absurd i
  follows (pending.Over x) (pending.Gave v) i m k = absurd k
  follows (pending.Over x) (pending.Found l) i m k = absurd k
  follows (pending.Over x) (pending.Left Next) i m k = absurd k
  follows (pending.Over x) (pending.Left Broken) i m k = absurd k
  follows (pending.Over x) (pending.Left Continued) i m k = absurd k
  follows (pending.Over x) (pending.Left (Returned w)) i m k = absurd k
