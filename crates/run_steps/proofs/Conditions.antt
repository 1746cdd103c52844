-- What a turn asks of a machine, from the types of what is on its stack and the numbers of what was told.
use Rattle.std.proofs.Common.{List, ◌∷◌}
use Rattle.step_meaning.specs.declared.value.Value.{Value}
use Rattle.step_meaning.specs.declared.program.Core.{Core}
use Rattle.step_meaning.specs.declared.program.Function.{Function}
use Rattle.step_meaning.specs.Statements.{Next, Broken, Continued, Returned}
use Rattle.run_memory.specs.Cells.{ValueIsNumbered}
use Rattle.run_turns.specs.Pending as pending
use Rattle.run_turns.specs.Typed.{Takes, TakesValue, TakesLvalue}
use Rattle.run_turns.specs.Values.{ToldHas}
use Rattle.run_state.specs.declared.machine.Machine.{Machine}
use Rattle.run_arms.specs.Calls.{IsOpen}
use Rattle.run_steps.specs.Turning.{MayArgue, MayTurn}
use Rattle.run_steps.proofs.Allowed.{Allocates, may_designate, may_operate, may_select}

-- what the room of the machine gives: for a block that is allocated, an argument that is kept, an activation that ends
abbrev pub Allows : Machine → pending.Pending → pending.Told → Type 0
Allows m (pending.Operate o) (pending.Gave v) = Allocates m o v
Allows m (pending.Argument g es n) (pending.Gave v) = MayArgue m n
Allows m (pending.Leave g t) (pending.Left l) = IsOpen m
Allows m p t = Unit {0}

module _ (q : Core) (f : Function) (fs : List Function) (m : Machine) (vs : List Value) (ps : List pending.Pending) where
  pub may_turn : (p : pending.Pending) (t : pending.Told) → Takes q (f ∷ fs) vs (p ∷ ps) t → ToldHas ValueIsNumbered t → Allows m p t → MayTurn m p t
  may_turn (pending.Evaluate x) (pending.Gave v) k n a = tt
  may_turn (pending.Evaluate x) (pending.Found l) k n a = tt
  may_turn (pending.Evaluate x) (pending.Left Next) k n a = tt
  may_turn (pending.Evaluate x) (pending.Left Broken) k n a = tt
  may_turn (pending.Evaluate x) (pending.Left Continued) k n a = tt
  may_turn (pending.Evaluate x) (pending.Left (Returned w)) k n a = tt
  may_turn (pending.Locate p) (pending.Gave v) k n a = tt
  may_turn (pending.Locate p) (pending.Found l) k n a = tt
  may_turn (pending.Locate p) (pending.Left Next) k n a = tt
  may_turn (pending.Locate p) (pending.Left Broken) k n a = tt
  may_turn (pending.Locate p) (pending.Left Continued) k n a = tt
  may_turn (pending.Locate p) (pending.Left (Returned w)) k n a = tt
  may_turn (pending.Execute x) (pending.Gave v) k n a = tt
  may_turn (pending.Execute x) (pending.Found l) k n a = tt
  may_turn (pending.Execute x) (pending.Left Next) k n a = tt
  may_turn (pending.Execute x) (pending.Left Broken) k n a = tt
  may_turn (pending.Execute x) (pending.Left Continued) k n a = tt
  may_turn (pending.Execute x) (pending.Left (Returned w)) k n a = tt
  may_turn (pending.Operate o) (pending.Gave v) k n a = may_operate q f m (TakesValue q (f ∷ fs) vs ps) o v k n a
  may_turn (pending.Operate o) (pending.Found l) k n a = tt
  may_turn (pending.Operate o) (pending.Left Next) k n a = tt
  may_turn (pending.Operate o) (pending.Left Broken) k n a = tt
  may_turn (pending.Operate o) (pending.Left Continued) k n a = tt
  may_turn (pending.Operate o) (pending.Left (Returned w)) k n a = tt
  may_turn (pending.Accessed x) (pending.Gave v) k n a = tt
  may_turn (pending.Accessed x) (pending.Found l) k n a = tt
  may_turn (pending.Accessed x) (pending.Left Next) k n a = tt
  may_turn (pending.Accessed x) (pending.Left Broken) k n a = tt
  may_turn (pending.Accessed x) (pending.Left Continued) k n a = tt
  may_turn (pending.Accessed x) (pending.Left (Returned w)) k n a = tt
  may_turn (pending.Select x) (pending.Gave v) k n a = tt
  may_turn (pending.Select x) (pending.Found l) k n a = may_select q f m (TakesLvalue q (f ∷ fs) vs ps) x l k
  may_turn (pending.Select x) (pending.Left Next) k n a = tt
  may_turn (pending.Select x) (pending.Left Broken) k n a = tt
  may_turn (pending.Select x) (pending.Left Continued) k n a = tt
  may_turn (pending.Select x) (pending.Left (Returned w)) k n a = tt
  may_turn (pending.Designate x) (pending.Gave v) k n a = may_designate q f m (TakesLvalue q (f ∷ fs) vs ps) x v k
  may_turn (pending.Designate x) (pending.Found l) k n a = tt
  may_turn (pending.Designate x) (pending.Left Next) k n a = tt
  may_turn (pending.Designate x) (pending.Left Broken) k n a = tt
  may_turn (pending.Designate x) (pending.Left Continued) k n a = tt
  may_turn (pending.Designate x) (pending.Left (Returned w)) k n a = tt
  may_turn (pending.Conclude x) (pending.Gave v) k n a = tt
  may_turn (pending.Conclude x) (pending.Found l) k n a = tt
  may_turn (pending.Conclude x) (pending.Left Next) k n a = tt
  may_turn (pending.Conclude x) (pending.Left Broken) k n a = tt
  may_turn (pending.Conclude x) (pending.Left Continued) k n a = tt
  may_turn (pending.Conclude x) (pending.Left (Returned w)) k n a = tt
  may_turn pending.Ignore (pending.Gave v) k n a = tt
  may_turn pending.Ignore (pending.Found l) k n a = tt
  may_turn pending.Ignore (pending.Left Next) k n a = tt
  may_turn pending.Ignore (pending.Left Broken) k n a = tt
  may_turn pending.Ignore (pending.Left Continued) k n a = tt
  may_turn pending.Ignore (pending.Left (Returned w)) k n a = tt
  may_turn (pending.Pass x) (pending.Gave v) k n a = tt
  may_turn (pending.Pass x) (pending.Found l) k n a = tt
  may_turn (pending.Pass x) (pending.Left Next) k n a = tt
  may_turn (pending.Pass x) (pending.Left Broken) k n a = tt
  may_turn (pending.Pass x) (pending.Left Continued) k n a = tt
  may_turn (pending.Pass x) (pending.Left (Returned w)) k n a = tt
  may_turn pending.Input (pending.Gave v) k n a = tt
  may_turn pending.Input (pending.Found l) k n a = tt
  may_turn pending.Input (pending.Left Next) k n a = tt
  may_turn pending.Input (pending.Left Broken) k n a = tt
  may_turn pending.Input (pending.Left Continued) k n a = tt
  may_turn pending.Input (pending.Left (Returned w)) k n a = tt
  may_turn pending.Output (pending.Gave v) k n a = tt
  may_turn pending.Output (pending.Found l) k n a = tt
  may_turn pending.Output (pending.Left Next) k n a = tt
  may_turn pending.Output (pending.Left Broken) k n a = tt
  may_turn pending.Output (pending.Left Continued) k n a = tt
  may_turn pending.Output (pending.Left (Returned w)) k n a = tt
  may_turn (pending.Arguments g es i) (pending.Gave v) k n a = tt
  may_turn (pending.Arguments g es i) (pending.Found l) k n a = tt
  may_turn (pending.Arguments g es i) (pending.Left Next) k n a = tt
  may_turn (pending.Arguments g es i) (pending.Left Broken) k n a = tt
  may_turn (pending.Arguments g es i) (pending.Left Continued) k n a = tt
  may_turn (pending.Arguments g es i) (pending.Left (Returned w)) k n a = tt
  may_turn (pending.Argument g es i) (pending.Gave v) k n a = a
  may_turn (pending.Argument g es i) (pending.Found l) k n a = tt
  may_turn (pending.Argument g es i) (pending.Left Next) k n a = tt
  may_turn (pending.Argument g es i) (pending.Left Broken) k n a = tt
  may_turn (pending.Argument g es i) (pending.Left Continued) k n a = tt
  may_turn (pending.Argument g es i) (pending.Left (Returned w)) k n a = tt
  may_turn (pending.Enter g i) (pending.Gave v) k n a = tt
  may_turn (pending.Enter g i) (pending.Found l) k n a = tt
  may_turn (pending.Enter g i) (pending.Left Next) k n a = tt
  may_turn (pending.Enter g i) (pending.Left Broken) k n a = tt
  may_turn (pending.Enter g i) (pending.Left Continued) k n a = tt
  may_turn (pending.Enter g i) (pending.Left (Returned w)) k n a = tt
  may_turn (pending.Leave g u) (pending.Gave v) k n a = tt
  may_turn (pending.Leave g u) (pending.Found l) k n a = tt
  may_turn (pending.Leave g u) (pending.Left Next) k n a = a
  may_turn (pending.Leave g u) (pending.Left Broken) k n a = a
  may_turn (pending.Leave g u) (pending.Left Continued) k n a = a
  may_turn (pending.Leave g u) (pending.Left (Returned w)) k n a = a
  may_turn (pending.Halt x) (pending.Gave v) k n a = tt
  may_turn (pending.Halt x) (pending.Found l) k n a = tt
  may_turn (pending.Halt x) (pending.Left Next) k n a = tt
  may_turn (pending.Halt x) (pending.Left Broken) k n a = tt
  may_turn (pending.Halt x) (pending.Left Continued) k n a = tt
  may_turn (pending.Halt x) (pending.Left (Returned w)) k n a = tt
  may_turn (pending.Over x) (pending.Gave v) k n a = tt
  may_turn (pending.Over x) (pending.Found l) k n a = tt
  may_turn (pending.Over x) (pending.Left Next) k n a = tt
  may_turn (pending.Over x) (pending.Left Broken) k n a = tt
  may_turn (pending.Over x) (pending.Left Continued) k n a = tt
  may_turn (pending.Over x) (pending.Left (Returned w)) k n a = tt
