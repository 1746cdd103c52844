-- A turn makes at most one heap block, and none where it makes no step.
use Rattle.std.proofs.Common.{◌≡◌, ℕ, ◌≤◌, Option, Some, None, arith}
use Rattle.step_meaning.specs.declared.value.Action.{Action}
use Rattle.step_meaning.specs.declared.program.Core.{Core}
use Rattle.step_meaning.specs.Memory.{Block}
use Rattle.run_turns.specs.Pending as pending
use Rattle.run_turns.specs.Turns as turns
use Rattle.run_turns.specs.Turns.{Configuration, Turn, turn_at}
use Rattle.run_laws.specs.Parts.{steps_after}
use Rattle.run_laws.proofs.AllocatedKept.{turn_allocates}

-- with at most one block more, and none more where no step was made
abbrev pub Grows : Configuration → Turn → Type 0
Grows m t = t.after.allocated ≤ steps_after t.step m.allocated

same_grows : (m : Configuration) (t : Turn) → t.after.allocated ≡ m.allocated → Grows m t
same_grows m t e = by t.step
  where
    by : (o : Option Action) → t.after.allocated ≤ steps_after o m.allocated
    by None = omega (arith, e)
    by (Some a) = omega (arith, e)

block_grows : (count : ℕ) (b : Option Block) (m : Configuration) → Grows m (turns.allocated_block count b m)
block_grows count None m = omega arith
block_grows count (Some b) m = omega arith

pub turn_grows : (q : Core) (p : pending.Pending) (t : pending.Told) (m : Configuration) → Grows m (turn_at q p t (turns.telling t m))
turn_grows q (pending.Evaluate x) t m = same_grows m (turn_at q (pending.Evaluate x) t (turns.telling t m)) (turn_allocates q (pending.Evaluate x) t m tt)
turn_grows q (pending.Locate x) t m = same_grows m (turn_at q (pending.Locate x) t (turns.telling t m)) (turn_allocates q (pending.Locate x) t m tt)
turn_grows q (pending.Execute x) t m = same_grows m (turn_at q (pending.Execute x) t (turns.telling t m)) (turn_allocates q (pending.Execute x) t m tt)
turn_grows q (pending.Operate (pending.Convert j)) t m = same_grows m (turn_at q (pending.Operate (pending.Convert j)) t (turns.telling t m)) (turn_allocates q (pending.Operate (pending.Convert j)) t m tt)
turn_grows q (pending.Operate (pending.Unary o j)) t m = same_grows m (turn_at q (pending.Operate (pending.Unary o j)) t (turns.telling t m)) (turn_allocates q (pending.Operate (pending.Unary o j)) t m tt)
turn_grows q (pending.Operate (pending.BinaryRight o j e)) t m = same_grows m (turn_at q (pending.Operate (pending.BinaryRight o j e)) t (turns.telling t m)) (turn_allocates q (pending.Operate (pending.BinaryRight o j e)) t m tt)
turn_grows q (pending.Operate (pending.BinaryNow o j w)) t m = same_grows m (turn_at q (pending.Operate (pending.BinaryNow o j w)) t (turns.telling t m)) (turn_allocates q (pending.Operate (pending.BinaryNow o j w)) t m tt)
turn_grows q (pending.Operate (pending.CompareRight o e)) t m = same_grows m (turn_at q (pending.Operate (pending.CompareRight o e)) t (turns.telling t m)) (turn_allocates q (pending.Operate (pending.CompareRight o e)) t m tt)
turn_grows q (pending.Operate (pending.CompareNow o w)) t m = same_grows m (turn_at q (pending.Operate (pending.CompareNow o w)) t (turns.telling t m)) (turn_allocates q (pending.Operate (pending.CompareNow o w)) t m tt)
turn_grows q (pending.Operate pending.Negated) t m = same_grows m (turn_at q (pending.Operate pending.Negated) t (turns.telling t m)) (turn_allocates q (pending.Operate pending.Negated) t m tt)
turn_grows q (pending.Operate (pending.BothRight e)) t m = same_grows m (turn_at q (pending.Operate (pending.BothRight e)) t (turns.telling t m)) (turn_allocates q (pending.Operate (pending.BothRight e)) t m tt)
turn_grows q (pending.Operate (pending.EitherRight e)) t m = same_grows m (turn_at q (pending.Operate (pending.EitherRight e)) t (turns.telling t m)) (turn_allocates q (pending.Operate (pending.EitherRight e)) t m tt)
turn_grows q (pending.Operate pending.Truth) t m = same_grows m (turn_at q (pending.Operate pending.Truth) t (turns.telling t m)) (turn_allocates q (pending.Operate pending.Truth) t m tt)
turn_grows q (pending.Operate (pending.Choose e c)) t m = same_grows m (turn_at q (pending.Operate (pending.Choose e c)) t (turns.telling t m)) (turn_allocates q (pending.Operate (pending.Choose e c)) t m tt)
turn_grows q (pending.Operate pending.Discard) t m = same_grows m (turn_at q (pending.Operate pending.Discard) t (turns.telling t m)) (turn_allocates q (pending.Operate pending.Discard) t m tt)
turn_grows q (pending.Operate (pending.MoveRight size side e)) t m = same_grows m (turn_at q (pending.Operate (pending.MoveRight size side e)) t (turns.telling t m)) (turn_allocates q (pending.Operate (pending.MoveRight size side e)) t m tt)
turn_grows q (pending.Operate (pending.MoveNow size side w)) t m = same_grows m (turn_at q (pending.Operate (pending.MoveNow size side w)) t (turns.telling t m)) (turn_allocates q (pending.Operate (pending.MoveNow size side w)) t m tt)
turn_grows q (pending.Operate (pending.DifferenceRight unit e)) t m = same_grows m (turn_at q (pending.Operate (pending.DifferenceRight unit e)) t (turns.telling t m)) (turn_allocates q (pending.Operate (pending.DifferenceRight unit e)) t m tt)
turn_grows q (pending.Operate (pending.DifferenceNow unit w)) t m = same_grows m (turn_at q (pending.Operate (pending.DifferenceNow unit w)) t (turns.telling t m)) (turn_allocates q (pending.Operate (pending.DifferenceNow unit w)) t m tt)
turn_grows q (pending.Operate (pending.Store y l)) t m = same_grows m (turn_at q (pending.Operate (pending.Store y l)) t (turns.telling t m)) (turn_allocates q (pending.Operate (pending.Store y l)) t m tt)
turn_grows q (pending.Operate (pending.UpdateRight y o e w l)) t m = same_grows m (turn_at q (pending.Operate (pending.UpdateRight y o e w l)) t (turns.telling t m)) (turn_allocates q (pending.Operate (pending.UpdateRight y o e w l)) t m tt)
turn_grows q (pending.Operate (pending.UpdateNow y o w l old)) t m = same_grows m (turn_at q (pending.Operate (pending.UpdateNow y o w l old)) t (turns.telling t m)) (turn_allocates q (pending.Operate (pending.UpdateNow y o w l old)) t m tt)
turn_grows q (pending.Operate (pending.Instead w)) t m = same_grows m (turn_at q (pending.Operate (pending.Instead w)) t (turns.telling t m)) (turn_allocates q (pending.Operate (pending.Instead w)) t m tt)
turn_grows q (pending.Operate (pending.Allocate y)) (pending.Gave v) m = block_grows _ _ (turns.telling (pending.Gave v) m)
turn_grows q (pending.Operate (pending.Allocate y)) (pending.Found l) m = omega arith
turn_grows q (pending.Operate (pending.Allocate y)) (pending.Left l) m = omega arith
turn_grows q (pending.Operate pending.Release) t m = same_grows m (turn_at q (pending.Operate pending.Release) t (turns.telling t m)) (turn_allocates q (pending.Operate pending.Release) t m tt)
turn_grows q (pending.Accessed a) t m = same_grows m (turn_at q (pending.Accessed a) t (turns.telling t m)) (turn_allocates q (pending.Accessed a) t m tt)
turn_grows q (pending.Select x) t m = same_grows m (turn_at q (pending.Select x) t (turns.telling t m)) (turn_allocates q (pending.Select x) t m tt)
turn_grows q (pending.Designate x) t m = same_grows m (turn_at q (pending.Designate x) t (turns.telling t m)) (turn_allocates q (pending.Designate x) t m tt)
turn_grows q (pending.Conclude x) t m = same_grows m (turn_at q (pending.Conclude x) t (turns.telling t m)) (turn_allocates q (pending.Conclude x) t m tt)
turn_grows q pending.Ignore t m = same_grows m (turn_at q pending.Ignore t (turns.telling t m)) (turn_allocates q pending.Ignore t m tt)
turn_grows q (pending.Pass x) t m = same_grows m (turn_at q (pending.Pass x) t (turns.telling t m)) (turn_allocates q (pending.Pass x) t m tt)
turn_grows q pending.Input t m = same_grows m (turn_at q pending.Input t (turns.telling t m)) (turn_allocates q pending.Input t m tt)
turn_grows q pending.Output t m = same_grows m (turn_at q pending.Output t (turns.telling t m)) (turn_allocates q pending.Output t m tt)
turn_grows q (pending.Arguments g es n) t m = same_grows m (turn_at q (pending.Arguments g es n) t (turns.telling t m)) (turn_allocates q (pending.Arguments g es n) t m tt)
turn_grows q (pending.Argument g es n) t m = same_grows m (turn_at q (pending.Argument g es n) t (turns.telling t m)) (turn_allocates q (pending.Argument g es n) t m tt)
turn_grows q (pending.Enter g n) t m = same_grows m (turn_at q (pending.Enter g n) t (turns.telling t m)) (turn_allocates q (pending.Enter g n) t m tt)
turn_grows q (pending.Leave g y) t m = same_grows m (turn_at q (pending.Leave g y) t (turns.telling t m)) (turn_allocates q (pending.Leave g y) t m tt)
turn_grows q (pending.Halt x) t m = same_grows m (turn_at q (pending.Halt x) t (turns.telling t m)) (turn_allocates q (pending.Halt x) t m tt)
turn_grows q (pending.Over x) t m = same_grows m (turn_at q (pending.Over x) t (turns.telling t m)) (turn_allocates q (pending.Over x) t m tt)
