use Rattle.normal_trees.proofs.Made.{made_shift}
use Rattle.normal_trees.proofs.nodes.shift.Goals as goal

pub returns : goal.returns
returns c = rw c.into_boxed.ensures (rw c.into_boxed-2.ensures (made_shift c.args.left c.args.right c.args.size c.args.side))
