use Rattle.normal_trees.proofs.Made.{made_subtract}
use Rattle.normal_trees.proofs.nodes.subtract.Goals as goal

pub returns : goal.returns
returns c = rw c.into_boxed.ensures (rw c.into_boxed-2.ensures (made_subtract c.args.left c.args.right c.args.unit))
