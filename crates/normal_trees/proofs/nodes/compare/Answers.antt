use Rattle.normal_trees.proofs.Made.{made_compare}
use Rattle.normal_trees.proofs.nodes.compare.Goals as goal

pub returns : goal.returns
returns c = rw c.into_boxed.ensures (rw c.into_boxed-2.ensures (made_compare c.args.op c.args.left c.args.right))
