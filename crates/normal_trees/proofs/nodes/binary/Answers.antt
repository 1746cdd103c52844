use Rattle.normal_trees.proofs.Made.{made_binary}
use Rattle.normal_trees.proofs.nodes.binary.Goals as goal

pub returns : goal.returns
returns c = rw c.into_boxed.ensures (rw c.into_boxed-2.ensures (made_binary c.args.op c.args.kind c.args.left c.args.right))
