use Rattle.normal_trees.proofs.Made.{made_unary}
use Rattle.normal_trees.proofs.nodes.unary.Goals as goal

pub returns : goal.returns
returns c = rw c.into_boxed.ensures (made_unary c.args.op c.args.kind c.args.value)
