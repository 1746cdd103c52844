use Rattle.normal_trees.proofs.Made.{made_convert}
use Rattle.normal_trees.proofs.nodes.convert.Goals as goal

pub returns : goal.returns
returns c = rw c.into_boxed.ensures (made_convert c.args.kind c.args.value)
