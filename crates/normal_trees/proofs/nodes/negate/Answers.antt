use Rattle.normal_trees.proofs.Made.{made_negate}
use Rattle.normal_trees.proofs.nodes.negate.Goals as goal

pub returns : goal.returns
returns c = rw c.into_boxed.ensures (made_negate c.args.value)
