use Rattle.normal_trees.proofs.Made.{made_release}
use Rattle.normal_trees.proofs.nodes.release.Goals as goal

pub returns : goal.returns
returns c = rw c.into_boxed.ensures (made_release c.args.value)
