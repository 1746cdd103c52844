use Rattle.normal_trees.proofs.Made.{made_deref}
use Rattle.normal_trees.proofs.nodes.deref.Goals as goal

pub returns : goal.returns
returns c = rw c.into_boxed.ensures (made_deref c.args.pointer)
