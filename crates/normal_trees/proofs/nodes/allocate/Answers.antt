use Rattle.normal_trees.proofs.Made.{made_allocate}
use Rattle.normal_trees.proofs.nodes.allocate.Goals as goal

pub returns : goal.returns
returns c = rw c.into_boxed.ensures (made_allocate c.args.ctype c.args.count)
