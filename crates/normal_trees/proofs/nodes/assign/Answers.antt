use Rattle.normal_trees.proofs.Made.{made_assign}
use Rattle.normal_trees.proofs.nodes.assign.Goals as goal

pub returns : goal.returns
returns c = rw c.into_inner.ensures (rw c.into_boxed.ensures (rw c.into_boxed-2.ensures (made_assign c.args.place c.args.ctype c.args.value)))
