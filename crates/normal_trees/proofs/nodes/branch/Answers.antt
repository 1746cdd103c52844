use Rattle.normal_trees.proofs.Made.{made_branch}
use Rattle.normal_trees.proofs.nodes.branch.Goals as goal

pub returns : goal.returns
returns c = rw c.into_inner.ensures (rw c.into_boxed.ensures (rw c.into_boxed-2.ensures (rw c.into_boxed-3.ensures (made_branch c.args.test c.args.yes c.args.no))))
