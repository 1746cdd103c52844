use Rattle.normal_trees.proofs.Made.{made_element}
use Rattle.normal_trees.proofs.nodes.element.Goals as goal

pub returns : goal.returns
returns c = rw c.into_boxed.ensures (rw c.into_boxed-2.ensures (made_element c.args.array c.args.index c.args.size))
