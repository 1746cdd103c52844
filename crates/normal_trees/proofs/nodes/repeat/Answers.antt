use Rattle.normal_trees.proofs.Made.{made_repeat}
use Rattle.normal_trees.proofs.nodes.repeat.Goals as goal

pub returns : goal.returns
returns c = rw c.into_boxed.ensures (made_repeat c.args.body)
