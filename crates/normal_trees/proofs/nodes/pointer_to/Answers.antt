use Rattle.normal_trees.proofs.Made.{made_pointer_to}
use Rattle.normal_trees.proofs.nodes.pointer_to.Goals as goal

pub returns : goal.returns
returns c = made_pointer_to c.args.inner
