use Rattle.normal_trees.proofs.Made.{made_put_char}
use Rattle.normal_trees.proofs.nodes.put_char.Goals as goal

pub returns : goal.returns
returns c = rw c.into_boxed.ensures (made_put_char c.args.value)
