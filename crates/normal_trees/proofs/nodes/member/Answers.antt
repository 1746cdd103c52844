use Rattle.normal_trees.proofs.Made.{made_member}
use Rattle.normal_trees.proofs.nodes.member.Goals as goal

pub returns : goal.returns
returns c = rw c.into_boxed.ensures (made_member c.args.object c.args.offset)
