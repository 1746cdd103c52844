use Rattle.c_parser.proofs.TreeLaws.{have_one_tree}
use Rattle.c_parser.proofs.program.one_tree.Goals as goal

pub returns : goal.returns
returns c = have_one_tree
