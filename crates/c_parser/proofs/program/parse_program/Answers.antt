use Rattle.c_parser.proofs.TreeLaws.{each_tree, tree_is_whole}
use Rattle.c_parser.proofs.program.parse_program.Goals as goal

pub returns-clause-found : goal.returns-clause-found
returns-clause-found c = each_tree c.args.mode c.args.text.now c.args.tokens.now c.whole.result c.whole.ensures.found

pub returns-clause-refused : goal.returns-clause-refused
returns-clause-refused c = λ syntax p h. c.whole.ensures.refused syntax p (tree_is_whole c.args.mode c.args.text.now c.args.tokens.now p h)
