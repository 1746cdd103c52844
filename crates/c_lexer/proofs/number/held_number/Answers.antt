use Rattle.c_lexer.proofs.NumberLemmas.{held_none}
use Rattle.c_lexer.proofs.number.held_number.Goals as goal

pub returns-in-None : goal.returns-in-None
returns-in-None c = held_none c.args.radix c.args.suffix c.base_of.result c.args.digits.now c.base_of.ensures c.in-None.ensures
