use Rattle.c_lexer.proofs.LexingLaws.{one_lexing}
use Rattle.c_lexer.proofs.lexing.one_lexing.Goals as goal

pub returns : goal.returns
returns c = one_lexing
