use Rattle.c_lexer.proofs.ConstantLemmas.{numbers_have_types as law}
use Rattle.c_lexer.proofs.constant.numbers_have_types.Goals as goal

pub returns : goal.returns
returns c = law
