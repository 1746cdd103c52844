use Rattle.std.proofs.Common.{Ok, Err, refl}
use Rattle.c_lexer.proofs.PieceLemmas.{number_is}
use Rattle.c_lexer.proofs.lexeme.number.Goals as goal

pub returns-in-Ok : goal.returns-in-Ok
returns-in-Ok c =
    number_is c.args.profile c.args.text.now c.number_len-len.result c.whole_token.result (Ok c.in-Ok.suffix) c.number_len-len.ensures c.in-Ok.ensures c.whole_token.ensures

pub returns-in-Err : goal.returns-in-Err
returns-in-Err c =
    number_is c.args.profile c.args.text.now c.number_len-len.result _ (Err c.in-Err.flaw) c.number_len-len.ensures c.in-Err.ensures refl
