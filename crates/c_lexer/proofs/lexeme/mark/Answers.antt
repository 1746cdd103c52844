use Rattle.std.proofs.Common.{arith}
use Rattle.c_lexer.proofs.StringLemmas.{mark_longest, no_mark}
use Rattle.c_lexer.proofs.PieceLemmas.{mark_is, missing_byte}
use Rattle.c_lexer.proofs.lexeme.mark.Goals as goal

pub returns-then-len-gt0 : goal.returns-then-len-gt0
returns-then-len-gt0 c =
    mark_is c.args.profile c.args.text.now c.mark_len-len.result c.whole_token.result
    (mark_longest c.args.profile c.args.text.now c.mark_len-len.result c.requires.others c.mark_len-len.ensures.within (c.mark_len-len.ensures.mark c.if-len-gt0.true) c.mark_len-len.ensures.longest)
    c.whole_token.ensures

pub returns-else-len-gt0 : goal.returns-else-len-gt0
returns-else-len-gt0 c =
    missing_byte c.args.profile c.args.text.now c.requires.quote
    (no_mark c.args.profile c.args.text.now c.mark_len-len.result (omega (arith, c.if-len-gt0.false)) c.requires.others c.mark_len-len.ensures.longest)
