use Rattle.std.proofs.Common.{arith, rules}
use Rattle.c_lexer.proofs.StringLemmas.{mark_within}
use Rattle.c_lexer.proofs.lexeme.longest_mark.Goals as goal

pub loop-len-init : goal.loop-len-init
loop-len-init c = record {
  within = search rules;
  longest = λ m le h. omega (arith, mark_within c.args.profile c.args.text.now m le h, c.min-len.ensures);
}
