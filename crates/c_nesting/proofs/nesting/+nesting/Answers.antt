use Rattle.std.proofs.Common.{nat_lt, arith}
use Rattle.c_grammar.specs.Expressions.{assign, choice, unary}
use Rattle.c_words.proofs.Turns.{deeper}
use Rattle.c_nesting.proofs.nesting.+nesting.Goals as goal

pub assign_fits-returns : goal.assign_fits-returns
assign_fits-returns t c = rw (deeper (λ n. nat_lt (assign c.args.tree.now).nesting n) c.args.limit (omega arith)) c.assign.ensures

pub choice_fits-returns : goal.choice_fits-returns
choice_fits-returns t c = rw (deeper (λ n. nat_lt (choice c.args.tree.now).nesting n) c.args.limit (omega arith)) c.choice.ensures

pub unary_fits-returns : goal.unary_fits-returns
unary_fits-returns t c = rw (deeper (λ n. nat_lt (unary c.args.tree.now).nesting n) c.args.limit (omega arith)) c.unary.ensures
