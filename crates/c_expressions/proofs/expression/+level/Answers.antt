use Rattle.std.proofs.Common.{arith}
use Rattle.c_expressions.specs.ExpressionReading.{inner_at}
use Rattle.c_words.proofs.Turns.{deeper}
use Rattle.c_expressions.proofs.expression.+level.Goals as goal

pub assign-returns : goal.assign-returns
unfolding inner_at
assign-returns t c = rw (deeper (λ n. (inner_at n).assign c.args.tokens.now) c.args.depth (omega arith)) c.assign.ensures

pub choice-returns : goal.choice-returns
unfolding inner_at
choice-returns t c = rw (deeper (λ n. (inner_at n).choice c.args.tokens.now) c.args.depth (omega arith)) c.choice.ensures

pub unary-returns : goal.unary-returns
unfolding inner_at
unary-returns t c = rw (deeper (λ n. (inner_at n).unary c.args.tokens.now) c.args.depth (omega arith)) c.unary.ensures
