-- The arguments of a call, one after another.
use Rattle.normal_expressions.specs.Code.{arguments_code_in}
use Rattle.normal_expressions.proofs.Arguments.{from_start, one_gone_at, all_gone_at}
use Rattle.normal_expressions.proofs.expressions.+expressions.Goals as goal

pub arguments_code-loop-e-init : goal.arguments_code-loop-e-init
arguments_code-loop-e-init t c = rw c.new-values.ensures (from_start c.args.code.now c.args.registers.now (arguments_code_in c.args.scope c.args.es.now c.args.registers.now.next))

pub arguments_code-loop-e-preserved : goal.arguments_code-loop-e-preserved
arguments_code-loop-e-preserved t c =
    rw (c.in_ok-push.ensures, c.in_ok-value.ensures)
    (one_gone_at c.args.scope c.args.code.now c.args.registers.now (arguments_code_in c.args.scope c.args.es.now c.args.registers.now.next) c.args.es.now c.loop-e.e-index c.e-item.result c.loop-e.code c.expression_code.new.code c.loop-e.registers c.expression_code.new.registers c.loop-e.values _ c.loop-e-test.true c.e-item.is c.loop-e.invariant c.in_ok-a.ensures)

pub arguments_code-returns : goal.arguments_code-returns
arguments_code-returns t c =
    all_gone_at c.args.scope c.args.code.now c.args.registers.now (arguments_code_in c.args.scope c.args.es.now c.args.registers.now.next) c.args.es.now c.loop-e.e-index c.loop-e.code c.loop-e.registers c.loop-e.values c.loop-e-test.false c.loop-e.invariant
