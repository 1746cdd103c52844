use Rattle.std.proofs.Common.{◌∙◌, arith}
use Rattle.c_lexer.proofs.NumberLemmas.{value_none, step_value, step_wide}
use Rattle.c_lexer.proofs.number.value_of.Goals as goal

pub loop-digit-init : goal.loop-digit-init
loop-digit-init c = value_none c.args.base

pub returns-in-None : goal.returns-in-None
returns-in-None c =
    step_wide c.args.base c.args.digits.now c.loop-digit.digit-index c.loop-digit.value c.from.result c.requires (omega arith) c.loop-digit.invariant (c.from.ensures ∙ c.digit_value.ensures) c.in-None.ensures

pub loop-digit-preserved : goal.loop-digit-preserved
loop-digit-preserved c =
    step_value c.args.base c.args.digits.now c.loop-digit.digit-index c.loop-digit.value c.from.result c.in-Some.more (omega arith) c.loop-digit.invariant (c.from.ensures ∙ c.digit_value.ensures) c.in-Some.ensures
