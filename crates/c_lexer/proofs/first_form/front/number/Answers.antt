use Rattle.std.proofs.Common.{sym, ◌∙◌}
use Rattle.c_lexer.proofs.FrontLemmas.{number_stands, bad_number_stands}
use Rattle.c_lexer.proofs.first_form.front.number.Goals as goal

pub returns-then-is_decimal : goal.returns-then-is_decimal
returns-then-is_decimal c = number_stands c.args.text.now c.number_run-len.result c.requires c.number_run-len.ensures (sym c.is_decimal.ensures ∙ c.if-is_decimal.true)

pub returns-else-is_decimal : goal.returns-else-is_decimal
returns-else-is_decimal c = bad_number_stands c.args.text.now c.number_run-len.result c.requires c.number_run-len.ensures (sym c.is_decimal.ensures ∙ c.if-is_decimal.false)
