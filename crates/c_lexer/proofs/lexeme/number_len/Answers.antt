use Rattle.std.proofs.Common.{sym, ◌∙◌, arith}
use Rattle.c_lexer.proofs.ListLemmas.{apart}
use Rattle.c_lexer.proofs.LongestLemmas.{number_longest}
use Rattle.c_lexer.proofs.lexeme.number_len.Goals as goal

pub returns-then-is_specification : goal.returns-then-is_specification
returns-then-is_specification c =
    number_longest c.args.profile c.args.text.now c.number_run-run.result c.range_at.result c.requires c.number_run-run.ensures
    (record { within = c.range_at.ensures.within; clear = λ _. c.range_at.ensures.before; range = λ lt. (sym c.is_specification.ensures ∙ c.if-is_specification.true, c.range_at.ensures.here lt) })

pub returns-else-is_specification : goal.returns-else-is_specification
returns-else-is_specification c =
    number_longest c.args.profile c.args.text.now c.number_run-run.result c.number_run-run.result c.requires c.number_run-run.ensures
    (record { within = omega arith; clear = λ h. absurd (apart _ (sym c.is_specification.ensures ∙ c.if-is_specification.false) h); range = λ lt. absurd (omega (arith, lt)) })
