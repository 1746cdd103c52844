use Rattle.std.proofs.Common.{sym, ap, ◌∙◌}
use Rattle.c_lexer.specs.Bytes.{is_letter}
use Rattle.c_lexer.proofs.FrontLemmas.{backslash_stands, bad_backslash_stands}
use Rattle.c_lexer.proofs.first_form.front.backslash_word.Goals as goal

pub returns-then-is_letter : goal.returns-then-is_letter
returns-then-is_letter c =
    backslash_stands c.args.text.now c.word_len.result c.requires (ap is_letter (sym c.byte_at.ensures) ∙ sym c.is_letter.ensures ∙ c.if-is_letter.true) c.word_len.ensures

pub returns-else-is_letter : goal.returns-else-is_letter
returns-else-is_letter c = bad_backslash_stands c.args.text.now c.requires (ap is_letter (sym c.byte_at.ensures) ∙ sym c.is_letter.ensures ∙ c.if-is_letter.false)
