use Rattle.std.proofs.Common.{sym, ap, ◌∙◌}
use Rattle.c_lexer.proofs.FrontLemmas.{is_single, mark_of, single_stands, opening_stands, closing_stands, bad_mark_stands}
use Rattle.c_lexer.proofs.first_form.front.punctuation.Goals as goal

pub returns-then-is_mark : goal.returns-then-is_mark
returns-then-is_mark c =
    single_stands c.args.text.now c.requires.some (mark_of _ c.requires.letter c.requires.digit c.requires.backslash)
    (ap is_single (sym c.byte_at.ensures) ∙ sym c.is_mark.ensures ∙ c.if-is_mark.true)

pub returns-then-starts_with : goal.returns-then-starts_with
returns-then-starts_with c =
    opening_stands c.args.text.now (c.starts_with.ensures.bound c.if-starts_with.true) (mark_of _ c.requires.letter c.requires.digit c.requires.backslash)
    (sym c.starts_with.ensures.value ∙ c.if-starts_with.true)

pub returns-then-starts_with-2 : goal.returns-then-starts_with-2
returns-then-starts_with-2 c =
    closing_stands c.args.text.now (c.starts_with-else-starts_with.ensures.bound c.if-starts_with-2.true) (mark_of _ c.requires.letter c.requires.digit c.requires.backslash)
    (sym c.starts_with-else-starts_with.ensures.value ∙ c.if-starts_with-2.true)

pub returns-else-starts_with-2 : goal.returns-else-starts_with-2
returns-else-starts_with-2 c =
    bad_mark_stands c.args.text.now c.requires.some c.requires.blank (mark_of _ c.requires.letter c.requires.digit c.requires.backslash)
    (ap is_single (sym c.byte_at.ensures) ∙ sym c.is_mark.ensures ∙ c.if-is_mark.false)
    (sym c.starts_with.ensures.value ∙ c.if-starts_with.false)
    (sym c.starts_with-else-starts_with.ensures.value ∙ c.if-starts_with-2.false)
