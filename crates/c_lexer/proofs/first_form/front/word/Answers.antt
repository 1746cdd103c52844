use Rattle.std.proofs.Common.{sym, ◌∙◌}
use Rattle.c_lexer.proofs.FrontLemmas.{keyword_stands, name_stands}
use Rattle.c_lexer.proofs.first_form.front.word.Goals as goal

pub returns-then-is_keyword : goal.returns-then-is_keyword
returns-then-is_keyword c = keyword_stands c.args.text.now c.word_len-len.result c.requires c.word_len-len.ensures (sym c.is_keyword.ensures ∙ c.if-is_keyword.true)

pub returns-else-is_keyword : goal.returns-else-is_keyword
returns-else-is_keyword c = name_stands c.args.text.now c.word_len-len.result c.requires c.word_len-len.ensures (sym c.is_keyword.ensures ∙ c.if-is_keyword.false)
