use Rattle.std.proofs.Common.{sym, ◌∙◌}
use Rattle.c_lexer.proofs.LongestLemmas.{word_longest}
use Rattle.c_lexer.proofs.PieceLemmas.{keyword_is, name_is}
use Rattle.c_lexer.proofs.lexeme.word.Goals as goal

pub returns-then-is_keyword : goal.returns-then-is_keyword
returns-then-is_keyword c =
    keyword_is c.args.profile c.args.text.now c.word_len-len.result c.whole_token.result (word_longest c.args.profile c.args.text.now c.word_len-len.result c.requires c.word_len-len.ensures)
    (sym c.is_keyword.ensures ∙ c.if-is_keyword.true) c.whole_token.ensures

pub returns-else-is_keyword : goal.returns-else-is_keyword
returns-else-is_keyword c =
    name_is c.args.profile c.args.text.now c.word_len-len.result c.whole_token-else-is_keyword.result (word_longest c.args.profile c.args.text.now c.word_len-len.result c.requires c.word_len-len.ensures)
    (sym c.is_keyword.ensures ∙ c.if-is_keyword.false) c.whole_token-else-is_keyword.ensures
