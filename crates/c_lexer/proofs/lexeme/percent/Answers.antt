use Rattle.std.proofs.Common.{sym, ap, length, take, ◌∙◌, arith}
use Rattle.std.specs.List.{take_while, list_any}
use Rattle.std.specs.Str.{bytes_eq}
use Rattle.c_lexer.specs.Bytes.{is_word}
use Rattle.c_lexer.specs.Lexemes.{directives}
use Rattle.c_lexer.specs.Lexing.{whole_token}
use Rattle.c_lexer.specs.declared.token.TokenKind.TheVariants as kind
use Rattle.c_lexer.specs.declared.profile.Profile.TheVariants as profile
use Rattle.c_lexer.proofs.StringLemmas.{directive_longest, no_directive}
use Rattle.c_lexer.proofs.PieceLemmas.{directive_is}
use Rattle.c_lexer.proofs.lexeme.percent.Goals as goal

pub mark-requires-clause-others : goal.mark-requires-clause-others
unfolding directives
mark-requires-clause-others c =
    no_directive c.args.text.now c.word_len-len.result c.requires (c.word_len-len.ensures ∙ ap (λ xs. length (take_while is_word xs)) c.skip-name.ensures)
    (ap (λ xs. list_any (bytes_eq (take c.word_len-len.result xs)) directives) (sym c.skip-name.ensures) ∙ sym c.is_among.ensures ∙ c.if-is_among.false)

pub returns-then-is_among : goal.returns-then-is_among
unfolding directives
returns-then-is_among c =
    directive_is profile.Ya c.args.text.now _ c.whole_token.result
    (directive_longest c.args.text.now c.word_len-len.result c.requires (c.word_len-len.ensures ∙ ap (λ xs. length (take_while is_word xs)) c.skip-name.ensures)
    (ap (λ xs. list_any (bytes_eq (take c.word_len-len.result xs)) directives) (sym c.skip-name.ensures) ∙ sym c.is_among.ensures ∙ c.if-is_among.true))
    (c.whole_token.ensures ∙ ap (whole_token kind.Percent) (omega arith))
