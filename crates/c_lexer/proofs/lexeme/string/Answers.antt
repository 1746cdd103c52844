use Rattle.std.proofs.Common.{sym, ap, length, ◌∙◌}
use Rattle.std.specs.List.{take_while}
use Rattle.c_lexer.specs.Lexemes.{is_text}
use Rattle.c_lexer.specs.declared.profile.Profile.TheVariants as profile
use Rattle.c_lexer.proofs.StringLemmas.{string_longest, no_string}
use Rattle.c_lexer.proofs.PieceLemmas.{string_is, missing_at}
use Rattle.c_lexer.proofs.lexeme.string.Goals as goal

pub returns-then-is_string_of : goal.returns-then-is_string_of
returns-then-is_string_of c =
    string_is profile.Annotation c.args.text.now _ c.whole_token.result
    (string_longest c.args.text.now c.text_len-len.result c.requires (c.text_len-len.ensures ∙ ap (λ xs. length (take_while is_text xs)) c.skip.ensures) (sym c.is_string_of.ensures ∙ c.if-is_string_of.true))
    c.whole_token.ensures

pub returns-else-is_string_of : goal.returns-else-is_string_of
returns-else-is_string_of c =
    missing_at profile.Annotation c.args.text.now 34 c.requires
    (no_string c.args.text.now c.text_len-len.result c.requires (c.text_len-len.ensures ∙ ap (λ xs. length (take_while is_text xs)) c.skip.ensures) (sym c.is_string_of.ensures ∙ c.if-is_string_of.false))
