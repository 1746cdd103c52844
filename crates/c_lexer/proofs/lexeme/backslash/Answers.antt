use Rattle.std.proofs.Common.{sym, ap, length, ◌∙◌}
use Rattle.std.specs.List.{take_while}
use Rattle.std.proofs.Math.Numerals.{one-add}
use Rattle.c_lexer.specs.Bytes.{is_letter, is_word}
use Rattle.c_lexer.specs.Lexing.{whole_token}
use Rattle.c_lexer.specs.declared.token.TokenKind.TheVariants as kind
use Rattle.c_lexer.proofs.LongestLemmas.{backslash_longest, no_backslash}
use Rattle.c_lexer.proofs.PieceLemmas.{backslash_is, missing_at}
use Rattle.c_lexer.proofs.lexeme.backslash.Goals as goal

pub returns-then-is_letter : goal.returns-then-is_letter
returns-then-is_letter c =
    backslash_is c.args.profile c.args.text.now _ c.whole_token.result
    (backslash_longest c.args.profile c.args.text.now c.word_len.result c.requires.specification c.requires.first (ap is_letter (sym c.byte_at.ensures) ∙ sym c.is_letter.ensures ∙ c.if-is_letter.true)
    (c.word_len.ensures ∙ ap (λ xs. length (take_while is_word xs)) c.skip.ensures))
    (c.whole_token.ensures ∙ ap (whole_token kind.Backslash) (one-add c.word_len.result))

pub returns-else-is_letter : goal.returns-else-is_letter
returns-else-is_letter c =
    missing_at c.args.profile c.args.text.now 92 c.requires.first
    (no_backslash c.args.profile c.args.text.now c.requires.first (ap is_letter (sym c.byte_at.ensures) ∙ sym c.is_letter.ensures ∙ c.if-is_letter.false))
