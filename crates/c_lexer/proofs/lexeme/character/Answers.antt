use Rattle.std.proofs.Common.{sym, ◌∙◌}
use Rattle.c_lexer.proofs.LongestLemmas.{plain_longest, escaped_longest, no_character}
use Rattle.c_lexer.proofs.PieceLemmas.{character_is, missing_at}
use Rattle.c_lexer.proofs.lexeme.character.Goals as goal

pub returns-then-is_plain_character : goal.returns-then-is_plain_character
returns-then-is_plain_character c =
    character_is c.args.profile c.args.text.now 3 c.whole_token.result (plain_longest c.args.profile c.args.text.now c.requires (sym c.is_plain_character.ensures ∙ c.if-is_plain_character.true)) c.whole_token.ensures

pub returns-then-is_escaped_character : goal.returns-then-is_escaped_character
returns-then-is_escaped_character c =
    character_is c.args.profile c.args.text.now 4 c.whole_token-then-is_escaped_character.result (escaped_longest c.args.profile c.args.text.now c.requires (sym c.is_escaped_character.ensures ∙ c.if-is_escaped_character.true)) c.whole_token-then-is_escaped_character.ensures

pub returns-else-is_escaped_character : goal.returns-else-is_escaped_character
returns-else-is_escaped_character c =
    missing_at c.args.profile c.args.text.now 39 c.requires
    (no_character c.args.profile c.args.text.now c.requires (sym c.is_plain_character.ensures ∙ c.if-is_plain_character.false) (sym c.is_escaped_character.ensures ∙ c.if-is_escaped_character.false))
