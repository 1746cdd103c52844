-- A token's kind and bytes as a word, and what is known of the tokens of a text.
use Rattle.std.specs.Prelude.{◌≡◌, ℕ, true, List}
use Rattle.std.specs.List.{AllByRecursion}
use Rattle.c_lexer.specs.declared.token.Token.{Token}
use Rattle.c_lexer.specs.FirstForm.Tokens.{is_token, is_allowed}
use Rattle.c_lexer.specs.FirstForm.Laws.{IsTokenOf}
use Rattle.c_parser.specs.declared.first_form.lexeme.Lexeme.{Lexeme}
use Rattle.c_parser.specs.FirstForm.Spelling.{Word}

abbrev pub lexeme_word : Lexeme → Word
lexeme_word l = record { kind = l.kind; bytes = l.bytes.now }

-- the word is a token that may stand in a text of the first form
pub record IsAllowedWord (w : Word) : Type 0 where
  pub token : is_token w.kind w.bytes ≡ true
  pub allowed : is_allowed w.kind w.bytes ≡ true

-- each of the tokens is one of the text
abbrev pub AllTokensOf : List ℕ → List Token → Type 0
AllTokensOf text tokens = AllByRecursion (IsTokenOf text) tokens
