-- What is known of the tokens of a text.
use Rattle.std.proofs.Common.{◌≡◌, ℕ, zero, suc, true, List, [], ◌∷◌, Some, slice_get, subst}
use Rattle.std.specs.Str.{IsAscii}
use Rattle.std.proofs.lemmas.List.Elements.{recursion_from_All}
use Rattle.c_lexer.specs.declared.token.Token.{Token}
use Rattle.c_lexer.specs.declared.token.TokenKind.TheVariants as kind
use Rattle.c_lexer.specs.FirstForm.Tokens.{AreTokensOf, is_token}
use Rattle.c_lexer.specs.FirstForm.Laws.{IsTokenOf}
use Rattle.c_lexer.proofs.FirstForm.TokenLaws.{tokens_of_text, token_ascii}
use Rattle.c_parser.specs.FirstForm.Spelling.{word_of}
use Rattle.c_parser.specs.FirstForm.Lexemes.{IsAllowedWord, AllTokensOf}

pub all_tokens_of : (text : List ℕ) (tokens : List Token) → AreTokensOf text tokens → AllTokensOf text tokens
all_tokens_of text tokens h = recursion_from_All (IsTokenOf text) tokens (tokens_of_text text tokens h)

pub token_at_place : (text : List ℕ) (tokens : List Token) (i : ℕ) (t : Token) → AllTokensOf text tokens → slice_get tokens i ≡ Some t → IsTokenOf text t
token_at_place text [] i t h e = cc
token_at_place text (u ∷ tokens) zero t h e = let same : u ≡ t = cc in subst (IsTokenOf text) same h.0
token_at_place text (u ∷ tokens) (suc i) t h e = token_at_place text tokens i t h.1 e

pub token_allowed : (text : List ℕ) (t : Token) → IsTokenOf text t → IsAllowedWord (word_of text t)
token_allowed text t h = record { token = h.spelled; allowed = h.allowed }

pub name_ascii : (bytes : List ℕ) → is_token kind.Name bytes ≡ true → IsAscii bytes
name_ascii bytes h = token_ascii kind.Name bytes h
