-- Punctuators at the front of a text.
use Rattle.std.proofs.Common.{◌≡◌, ℕ, true, List, [], ◌∷◌, ◌++◌, refl, arith}
use Rattle.std.specs.Prelude.{codes}
use Rattle.c_lexer.specs.declared.token.TokenKind.TheVariants as kind
use Rattle.c_lexer.specs.FirstForm.Tokens.{is_allowed, IsLongest}
use Rattle.c_lexer.proofs.TokenLemmas.{lead, mark as mark_lead}
use Rattle.c_lexer.proofs.FrontLemmas.{is_single, single_stands, opening_stands, closing_stands}
use Rattle.c_parser.specs.FirstForm.Spelling.{Word, mark}
use Rattle.weave_cli.proofs.FirstForm.Lexing.{Lexes, take_token}

single_longest : (c : ℕ) (rest : List ℕ) → lead c ≡ mark_lead → is_single c ≡ true → IsLongest (c ∷ rest) kind.Punctuation 1
single_longest c rest e h = (single_stands (c ∷ rest) (omega arith) e h).0

pub take_mark : {rest : List ℕ} {words : List Word} (c : ℕ) → lead c ≡ mark_lead → is_single c ≡ true → Lexes rest words → Lexes (c ∷ rest) (mark (c ∷ []) ∷ words)
unfolding is_allowed
take_mark {rest = rest} c e h l = take_token kind.Punctuation (c ∷ []) (single_longest c rest e h) refl l

opening_longest : (rest : List ℕ) → IsLongest (codes "/*@" ++ rest) kind.Punctuation 3
unfolding lead
opening_longest rest = (opening_stands (codes "/*@" ++ rest) (omega arith) refl refl).0

pub take_opening : {rest : List ℕ} {words : List Word} → Lexes rest words → Lexes (codes "/*@" ++ rest) (mark (codes "/*@") ∷ words)
unfolding is_allowed
take_opening {rest = rest} l = take_token kind.Punctuation (codes "/*@") (opening_longest rest) refl l

closing_longest : (rest : List ℕ) → IsLongest (codes "*/" ++ rest) kind.Punctuation 2
unfolding lead
closing_longest rest = (closing_stands (codes "*/" ++ rest) (omega arith) refl refl).0

pub take_closing : {rest : List ℕ} {words : List Word} → Lexes rest words → Lexes (codes "*/" ++ rest) (mark (codes "*/") ∷ words)
unfolding is_allowed
take_closing {rest = rest} l = take_token kind.Punctuation (codes "*/") (closing_longest rest) refl l
