-- What stands at the front of a text of the first form, and how far it reaches.
use Rattle.std.specs.Prelude.{◌≡◌, ℕ, ◌<◌, ◌≤◌, true, List, [], ◌∷◌, length, take, drop}
use Rattle.c_lexer.specs.declared.token.Token.{Token}
use Rattle.c_lexer.specs.declared.position.Position.{Position}
use Rattle.c_lexer.specs.declared.first_form.front.Front.{Front}
use Rattle.c_lexer.specs.declared.first_form.front.Front.TheVariants as front
use Rattle.c_lexer.specs.Bytes.{is_blank}
use Rattle.c_lexer.specs.FirstForm.Tokens.{IsLongest, is_allowed, Tokens}

-- a blank, a token that may stand, or what no text of the form begins with
abbrev pub Stands : List ℕ → Front → Type 0
Stands text front.End = text ≡ []
Stands text (front.Blank c) = (is_blank c ≡ true) × (text ≡ c ∷ drop 1 text)
Stands text (front.Token kind n) = IsLongest text kind n × (is_allowed kind (take n text) ≡ true)
Stands text front.Other = (p : Position) (tokens : List Token) → Tokens p text tokens → ⊥

abbrev pub Reaches : List ℕ → Front → Type 0
Reaches text (front.Blank c) = 0 < length text
Reaches text (front.Token kind n) = (0 < n) × (n ≤ length text)
Reaches text _ = Unit {0}
