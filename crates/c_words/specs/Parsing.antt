-- Parsers as functions on lists of leaves: what the contracts of the reading crates say that a call reads. That of a whole program names none of them.
use Rattle.std.specs.Prelude.{◌≡◌, ℕ, zero, suc, Bool, true, false, not, ◌&&◌, if◌then◌else◌, List, [], ◌∷◌, ◌++◌, length, Option, Some, None, Result, Ok, Err}
use Rattle.c_lexer.specs.declared.token.Refusal.{Refusal}
use Rattle.c_words.specs.declared.word.Word.{Word}
use Rattle.c_words.specs.declared.word.Word.TheVariants as w
use Rattle.c_words.specs.declared.word.Leaf.{Leaf}
use Rattle.c_words.specs.declared.chain.Chain.{Chain}
use Rattle.c_words.specs.declared.chain.Link.{Link}
use Rattle.c_words.specs.declared.fault.ParseFault.{ParseFault}
use Rattle.c_words.specs.declared.fault.ParseFault.TheVariants as fault
use Rattle.c_words.specs.Words.{same}

abbrev pub Leaves : Type 0
Leaves = List Leaf

abbrev pub Outcome : Type 0 → Type 0
Outcome A = Option (A × Leaves)

abbrev pub Parser : Type 0 → Type 0
Parser A = Leaves → Outcome A

abbrev pub and_then : {A B : Type 0} → Outcome A → (A → Parser B) → Outcome B
and_then (Some p) f = f p.0 p.1
and_then None f = None

infixl 10 ◌>>=◌
abbrev pub ◌>>=◌ : {A B : Type 0} → Parser A → (A → Parser B) → Parser B
p >>= f = λ ts. and_then (p ts) f

infixl 10 ◌>>◌
abbrev pub ◌>>◌ : {A B : Type 0} → Parser A → Parser B → Parser B
p >> q = p >>= (λ _. q)

abbrev pub pure : {A : Type 0} → A → Parser A
pure a = λ ts. Some (a, ts)

infixr 11 ◌<$>◌
abbrev pub ◌<$>◌ : {A B : Type 0} → (A → B) → Parser A → Parser B
f <$> p = p >>= (λ x. pure (f x))

abbrev pub refuse : {A : Type 0} → Parser A
refuse = λ ts. None

unfoldable pub word_at : Leaves → Word
word_at [] = w.End
word_at (t ∷ ts) = t.word

unfoldable pub after : Leaves → Leaves
after [] = []
after (t ∷ ts) = ts

abbrev pub peek : Parser Word
peek = λ ts. Some (word_at ts, ts)

abbrev pub peek_second : Parser Word
peek_second = λ ts. Some (word_at (after ts), ts)

-- takes a leaf whose word passes the test
unfoldable pub take_if : (Word → Bool) → Parser Leaf
take_if test [] = None
take_if test (t ∷ ts) = if test t.word then Some (t, ts) else None

abbrev pub expect : Word → Parser Leaf
expect word = take_if (same word)

-- a leaf that may be left out
unfoldable pub optional_at : Word → Parser (Option Leaf)
optional_at word = do
  next ← peek
  if same word next then Some <$> expect word else pure None

-- ---- parts one after another, as long as the next word can begin one.
-- The number bounds the turns; each turn takes a leaf, so the count of leaves is enough.

module _ {A : Type 0} (begins : Word → Bool) (part : Parser A) where
  unfoldable pub run_from : ℕ → List A → Parser (List A)
  run_from zero found = pure found
  run_from (suc n) found = do
    word ← peek
    if begins word then (do x ← part; run_from n (found ++ x ∷ [])) else pure found

  unfoldable pub run_at : Parser (List A)
  run_at = λ ts. run_from (length ts) [] ts

-- ---- operands with operators between them, as long as the test of what is left holds

module _ {A : Type 0} (more : Leaves → Bool) (is_operator : Word → Bool) (operand : Parser A) where
  unfoldable pub links_from : ℕ → List (Link A) → Parser (List (Link A))
  links_from zero found = pure found
  links_from (suc n) found = λ ts.
      (if more ts then (do t ← take_if is_operator; x ← operand; links_from n (found ++ record { operator = t; operand = x } ∷ [])) else pure found) ts

  unfoldable pub chain_by : Parser (Chain A)
  chain_by = do
    first ← operand
    rest ← (λ ts. links_from (length ts) [] ts)
    pure (record { first = first; rest = rest })

abbrev pub next_is : (Word → Bool) → Leaves → Bool
next_is test ts = test (word_at ts)

abbrev pub chain_at : {A : Type 0} → (Word → Bool) → Parser A → Parser (Chain A)
chain_at is_operator operand = chain_by (next_is is_operator) is_operator operand

-- ---- what a function that parses ensures: the parser's outcome, unless memory fails

abbrev pub Reads : {A : Type 0} → Outcome A → Result A ParseFault → Leaves → Type 0
Reads outcome (Ok a) new = outcome ≡ Some (a, new)
Reads outcome (Err (fault.Syntax place)) new = outcome ≡ None
Reads outcome (Err fault.Memory) new = Unit {0}

abbrev pub IsSyntax : {A : Type 0} → Result A ParseFault → Type 0
IsSyntax (Ok a) = ⊥
IsSyntax (Err (fault.Syntax place)) = Unit {0}
IsSyntax (Err fault.Memory) = ⊥

-- the number of a fault, and its place; want of memory has none
abbrev pub refusal_of : ParseFault → Option Refusal
refusal_of (fault.Syntax at) = Some (record { code = 111; place = at })
refusal_of fault.Memory = None
