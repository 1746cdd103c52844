-- Reading into postfix form, as functions on the leaves that are left and on the operations so far: what the code of this crate says that a call does.
use Rattle.std.specs.Prelude.{◌≡◌, ℕ, zero, suc, Bool, true, false, if◌then◌else◌, List, [], ◌∷◌, ◌++◌, length, Option, Some, None, Result, Ok, Err}
use Rattle.c_words.specs.declared.word.Word.{Word}
use Rattle.c_words.specs.declared.word.Leaf.{Leaf}
use Rattle.c_words.specs.declared.fault.ParseFault.{ParseFault}
use Rattle.c_words.specs.declared.fault.ParseFault.TheVariants as fault
use Rattle.c_words.specs.Words.{same}
use Rattle.c_words.specs.Parsing as parsing
use Rattle.c_words.specs.Parsing.{Leaves, Outcome, Parser, word_at}
use Rattle.acsl_postfix.specs.declared.operation.Operation.{Operation}

pub record State : Type 0 where
  pub operations : List Operation
  pub leaves : Leaves

abbrev pub before : Leaves → State
before ts = record { operations = []; leaves = ts }

abbrev pub Coded : Type 0 → Type 0
Coded A = Option (A × State)

abbrev pub Coder : Type 0 → Type 0
Coder A = State → Coded A

abbrev pub and_then : {A B : Type 0} → Coded A → (A → Coder B) → Coded B
and_then (Some p) f = f p.0 p.1
and_then None f = None

infixl 10 ◌>>=◌
abbrev pub ◌>>=◌ : {A B : Type 0} → Coder A → (A → Coder B) → Coder B
p >>= f = λ s. and_then (p s) f

infixl 10 ◌>>◌
abbrev pub ◌>>◌ : {A B : Type 0} → Coder A → Coder B → Coder B
p >> q = p >>= (λ _. q)

abbrev pub pure : {A : Type 0} → A → Coder A
pure a = λ s. Some (a, s)

abbrev pub refuse : {A : Type 0} → Coder A
refuse = λ s. None

abbrev pub Done : Type 0
Done = Coder (Unit {0})

-- what a parser's outcome comes to, where this is made of the tree, and the tree's operations stand after those before it
abbrev pub coded : {A S : Type 0} → (A → S) → (A → List Operation → List Operation) → List Operation → Outcome A → Coded S
coded made onto ops None = None
coded made onto ops (Some p) = Some (made p.0, record { operations = onto p.0 ops; leaves = p.1 })

-- a parser that adds no operation
unfoldable pub lifted : {A : Type 0} → Parser A → Coder A
lifted p s = coded (λ a. a) (λ a ops. ops) s.operations (p s.leaves)

abbrev pub expect : Word → Coder Leaf
expect word = lifted (parsing.expect word)

abbrev pub take_if : (Word → Bool) → Coder Leaf
take_if test = lifted (parsing.take_if test)

unfoldable pub emit : Operation → Done
emit op s = Some (tt, record { operations = s.operations ++ op ∷ []; leaves = s.leaves })

abbrev pub word_of : State → Word
word_of s = word_at s.leaves

abbrev pub is_next : Word → State → Bool
is_next word s = same word (word_of s)

abbrev pub left : State → ℕ
left s = length s.leaves

abbrev pub nests : ℕ → Bool
nests zero = false
nests (suc n) = true

-- steps one after another, as long as the next word passes the test; each takes a leaf, so the count of leaves bounds them
module _ (test : Word → Bool) (step : Done) where
  unfoldable pub repeated_from : ℕ → Done
  repeated_from zero = pure tt
  repeated_from (suc n) = λ s. (if test (word_of s) then (step >> repeated_from n) else pure tt) s

  unfoldable pub repeated : Done
  repeated = λ s. repeated_from (left s) s

-- what a function that reads ensures: the coder's outcome, unless memory fails
abbrev pub Codes : {A : Type 0} → Coded A → Result A ParseFault → State → Type 0
Codes outcome (Ok a) new = outcome ≡ Some (a, new)
Codes outcome (Err (fault.Syntax place)) new = outcome ≡ None
Codes outcome (Err fault.Memory) new = Unit {0}
