-- What a part of a tree writes: its leaves, how deep it nests, and whether each leaf has the word that its alternative names.
use Rattle.std.specs.Prelude.{◌≡◌, ℕ, zero, suc, ◌<◌, max, Bool, true, false, ◌&&◌, List, [], ◌∷◌, ◌++◌, Option, Some, None}
use Rattle.c_words.specs.declared.word.Word.{Word}
use Rattle.c_words.specs.declared.word.Leaf.{Leaf}
use Rattle.c_words.specs.declared.chain.Chain.{Chain}
use Rattle.c_words.specs.declared.chain.Link.{Link}
use Rattle.c_words.specs.Words.{same}

pub record Written : Type 0 where
  pub leaves : List Leaf
  pub nesting : ℕ
  pub levelled : Bool

unfoldable pub nothing : Written
nothing = record { leaves = []; nesting = 0; levelled = true }

-- one part and then another, in the same position
infixr 12 ◌then◌
unfoldable pub ◌then◌ : Written → Written → Written
a then b = record { leaves = a.leaves ++ b.leaves; nesting = max a.nesting b.nesting; levelled = a.levelled && b.levelled }

-- a leaf whose word passes the test
unfoldable pub one_of : (Word → Bool) → Leaf → Written
one_of test l = record { leaves = l ∷ []; nesting = 0; levelled = test l.word }

abbrev pub one : Word → Leaf → Written
one word = one_of (same word)

-- what stands in a position that adds one to the nesting
unfoldable pub nested : Written → Written
nested a = record a { nesting = suc a.nesting }

-- nothing, where the condition holds
unfoldable pub only : Bool → Written
only b = record nothing { levelled = b }

unfoldable pub optional : {A : Type 0} → (A → Written) → Option A → Written
optional f None = nothing
optional f (Some a) = f a

-- parts one after another
module _ {A : Type 0} (part : A → Written) where
  unfoldable pub run : List A → Written
  run [] = nothing
  run (x ∷ xs) = part x then run xs

-- operands with operators between them
module _ {A : Type 0} (is_operator : Word → Bool) (operand : A → Written) where
  unfoldable pub links : List (Link A) → Written
  links [] = nothing
  links (l ∷ ls) = one_of is_operator l.operator then operand l.operand then links ls

  unfoldable pub chain : Chain A → Written
  chain c = operand c.first then links c.rest

-- The leaves are those that a writes and then the rest; a is levelled, and nests below k.
pub record Takes (k : ℕ) (leaves : List Leaf) (a : Written) (rest : List Leaf) : Type 0 where
  pub spelled : leaves ≡ a.leaves ++ rest
  pub levelled : a.levelled ≡ true
  pub below : a.nesting < k
