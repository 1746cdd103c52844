-- Parts of a levelled tree over a text, within a nesting limit.
use Rattle.std.proofs.Common.{◌≡◌, ℕ, suc, ◌≤◌, max, Bool, true, ◌&&◌, List, ◌++◌, refl, subst, arith}
use Rattle.std.specs.List.{AllByRecursion}
use Rattle.c_words.specs.declared.word.Word.{Word}
use Rattle.c_words.specs.declared.word.Leaf.{Leaf}
use Rattle.c_words.specs.Written.{Written, ◌then◌, one_of, nested, only}
use Rattle.step_meaning.proofs.Ranges.{left_of_and, right_of_and}
use Rattle.typing_laws.proofs.EachOf.{each_first, each_last}
use Rattle.reading_laws.proofs.ReadLeaves.{IsRead, AreRead}

-- the leaves are those of the text, each has the word that its alternative names, and it nests at most so deep
pub record Reads (text : List ℕ) (n : ℕ) (a : Written) : Type 0 where
  pub leaves : AreRead text a.leaves
  pub levelled : a.levelled ≡ true
  pub nesting : a.nesting ≤ n

module _ {text : List ℕ} {n : ℕ} where
  pub before : (a b : Written) → Reads text n (a then b) → Reads text n a
  unfolding ◌then◌
  before a b h = record { leaves = each_first (IsRead text) a.leaves b.leaves h.leaves; levelled = left_of_and a.levelled b.levelled h.levelled; nesting = let m : max a.nesting b.nesting ≤ n = h.nesting in omega arith }

  pub after : (a b : Written) → Reads text n (a then b) → Reads text n b
  unfolding ◌then◌
  after a b h = record { leaves = each_last (IsRead text) a.leaves b.leaves h.leaves; levelled = right_of_and a.levelled b.levelled h.levelled; nesting = let m : max a.nesting b.nesting ≤ n = h.nesting in omega arith }

  pub inner : (a : Written) → Reads text n (nested a) → Reads text a.nesting a
  unfolding nested
  inner a h = record { leaves = h.leaves; levelled = h.levelled; nesting = omega arith }

  pub deeper : (a : Written) → Reads text n (nested a) → suc a.nesting ≤ n
  unfolding nested
  deeper a h = h.nesting

  pub leaf : (test : Word → Bool) (t : Leaf) → Reads text n (one_of test t) → IsRead text t
  unfolding one_of
  leaf test t h = h.leaves.0

  pub worded : (test : Word → Bool) (t : Leaf) → Reads text n (one_of test t) → test t.word ≡ true
  unfolding one_of
  worded test t h = h.levelled

  pub holds : (b : Bool) → Reads text n (only b) → b ≡ true
  unfolding only
  holds b h = h.levelled
