-- Tokens have one tree at most, and reading finds it.
use Rattle.std.specs.Prelude.{◌≡◌, ℕ, List, [], Some}
use Rattle.c_words.specs.declared.word.Leaf.{Leaf}
use Rattle.c_words.specs.Written.{Takes}
use Rattle.acsl_grammar.specs.Trees.{Predicate, Term, inside_at, writes_at, predicate, term}
use Rattle.acsl_grammar.specs.TermReading.{ATerm, NoTerm, inner_at, any}

-- the tokens are those that a predicate writes which nests at most n deep
abbrev pub IsPredicateOf : (n : ℕ) → List Leaf → Predicate (inside_at n) → Type 0
IsPredicateOf n ts p = Takes 1 ts (predicate (writes_at n) p) []

abbrev pub IsTermOf : (n : ℕ) → List Leaf → Term (inside_at n) → Type 0
IsTermOf n ts t = Takes 1 ts (term (writes_at n) t) []

pub record OneTree : Type 0 where
  pub predicates : (n : ℕ) (ts : List Leaf) (p : Predicate (inside_at n)) → IsPredicateOf n ts p → any (inner_at n) ts ≡ Some (NoTerm p, [])
  pub terms : (n : ℕ) (ts : List Leaf) (t : Term (inside_at n)) → IsTermOf n ts t → any (inner_at n) ts ≡ Some (ATerm t, [])
  pub predicates_read : (n : ℕ) (ts : List Leaf) (p : Predicate (inside_at n)) → any (inner_at n) ts ≡ Some (NoTerm p, []) → IsPredicateOf n ts p
  pub terms_read : (n : ℕ) (ts : List Leaf) (t : Term (inside_at n)) → any (inner_at n) ts ≡ Some (ATerm t, []) → IsTermOf n ts t
  -- so there is one at most
  pub one_predicate : (n : ℕ) (ts : List Leaf) (p q : Predicate (inside_at n)) → IsPredicateOf n ts p → IsPredicateOf n ts q → p ≡ q
  pub one_term : (n : ℕ) (ts : List Leaf) (t u : Term (inside_at n)) → IsTermOf n ts t → IsTermOf n ts u → t ≡ u
  pub not_both : (n : ℕ) (ts : List Leaf) (p : Predicate (inside_at n)) (t : Term (inside_at n)) → IsPredicateOf n ts p → IsTermOf n ts t → ⊥
