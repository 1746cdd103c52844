-- Reading gives the postfix form of the one tree that writes the leaves, exactly where there is one.
use Rattle.std.specs.Prelude.{◌≡◌, ℕ, List, [], Some}
use Rattle.c_words.specs.declared.word.Leaf.{Leaf}
use Rattle.acsl_grammar.specs.Trees.{Term, Predicate, inside_at}
use Rattle.acsl_grammar.specs.Exactness.{IsPredicateOf, IsTermOf}
use Rattle.acsl_postfix.specs.declared.operation.Operation.{Operation}
use Rattle.acsl_postfix.specs.declared.sort.Sort.{Sort}
use Rattle.acsl_postfix.specs.declared.sort.Sort.TheVariants as sort
use Rattle.acsl_postfix.specs.Coders.{Coded, before}
use Rattle.acsl_postfix.specs.Readers.{readers_at, any}
use Rattle.acsl_postfix.specs.Forms.{predicate, term, forms_at}

-- all leaves are read, as this sort, into these operations
abbrev pub whole : Sort → List Operation → Coded Sort
whole s ops = Some (s, record { operations = ops; leaves = [] })

pub record FormsAreRead : Type 0 where
  pub predicates : (n : ℕ) (ts : List Leaf) (p : Predicate (inside_at n)) → IsPredicateOf n ts p → any (readers_at n) (before ts) ≡ whole sort.Predicate (predicate (forms_at n) p [])
  pub terms : (n : ℕ) (ts : List Leaf) (t : Term (inside_at n)) → IsTermOf n ts t → any (readers_at n) (before ts) ≡ whole sort.Term (term (forms_at n) t [])
  pub predicates_read : (n : ℕ) (ts : List Leaf) (ops : List Operation) → any (readers_at n) (before ts) ≡ whole sort.Predicate ops
      → (p : Predicate (inside_at n)) × IsPredicateOf n ts p × (ops ≡ predicate (forms_at n) p [])
  pub terms_read : (n : ℕ) (ts : List Leaf) (ops : List Operation) → any (readers_at n) (before ts) ≡ whole sort.Term ops → (t : Term (inside_at n)) × IsTermOf n ts t × (ops ≡ term (forms_at n) t [])
