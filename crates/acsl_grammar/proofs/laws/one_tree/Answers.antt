use Rattle.std.proofs.Common.{◌≡◌, ℕ, List, [], Some, sym, ◌∙◌, refl}
use Rattle.c_words.specs.declared.word.Leaf.{Leaf}
use Rattle.c_words.specs.Parsing.{Outcome, word_at}
use Rattle.c_words.proofs.Reading.{same_pair}
use Rattle.acsl_grammar.specs.Trees.{Term, Predicate, inside_at, writes_at}
use Rattle.acsl_grammar.specs.TermReading.{Either, ATerm, NoTerm, inner_at, any}
use Rattle.acsl_grammar.specs.Exactness.{IsPredicateOf, IsTermOf}
use Rattle.acsl_grammar.proofs.PredicateSound.{sound_at, any-Sound}
use Rattle.acsl_grammar.proofs.PredicateComplete.{complete_at, any-Complete}
use Rattle.acsl_grammar.proofs.laws.one_tree.Goals as goal

predicate_gives : (n : ℕ) (ts : List Leaf) (p : Predicate (inside_at n)) → IsPredicateOf n ts p → any (inner_at n) ts ≡ Some (NoTerm p, [])
unfolding word_at
predicate_gives n ts p h =
    let k = complete_at n in
    (any-Complete (writes_at n) (inner_at n) k.any k.factor k.literal k.implication k.location k.name k.name_begins).gives ts (NoTerm p) [] h (record { ends = refl })

term_gives : (n : ℕ) (ts : List Leaf) (t : Term (inside_at n)) → IsTermOf n ts t → any (inner_at n) ts ≡ Some (ATerm t, [])
unfolding word_at
term_gives n ts t h =
    let k = complete_at n in
    (any-Complete (writes_at n) (inner_at n) k.any k.factor k.literal k.implication k.location k.name k.name_begins).gives ts (ATerm t) [] h (record { ends = refl })

read_once : {T P : Type 0} (o : Outcome (Either T P)) (a b : Either T P) → o ≡ Some (a, []) → o ≡ Some (b, []) → a ≡ b
read_once o a b e f = (same_pair (sym e ∙ f)).0

pub returns : goal.returns
returns c =
    record {
      predicates = predicate_gives;
      terms = term_gives;
      predicates_read = λ n ts p h. let k = sound_at n in (any-Sound (writes_at n) (inner_at n) k.any k.factor k.literal k.implication k.location k.name).takes ts (NoTerm p) [] h;
      terms_read = λ n ts t h. let k = sound_at n in (any-Sound (writes_at n) (inner_at n) k.any k.factor k.literal k.implication k.location k.name).takes ts (ATerm t) [] h;
      one_predicate = λ n ts p q h i. let e = read_once _ _ _ (predicate_gives n ts p h) (predicate_gives n ts q i) in cc;
      one_term = λ n ts t u h i. let e = read_once _ _ _ (term_gives n ts t h) (term_gives n ts u i) in cc;
      not_both = λ n ts p t h i. let e = read_once _ _ _ (predicate_gives n ts p h) (term_gives n ts t i) in cc;
    }
