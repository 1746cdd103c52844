-- What is read of all leaves.
use Rattle.std.proofs.Common.{◌≡◌, ℕ, List, [], Some, None, refl, sym, ap, ◌∙◌}
use Rattle.c_words.specs.Parsing.{Leaves, Outcome, word_at}
use Rattle.acsl_grammar.specs.Trees.{Term, Predicate, inside_at, writes_at}
use Rattle.acsl_grammar.specs.TermReading as read
use Rattle.acsl_grammar.specs.TermReading.{Either, ATerm, NoTerm, inner_at}
use Rattle.acsl_grammar.specs.Exactness.{IsPredicateOf, IsTermOf}
use Rattle.acsl_grammar.proofs.PredicateSound.{sound_at, any-Sound}
use Rattle.acsl_grammar.proofs.PredicateComplete.{complete_at, any-Complete}
use Rattle.acsl_postfix.specs.declared.operation.Operation.{Operation}
use Rattle.acsl_postfix.specs.declared.sort.Sort.{Sort}
use Rattle.acsl_postfix.specs.declared.sort.Sort.TheVariants as sort
use Rattle.acsl_postfix.specs.Coders.{State, Coded, coded, before}
use Rattle.acsl_postfix.specs.Readers.{readers_at, any}
use Rattle.acsl_postfix.specs.Forms.{Form, predicate, term, forms_at}
use Rattle.acsl_postfix.specs.Exactness.{whole}
use Rattle.acsl_postfix.proofs.Sorts.{sort_by, form_by, a_predicate_sort}
use Rattle.acsl_postfix.proofs.PredicateForms.{inner_agrees, any_agrees}

module _ (n : ℕ) where
  abbrev Found : Type 0
  Found = Either (Term (inside_at n)) (Predicate (inside_at n))

  abbrev form : Found → Form
  form = form_by (term (forms_at n)) (predicate (forms_at n))

  agrees : (ts : Leaves) → any (readers_at n) (before ts) ≡ coded (sort_by a_predicate_sort) form [] (read.any (inner_at n) ts)
  agrees ts = any_agrees (inner_at n) (forms_at n) (readers_at n) (inner_agrees n) [] ts

  gives : (ts : Leaves) (a : Found) → read.any (inner_at n) ts ≡ Some (a, []) → any (readers_at n) (before ts) ≡ whole (sort_by a_predicate_sort a) (form a [])
  gives ts a e = agrees ts ∙ ap (coded (sort_by a_predicate_sort) form []) e

  pub predicate_read : (ts : Leaves) (p : Predicate (inside_at n)) → IsPredicateOf n ts p → any (readers_at n) (before ts) ≡ whole sort.Predicate (predicate (forms_at n) p [])
  unfolding word_at
  predicate_read ts p h =
      let k = complete_at n in
      gives ts (NoTerm p) ((any-Complete (writes_at n) (inner_at n) k.any k.factor k.literal k.implication k.location k.name k.name_begins).gives ts (NoTerm p) [] h (record { ends = refl }))

  pub term_read : (ts : Leaves) (t : Term (inside_at n)) → IsTermOf n ts t → any (readers_at n) (before ts) ≡ whole sort.Term (term (forms_at n) t [])
  unfolding word_at
  term_read ts t h =
      let k = complete_at n in
      gives ts (ATerm t) ((any-Complete (writes_at n) (inner_at n) k.any k.factor k.literal k.implication k.location k.name k.name_begins).gives ts (ATerm t) [] h (record { ends = refl }))

  -- what stands for an outcome with nothing left was read to the end
  found_by : (o : Outcome Found) (s : Sort) (ops : List Operation) → coded (sort_by a_predicate_sort) form [] o ≡ whole s ops → (a : Found) × (o ≡ Some (a, [])) × (sort_by a_predicate_sort a ≡ s) × (ops ≡ form a [])
  found_by None s ops e = cc
  found_by (Some p) s ops e =
      let q = parts e in
      (p.0, ap (λ rest. Some (p.0, rest)) q.2, q.0, sym q.1)
    where
      made : Sort
      made = sort_by a_predicate_sort p.0

      parts : ◌≡◌ {A = Coded Sort} (Some (made, record { operations = form p.0 []; leaves = p.1 })) (Some (s, record { operations = ops; leaves = [] })) → (made ≡ s) × (form p.0 [] ≡ ops) × (p.1 ≡ [])
      parts e =
          let f : ◌≡◌ {A = Sort × State} (made, record { operations = form p.0 []; leaves = p.1 }) (s, record { operations = ops; leaves = [] }) = cc in
          (ap (λ p. p.0) f, ap (λ p. p.1.operations) f, ap (λ p. p.1.leaves) f)

  sound : (ts : Leaves) (a : Found) → read.any (inner_at n) ts ≡ Some (a, []) → (p : Predicate (inside_at n)) → a ≡ NoTerm p → IsPredicateOf n ts p
  sound ts a e p f = let k = sound_at n in (any-Sound (writes_at n) (inner_at n) k.any k.factor k.literal k.implication k.location k.name).takes ts (NoTerm p) [] (e ∙ ap (λ a. Some (a, [])) f)

  sound_term : (ts : Leaves) (a : Found) → read.any (inner_at n) ts ≡ Some (a, []) → (t : Term (inside_at n)) → a ≡ ATerm t → IsTermOf n ts t
  sound_term ts a e t f = let k = sound_at n in (any-Sound (writes_at n) (inner_at n) k.any k.factor k.literal k.implication k.location k.name).takes ts (ATerm t) [] (e ∙ ap (λ a. Some (a, [])) f)

  pub predicate_found : (ts : Leaves) (ops : List Operation) → any (readers_at n) (before ts) ≡ whole sort.Predicate ops → (p : Predicate (inside_at n)) × IsPredicateOf n ts p × (ops ≡ predicate (forms_at n) p [])
  predicate_found ts ops h = let x = found_by (read.any (inner_at n) ts) sort.Predicate ops (sym (agrees ts) ∙ h) in of x.0 x.1 x.2 x.3
    where
      of : (a : Found) → read.any (inner_at n) ts ≡ Some (a, []) → sort_by a_predicate_sort a ≡ sort.Predicate → ops ≡ form a [] → (p : Predicate (inside_at n)) × IsPredicateOf n ts p × (ops ≡ predicate (forms_at n) p [])
      of (ATerm t) e f g = cc
      of (NoTerm p) e f g = (p, sound ts (NoTerm p) e p refl, g)

  pub term_found : (ts : Leaves) (ops : List Operation) → any (readers_at n) (before ts) ≡ whole sort.Term ops → (t : Term (inside_at n)) × IsTermOf n ts t × (ops ≡ term (forms_at n) t [])
  term_found ts ops h = let x = found_by (read.any (inner_at n) ts) sort.Term ops (sym (agrees ts) ∙ h) in of x.0 x.1 x.2 x.3
    where
      of : (a : Found) → read.any (inner_at n) ts ≡ Some (a, []) → sort_by a_predicate_sort a ≡ sort.Term → ops ≡ form a [] → (t : Term (inside_at n)) × IsTermOf n ts t × (ops ≡ term (forms_at n) t [])
      of (ATerm t) e f g = (t, sound_term ts (ATerm t) e t refl, g)
      of (NoTerm p) e f g = cc
