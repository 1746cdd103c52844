-- Predicates: what is written is read.
use Rattle.std.proofs.Common.{◌≡◌, ℕ, zero, suc, ◌≤◌, Bool, true, false, ◌&&◌, List, [], ◌∷◌, ◌++◌, length, Some, refl, sym, ap, subst, ◌∙◌, append_assoc, append-nil, arith}
use Rattle.std.specs.Prelude.{not, cond}
use Rattle.c_words.specs.declared.word.Word.TheVariants as w
use Rattle.c_words.specs.declared.word.Leaf.{Leaf}
use Rattle.c_words.specs.declared.chain.Chain.{Chain}
use Rattle.c_words.specs.declared.chain.Link.{Link}
use Rattle.c_words.specs.Words.{same}
use Rattle.c_words.specs.OperatorWords.{is_comma}
use Rattle.c_words.specs.Written.{nothing, ◌then◌, one, one_of, only, links, chain, Takes}
use Rattle.c_words.specs.Parsing.{Leaves, Outcome, word_at, after}
use Rattle.c_words.proofs.Taking.{then-Takes, nothing-Takes, one-Takes}
use Rattle.c_words.proofs.Reading.{gives_bind, choose, refuse_test, Complete, Ends, take_if-gives, take_if-word, after-one, at_one, word_is, first_of_neither, second_of_neither}
use Rattle.c_words.proofs.Chains.{chain-Complete}
use Rattle.acsl_grammar.specs.Vocabulary.{is_name, is_truth, is_validity, is_event, is_comparison, is_one_way}
use Rattle.acsl_grammar.specs.Trees as trees
use Rattle.acsl_grammar.specs.Trees.{Inside, Factor, Term, Location, Group, InParens, Literal, Not, Grouped, Truth, Relations, Valid, Separated, Event, Disjunction, Implication, Plain, Implies, Predicate, Writes, inside_at, writes_at, operator_words}
use Rattle.acsl_grammar.specs.TermReading as read
use Rattle.acsl_grammar.specs.TermReading.{Either, ATerm, NoTerm, Enclosed, EnclosedPredicate, EnclosedRange, Inner, LiteralStart, StartsNot, StartsTruth, StartsValid, StartsSeparated, StartsEvent, StartsTerm, literal_start, start_at, Way, way_of, way_after, leads, a_term, a_predicate, inner_at}
use Rattle.acsl_grammar.proofs.EitherLaws.{either, a_term-Complete, a_predicate-Complete, predicates-Complete}
use Rattle.acsl_grammar.proofs.WordLaws.{truth_no_event, validity_no_event, truth_literal, validity_literal, name_no_paren, goes_on_factor, goes_on_term, goes_on_literal, goes_on_conjunction, goes_on_disjunction, goes_on_implication, goes_on_any, comparison_apart, comma_apart, and_apart, or_apart, equivalent_apart, leads_all, leads_one_way, no_lead}
use Rattle.acsl_grammar.proofs.TermSound.{enclosed, retested}
use Rattle.acsl_grammar.proofs.TermComplete.{links_end, links_fit, started, factor-Complete, term-Complete, a_term-of-Complete, term_start_at, location-Complete}

first_of_both : (a b : Bool) → (a && b) ≡ true → a ≡ true
first_of_both true b h = refl
first_of_both false b h = h

second_of_both : (a b : Bool) → (a && b) ≡ true → b ≡ true
second_of_both true b h = h
second_of_both false b h = cc

-- a condition takes nothing
pub only-Takes : (b : Bool) {ts rest : Leaves} → Takes 1 ts (only b) rest → (ts ≡ rest) × (b ≡ true)
unfolding only nothing
only-Takes b h = (h.spelled, h.levelled)

module _ {i : Inside} (x : Writes i) (inner : Inner i) (any_complete : Complete 1 inner.any (either x.term x.predicate) goes_on_any) (factor_complete : Complete 1 inner.factor x.factor goes_on_factor)
    (literal_complete : Complete 1 inner.literal x.literal goes_on_literal) (implication_complete : Complete 1 inner.implication x.implication goes_on_implication)
    (location_complete : Complete 1 inner.location x.location goes_on_term) (name_complete : Complete 1 inner.name x.name (λ y. false))
    (name_begins : (ts : Leaves) (n : i.Names) (rest : Leaves) → Takes 1 ts (x.name n) rest → is_name (word_at ts) ≡ true) where
  abbrev term_gives : Complete 1 (read.term inner) (either (trees.term x) (enclosed x)) goes_on_term
  term_gives = term-Complete x inner any_complete factor_complete

  -- ---- relations

  relation_ends : (ls : List (Link (Term i))) (ts rest : Leaves) → Takes 1 ts (links is_comparison (trees.term x) ls) rest → Ends goes_on_term rest → Ends goes_on_term ts
  relation_ends = links_end is_comparison (trees.term x) goes_on_term comparison_apart

  relations_from-gives : (ls : List (Link (Term i))) (n : ℕ) → length ls ≤ n → (way : Way) (found : List (Link (Term i))) (ts rest : Leaves) → Takes 1 ts (links is_comparison (trees.term x) ls) rest
      → leads_all way (operator_words ls) ≡ true → Ends goes_on_literal rest → read.relations_from inner way n found ts ≡ Some (found ++ ls, rest)
  unfolding read.relations_from links word_at
  relations_from-gives [] zero le way found ts rest h one end = rw (append-nil found, nothing-Takes h) refl
  relations_from-gives [] (suc n) le way found ts rest h one end =
      rw (append-nil found, nothing-Takes h) (refuse_test (leads way (word_at rest)) _ _ rest (no_lead way (word_at rest) (first_of_neither _ _ end.ends)))
  relations_from-gives (l ∷ ls) zero le way found ts rest h one end = absurd (omega arith)
  relations_from-gives (l ∷ ls) (suc n) le way found ts rest h one end =
      let s = then-Takes h in
      let t = then-Takes s.second in
      let leading = first_of_both (leads way l.operator.word) (leads_all (way_after way l.operator.word) (operator_words ls)) one in
      let operator = retested is_comparison (leads way) l.operator ts s.mid leading s.first in
      let ih = relations_from-gives ls n (omega arith) (way_after way l.operator.word) (found ++ l ∷ []) t.mid rest t.second
      (second_of_both (leads way l.operator.word) (leads_all (way_after way l.operator.word) (operator_words ls)) one) end in
      let ends = relation_ends ls t.mid rest t.second (record { ends = second_of_neither _ _ end.ends }) in
      choose (leads way (word_at ts)) _ _ ts (take_if-word (leads way) l.operator operator)
      ∙ gives_bind _ (take_if-gives (leads way) l.operator operator)
      (gives_bind _ ((a_term-of-Complete x inner any_complete factor_complete).gives s.mid l.operand t.mid t.first ends) ih)
      ∙ ap (λ all. Some (all, rest)) (append_assoc found (l ∷ []) ls)

  relations-gives : (ts : Leaves) (t : Term i) (o : Leaf) (c : Chain (Term i)) (mid rest : Leaves) → is_one_way o.word (operator_words c.rest) ≡ true
      → Takes 1 mid (one_of is_comparison o then chain is_comparison (trees.term x) c) rest → Ends goes_on_literal rest → read.relations inner t mid ≡ Some (Relations t o c, rest)
  unfolding read.relations chain
  relations-gives ts t o c mid rest one h end =
      let s = then-Takes h in
      let u = then-Takes s.second in
      let way = leads_one_way o.word (operator_words c.rest) (one-Takes is_comparison o s.first).1 ∙ one in
      let fit = links_fit is_comparison (trees.term x) c.rest u.mid rest u.second in
      gives_bind _ (take_if-gives is_comparison o s.first)
      (gives_bind _ ((a_term-of-Complete x inner any_complete factor_complete).gives s.mid c.first u.mid u.first (relation_ends c.rest u.mid rest u.second (record { ends = second_of_neither _ _ end.ends })))
      (gives_bind _ (relations_from-gives c.rest (length u.mid) (omega (arith, fit)) (way_of o.word) [] u.mid rest u.second way end) refl))

  -- ---- literals

  by_start : (start : LiteralStart) (ts : Leaves) {r : Outcome (Either (Term i) (Literal i))} → start_at ts ≡ start → read.literal_by inner start ts ≡ r → read.literal inner ts ≡ r
  unfolding read.literal
  by_start start ts e h = ap (λ s. read.literal_by inner s ts) e ∙ h

  event_start : (ts : Leaves) (e l : Leaf) (n : i.Names) (r : Leaf) (rest : Leaves) → Takes 1 ts (trees.literal x (Event e l n r)) rest → start_at ts ≡ StartsEvent
  event_start ts e l n r rest h =
      let s = then-Takes h in
      let t = then-Takes s.second in
      let u = then-Takes t.second in
      let second = after-one is_event e s.first in
      let third = ap after second ∙ after-one (same w.LeftParen) l t.first in
      let opens = ap (λ us. same w.LeftParen (word_at us)) second ∙ take_if-word (same w.LeftParen) l t.first in
      let open_still = ap (λ us. same w.RightParen (word_at us)) third ∙ name_no_paren (word_at t.mid) (name_begins t.mid n u.mid u.first) in
      ap (λ b. cond (b && (same w.LeftParen (word_at (after ts)) && not (same w.RightParen (word_at (after (after ts)))))) StartsEvent (literal_start (word_at ts))) (take_if-word is_event e s.first)
      ∙ ap (λ b. cond (b && not (same w.RightParen (word_at (after (after ts))))) StartsEvent (literal_start (word_at ts))) opens
      ∙ ap (λ b. cond (not b) StartsEvent (literal_start (word_at ts))) open_still

  after_term : (ts : Leaves) (e : Either (Term i) (Enclosed i)) {mid rest : Leaves} (a : Either (Term i) (Literal i)) → start_at ts ≡ StartsTerm → read.term inner ts ≡ Some (e, mid)
      → read.related inner e mid ≡ Some (a, rest) → read.literal inner ts ≡ Some (a, rest)
  after_term ts e a start h k = by_start StartsTerm ts start (gives_bind (read.related inner) h k)

  literal-gives : (ts : Leaves) (a : Either (Term i) (Literal i)) (rest : Leaves) → Takes 1 ts (either (trees.term x) (trees.literal x) a) rest → Ends goes_on_literal rest
      → read.literal inner ts ≡ Some (a, rest)
  unfolding read.negation read.validity read.separation read.event
  literal-gives ts (ATerm t) rest h end =
      let ends : Ends goes_on_term rest = record { ends = second_of_neither _ _ end.ends } in
      after_term ts (ATerm t) (ATerm t) (term_start_at x inner any_complete factor_complete ts t rest h ends) (term_gives.gives ts (ATerm t) rest h ends)
      (refuse_test (is_comparison (word_at rest)) _ _ rest (first_of_neither _ _ end.ends))
  literal-gives ts (NoTerm (Not t l)) rest h end =
      let s = then-Takes h in
      let o = word_is w.Exclamation t s.first in
      by_start StartsNot ts (started ts StartsNot (ap is_event o) (ap literal_start o))
      (gives_bind _ (gives_bind _ (take_if-gives (same w.Exclamation) t s.first) (gives_bind _ (literal_complete.gives s.mid l rest s.second end) refl)) refl)
  literal-gives ts (NoTerm (Grouped (InParens l p r))) rest h end =
      let ends : Ends goes_on_term rest = record { ends = second_of_neither _ _ end.ends } in
      let g : Group i = InParens l p r in
      let o = word_is w.LeftParen l (then-Takes h).first in
      after_term ts (NoTerm (EnclosedPredicate g)) (NoTerm (Grouped g)) (started ts StartsTerm (ap is_event o) (ap literal_start o)) (term_gives.gives ts (NoTerm (EnclosedPredicate g)) rest h ends) refl
  literal-gives ts (NoTerm (Truth t)) rest h end =
      let o = take_if-word is_truth t h in
      by_start StartsTruth ts (started ts StartsTruth (truth_no_event (word_at ts) o) (truth_literal (word_at ts) o)) (gives_bind _ (take_if-gives is_truth t h) refl)
  literal-gives ts (NoTerm (Relations t o c)) rest h end =
      let a = then-Takes h in
      let one = only-Takes _ a.first in
      let k : Takes 1 ts (trees.term x t then one_of is_comparison o then chain is_comparison (trees.term x) c) rest =
      subst (λ us. Takes 1 us (trees.term x t then one_of is_comparison o then chain is_comparison (trees.term x) c) rest) (sym one.0) a.second in
      let s = then-Takes k in
      let u = then-Takes s.second in
      let compares = take_if-word is_comparison o u.first in
      let ends : Ends goes_on_term s.mid = record { ends = comparison_apart (word_at s.mid) compares } in
      after_term ts (ATerm t) (NoTerm (Relations t o c)) (term_start_at x inner any_complete factor_complete ts t s.mid s.first ends) (term_gives.gives ts (ATerm t) s.mid s.first ends)
      (choose (is_comparison (word_at s.mid)) _ _ s.mid compares ∙ gives_bind _ (relations-gives ts t o c s.mid rest one.1 s.second end) refl)
  literal-gives ts (NoTerm (Valid v l e r)) rest h end =
      let s = then-Takes h in
      let t = then-Takes s.second in
      let u = then-Takes t.second in
      let o = take_if-word is_validity v s.first in
      by_start StartsValid ts (started ts StartsValid (validity_no_event (word_at ts) o) (validity_literal (word_at ts) o))
      (gives_bind _ (gives_bind _ (take_if-gives is_validity v s.first) (gives_bind _ (take_if-gives (same w.LeftParen) l t.first)
      (gives_bind _ (location_complete.gives t.mid e u.mid u.first (at_one w.RightParen r u.second refl)) (gives_bind _ (take_if-gives (same w.RightParen) r u.second) refl)))) refl)
  literal-gives ts (NoTerm (Separated d l e c es r)) rest h end =
      let s = then-Takes h in
      let t = then-Takes s.second in
      let u = then-Takes t.second in
      let y = then-Takes u.second in
      let z = then-Takes y.second in
      let o = word_is w.SlashSeparated d s.first in
      let more = chain-Complete is_comma inner.location x.location 1 goes_on_term location_complete comma_apart in
      by_start StartsSeparated ts (started ts StartsSeparated (ap is_event o) (ap literal_start o))
      (gives_bind _ (gives_bind _ (take_if-gives (same w.SlashSeparated) d s.first) (gives_bind _ (take_if-gives (same w.LeftParen) l t.first)
      (gives_bind _ (location_complete.gives t.mid e u.mid u.first (at_one w.Comma c y.first refl)) (gives_bind _ (take_if-gives (same w.Comma) c y.first)
      (gives_bind _ (more.gives y.mid es z.mid z.first (at_one w.RightParen r z.second refl)) (gives_bind _ (take_if-gives (same w.RightParen) r z.second) refl)))))) refl)
  literal-gives ts (NoTerm (Event e l n r)) rest h end =
      let s = then-Takes h in
      let t = then-Takes s.second in
      let u = then-Takes t.second in
      by_start StartsEvent ts (event_start ts e l n r rest h)
      (gives_bind _ (gives_bind _ (take_if-gives is_event e s.first) (gives_bind _ (take_if-gives (same w.LeftParen) l t.first)
      (gives_bind _ (name_complete.gives t.mid n u.mid u.first (record { ends = refl })) (gives_bind _ (take_if-gives (same w.RightParen) r u.second) refl)))) refl)

  pub literal-Complete : Complete 1 (read.literal inner) (either (trees.term x) (trees.literal x)) goes_on_literal
  literal-Complete = record { gives = literal-gives }

  -- ---- predicates

  disjunction-Complete : Complete 1 (read.disjunction inner) (either (trees.term x) (trees.disjunction x)) goes_on_disjunction
  unfolding read.disjunction
  disjunction-Complete =
      predicates-Complete _ (trees.term x) (trees.conjunction x) 1 goes_on_conjunction
      (predicates-Complete (read.literal inner) (trees.term x) (trees.literal x) 1 goes_on_literal literal-Complete (same w.AndAnd) and_apart) (same w.OrOr) or_apart

  implication-gives : (ts : Leaves) (a : Either (Term i) (Implication i)) (rest : Leaves) → Takes 1 ts (either (trees.term x) (trees.implication x) a) rest → Ends goes_on_implication rest
      → read.implication inner ts ≡ Some (a, rest)
  unfolding read.implication read.implies
  implication-gives ts (ATerm t) rest h end = gives_bind (read.implied inner) (disjunction-Complete.gives ts (ATerm t) rest h (record { ends = second_of_neither _ _ end.ends })) refl
  implication-gives ts (NoTerm (Plain d)) rest h end =
      gives_bind (read.implied inner) (disjunction-Complete.gives ts (NoTerm d) rest h (record { ends = second_of_neither _ _ end.ends }))
      (refuse_test (same w.Implies (word_at rest)) _ _ rest (first_of_neither _ _ end.ends))
  implication-gives ts (NoTerm (Implies d t n)) rest h end =
      let s = then-Takes h in
      let u = then-Takes s.second in
      gives_bind (read.implied inner) (disjunction-Complete.gives ts (NoTerm d) s.mid s.first (at_one w.Implies t u.first refl))
      (choose (same w.Implies (word_at s.mid)) _ _ s.mid (take_if-word (same w.Implies) t u.first)
      ∙ gives_bind _ (gives_bind _ (take_if-gives (same w.Implies) t u.first) (gives_bind _ (implication_complete.gives u.mid n rest u.second end) refl)) refl)

  pub implication-Complete : Complete 1 (read.implication inner) (either (trees.term x) (trees.implication x)) goes_on_implication
  implication-Complete = record { gives = implication-gives }

  pub any-Complete : Complete 1 (read.any inner) (either (trees.term x) (trees.predicate x)) goes_on_any
  unfolding read.any
  any-Complete = predicates-Complete (read.implication inner) (trees.term x) (trees.implication x) 1 goes_on_implication implication-Complete (same w.Equivalent) equivalent_apart

-- ---- at each depth

pub record CompleteAt (n : ℕ) : Type 0 where
  pub any : Complete 1 (inner_at n).any (either (writes_at n).term (writes_at n).predicate) goes_on_any
  pub factor : Complete 1 (inner_at n).factor (writes_at n).factor goes_on_factor
  pub literal : Complete 1 (inner_at n).literal (writes_at n).literal goes_on_literal
  pub implication : Complete 1 (inner_at n).implication (writes_at n).implication goes_on_implication
  pub location : Complete 1 (inner_at n).location (writes_at n).location goes_on_term
  pub name : Complete 1 (inner_at n).name (writes_at n).name (λ y. false)
  pub name_begins : (ts : Leaves) (m : (inside_at n).Names) (rest : Leaves) → Takes 1 ts ((writes_at n).name m) rest → is_name (word_at ts) ≡ true

pub complete_at : (n : ℕ) → CompleteAt n
unfolding inner_at
complete_at zero =
    record {
      any = record { gives = λ ts a rest h end. nothing_read a };
      factor = record { gives = λ ts a rest h end. absurd a };
      literal = record { gives = λ ts a rest h end. absurd a };
      implication = record { gives = λ ts a rest h end. absurd a };
      location = record { gives = λ ts a rest h end. absurd a };
      name = record { gives = λ ts a rest h end. absurd a };
      name_begins = λ ts m rest h. absurd m;
    }
  where
    nothing_read : {A : Type 0} → Either ⊥ ⊥ → A
    nothing_read (ATerm t) = absurd t
    nothing_read (NoTerm p) = absurd p
complete_at (suc n) =
    let c = complete_at n in
    let x = writes_at n in
    let j = inner_at n in
    record {
      any = any-Complete x j c.any c.factor c.literal c.implication c.location c.name c.name_begins;
      factor = a_term-Complete _ (trees.factor x) (enclosed x) 1 goes_on_factor (factor-Complete x j c.any c.factor);
      literal = a_predicate-Complete _ (trees.term x) (trees.literal x) 1 goes_on_literal (literal-Complete x j c.any c.factor c.literal c.implication c.location c.name c.name_begins);
      implication = a_predicate-Complete _ (trees.term x) (trees.implication x) 1 goes_on_implication (implication-Complete x j c.any c.factor c.literal c.implication c.location c.name c.name_begins);
      location = location-Complete x j c.any c.factor;
      name = record { gives = λ ts a rest h end. take_if-gives is_name a h };
      name_begins = λ ts m rest h. take_if-word is_name m h;
    }
