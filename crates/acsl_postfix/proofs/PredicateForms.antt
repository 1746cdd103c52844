-- Relations and predicates: what is read is the form of the tree; and all trees, by the nesting that is left.
use Rattle.std.proofs.Common.{◌≡◌, ℕ, zero, suc, Bool, true, false, cond, List, [], ◌∷◌, ◌++◌, length, Some, None, refl, sym, ap, subst, ◌∙◌}
use Rattle.c_words.specs.declared.word.Word.{Word}
use Rattle.c_words.specs.declared.word.Word.TheVariants as w
use Rattle.c_words.specs.declared.word.Leaf.{Leaf}
use Rattle.c_words.specs.declared.chain.Chain.{Chain}
use Rattle.c_words.specs.declared.chain.Link.{Link}
use Rattle.c_words.specs.Words.{same}
use Rattle.c_words.specs.OperatorWords.{is_comma}
use Rattle.c_words.specs.Parsing as parsing
use Rattle.c_words.specs.Parsing.{Leaves, Outcome, Parser, word_at, after, chain_at, chain_by, links_from, next_is}
use Rattle.c_words.proofs.Reading.{same_pair}
use Rattle.acsl_grammar.specs.Vocabulary.{is_name, is_truth, is_validity, is_event, is_comparison}
use Rattle.acsl_grammar.specs.Trees.{Inside, Term, Literal, Not, Truth, Relations, Valid, Separated, Event, Disjunction, Implication, Plain, Implies}
use Rattle.acsl_grammar.specs.TermReading as read
use Rattle.acsl_grammar.specs.TermReading.{Either, ATerm, NoTerm, Enclosed, EnclosedPredicate, EnclosedRange, LiteralStart, StartsNot, StartsTruth, StartsValid, StartsSeparated, StartsEvent, StartsTerm, start_at, Way, way_of, way_after, leads, a_term, inner_at}
use Rattle.acsl_postfix.specs.declared.operation.Operation.{Operation}
use Rattle.acsl_postfix.specs.declared.operation.Operation.TheVariants as op
use Rattle.acsl_postfix.specs.declared.sort.Sort.{Sort}
use Rattle.acsl_postfix.specs.declared.sort.Sort.TheVariants as sort
use Rattle.acsl_postfix.specs.Coders.{Coded, Coder, Done, and_then, pure, refuse, coded, lifted, emit, take_if, expect, left}
use Rattle.acsl_postfix.specs.Readers as readers
use Rattle.acsl_postfix.specs.Readers.{must_be_term, after_term, after_predicate, as_term, as_predicate, nested, readers_at}
use Rattle.acsl_postfix.specs.Forms as forms
use Rattle.acsl_postfix.specs.Forms.{Form, InnerForms, then_one, relation_links, operand_links, forms_at}
use Rattle.acsl_postfix.proofs.Steps.{at_state, done, Agrees, step, token, where_nested, refused_then, refused_first, bind_assoc, bind_same, coder_assoc}
use Rattle.acsl_postfix.proofs.Sorts.{sort_by, form_by, a_predicate_sort, enclosed_sort, enclosed_form, predicates_are_no_terms, a_predicate_agrees}
use Rattle.acsl_postfix.proofs.ChainForms.{link, link_by, repeated_agrees, predicates_agree}
use Rattle.acsl_postfix.proofs.TermForms.{InnerAgrees, term_agrees, term_form, one_term_agrees, location_agrees, factor_agrees}
use Rattle.acsl_postfix.proofs.Sorts as sorts

-- an operand that stands by itself after a comma
abbrev one_operand : {A : Type 0} → (A → Form) → Link A → Form
one_operand f l ops = f l.operand ops

one_operand_more : {A : Type 0} (f : A → Form) (found : List (Link A)) (l : Link A) (ops : List Operation) → operand_links f (found ++ l ∷ []) ops ≡ one_operand f l (operand_links f found ops)
unfolding operand_links
one_operand_more f [] l ops = refl
one_operand_more f (m ∷ found) l ops = one_operand_more f found l (f m.operand ops)

no_operand_more : {A : Type 0} (f : A → Form) (ops : List Operation) → operand_links f [] ops ≡ ops
unfolding operand_links
no_operand_more f ops = refl

-- the operand on the left of the relation after these
last_of : {A : Type 0} → A → List (Link A) → A
last_of left [] = left
last_of left (l ∷ ls) = last_of l.operand ls

-- one relation more, with its left operand once more
abbrev one_relation : {A : Type 0} → (A → Form) → A → Link A → Form
one_relation f left l ops = then_one (then_one (then_one (f l.operand (then_one (f left ops) (op.Side l.operator))) (op.Side l.operator)) (op.Relation l.operator)) op.Both

one_relation_more : {A : Type 0} (f : A → Form) (left : A) (found : List (Link A)) (l : Link A) (ops : List Operation) → relation_links f left (found ++ l ∷ []) ops ≡ one_relation f (last_of left found) l (relation_links f left found ops)
unfolding relation_links last_of
one_relation_more f left [] l ops = refl
one_relation_more f left (m ∷ found) l ops = one_relation_more f m.operand found l (one_relation f left m ops)

last_more : {A : Type 0} (left : A) (found : List (Link A)) (l : Link A) → last_of left (found ++ l ∷ []) ≡ l.operand
unfolding last_of
last_more left [] l = refl
last_more left (m ∷ found) l = last_more m.operand found l

no_relation_more : {A : Type 0} (f : A → Form) (left : A) (ops : List Operation) → relation_links f left [] ops ≡ ops
unfolding relation_links
no_relation_more f left ops = refl

-- after a token the leaves are those after the first
taken_leaves : (test : Word → Bool) (ts : Leaves) (t : Leaf) (rest : Leaves) → parsing.take_if test ts ≡ Some (t, rest) → after ts ≡ rest
unfolding parsing.take_if after
taken_leaves test [] t rest e = cc
taken_leaves test (u ∷ ts) t rest e = of (test u.word) e
  where
    of : (b : Bool) → cond {A = Outcome Leaf} b (Some (u, ts)) None ≡ Some (t, rest) → ts ≡ rest
    of true e = (same_pair e).1
    of false e = cc

token_agrees : (test : Word → Bool) (ops : List Operation) (ts : Leaves) → take_if test (at_state ops ts) ≡ coded (λ a. a) (λ a o. o) ops (parsing.take_if test ts)
unfolding lifted
token_agrees test ops ts = refl

module _ {i : Inside} (t : read.Inner i) (x : InnerForms i) (inner : readers.Inner) (k : InnerAgrees t x inner) where
  -- ---- relations

  -- the terms at these leaves are this one
  abbrev StandsAt : Term i → Leaves → Type 0
  StandsAt u ts = (mid : Leaves) × (a_term (read.term t) ts ≡ Some (u, mid))

  again_agrees : (u : Term i) (at : Leaves) → StandsAt u at → (ops : List Operation) (ts : Leaves) → readers.again inner at (at_state ops ts) ≡ Some (tt, at_state (forms.term x u ops) ts)
  unfolding readers.again
  again_agrees u at h ops ts =
      ap (λ o. and_then o (λ v s. Some (v, at_state s.operations ts))) (one_term_agrees t x inner k ops at ∙ ap (coded done (forms.term x) ops) h.1)

  compared_agrees : {B T : Type 0} (made : B → T) (onto : B → Form) (whole ops : List Operation) (o : Leaf) (ts : Leaves) (g : Unit {0} → Coder T) (next : Term i → Parser B)
      → ((u : Term i) (rest : Leaves) → a_term (read.term t) ts ≡ Some (u, rest) → g tt (at_state (then_one (then_one (forms.term x u ops) (op.Side o)) (op.Relation o)) rest) ≡ coded made onto whole (next u rest))
      → and_then (readers.compared inner o (at_state ops ts)) g ≡ coded made onto whole (parsing.and_then (a_term (read.term t) ts) next)
  unfolding readers.compared emit
  compared_agrees made onto whole ops o ts g next h =
      coder_assoc (as_term (readers.term inner) (at_state ops ts)) (λ v s. Some (tt, at_state (then_one (then_one s.operations (op.Side o)) (op.Relation o)) s.leaves)) g
      ∙ step done (forms.term x) made onto whole ops (a_term (read.term t) ts) _ _ next (one_term_agrees t x inner k ops ts) h

  -- a turn, where the later turns are known
  relation_turn : (left : Term i) (whole : List Operation) (way : Way) (n : ℕ) (found : List (Link (Term i))) (at ts : Leaves) → StandsAt (last_of left found) at
      → ((way : Way) (found : List (Link (Term i))) (at ts : Leaves) → StandsAt (last_of left found) at
      → readers.relations_from inner way at n (at_state (relation_links (forms.term x) left found whole) ts) ≡ coded done (λ ls ops. relation_links (forms.term x) left ls ops) whole (read.relations_from t way n found ts))
      → (b : Bool)
      → cond {A = Done} b (λ s. and_then (readers.relation_link inner way at s) (λ o. readers.relations_from inner (way_after way o.word) (after ts) n)) (pure tt) (at_state (relation_links (forms.term x) left found whole) ts)
      ≡ coded done (λ ls ops. relation_links (forms.term x) left ls ops) whole
      (cond {A = Parser (List (Link (Term i)))} b (λ ts. parsing.and_then (parsing.take_if (leads way) ts) (λ o mid. parsing.and_then (a_term (read.term t) mid) (λ u. read.relations_from t (way_after way o.word) n (found ++ link o u ∷ [])))) (parsing.pure found) ts)
  unfolding readers.relation_link emit
  relation_turn left whole way n found at ts h later true =
      let ops = relation_links (forms.term x) left found whole in
      let last = last_of left found in
      let onto : List (Link (Term i)) → Form = λ ls ops. relation_links (forms.term x) left ls ops in
      coder_assoc (take_if (leads way) (at_state ops ts)) _ _
      ∙ step (λ a. a) (λ a o. o) done onto whole ops (parsing.take_if (leads way) ts) _ _ _ (token_agrees (leads way) ops ts)
      (λ o mid e. ap (λ c. and_then (and_then c (λ v s. and_then (readers.compared inner o (at_state (then_one s.operations (op.Side o)) s.leaves)) (λ v s. Some (o, at_state (then_one s.operations op.Both) s.leaves)))) (λ o. readers.relations_from inner (way_after way o.word) (after ts) n)) (again_agrees last at h ops mid)
      ∙ coder_assoc (readers.compared inner o (at_state (then_one (forms.term x last ops) (op.Side o)) mid)) _ _
      ∙ compared_agrees done onto whole (then_one (forms.term x last ops) (op.Side o)) o mid _ (λ u. read.relations_from t (way_after way o.word) n (found ++ link o u ∷ []))
      (λ u rest f. ap (λ p. readers.relations_from inner (way_after way o.word) (after ts) n (at_state p rest)) (sym (one_relation_more (forms.term x) left found (link o u) whole))
      ∙ later (way_after way o.word) (found ++ link o u ∷ []) (after ts) rest
      (subst (λ v. StandsAt v (after ts)) (sym (last_more left found (link o u))) (subst (λ m. StandsAt u m) (sym (taken_leaves (leads way) ts o mid e)) (rest, f)))))
  relation_turn left whole way n found at ts h later false = refl

  relations_from_agree : (left : Term i) (whole : List Operation) (way : Way) (n : ℕ) (found : List (Link (Term i))) (at ts : Leaves) → StandsAt (last_of left found) at
      → readers.relations_from inner way at n (at_state (relation_links (forms.term x) left found whole) ts) ≡ coded done (λ ls ops. relation_links (forms.term x) left ls ops) whole (read.relations_from t way n found ts)
  unfolding readers.relations_from read.relations_from
  relations_from_agree left whole way zero found at ts h = refl
  relations_from_agree left whole way (suc n) found at ts h =
      relation_turn left whole way n found at ts h (λ way found at ts h. relations_from_agree left whole way n found at ts h) (leads way (word_at ts))

  -- the sort and the form of what is a term or a literal, and of what has connectives
  abbrev pub literal_form : Either (Term i) (Literal i) → Form
  literal_form = form_by (forms.term x) (forms.literal x)

  abbrev a_literal : Literal i → Either (Term i) (Literal i)
  a_literal l = NoTerm l

  relations_agree : (first : Term i) (ops : List Operation) (ts : Leaves)
      → readers.relations inner (at_state (forms.term x first ops) ts) ≡ coded (sort_by a_predicate_sort) literal_form ops (parsing.and_then (read.relations t first ts) (λ l. parsing.pure (NoTerm l)))
  unfolding readers.relations readers.relation_after readers.relations_rest read.relations emit last_of
  relations_agree first ops ts =
      step (λ a. a) (λ a o. o) (sort_by a_predicate_sort) literal_form ops (forms.term x first ops) (parsing.take_if is_comparison ts) _ _ _ (token_agrees is_comparison (forms.term x first ops) ts)
      (λ o mid e. coder_assoc (readers.compared inner o (at_state (then_one (forms.term x first ops) (op.Side o)) mid)) (λ v. readers.relations_rest inner (way_of o.word) mid) (λ v. pure sort.Predicate)
      ∙ compared_agrees (sort_by a_predicate_sort) literal_form ops (then_one (forms.term x first ops) (op.Side o)) o mid (λ v s. and_then (readers.relations_rest inner (way_of o.word) mid s) (λ v. pure sort.Predicate)) (after_second o)
      (λ u rest f. rest_agrees o mid u rest f))
      ∙ ap (coded (sort_by a_predicate_sort) literal_form ops) (again (parsing.take_if is_comparison ts))
    where
      after_second : Leaf → Term i → Parser (Either (Term i) (Literal i))
      after_second o u rest = parsing.and_then (read.relations_from t (way_of o.word) (length rest) [] rest) (λ ls. parsing.pure (a_literal (Relations first o (record { first = u; rest = ls }))))

      rest_agrees : (o : Leaf) (mid : Leaves) (u : Term i) (rest : Leaves) → a_term (read.term t) mid ≡ Some (u, rest)
          → and_then (readers.relations_from inner (way_of o.word) mid (length rest) (at_state (forms.first_relation x first o u ops) rest)) (λ v. pure sort.Predicate) ≡ coded (sort_by a_predicate_sort) literal_form ops (after_second o u rest)
      rest_agrees o mid u rest f =
          step done (λ ls ops. relation_links (forms.term x) u ls ops) (sort_by a_predicate_sort) literal_form ops (forms.first_relation x first o u ops) (read.relations_from t (way_of o.word) (length rest) [] rest) _ _
          (λ ls. parsing.pure (NoTerm (Relations first o (record { first = u; rest = ls }))))
          (ap (λ p. readers.relations_from inner (way_of o.word) mid (length rest) (at_state p rest)) (sym (no_relation_more (forms.term x) u (forms.first_relation x first o u ops)))
          ∙ relations_from_agree u (forms.first_relation x first o u ops) (way_of o.word) (length rest) [] mid rest (rest, f))
          (λ ls end g. refl)

      last : (o : Leaf) (u : Term i) (c : Outcome (List (Link (Term i))))
          → parsing.and_then c (λ ls. parsing.pure (a_literal (Relations first o (record { first = u; rest = ls }))))
          ≡ parsing.and_then (parsing.and_then c (λ ls. parsing.pure (Relations first o (record { first = u; rest = ls })))) (λ l. parsing.pure (NoTerm l))
      last o u None = refl
      last o u (Some p) = refl

      next : (o : Leaf) (c : Outcome (Term i))
          → parsing.and_then c (after_second o)
          ≡ parsing.and_then (parsing.and_then c (λ u rest. parsing.and_then (read.relations_from t (way_of o.word) (length rest) [] rest) (λ ls. parsing.pure (Relations first o (record { first = u; rest = ls }))))) (λ l. parsing.pure (NoTerm l))
      next o None = refl
      next o (Some p) = last o p.0 (read.relations_from t (way_of o.word) (length p.1) [] p.1)

      again : (c : Outcome Leaf)
          → parsing.and_then c (λ o mid. parsing.and_then (a_term (read.term t) mid) (after_second o))
          ≡ parsing.and_then (parsing.and_then c (λ o mid. parsing.and_then (a_term (read.term t) mid) (λ u rest. parsing.and_then (read.relations_from t (way_of o.word) (length rest) [] rest) (λ ls. parsing.pure (Relations first o (record { first = u; rest = ls }))))))
          (λ l. parsing.pure (NoTerm l))
      again None = refl
      again (Some p) = next p.0 (a_term (read.term t) p.1)

  related_by : (first : Term i) (ops : List Operation) (ts : Leaves) (b : Bool)
      → cond {A = Coder Sort} b (readers.relations inner) (pure sort.Term) (at_state (forms.term x first ops) ts)
      ≡ coded (sort_by a_predicate_sort) literal_form ops (cond {A = Parser (Either (Term i) (Literal i))} b (λ ts. parsing.and_then (read.relations t first ts) (λ l. parsing.pure (NoTerm l))) (parsing.pure (ATerm first)) ts)
  related_by first ops ts true = relations_agree first ops ts
  related_by first ops ts false = refl

  related_agrees : (a : Either (Term i) (Enclosed i)) (ops : List Operation) (ts : Leaves)
      → readers.related inner (sort_by enclosed_sort a) (at_state (term_form t x inner k a ops) ts) ≡ coded (sort_by a_predicate_sort) literal_form ops (read.related t a ts)
  related_agrees (ATerm u) ops ts = related_by u ops ts (is_comparison (word_at ts))
  related_agrees (NoTerm (EnclosedPredicate g)) ops ts = refl
  related_agrees (NoTerm (EnclosedRange r)) ops ts = refl

  -- ---- literals

  negation_agrees : (ops : List Operation) (ts : Leaves) → readers.negation inner (at_state ops ts) ≡ coded (sort_by a_predicate_sort) literal_form ops (parsing.and_then (read.negation t ts) (λ l. parsing.pure (NoTerm l)))
  unfolding readers.negation readers.negation_inside read.negation emit
  negation_agrees ops ts = where_nested (sort_by a_predicate_sort) literal_form ops inner.nests (readers.negation_inside inner) (at_state ops ts) (parsing.and_then (read.negation t ts) (λ l. parsing.pure (NoTerm l)))
      (λ e. token (sort_by a_predicate_sort) literal_form ops ops (same w.Exclamation) ts _ (λ s a. parsing.and_then (t.literal a) (λ l. parsing.pure (a_literal (Not s l))))
      (λ s a. step done x.literal (sort_by a_predicate_sort) literal_form ops ops (t.literal a) _ _ (λ l. parsing.pure (a_literal (Not s l))) (k.literal ops a) (λ l rest f. refl))
      ∙ ap (coded (sort_by a_predicate_sort) literal_form ops) (again (parsing.expect w.Exclamation ts)))
      (λ e. refused_first (read.negation t ts) _ (refused_then (parsing.expect w.Exclamation ts) _ (λ s a. refused_first (t.literal a) _ (k.no_literal e a))))
    where
      again : (c : Outcome Leaf)
          → parsing.and_then c (λ s a. parsing.and_then (t.literal a) (λ l. parsing.pure (a_literal (Not s l)))) ≡ parsing.and_then (parsing.and_then c (λ s a. parsing.and_then (t.literal a) (λ l. parsing.pure (Not s l)))) (λ l. parsing.pure (NoTerm l))
      again None = refl
      again (Some p) = sym (bind_assoc (t.literal p.1) (λ l. parsing.pure (Not p.0 l)) (λ l. parsing.pure (a_literal l)))

  truth_agrees : (ops : List Operation) (ts : Leaves) → readers.truth inner (at_state ops ts) ≡ coded (sort_by a_predicate_sort) literal_form ops (parsing.and_then (parsing.take_if is_truth ts) (λ u. parsing.pure (NoTerm (Truth u))))
  unfolding readers.truth emit
  truth_agrees ops ts = token (sort_by a_predicate_sort) literal_form ops ops is_truth ts _ _ (λ u rest. refl)

  validity_agrees : (ops : List Operation) (ts : Leaves) → readers.validity inner (at_state ops ts) ≡ coded (sort_by a_predicate_sort) literal_form ops (parsing.and_then (read.validity t ts) (λ l. parsing.pure (NoTerm l)))
  unfolding readers.validity readers.validity_inside read.validity emit
  validity_agrees ops ts = where_nested (sort_by a_predicate_sort) literal_form ops inner.nests (readers.validity_inside inner) (at_state ops ts) (parsing.and_then (read.validity t ts) (λ l. parsing.pure (NoTerm l)))
      (λ e. token (sort_by a_predicate_sort) literal_form ops ops is_validity ts _ (λ s a. parsing.and_then (parsing.expect w.LeftParen a) (λ l b. parsing.and_then (t.location b) (λ u c. parsing.and_then (parsing.expect w.RightParen c) (λ r. parsing.pure (a_literal (Valid s l u r))))))
      (λ s a. token (sort_by a_predicate_sort) literal_form ops ops (same w.LeftParen) a _ _
      (λ l b. step done x.location (sort_by a_predicate_sort) literal_form ops ops (t.location b) _ _ _ (k.location ops b) (λ u c f. token (sort_by a_predicate_sort) literal_form ops (x.location u ops) (same w.RightParen) c _ _ (λ r rest. refl))))
      ∙ ap (coded (sort_by a_predicate_sort) literal_form ops) (again (parsing.take_if is_validity ts)))
      (λ e. refused_first (read.validity t ts) _ (refused_then (parsing.take_if is_validity ts) _ (λ s a. refused_then (parsing.expect w.LeftParen a) _ (λ l b. refused_first (t.location b) _ (k.no_location e b)))))
    where
      again : (c : Outcome Leaf)
          → parsing.and_then c (λ s a. parsing.and_then (parsing.expect w.LeftParen a) (λ l b. parsing.and_then (t.location b) (λ u c. parsing.and_then (parsing.expect w.RightParen c) (λ r. parsing.pure (a_literal (Valid s l u r))))))
          ≡ parsing.and_then (parsing.and_then c (λ s a. parsing.and_then (parsing.expect w.LeftParen a) (λ l b. parsing.and_then (t.location b) (λ u c. parsing.and_then (parsing.expect w.RightParen c) (λ r. parsing.pure (Valid s l u r)))))) (λ l. parsing.pure (NoTerm l))
      again c = sym (bind_assoc c _ _ ∙ bind_same c (λ s a. bind_assoc (parsing.expect w.LeftParen a) _ _ ∙ bind_same (parsing.expect w.LeftParen a) (λ l b. bind_assoc (t.location b) _ _ ∙ bind_same (t.location b) (λ u d. bind_assoc (parsing.expect w.RightParen d) _ _))))

  -- a comma and a location
  location_more_agrees : (ops : List Operation) (ts : Leaves) → readers.location_more inner (at_state ops ts) ≡ coded done (one_operand x.location) ops (link_by is_comma t.location ts)
  unfolding readers.location_more link_by
  location_more_agrees ops ts = token done (one_operand x.location) ops ops is_comma ts _ _
      (λ c mid. whole c (readers_outcome mid) (t.location mid) (k.location ops mid))
    where
      readers_outcome : Leaves → Coded (Unit {0})
      readers_outcome mid = inner.location (at_state ops mid)

      whole : (c : Leaf) (a : Coded (Unit {0})) (o : Outcome i.Locations) → a ≡ coded done x.location ops o → a ≡ coded done (one_operand x.location) ops (parsing.and_then o (λ u rest. Some (link c u, rest)))
      whole c a None e = e
      whole c a (Some p) e = e

  -- a location, and those after it
  locations_agree : {B T : Type 0} (made : B → T) (onto : B → Form) (whole ops : List Operation) (ts : Leaves) (g : Unit {0} → Coder T) (next : Chain i.Locations → Parser B)
      → ((ls : Chain i.Locations) (rest : Leaves) → g tt (at_state (operand_links x.location ls.rest (x.location ls.first ops)) rest) ≡ coded made onto whole (next ls rest))
      → and_then (inner.location (at_state ops ts)) (λ v s. and_then (readers.locations inner s) g) ≡ coded made onto whole (parsing.and_then (chain_at is_comma t.location ts) next)
  unfolding readers.locations chain_by
  locations_agree made onto whole ops ts g next h =
      step done x.location made onto whole ops (t.location ts) _ _ (λ first mid. parsing.and_then (links_from (next_is is_comma) is_comma t.location (length mid) [] mid) (λ ls. next (record { first = first; rest = ls }))) (k.location ops ts)
      (λ first mid e. step done (λ ls ops. operand_links x.location ls ops) made onto whole (x.location first ops) (links_from (next_is is_comma) is_comma t.location (length mid) [] mid) _ _ (λ ls. next (record { first = first; rest = ls }))
      (repeated_agrees is_comma t.location (readers.location_more inner) (one_operand x.location) (λ ls ops. operand_links x.location ls ops) (no_operand_more x.location) (one_operand_more x.location) location_more_agrees (x.location first ops) mid)
      (λ ls rest f. h (record { first = first; rest = ls }) rest))
      ∙ ap (coded made onto whole) (sym (bind_assoc (t.location ts) _ next
      ∙ bind_same (t.location ts) (λ first mid. bind_assoc (links_from (next_is is_comma) is_comma t.location (length mid) [] mid) (λ ls. parsing.pure (record { first = first; rest = ls })) next)))

  separation_agrees : (ops : List Operation) (ts : Leaves) → readers.separation inner (at_state ops ts) ≡ coded (sort_by a_predicate_sort) literal_form ops (parsing.and_then (read.separation t ts) (λ l. parsing.pure (NoTerm l)))
  unfolding readers.separation readers.separation_inside read.separation emit
  separation_agrees ops ts = where_nested (sort_by a_predicate_sort) literal_form ops inner.nests (readers.separation_inside inner) (at_state ops ts) (parsing.and_then (read.separation t ts) (λ l. parsing.pure (NoTerm l)))
      (λ e. token (sort_by a_predicate_sort) literal_form ops ops (same w.SlashSeparated) ts _
      (λ s a. parsing.and_then (parsing.expect w.LeftParen a) (λ l b. parsing.and_then (t.location b) (λ u c. parsing.and_then (parsing.expect w.Comma c) (λ comma d. parsing.and_then (chain_at is_comma t.location d)
      (λ us g. parsing.and_then (parsing.expect w.RightParen g) (λ r. parsing.pure (a_literal (Separated s l u comma us r))))))))
      (λ s a. token (sort_by a_predicate_sort) literal_form ops ops (same w.LeftParen) a _ _
      (λ l b. step done x.location (sort_by a_predicate_sort) literal_form ops ops (t.location b) _ _ _ (k.location ops b)
      (λ u c f. token (sort_by a_predicate_sort) literal_form ops (x.location u ops) (same w.Comma) c _ _
      (λ comma d. locations_agree (sort_by a_predicate_sort) literal_form ops (x.location u ops) d _ (λ us g. parsing.and_then (parsing.expect w.RightParen g) (λ r. parsing.pure (a_literal (Separated s l u comma us r))))
      (λ us g. token (sort_by a_predicate_sort) literal_form ops (operand_links x.location us.rest (x.location us.first (x.location u ops))) (same w.RightParen) g _ _ (λ r rest. refl))))))
      ∙ ap (coded (sort_by a_predicate_sort) literal_form ops) (again (parsing.expect w.SlashSeparated ts)))
      (λ e. refused_first (read.separation t ts) _ (refused_then (parsing.expect w.SlashSeparated ts) _ (λ s a. refused_then (parsing.expect w.LeftParen a) _ (λ l b. refused_first (t.location b) _ (k.no_location e b)))))
    where
      again : (c : Outcome Leaf)
          → parsing.and_then c (λ s a. parsing.and_then (parsing.expect w.LeftParen a) (λ l b. parsing.and_then (t.location b) (λ u c. parsing.and_then (parsing.expect w.Comma c) (λ comma d. parsing.and_then (chain_at is_comma t.location d)
          (λ us g. parsing.and_then (parsing.expect w.RightParen g) (λ r. parsing.pure (a_literal (Separated s l u comma us r))))))))
          ≡ parsing.and_then (parsing.and_then c (λ s a. parsing.and_then (parsing.expect w.LeftParen a) (λ l b. parsing.and_then (t.location b) (λ u c. parsing.and_then (parsing.expect w.Comma c) (λ comma d. parsing.and_then (chain_at is_comma t.location d)
          (λ us g. parsing.and_then (parsing.expect w.RightParen g) (λ r. parsing.pure (Separated s l u comma us r)))))))) (λ l. parsing.pure (NoTerm l))
      again c = sym (bind_assoc c _ _ ∙ bind_same c (λ s a. bind_assoc (parsing.expect w.LeftParen a) _ _ ∙ bind_same (parsing.expect w.LeftParen a) (λ l b. bind_assoc (t.location b) _ _ ∙ bind_same (t.location b)
          (λ u d. bind_assoc (parsing.expect w.Comma d) _ _ ∙ bind_same (parsing.expect w.Comma d) (λ comma f. bind_assoc (chain_at is_comma t.location f) _ _ ∙ bind_same (chain_at is_comma t.location f) (λ us g. bind_assoc (parsing.expect w.RightParen g) _ _))))))

  event_agrees : (ops : List Operation) (ts : Leaves) → readers.event inner (at_state ops ts) ≡ coded (sort_by a_predicate_sort) literal_form ops (parsing.and_then (read.event t ts) (λ l. parsing.pure (NoTerm l)))
  unfolding readers.event read.event emit
  event_agrees ops ts =
      token (sort_by a_predicate_sort) literal_form ops ops is_event ts _ (λ s a. parsing.and_then (parsing.expect w.LeftParen a) (λ l b. parsing.and_then (t.name b) (λ n c. parsing.and_then (parsing.expect w.RightParen c) (λ r. parsing.pure (a_literal (Event s l n r))))))
      (λ s a. token (sort_by a_predicate_sort) literal_form ops ops (same w.LeftParen) a _ _
      (λ l b. step x.name (λ n ops. ops) (sort_by a_predicate_sort) literal_form ops ops (t.name b) _ _ _ (k.name ops b) (λ n c f. token (sort_by a_predicate_sort) literal_form ops ops (same w.RightParen) c _ _ (λ r rest. refl))))
      ∙ ap (coded (sort_by a_predicate_sort) literal_form ops)
      (sym (bind_assoc (parsing.take_if is_event ts) _ _
      ∙ bind_same (parsing.take_if is_event ts) (λ s a. bind_assoc (parsing.expect w.LeftParen a) _ _ ∙ bind_same (parsing.expect w.LeftParen a) (λ l b. bind_assoc (t.name b) _ _ ∙ bind_same (t.name b) (λ n c. bind_assoc (parsing.expect w.RightParen c) _ _)))))

  compared_term_agrees : (ops : List Operation) (ts : Leaves) → readers.compared_term inner (at_state ops ts) ≡ coded (sort_by a_predicate_sort) literal_form ops (parsing.and_then (read.term t ts) (read.related t))
  unfolding readers.compared_term
  compared_term_agrees ops ts = step (sort_by enclosed_sort) (term_form t x inner k) (sort_by a_predicate_sort) literal_form ops ops (read.term t ts) _ _ (read.related t) (term_agrees t x inner k ops ts) (λ a rest e. related_agrees a ops rest)

  literal_by_agrees : (start : LiteralStart) (ops : List Operation) (ts : Leaves) → readers.literal_by inner start (at_state ops ts) ≡ coded (sort_by a_predicate_sort) literal_form ops (read.literal_by t start ts)
  literal_by_agrees StartsNot ops ts = negation_agrees ops ts
  literal_by_agrees StartsTruth ops ts = truth_agrees ops ts
  literal_by_agrees StartsValid ops ts = validity_agrees ops ts
  literal_by_agrees StartsSeparated ops ts = separation_agrees ops ts
  literal_by_agrees StartsEvent ops ts = event_agrees ops ts
  literal_by_agrees StartsTerm ops ts = compared_term_agrees ops ts

  literal_agrees : Agrees (read.literal t) (readers.literal inner) (sort_by a_predicate_sort) literal_form
  unfolding readers.literal read.literal
  literal_agrees ops ts = literal_by_agrees (start_at ts) ops ts

  -- ---- connectives

  conjunction_agrees : Agrees (read.predicates (same w.AndAnd) (read.literal t)) (readers.conjunction inner) (sort_by a_predicate_sort) (form_by (forms.term x) (forms.conjunction x))
  unfolding readers.conjunction readers.conjuncts
  conjunction_agrees ops ts = predicates_agree (read.literal t) (readers.literal inner) (forms.term x) (forms.literal x) literal_agrees inner (same w.AndAnd) ops ts

  disjunction_agrees : Agrees (read.disjunction t) (readers.disjunction inner) (sort_by a_predicate_sort) (form_by (forms.term x) (forms.disjunction x))
  unfolding readers.disjunction readers.disjuncts read.disjunction
  disjunction_agrees ops ts = predicates_agree (read.predicates (same w.AndAnd) (read.literal t)) (readers.conjunction inner) (forms.term x) (forms.conjunction x) conjunction_agrees inner (same w.OrOr) ops ts

  abbrev implication_form : Either (Term i) (Implication i) → Form
  implication_form = form_by (forms.term x) (forms.implication x)

  abbrev an_implication : Implication i → Either (Term i) (Implication i)
  an_implication n = NoTerm n

  conclusion_agrees : (d : Disjunction i) (ops : List Operation) (ts : Leaves) (b : Bool)
      → and_then (cond {A = Done} b (readers.implies inner) (pure tt) (at_state (forms.disjunction x d ops) ts)) (λ v. pure sort.Predicate)
      ≡ coded (sort_by a_predicate_sort) implication_form ops (cond {A = Parser (Either (Term i) (Implication i))} b (λ ts. parsing.and_then (read.implies t d ts) (λ n. parsing.pure (NoTerm n))) (parsing.pure (NoTerm (Plain d))) ts)
  unfolding readers.implies readers.implies_inside read.implies emit
  conclusion_agrees d ops ts true =
      nested_then inner.nests
      (λ e. coder_assoc (expect w.Implies (at_state (forms.disjunction x d ops) ts)) _ (λ v. pure sort.Predicate)
      ∙ token (sort_by a_predicate_sort) implication_form ops (forms.disjunction x d ops) (same w.Implies) ts _ (λ s a. parsing.and_then (t.implication a) (λ n. parsing.pure (an_implication (Implies d s n))))
      (λ s a. coder_assoc (inner.implication (at_state (forms.disjunction x d ops) a)) _ (λ v. pure sort.Predicate)
      ∙ step done x.implication (sort_by a_predicate_sort) implication_form ops (forms.disjunction x d ops) (t.implication a) _ _ (λ n. parsing.pure (an_implication (Implies d s n))) (k.implication (forms.disjunction x d ops) a) (λ n rest f. refl))
      ∙ ap (coded (sort_by a_predicate_sort) implication_form ops) (sym (bind_assoc (parsing.expect w.Implies ts) _ _ ∙ bind_same (parsing.expect w.Implies ts) (λ s a. bind_assoc (t.implication a) _ _))))
      (λ e. refused_first (read.implies t d ts) _ (refused_then (parsing.expect w.Implies ts) _ (λ s a. refused_first (t.implication a) _ (k.no_implication e a))))
    where
      nested_then : (n : Bool)
          → (n ≡ true → and_then (readers.implies_inside inner (at_state (forms.disjunction x d ops) ts)) (λ v. pure sort.Predicate) ≡ coded (sort_by a_predicate_sort) implication_form ops (parsing.and_then (read.implies t d ts) (λ n. parsing.pure (NoTerm n))))
          → (n ≡ false → parsing.and_then (read.implies t d ts) (λ n. parsing.pure (an_implication n)) ≡ None)
          → and_then (cond {A = Done} n (readers.implies_inside inner) refuse (at_state (forms.disjunction x d ops) ts)) (λ v. pure sort.Predicate) ≡ coded (sort_by a_predicate_sort) implication_form ops (parsing.and_then (read.implies t d ts) (λ n. parsing.pure (NoTerm n)))
      nested_then true h i = h refl
      nested_then false h i = sym (ap (coded (sort_by a_predicate_sort) implication_form ops) (i refl))
  conclusion_agrees d ops ts false = refl

  implied_agrees : (a : Either (Term i) (Disjunction i)) (ops : List Operation) (ts : Leaves)
      → after_predicate (readers.conclusion inner) (sort_by a_predicate_sort a) (at_state (form_by (forms.term x) (forms.disjunction x) a ops) ts) ≡ coded (sort_by a_predicate_sort) implication_form ops (read.implied t a ts)
  unfolding readers.conclusion
  implied_agrees (ATerm u) ops ts = refl
  implied_agrees (NoTerm d) ops ts = conclusion_agrees d ops ts (same w.Implies (word_at ts))

  implication_agrees : Agrees (read.implication t) (readers.implication inner) (sort_by a_predicate_sort) implication_form
  unfolding readers.implication read.implication
  implication_agrees ops ts = step (sort_by a_predicate_sort) (form_by (forms.term x) (forms.disjunction x)) (sort_by a_predicate_sort) implication_form ops ops (read.disjunction t ts) _ _ (read.implied t) (disjunction_agrees ops ts) (λ a rest e. implied_agrees a ops rest)

  pub any_agrees : Agrees (read.any t) (readers.any inner) (sort_by a_predicate_sort) (form_by (forms.term x) (forms.predicate x))
  unfolding readers.any readers.equivalents read.any
  any_agrees ops ts = predicates_agree (read.implication t) (readers.implication inner) (forms.term x) (forms.implication x) implication_agrees inner (same w.Equivalent) ops ts

  -- where one of them must stand
  pub a_literal_agrees : (ops : List Operation) (ts : Leaves) → as_predicate (readers.literal inner) (at_state ops ts) ≡ coded done (forms.literal x) ops (read.a_predicate (read.literal t) ts)
  a_literal_agrees ops ts = a_predicate_agrees (read.literal t) (readers.literal inner) (forms.term x) (forms.literal x) literal_agrees ops ts

  pub an_implication_agrees : (ops : List Operation) (ts : Leaves) → as_predicate (readers.implication inner) (at_state ops ts) ≡ coded done (forms.implication x) ops (read.a_predicate (read.implication t) ts)
  an_implication_agrees ops ts = a_predicate_agrees (read.implication t) (readers.implication inner) (forms.term x) (forms.implication x) implication_agrees ops ts

  pub a_factor_agrees : (ops : List Operation) (ts : Leaves) → as_term (readers.factor inner) (at_state ops ts) ≡ coded done (forms.factor x) ops (a_term (read.factor t) ts)
  a_factor_agrees ops ts = sorts.a_term_agrees (read.factor t) (readers.factor inner) enclosed_sort (forms.factor x) (enclosed_form x) (factor_agrees t x inner k) sorts.enclosed_are_no_terms ops ts

-- ---- by the nesting that is left

pub inner_agrees : (n : ℕ) → InnerAgrees (inner_at n) (forms_at n) (readers_at n)
unfolding inner_at readers_at
inner_agrees zero =
    record {
      any = λ ops ts. refl;
      factor = λ ops ts. refl;
      literal = λ ops ts. refl;
      implication = λ ops ts. refl;
      location = λ ops ts. refl;
      name = λ ops ts. refl;
      no_any = λ e ts. refl;
      no_factor = λ e ts. refl;
      no_literal = λ e ts. refl;
      no_implication = λ e ts. refl;
      no_location = λ e ts. refl;
    }
inner_agrees (suc n) =
    let k = inner_agrees n in
    record {
      any = any_agrees (inner_at n) (forms_at n) (readers_at n) k;
      factor = a_factor_agrees (inner_at n) (forms_at n) (readers_at n) k;
      literal = a_literal_agrees (inner_at n) (forms_at n) (readers_at n) k;
      implication = an_implication_agrees (inner_at n) (forms_at n) (readers_at n) k;
      location = location_agrees (inner_at n) (forms_at n) (readers_at n) k;
      name = λ ops ts. token_agrees is_name ops ts;
      no_any = λ e ts. cc;
      no_factor = λ e ts. cc;
      no_literal = λ e ts. cc;
      no_implication = λ e ts. cc;
      no_location = λ e ts. cc;
    }
