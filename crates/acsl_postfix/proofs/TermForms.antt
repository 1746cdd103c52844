-- Terms and locations: what is read is the form of the tree.
use Rattle.std.proofs.Common.{◌≡◌, ℕ, zero, suc, Bool, true, false, cond, List, [], ◌∷◌, ◌++◌, length, Some, None, refl, sym, ap, ◌∙◌}
use Rattle.c_words.specs.declared.word.Word.{Word}
use Rattle.c_words.specs.declared.word.Word.TheVariants as w
use Rattle.c_words.specs.declared.word.Leaf.{Leaf}
use Rattle.c_words.specs.declared.chain.Chain.{Chain}
use Rattle.c_words.specs.declared.chain.Link.{Link}
use Rattle.c_words.specs.Words.{same}
use Rattle.c_words.specs.OperatorWords.{is_product_operator, is_sum_operator}
use Rattle.c_words.specs.Parsing as parsing
use Rattle.c_words.specs.Parsing.{Leaves, Outcome, Parser, word_at, run_at, run_from}
use Rattle.acsl_grammar.specs.Vocabulary.{is_name, is_constant, is_label, is_event_value, is_unary}
use Rattle.acsl_grammar.specs.Trees.{Inside, Atom, Name, Constant, Paren, Suffix, Factor, Post, Term, Range, FromTo, Location, Object, Objects, InParens}
use Rattle.acsl_grammar.specs.TermReading as read
use Rattle.acsl_grammar.specs.TermReading.{Either, ATerm, NoTerm, Enclosed, EnclosedPredicate, EnclosedRange, is_suffix, FactorStart, StartsName, StartsConstant, StartsUnary, StartsParen, StartsAt, StartsNoFactor, factor_start, a_term}
use Rattle.acsl_postfix.specs.declared.operation.Operation.{Operation}
use Rattle.acsl_postfix.specs.declared.operation.Operation.TheVariants as op
use Rattle.acsl_postfix.specs.declared.sort.Sort.{Sort}
use Rattle.acsl_postfix.specs.declared.sort.Sort.TheVariants as sort
use Rattle.acsl_postfix.specs.Coders.{Coder, Done, and_then, pure, refuse, coded, emit, take_if, repeated, repeated_from}
use Rattle.acsl_postfix.specs.Readers as readers
use Rattle.acsl_postfix.specs.Readers.{must_be_term, after_term, as_term, nested}
use Rattle.acsl_postfix.specs.Forms as forms
use Rattle.acsl_postfix.specs.Forms.{Form, InnerForms, then_one, term_chain, term_links}
use Rattle.acsl_postfix.proofs.Steps.{at_state, done, Agrees, step, token, where_nested, refused_then, refused_first, bind_assoc, coder_assoc}
use Rattle.acsl_postfix.proofs.Sorts.{sort_by, form_by, a_predicate_sort, enclosed_sort, enclosed_form, predicates_are_no_terms, enclosed_are_no_terms, a_term_agrees}
use Rattle.acsl_postfix.proofs.ChainForms.{terms_agree}

-- what nests is read into its form; where nothing may nest, nothing is read
pub record InnerAgrees {i : Inside} (trees_inside : read.Inner i) (x : InnerForms i) (inner : readers.Inner) : Type 0 where
  pub any : Agrees trees_inside.any inner.any (sort_by a_predicate_sort) (form_by x.term x.predicate)
  pub factor : Agrees trees_inside.factor inner.factor done x.factor
  pub literal : Agrees trees_inside.literal inner.literal done x.literal
  pub implication : Agrees trees_inside.implication inner.implication done x.implication
  pub location : Agrees trees_inside.location inner.location done x.location
  pub name : Agrees trees_inside.name (nested inner (take_if is_name)) x.name (λ n ops. ops)
  pub no_any : inner.nests ≡ false → (ts : Leaves) → trees_inside.any ts ≡ None
  pub no_factor : inner.nests ≡ false → (ts : Leaves) → trees_inside.factor ts ≡ None
  pub no_literal : inner.nests ≡ false → (ts : Leaves) → trees_inside.literal ts ≡ None
  pub no_implication : inner.nests ≡ false → (ts : Leaves) → trees_inside.implication ts ≡ None
  pub no_location : inner.nests ≡ false → (ts : Leaves) → trees_inside.location ts ≡ None

module _ {i : Inside} (t : read.Inner i) (x : InnerForms i) (inner : readers.Inner) (k : InnerAgrees t x inner) where
  pub inner_term_agrees : Agrees (a_term t.any) (readers.inner_term inner) done x.term
  unfolding readers.inner_term
  inner_term_agrees ops ts = a_term_agrees t.any inner.any a_predicate_sort x.term x.predicate k.any predicates_are_no_terms ops ts

  no_inner_term : inner.nests ≡ false → (ts : Leaves) → a_term t.any ts ≡ None
  unfolding a_term
  no_inner_term e ts = refused_first (t.any ts) _ (k.no_any e ts)

  -- ---- suffixes

  member_agrees : Agrees (read.member t) (readers.member inner) done (forms.suffix x)
  unfolding readers.member read.member emit
  member_agrees ops ts = token done (forms.suffix x) ops ops (same w.Dot) ts _ _ (λ dot mid. token done (forms.suffix x) ops ops is_name mid _ _ (λ name rest. refl))

  arrow_agrees : Agrees (read.arrow t) (readers.arrow inner) done (forms.suffix x)
  unfolding readers.arrow read.arrow emit
  arrow_agrees ops ts = token done (forms.suffix x) ops ops (same w.Arrow) ts _ _ (λ sign mid. token done (forms.suffix x) ops ops is_name mid _ _ (λ name rest. refl))

  index_agrees : Agrees (read.index t) (readers.index inner) done (forms.suffix x)
  unfolding readers.index readers.index_inside read.index emit
  index_agrees ops ts = where_nested done (forms.suffix x) ops inner.nests (readers.index_inside inner) (at_state ops ts) (read.index t ts)
      (λ e. token done (forms.suffix x) ops ops (same w.LeftBracket) ts _ _
      (λ l mid. step (done) (x.term) done (forms.suffix x) ops (then_one ops op.Base) (a_term t.any mid) _ _ _ (inner_term_agrees (then_one ops op.Base) mid)
      (λ y after f. token done (forms.suffix x) ops (then_one (x.term y (then_one ops op.Base)) op.Value) (same w.RightBracket) after _ _ (λ r rest. refl))))
      (λ e. refused_then (parsing.expect w.LeftBracket ts) _ (λ l mid. refused_first (a_term t.any mid) _ (no_inner_term e mid)))

  suffix_by_agrees : (word : Word) → Agrees (read.suffix_by t word) (readers.suffix_by inner word) done (forms.suffix x)
  suffix_by_agrees w.LeftBracket ops ts = index_agrees ops ts
  suffix_by_agrees w.Dot ops ts = member_agrees ops ts
  suffix_by_agrees w.Arrow ops ts = arrow_agrees ops ts
  suffix_by_agrees _ ops ts = refl

  suffix_agrees : Agrees (read.suffix t) (readers.suffix inner) done (forms.suffix x)
  unfolding readers.suffix read.suffix
  suffix_agrees ops ts = suffix_by_agrees (word_at ts) ops ts

  suffixes_more : (found : List (Suffix i)) (s : Suffix i) (ops : List Operation) → forms.suffixes x (found ++ s ∷ []) ops ≡ forms.suffix x s (forms.suffixes x found ops)
  unfolding forms.suffixes
  suffixes_more [] s ops = refl
  suffixes_more (m ∷ found) s ops = suffixes_more found s (forms.suffix x m ops)

  no_suffixes : (ops : List Operation) → forms.suffixes x [] ops ≡ ops
  unfolding forms.suffixes
  no_suffixes ops = refl

  -- a turn, where the later turns are known
  suffix_turn : (ops : List Operation) (n : ℕ) (found : List (Suffix i)) (ts : Leaves)
      → ((found : List (Suffix i)) (ts : Leaves) → repeated_from is_suffix (readers.suffix inner) n (at_state (forms.suffixes x found ops) ts) ≡ coded done (forms.suffixes x) ops (run_from is_suffix (read.suffix t) n found ts))
      → (b : Bool)
      → cond {A = Done} b (λ s. and_then (readers.suffix inner s) (λ u. repeated_from is_suffix (readers.suffix inner) n)) (pure tt) (at_state (forms.suffixes x found ops) ts)
      ≡ coded done (forms.suffixes x) ops (cond {A = Parser (List (Suffix i))} b (λ ts. parsing.and_then (read.suffix t ts) (λ s. run_from is_suffix (read.suffix t) n (found ++ s ∷ []))) (parsing.pure found) ts)
  suffix_turn ops n found ts later true =
      step (done) (forms.suffix x) done (forms.suffixes x) ops (forms.suffixes x found ops) (read.suffix t ts) _ _ (λ s. run_from is_suffix (read.suffix t) n (found ++ s ∷ [])) (suffix_agrees (forms.suffixes x found ops) ts)
      (λ s rest e. ap (λ o. repeated_from is_suffix (readers.suffix inner) n (at_state o rest)) (sym (suffixes_more found s ops)) ∙ later (found ++ s ∷ []) rest)
  suffix_turn ops n found ts later false = refl

  suffixes_from_agree : (ops : List Operation) (n : ℕ) (found : List (Suffix i)) (ts : Leaves)
      → repeated_from is_suffix (readers.suffix inner) n (at_state (forms.suffixes x found ops) ts) ≡ coded done (forms.suffixes x) ops (run_from is_suffix (read.suffix t) n found ts)
  unfolding repeated_from run_from
  suffixes_from_agree ops zero found ts = refl
  suffixes_from_agree ops (suc n) found ts = suffix_turn ops n found ts (λ found ts. suffixes_from_agree ops n found ts) (is_suffix (word_at ts))

  suffixes_agree : Agrees (run_at is_suffix (read.suffix t)) (readers.suffixes inner) done (forms.suffixes x)
  unfolding readers.suffixes repeated run_at
  suffixes_agree ops ts = ap (λ o. repeated_from is_suffix (readers.suffix inner) (length ts) (at_state o ts)) (sym (no_suffixes ops)) ∙ suffixes_from_agree ops (length ts) [] ts

  -- ---- atoms

  event_value_agrees : (name : Leaf) → Agrees (read.event_value t name) (readers.event_value inner name) done (forms.atom x)
  unfolding readers.event_value read.event_value emit
  event_value_agrees name ops ts =
      token done (forms.atom x) ops ops (same w.LeftParen) ts _ _ (λ l a. token done (forms.atom x) ops ops (same w.RightParen) a _ _
      (λ r b. token done (forms.atom x) ops ops (same w.Dot) b _ _ (λ d c. token done (forms.atom x) ops ops is_event_value c _ _ (λ v rest. refl))))

  after_name_agrees : (name : Leaf) (ops : List Operation) (ts : Leaves) (b : Bool)
      → cond {A = Done} b (readers.event_value inner name) (emit (op.Name name)) (at_state ops ts) ≡ coded done (forms.atom x) ops (cond {A = Parser (Atom i)} b (read.event_value t name) (parsing.pure (Name name)) ts)
  unfolding emit
  after_name_agrees name ops ts true = event_value_agrees name ops ts
  after_name_agrees name ops ts false = refl

  named_agrees : Agrees (read.named t) (readers.named inner) done (forms.atom x)
  unfolding readers.named readers.after_name read.named
  named_agrees ops ts = token done (forms.atom x) ops ops is_name ts _ _ (λ name rest. after_name_agrees name ops rest (same w.LeftParen (word_at rest)))

  constant_agrees : Agrees (λ ts. parsing.and_then (parsing.take_if is_constant ts) (λ c. parsing.pure (Constant c))) (readers.constant inner) done (forms.atom x)
  unfolding readers.constant emit
  constant_agrees ops ts = token done (forms.atom x) ops ops is_constant ts _ _ (λ c rest. refl)

  at_agrees : Agrees (read.at t) (readers.at inner) done (forms.atom x)
  unfolding readers.at readers.at_inside read.at emit
  at_agrees ops ts = where_nested done (forms.atom x) ops inner.nests (readers.at_inside inner) (at_state ops ts) (read.at t ts)
      (λ e. token done (forms.atom x) ops ops (same w.SlashAt) ts _ _ (λ s a. token done (forms.atom x) ops ops (same w.LeftParen) a _ _
      (λ l b. step (done) (x.term) done (forms.atom x) ops ops (a_term t.any b) _ _ _ (inner_term_agrees ops b)
      (λ y c f. token done (forms.atom x) ops (x.term y ops) (same w.Comma) c _ _ (λ comma d. token done (forms.atom x) ops (x.term y ops) is_label d _ _
      (λ label g. token done (forms.atom x) ops (x.term y ops) (same w.RightParen) g _ _ (λ r rest. refl)))))))
      (λ e. refused_then (parsing.expect w.SlashAt ts) _ (λ s a. refused_then (parsing.expect w.LeftParen a) _ (λ l b. refused_first (a_term t.any b) _ (no_inner_term e b))))

  abbrev a_range : Range i → Either (Atom i) (Enclosed i)
  a_range r = NoTerm (EnclosedRange r)

  range_agrees : (opening : Leaf) (first : i.Terms) (ops : List Operation) (ts : Leaves)
      → readers.range inner (at_state (x.term first ops) ts)
      ≡ coded (sort_by enclosed_sort) (form_by (forms.atom x) (enclosed_form x)) ops (parsing.and_then (read.range_from t opening first ts) (λ r. parsing.pure (a_range r)))
  unfolding readers.range read.range_from emit
  range_agrees opening first ops ts =
      token (sort_by enclosed_sort) (form_by (forms.atom x) (enclosed_form x)) ops (then_one (x.term first ops) op.Value) (same w.DotDot) ts _ _
      (λ d a. step (done) (x.term) (sort_by enclosed_sort) (form_by (forms.atom x) (enclosed_form x)) ops (then_one (x.term first ops) op.Value) (a_term t.any a) _ _ _ (inner_term_agrees (then_one (x.term first ops) op.Value) a)
      (λ y b f. token (sort_by enclosed_sort) (form_by (forms.atom x) (enclosed_form x)) ops (then_one (x.term y (then_one (x.term first ops) op.Value)) op.Value) (same w.RightParen) b _ _ (λ r rest. refl)))
      ∙ ap (coded (sort_by enclosed_sort) (form_by (forms.atom x) (enclosed_form x)) ops) (again (parsing.expect w.DotDot ts))
    where
      again : (o : Outcome Leaf)
          → parsing.and_then o (λ d a. parsing.and_then (a_term t.any a) (λ y b. parsing.and_then (parsing.expect w.RightParen b) (λ r. parsing.pure (a_range (FromTo opening first d y r)))))
          ≡ parsing.and_then (parsing.and_then o (λ d a. parsing.and_then (a_term t.any a) (λ y b. parsing.and_then (parsing.expect w.RightParen b) (λ r. parsing.pure (FromTo opening first d y r))))) (λ r. parsing.pure (a_range r))
      again None = refl
      again (Some p) = of (a_term t.any p.1)
        where
          last : (y : i.Terms) (o : Outcome Leaf) → parsing.and_then o (λ r. parsing.pure (a_range (FromTo opening first p.0 y r)))
              ≡ parsing.and_then (parsing.and_then o (λ r. parsing.pure (FromTo opening first p.0 y r))) (λ r. parsing.pure (a_range r))
          last y None = refl
          last y (Some r) = refl

          of : (o : Outcome i.Terms)
              → parsing.and_then o (λ y b. parsing.and_then (parsing.expect w.RightParen b) (λ r. parsing.pure (a_range (FromTo opening first p.0 y r))))
              ≡ parsing.and_then (parsing.and_then o (λ y b. parsing.and_then (parsing.expect w.RightParen b) (λ r. parsing.pure (FromTo opening first p.0 y r)))) (λ r. parsing.pure (a_range r))
          of None = refl
          of (Some y) = last y.0 (parsing.expect w.RightParen y.1)

  closed_term_agrees : (opening : Leaf) (y : i.Terms) (ops : List Operation) (ts : Leaves)
      → readers.closed_term inner opening (at_state (x.term y ops) ts)
      ≡ coded (sort_by enclosed_sort) (form_by (forms.atom x) (enclosed_form x)) ops (parsing.and_then (parsing.expect w.RightParen ts) (λ r. parsing.pure (ATerm (Paren opening y r))))
  unfolding readers.closed_term emit
  closed_term_agrees opening y ops ts = token (sort_by enclosed_sort) (form_by (forms.atom x) (enclosed_form x)) ops (x.term y ops) (same w.RightParen) ts _ _ (λ r rest. refl)

  closed_predicate_agrees : (opening : Leaf) (q : i.Predicates) (ops : List Operation) (ts : Leaves)
      → readers.closed_predicate inner (at_state (x.predicate q ops) ts)
      ≡ coded (sort_by enclosed_sort) (form_by (forms.atom x) (enclosed_form x)) ops (parsing.and_then (parsing.expect w.RightParen ts) (λ r. parsing.pure (NoTerm (EnclosedPredicate (InParens opening q r)))))
  unfolding readers.closed_predicate
  closed_predicate_agrees opening q ops ts = token (sort_by enclosed_sort) (form_by (forms.atom x) (enclosed_form x)) ops (x.predicate q ops) (same w.RightParen) ts _ _ (λ r rest. refl)

  -- what stands at the end of parentheses around a term
  closed_by : (opening : Leaf) (y : i.Terms) (ops : List Operation) (ts : Leaves) (b : Bool)
      → cond {A = Coder Sort} b (readers.range inner) (readers.closed_term inner opening) (at_state (x.term y ops) ts)
      ≡ coded (sort_by enclosed_sort) (form_by (forms.atom x) (enclosed_form x)) ops
      (cond {A = Parser (Either (Atom i) (Enclosed i))} b (λ ts. parsing.and_then (read.range_from t opening y ts) (λ r. parsing.pure (a_range r))) (λ ts. parsing.and_then (parsing.expect w.RightParen ts) (λ r. parsing.pure (ATerm (Paren opening y r)))) ts)
  closed_by opening y ops ts true = range_agrees opening y ops ts
  closed_by opening y ops ts false = closed_term_agrees opening y ops ts

  closed_agrees : (opening : Leaf) (a : Either i.Terms i.Predicates) (ops : List Operation) (ts : Leaves)
      → readers.closed inner opening (sort_by a_predicate_sort a) (at_state (form_by x.term x.predicate a ops) ts) ≡ coded (sort_by enclosed_sort) (form_by (forms.atom x) (enclosed_form x)) ops (read.closed t opening a ts)
  closed_agrees opening (ATerm y) ops ts = closed_by opening y ops ts (same w.DotDot (word_at ts))
  closed_agrees opening (NoTerm q) ops ts = closed_predicate_agrees opening q ops ts

  parenthesized_agrees : Agrees (read.parenthesized t) (readers.parenthesized inner) (sort_by enclosed_sort) (form_by (forms.atom x) (enclosed_form x))
  unfolding readers.parenthesized readers.parenthesized_inside read.parenthesized
  parenthesized_agrees ops ts = where_nested (sort_by enclosed_sort) (form_by (forms.atom x) (enclosed_form x)) ops inner.nests (readers.parenthesized_inside inner) (at_state ops ts) (read.parenthesized t ts)
      (λ e. token (sort_by enclosed_sort) (form_by (forms.atom x) (enclosed_form x)) ops ops (same w.LeftParen) ts _ _
      (λ l a. step (sort_by a_predicate_sort) (form_by x.term x.predicate) (sort_by enclosed_sort) (form_by (forms.atom x) (enclosed_form x)) ops ops (t.any a) _ _ (read.closed t l) (k.any ops a) (λ y b f. closed_agrees l y ops b)))
      (λ e. refused_then (parsing.expect w.LeftParen ts) _ (λ l a. refused_first (t.any a) _ (k.no_any e a)))

  -- ---- factors

  prefix_agrees : Agrees (read.prefix t) (readers.prefix inner) done (forms.factor x)
  unfolding readers.prefix readers.prefix_inside read.prefix emit
  prefix_agrees ops ts = where_nested done (forms.factor x) ops inner.nests (readers.prefix_inside inner) (at_state ops ts) (read.prefix t ts)
      (λ e. token done (forms.factor x) ops ops is_unary ts _ _ (λ o a. step (done) (x.factor) done (forms.factor x) ops ops (t.factor a) _ _ _ (k.factor ops a) (λ y rest f. refl)))
      (λ e. refused_then (parsing.take_if is_unary ts) _ (λ o a. refused_first (t.factor a) _ (k.no_factor e a)))

  abbrev pub factor_sort : Either (Factor i) (Enclosed i) → Sort
  factor_sort = sort_by enclosed_sort

  abbrev pub factor_form : Either (Factor i) (Enclosed i) → Form
  factor_form = form_by (forms.factor x) (enclosed_form x)

  after_atom_agrees : (a : Atom i) (ops : List Operation) (ts : Leaves)
      → and_then (readers.suffixes inner (at_state (forms.atom x a ops) ts)) (λ u. pure sort.Term) ≡ coded factor_sort factor_form ops (parsing.and_then (run_at is_suffix (read.suffix t) ts) (λ ss. parsing.pure (ATerm (Post a ss))))
  after_atom_agrees a ops ts =
      step (done) (forms.suffixes x) factor_sort factor_form ops (forms.atom x a ops) (run_at is_suffix (read.suffix t) ts) _ _ (λ ss. parsing.pure (ATerm (Post a ss))) (suffixes_agree (forms.atom x a ops) ts) (λ ss rest e. refl)

  -- an atom of one of its alternatives, and its suffixes
  suffixed_agrees : (p : Parser (Atom i)) (c : Done) → Agrees p c done (forms.atom x)
      → (ops : List Operation) (ts : Leaves) → readers.suffixed inner c (at_state ops ts) ≡ coded factor_sort factor_form ops (parsing.and_then (parsing.and_then (p ts) (λ a. parsing.pure (ATerm a))) (read.suffixed t))
  unfolding readers.suffixed
  suffixed_agrees p c h ops ts =
      step done (forms.atom x) factor_sort factor_form ops ops (p ts) _ _ (λ a. read.suffixed t (ATerm a)) (h ops ts) (λ a rest e. after_atom_agrees a ops rest)
      ∙ ap (coded factor_sort factor_form ops) (sym (bind_assoc (p ts) (λ a. parsing.pure (ATerm a)) (read.suffixed t)))

  enclosed_agrees : (ops : List Operation) (ts : Leaves) → readers.enclosed inner (at_state ops ts) ≡ coded factor_sort factor_form ops (parsing.and_then (read.parenthesized t ts) (read.suffixed t))
  unfolding readers.enclosed
  enclosed_agrees ops ts =
      step (sort_by enclosed_sort) (form_by (forms.atom x) (enclosed_form x)) factor_sort factor_form ops ops (read.parenthesized t ts) _ _ (read.suffixed t) (parenthesized_agrees ops ts) (λ a rest e. of a rest)
    where
      of : (a : Either (Atom i) (Enclosed i)) (rest : Leaves)
          → after_term (readers.suffixes inner) (sort_by enclosed_sort a) (at_state (form_by (forms.atom x) (enclosed_form x) a ops) rest) ≡ coded factor_sort factor_form ops (read.suffixed t a rest)
      of (ATerm a) rest = after_atom_agrees a ops rest
      of (NoTerm (EnclosedPredicate g)) rest = refl
      of (NoTerm (EnclosedRange r)) rest = refl

  prefixed_agrees : (ops : List Operation) (ts : Leaves) → readers.prefixed inner (at_state ops ts) ≡ coded factor_sort factor_form ops (parsing.and_then (read.prefix t ts) (λ f. parsing.pure (ATerm f)))
  unfolding readers.prefixed
  prefixed_agrees ops ts = step done (forms.factor x) factor_sort factor_form ops ops (read.prefix t ts) _ _ (λ f. parsing.pure (ATerm f)) (prefix_agrees ops ts) (λ f rest e. refl)

  constants_agree : (ops : List Operation) (ts : Leaves)
      → readers.suffixed inner (readers.constant inner) (at_state ops ts) ≡ coded factor_sort factor_form ops (parsing.and_then (parsing.and_then (parsing.take_if is_constant ts) (λ c. parsing.pure (ATerm (Constant c)))) (read.suffixed t))
  constants_agree ops ts =
      suffixed_agrees (λ ts. parsing.and_then (parsing.take_if is_constant ts) (λ c. parsing.pure (Constant c))) (readers.constant inner) constant_agrees ops ts
      ∙ ap (λ o. coded factor_sort factor_form ops (parsing.and_then o (read.suffixed t))) (bind_assoc (parsing.take_if is_constant ts) (λ c. parsing.pure (Constant c)) (λ a. parsing.pure (ATerm a)))

  factor_by_agrees : (start : FactorStart) (ops : List Operation) (ts : Leaves) → readers.factor_by inner start (at_state ops ts) ≡ coded factor_sort factor_form ops (read.factor_by t start ts)
  factor_by_agrees StartsName ops ts = suffixed_agrees (read.named t) (readers.named inner) named_agrees ops ts
  factor_by_agrees StartsConstant ops ts = constants_agree ops ts
  factor_by_agrees StartsUnary ops ts = prefixed_agrees ops ts
  factor_by_agrees StartsParen ops ts = enclosed_agrees ops ts
  factor_by_agrees StartsAt ops ts = suffixed_agrees (read.at t) (readers.at inner) at_agrees ops ts
  factor_by_agrees StartsNoFactor ops ts = refl

  pub factor_agrees : Agrees (read.factor t) (readers.factor inner) factor_sort factor_form
  unfolding readers.factor read.factor
  factor_agrees ops ts = factor_by_agrees (factor_start (word_at ts)) ops ts

  -- ---- products and sums

  abbrev pub product_form : Either (Chain (Factor i)) (Enclosed i) → Form
  product_form = form_by (forms.product x) (enclosed_form x)

  abbrev pub term_form : Either (Term i) (Enclosed i) → Form
  term_form = form_by (forms.term x) (enclosed_form x)

  pub product_agrees : Agrees (read.product t) (readers.product inner) (sort_by enclosed_sort) product_form
  unfolding readers.product readers.products read.product
  product_agrees ops ts = terms_agree (read.factor t) (readers.factor inner) enclosed_sort (forms.factor x) (enclosed_form x) factor_agrees enclosed_are_no_terms inner is_product_operator ops ts

  pub term_agrees : Agrees (read.term t) (readers.term inner) (sort_by enclosed_sort) term_form
  unfolding readers.term readers.sums read.term
  term_agrees ops ts = terms_agree (read.product t) (readers.product inner) enclosed_sort (forms.product x) (enclosed_form x) product_agrees enclosed_are_no_terms inner is_sum_operator ops ts

  -- where a term must stand
  pub a_product_agrees : (ops : List Operation) (ts : Leaves) → as_term (readers.product inner) (at_state ops ts) ≡ coded done (forms.product x) ops (a_term (read.product t) ts)
  a_product_agrees ops ts = a_term_agrees (read.product t) (readers.product inner) enclosed_sort (forms.product x) (enclosed_form x) product_agrees enclosed_are_no_terms ops ts

  pub one_term_agrees : (ops : List Operation) (ts : Leaves) → as_term (readers.term inner) (at_state ops ts) ≡ coded done (forms.term x) ops (a_term (read.term t) ts)
  one_term_agrees ops ts = a_term_agrees (read.term t) (readers.term inner) enclosed_sort (forms.term x) (enclosed_form x) term_agrees enclosed_are_no_terms ops ts

  -- ---- locations

  -- the form of the operands so far
  abbrev so_far : Chain (Factor i) → List (Link (Chain (Factor i))) → Form
  so_far first found ops = term_links (forms.product x) found (forms.product x first ops)

  one_operand_more : (found : List (Link (Chain (Factor i)))) (l : Link (Chain (Factor i))) (ops : List Operation)
      → term_links (forms.product x) (found ++ l ∷ []) ops ≡ then_one (then_one (forms.product x l.operand (then_one (term_links (forms.product x) found ops) op.Value)) op.Value) (op.Operator l.operator)
  unfolding term_links
  one_operand_more [] l ops = refl
  one_operand_more (m ∷ found) l ops = one_operand_more found l (then_one (then_one (forms.product x m.operand (then_one ops op.Value)) op.Value) (op.Operator m.operator))

  no_operand_more : (ops : List Operation) → term_links (forms.product x) [] ops ≡ ops
  unfolding term_links
  no_operand_more ops = refl

  -- after an operator and what follows it
  located_agrees : (first : Chain (Factor i)) (n : ℕ) (ops : List Operation) (found : List (Link (Chain (Factor i)))) (sign : Leaf) (a : Either (Chain (Factor i)) (Enclosed i)) (ts : Leaves)
      → ((found : List (Link (Chain (Factor i)))) (ts : Leaves) → readers.location_from inner n (at_state (so_far first found ops) ts) ≡ coded done (forms.location x) ops (read.location_from t n first found ts))
      → and_then (readers.located inner sign (sort_by enclosed_sort a) (at_state (product_form a (then_one (so_far first found ops) op.Value)) ts)) (readers.location_next inner (readers.location_from inner n))
      ≡ coded done (forms.location x) ops (read.located t (read.location_from t n first) first found sign a ts)
  unfolding readers.summed readers.ranged emit
  located_agrees first n ops found sign (ATerm c) ts later =
      ap (λ o. readers.location_from inner n (at_state o ts)) (sym (one_operand_more found (record { operator = sign; operand = c }) (forms.product x first ops))) ∙ later (found ++ record { operator = sign; operand = c } ∷ []) ts
  located_agrees first n ops found sign (NoTerm (EnclosedPredicate g)) ts later = refl
  located_agrees first n ops found sign (NoTerm (EnclosedRange r)) ts later = of (same w.Plus sign.word)
    where
      of : (b : Bool)
          → and_then (cond {A = Coder Sort} b (readers.ranged inner sign) refuse (at_state (forms.range x r (then_one (so_far first found ops) op.Value)) ts)) (readers.location_next inner (readers.location_from inner n))
          ≡ coded done (forms.location x) ops (cond {A = Parser (Location i)} b (parsing.pure (Objects (record { first = first; rest = found }) sign r)) parsing.refuse ts)
      of true = refl
      of false = refl

  location_turn : (first : Chain (Factor i)) (n : ℕ) (ops : List Operation) (found : List (Link (Chain (Factor i)))) (ts : Leaves)
      → ((found : List (Link (Chain (Factor i)))) (ts : Leaves) → readers.location_from inner n (at_state (so_far first found ops) ts) ≡ coded done (forms.location x) ops (read.location_from t n first found ts))
      → (b : Bool)
      → cond {A = Done} b (λ s. and_then (readers.location_link inner s) (readers.location_next inner (readers.location_from inner n))) (emit op.Object) (at_state (so_far first found ops) ts)
      ≡ coded done (forms.location x) ops (cond {A = Parser (Location i)} b (λ ts. parsing.and_then (parsing.take_if is_sum_operator ts) (λ sign mid. parsing.and_then (read.product t mid) (read.located t (read.location_from t n first) first found sign))) (parsing.pure (Object (record { first = first; rest = found }))) ts)
  unfolding readers.location_link emit
  location_turn first n ops found ts later true =
      coder_assoc (take_if is_sum_operator (at_state (then_one (so_far first found ops) op.Value) ts)) (λ sign s. and_then (readers.product inner s) (readers.located inner sign)) (readers.location_next inner (readers.location_from inner n))
      ∙ token done (forms.location x) ops (then_one (so_far first found ops) op.Value) is_sum_operator ts _ _
      (λ sign mid. coder_assoc (readers.product inner (at_state (then_one (so_far first found ops) op.Value) mid)) (readers.located inner sign) (readers.location_next inner (readers.location_from inner n))
      ∙ step (sort_by enclosed_sort) product_form done (forms.location x) ops (then_one (so_far first found ops) op.Value) (read.product t mid) _ _ (read.located t (read.location_from t n first) first found sign) (product_agrees (then_one (so_far first found ops) op.Value) mid)
      (λ a rest e. located_agrees first n ops found sign a rest later))
  location_turn first n ops found ts later false = refl

  location_from_agrees : (first : Chain (Factor i)) (n : ℕ) (ops : List Operation) (found : List (Link (Chain (Factor i)))) (ts : Leaves)
      → readers.location_from inner n (at_state (so_far first found ops) ts) ≡ coded done (forms.location x) ops (read.location_from t n first found ts)
  unfolding readers.location_from read.location_from emit
  location_from_agrees first zero ops found ts = refl
  location_from_agrees first (suc n) ops found ts = location_turn first n ops found ts (λ found ts. location_from_agrees first n ops found ts) (is_sum_operator (word_at ts))

  pub location_agrees : Agrees (read.location t) (readers.location inner) done (forms.location x)
  unfolding readers.location readers.location_rest read.location
  location_agrees ops ts = step done (forms.product x) done (forms.location x) ops ops (a_term (read.product t) ts) _ _ _ (a_product_agrees ops ts)
      (λ first rest e. ap (λ o. readers.location_from inner (length rest) (at_state o rest)) (sym (no_operand_more (forms.product x first ops))) ∙ location_from_agrees first (length rest) ops [] rest)
