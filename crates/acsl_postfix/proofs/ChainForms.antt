-- Chains: operands with operators or connectives between them.
use Rattle.std.proofs.Common.{◌≡◌, ℕ, zero, suc, Bool, true, false, cond, List, [], ◌∷◌, ◌++◌, length, Some, None, refl, sym, ap, ◌∙◌}
use Rattle.c_words.specs.declared.word.Word.{Word}
use Rattle.c_words.specs.declared.word.Leaf.{Leaf}
use Rattle.c_words.specs.declared.chain.Chain.{Chain}
use Rattle.c_words.specs.declared.chain.Link.{Link}
use Rattle.c_words.specs.Parsing as parsing
use Rattle.c_words.specs.Parsing.{Leaves, Outcome, Parser, word_at, links_from, chain_by, chain_at, next_is}
use Rattle.acsl_grammar.specs.TermReading.{Either, ATerm, NoTerm, term_of, predicate_of, a_term, a_predicate, from_term, from_predicate, terms, predicates}
use Rattle.acsl_postfix.specs.declared.operation.Operation.{Operation}
use Rattle.acsl_postfix.specs.declared.operation.Operation.TheVariants as op
use Rattle.acsl_postfix.specs.declared.sort.Sort.{Sort}
use Rattle.acsl_postfix.specs.declared.sort.Sort.TheVariants as sort
use Rattle.acsl_postfix.specs.Coders.{Coder, Done, and_then, pure, coded, emit, repeated, repeated_from}
use Rattle.acsl_postfix.specs.Readers.{after_term, after_predicate, term_link, predicate_link, Inner}
use Rattle.acsl_postfix.specs.Forms.{Form, then_one, term_links, term_chain, predicate_links, predicate_chain}
use Rattle.acsl_postfix.proofs.Steps.{at_state, done, Agrees, step, token, bind_assoc}
use Rattle.acsl_postfix.proofs.Sorts.{sort_by, form_by, a_predicate_sort, NoTerms, a_term_agrees, a_predicate_agrees}

abbrev pub link : {A : Type 0} → Leaf → A → Link A
link t x = record { operator = t; operand = x }

-- an operator and its operand
unfoldable pub link_by : {A : Type 0} → (Word → Bool) → Parser A → Parser (Link A)
link_by test operand ts = parsing.and_then (parsing.take_if test ts) (λ t mid. parsing.and_then (operand mid) (λ x rest. Some (link t x, rest)))

-- ---- any step that adds one link's form

module _ {A : Type 0} (test : Word → Bool) (operand : Parser A) (body : Done) (one : Link A → Form) (all : List (Link A) → Form)
    (none : (ops : List Operation) → all [] ops ≡ ops) (more : (found : List (Link A)) (l : Link A) (ops : List Operation) → all (found ++ l ∷ []) ops ≡ one l (all found ops))
    (agree : (ops : List Operation) (ts : Leaves) → body (at_state ops ts) ≡ coded done one ops (link_by test operand ts)) where
  -- a turn, where the later turns are known
  turn : (ops : List Operation) (n : ℕ) (found : List (Link A)) (ts : Leaves)
      → ((found : List (Link A)) (ts : Leaves) → repeated_from test body n (at_state (all found ops) ts) ≡ coded done all ops (links_from (next_is test) test operand n found ts))
      → (b : Bool)
      → cond {A = Done} b (λ s. and_then (body s) (λ u. repeated_from test body n)) (pure tt) (at_state (all found ops) ts)
      ≡ coded done all ops (cond {A = Parser (List (Link A))} b (λ ts. parsing.and_then (parsing.take_if test ts) (λ t mid. parsing.and_then (operand mid) (λ x. links_from (next_is test) test operand n (found ++ link t x ∷ [])))) (parsing.pure found) ts)
  unfolding link_by
  turn ops n found ts later true =
      step (done) (one) done all ops (all found ops) (link_by test operand ts) (body (at_state (all found ops) ts)) (λ u. repeated_from test body n)
      (λ l. links_from (next_is test) test operand n (found ++ l ∷ [])) (agree (all found ops) ts)
      (λ l rest e. ap (λ o. repeated_from test body n (at_state o rest)) (sym (more found l ops)) ∙ later (found ++ l ∷ []) rest)
      ∙ ap (coded done all ops) (bind_assoc (parsing.take_if test ts) (λ t mid. parsing.and_then (operand mid) (λ x rest. Some (link t x, rest))) (λ l. links_from (next_is test) test operand n (found ++ l ∷ []))
      ∙ inner (parsing.take_if test ts))
    where
      inner : (o : Outcome Leaf)
          → parsing.and_then o (λ t mid. parsing.and_then (parsing.and_then (operand mid) (λ x rest. Some (link t x, rest))) (λ l. links_from (next_is test) test operand n (found ++ l ∷ [])))
          ≡ parsing.and_then o (λ t mid. parsing.and_then (operand mid) (λ x. links_from (next_is test) test operand n (found ++ link t x ∷ [])))
      inner None = refl
      inner (Some p) = bind_assoc (operand p.1) (λ x rest. Some (link p.0 x, rest)) (λ l. links_from (next_is test) test operand n (found ++ l ∷ []))
  turn ops n found ts later false = refl

  links_agree : (ops : List Operation) (n : ℕ) (found : List (Link A)) (ts : Leaves) → repeated_from test body n (at_state (all found ops) ts) ≡ coded done all ops (links_from (next_is test) test operand n found ts)
  unfolding repeated_from links_from
  links_agree ops zero found ts = refl
  links_agree ops (suc n) found ts = turn ops n found ts (λ found ts. links_agree ops n found ts) (test (word_at ts))

  -- all the links from here on
  pub repeated_agrees : (ops : List Operation) (ts : Leaves) → repeated test body (at_state ops ts) ≡ coded done all ops (links_from (next_is test) test operand (length ts) [] ts)
  unfolding repeated
  repeated_agrees ops ts = ap (λ o. repeated_from test body (length ts) (at_state o ts)) (sym (none ops)) ∙ links_agree ops (length ts) [] ts

-- ---- terms

abbrev pub one_term : {T : Type 0} → (T → Form) → Link T → Form
one_term ft l ops = then_one (then_one (ft l.operand (then_one ops op.Value)) op.Value) (op.Operator l.operator)

one_term_more : {T : Type 0} (ft : T → Form) (found : List (Link T)) (l : Link T) (ops : List Operation) → term_links ft (found ++ l ∷ []) ops ≡ one_term ft l (term_links ft found ops)
unfolding term_links
one_term_more ft [] l ops = refl
one_term_more ft (m ∷ found) l ops = one_term_more ft found l (one_term ft m ops)

no_term_more : {T : Type 0} (ft : T → Form) (ops : List Operation) → term_links ft [] ops ≡ ops
unfolding term_links
no_term_more ft ops = refl

module _ {T P : Type 0} (p : Parser (Either T P)) (c : Coder Sort) (f : P → Sort) (ft : T → Form) (fp : P → Form) (h : Agrees p c (sort_by f) (form_by ft fp)) (others : NoTerms f) (inner : Inner) (test : Word → Bool) where
  term_link_agrees : (ops : List Operation) (ts : Leaves) → term_link inner test c (at_state ops ts) ≡ coded done (one_term ft) ops (link_by test (a_term p) ts)
  unfolding term_link link_by emit
  term_link_agrees ops ts = token done (one_term ft) ops (then_one ops op.Value) test ts _ (λ t mid. parsing.and_then (a_term p mid) (λ x rest. Some (link t x, rest)))
      (λ t mid. step (done) (ft) done (one_term ft) ops (then_one ops op.Value) (a_term p mid) _ _ (λ x rest. Some (link t x, rest)) (a_term_agrees p c f ft fp h others (then_one ops op.Value) mid) (λ x rest e. refl))

  -- the first operand is read already
  after_first : (ops : List Operation) (ts : Leaves) (t : T) (rest : Leaves) → p ts ≡ Some (ATerm t, rest)
      → after_term (repeated test (term_link inner test c)) sort.Term (at_state (ft t ops) rest) ≡ coded (sort_by f) (form_by (term_chain ft) fp) ops (parsing.and_then (chain_at test (a_term p) ts) (λ c. parsing.pure (ATerm c)))
  unfolding chain_by a_term
  after_first ops ts t rest e =
      step (done) (term_links ft) (sort_by f) (form_by (term_chain ft) fp) ops (ft t ops) (links_from (next_is test) test (a_term p) (length rest) [] rest) _ (λ u. pure sort.Term)
      (λ ls. parsing.pure (ATerm (record { first = t; rest = ls })))
      (repeated_agrees test (a_term p) (term_link inner test c) (one_term ft) (term_links ft) (no_term_more ft) (one_term_more ft) term_link_agrees (ft t ops) rest)
      (λ ls end g. whole ls end)
      ∙ ap (coded (sort_by f) (form_by (term_chain ft) fp) ops)
      (sym (bind_assoc (links_from (next_is test) test (a_term p) (length rest) [] rest) (λ ls. parsing.pure (record { first = t; rest = ls })) (λ c. parsing.pure (ATerm c)))
      ∙ sym (ap (λ o. parsing.and_then (parsing.and_then (parsing.and_then o term_of) (λ first mid. parsing.and_then (links_from (next_is test) test (a_term p) (length mid) [] mid) (λ ls. parsing.pure (record { first = first; rest = ls })))) (λ c. parsing.pure (ATerm c))) e))
    where
      whole : (ls : List (Link T)) (end : Leaves) → pure sort.Term (at_state (term_links ft ls (ft t ops)) end) ≡ coded (sort_by f) (form_by (term_chain ft) fp) ops (Some (ATerm (record { first = t; rest = ls }), end))
      whole ls end = refl

  pub terms_agree : (ops : List Operation) (ts : Leaves) → and_then (c (at_state ops ts)) (after_term (repeated test (term_link inner test c))) ≡ coded (sort_by f) (form_by (term_chain ft) fp) ops (terms test p ts)
  unfolding terms
  terms_agree ops ts = step (sort_by f) (form_by ft fp) (sort_by f) (form_by (term_chain ft) fp) ops ops (p ts) (c (at_state ops ts)) _ (from_term (chain_at test (a_term p)) ts) (h ops ts) of
    where
      of : (a : Either T P) (rest : Leaves) → p ts ≡ Some (a, rest)
          → after_term (repeated test (term_link inner test c)) (sort_by f a) (at_state (form_by ft fp a ops) rest) ≡ coded (sort_by f) (form_by (term_chain ft) fp) ops (from_term (chain_at test (a_term p)) ts a rest)
      of (ATerm t) rest e = after_first ops ts t rest e
      of (NoTerm q) rest e = others.alone (repeated test (term_link inner test c)) q (at_state (fp q ops) rest)

-- ---- predicates

abbrev pub one_predicate : {P : Type 0} → (P → Form) → Link P → Form
one_predicate fp l ops = then_one (fp l.operand ops) (op.Connective l.operator)

one_predicate_more : {P : Type 0} (fp : P → Form) (found : List (Link P)) (l : Link P) (ops : List Operation) → predicate_links fp (found ++ l ∷ []) ops ≡ one_predicate fp l (predicate_links fp found ops)
unfolding predicate_links
one_predicate_more fp [] l ops = refl
one_predicate_more fp (m ∷ found) l ops = one_predicate_more fp found l (one_predicate fp m ops)

no_predicate_more : {P : Type 0} (fp : P → Form) (ops : List Operation) → predicate_links fp [] ops ≡ ops
unfolding predicate_links
no_predicate_more fp ops = refl

module _ {T P : Type 0} (p : Parser (Either T P)) (c : Coder Sort) (ft : T → Form) (fp : P → Form) (h : Agrees p c (sort_by a_predicate_sort) (form_by ft fp)) (inner : Inner) (test : Word → Bool) where
  predicate_link_agrees : (ops : List Operation) (ts : Leaves) → predicate_link inner test c (at_state ops ts) ≡ coded done (one_predicate fp) ops (link_by test (a_predicate p) ts)
  unfolding predicate_link link_by emit
  predicate_link_agrees ops ts = token done (one_predicate fp) ops ops test ts _ (λ t mid. parsing.and_then (a_predicate p mid) (λ x rest. Some (link t x, rest)))
      (λ t mid. step (done) (fp) done (one_predicate fp) ops ops (a_predicate p mid) _ _ (λ x rest. Some (link t x, rest)) (a_predicate_agrees p c ft fp h ops mid) (λ x rest e. refl))

  after_first_predicate : (ops : List Operation) (ts : Leaves) (q : P) (rest : Leaves) → p ts ≡ Some (NoTerm q, rest)
      → after_predicate (repeated test (predicate_link inner test c)) sort.Predicate (at_state (fp q ops) rest)
      ≡ coded (sort_by a_predicate_sort) (form_by ft (predicate_chain fp)) ops (parsing.and_then (chain_at test (a_predicate p) ts) (λ c. parsing.pure (NoTerm c)))
  unfolding chain_by a_predicate
  after_first_predicate ops ts q rest e =
      step (done) (predicate_links fp) (sort_by a_predicate_sort) (form_by ft (predicate_chain fp)) ops (fp q ops) (links_from (next_is test) test (a_predicate p) (length rest) [] rest) _ (λ u. pure sort.Predicate)
      (λ ls. parsing.pure (NoTerm (record { first = q; rest = ls })))
      (repeated_agrees test (a_predicate p) (predicate_link inner test c) (one_predicate fp) (predicate_links fp) (no_predicate_more fp) (one_predicate_more fp) predicate_link_agrees (fp q ops) rest)
      (λ ls end g. whole ls end)
      ∙ ap (coded (sort_by a_predicate_sort) (form_by ft (predicate_chain fp)) ops)
      (sym (bind_assoc (links_from (next_is test) test (a_predicate p) (length rest) [] rest) (λ ls. parsing.pure (record { first = q; rest = ls })) (λ c. parsing.pure (NoTerm c)))
      ∙ sym (ap (λ o. parsing.and_then (parsing.and_then (parsing.and_then o predicate_of) (λ first mid. parsing.and_then (links_from (next_is test) test (a_predicate p) (length mid) [] mid) (λ ls. parsing.pure (record { first = first; rest = ls })))) (λ c. parsing.pure (NoTerm c))) e))
    where
      whole : (ls : List (Link P)) (end : Leaves) → pure sort.Predicate (at_state (predicate_links fp ls (fp q ops)) end)
          ≡ coded {A = Either T (Chain P)} (sort_by a_predicate_sort) (form_by ft (predicate_chain fp)) ops (Some (NoTerm (record { first = q; rest = ls }), end))
      whole ls end = refl

  pub predicates_agree : (ops : List Operation) (ts : Leaves)
      → and_then (c (at_state ops ts)) (after_predicate (repeated test (predicate_link inner test c))) ≡ coded (sort_by a_predicate_sort) (form_by ft (predicate_chain fp)) ops (predicates test p ts)
  unfolding predicates
  predicates_agree ops ts = step (sort_by a_predicate_sort) (form_by ft fp) (sort_by a_predicate_sort) (form_by ft (predicate_chain fp)) ops ops (p ts) (c (at_state ops ts)) _ (from_predicate (chain_at test (a_predicate p)) ts) (h ops ts) of
    where
      of : (a : Either T P) (rest : Leaves) → p ts ≡ Some (a, rest)
          → after_predicate (repeated test (predicate_link inner test c)) (sort_by a_predicate_sort a) (at_state (form_by ft fp a ops) rest)
          ≡ coded (sort_by a_predicate_sort) (form_by ft (predicate_chain fp)) ops (from_predicate (chain_at test (a_predicate p)) ts a rest)
      of (ATerm t) rest e = refl
      of (NoTerm q) rest e = after_first_predicate ops ts q rest e
