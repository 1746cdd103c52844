-- Predicates: their forms make what they stand for, where no location was made before.
use Rattle.std.proofs.Common.{◌≡◌, ℕ, zero, suc, List, [], ◌∷◌, ◌++◌, refl, sym, ap, ◌∙◌, append_assoc, append-nil}
use Rattle.std.specs.Prelude.{map, Ok, Err}
use Rattle.c_words.specs.declared.word.Leaf.{Leaf}
use Rattle.c_words.specs.declared.chain.Chain.{Chain}
use Rattle.c_words.specs.declared.chain.Link.{Link}
use Rattle.step_meaning.specs.declared.predicate.Predicate.{Predicate}
use Rattle.step_meaning.specs.declared.predicate.Predicate.TheVariants as q
use Rattle.step_meaning.specs.declared.predicate.Location.{Location}
use Rattle.acsl_grammar.specs.Trees as trees
use Rattle.acsl_grammar.specs.Trees.{Inside, Term, Group, InParens, Literal, Not, Grouped, Truth, Relations, Valid, Separated, Event, Disjunction, Implication, Plain, Implies, inside_at}
use Rattle.acsl_postfix.specs.declared.operation.Operation.{Operation}
use Rattle.acsl_postfix.specs.declared.operation.Operation.TheVariants as op
use Rattle.acsl_postfix.specs.Forms as forms
use Rattle.acsl_postfix.specs.Forms.{Form, InnerForms, then_one, predicate_links, relation_links, operand_links, forms_at}
use Rattle.acsl_rules.specs.Checked.{Checked, ◌>>=◌}
use Rattle.acsl_rules.specs.Parts.{Part, value, side}
use Rattle.acsl_rules.specs.Rules as rules
use Rattle.acsl_rules.specs.Rules.{Known, Located, is_equality}
use Rattle.acsl_rules.specs.Meanings as meanings
use Rattle.acsl_rules.specs.Meanings.{InnerMeanings, meanings_at, connected, truth}
use Rattle.acsl_steps.specs.Machine.{State, state, push_part, push_location, push_predicate, step, run, to_valid}
use Rattle.acsl_steps.proofs.Runs.{bind_assoc, bind_same, bind_ok, Makes, makes_nothing, makes_one, makes_both, makes_same}
use Rattle.acsl_steps.proofs.Combining.{MakesPart, same_part, unary, binary}
use Rattle.acsl_steps.proofs.TermRuns.{TermsMake, term_makes, location_makes, factor_makes}

module _ (s : Known) where
  -- the form makes one predicate more, where no location stands before it
  pub record MakesPredicate (form : Form) (r : Checked Predicate) : Type 0 where
    pub next : State → Checked State
    pub makes : Makes s form next
    pub agrees : (n : State) → n.locations ≡ [] → next n ≡ (r >>= (λ p. Ok (push_predicate p n)))

  always : (form : Form) (r : Checked Predicate) → Makes s form (λ n. r >>= (λ p. Ok (push_predicate p n))) → MakesPredicate form r
  always form r h = record { next = λ n. r >>= (λ p. Ok (push_predicate p n)); makes = h; agrees = λ n e. refl }

  same_predicate : (form : Form) (r w : Checked Predicate) → MakesPredicate form r → r ≡ w → MakesPredicate form w
  same_predicate form r w h e = record { next = h.next; makes = h.makes; agrees = λ n f. h.agrees n f ∙ ap (λ r. r >>= (λ p. Ok (push_predicate p n))) e }

  -- an operation on the last predicate
  on_last : (form : Form) (r : Checked Predicate) (o : Operation) (f : Predicate → Predicate) → MakesPredicate form r → ((p : Predicate) (n : State) → step s o (push_predicate p n) ≡ Ok (push_predicate (f p) n))
      → MakesPredicate (λ ops. then_one (form ops) o) (r >>= (λ p. Ok (f p)))
  on_last form r o f h e =
      record {
        next = λ n. h.next n >>= step s o;
        makes = makes_both s form (λ ops. then_one ops o) h.next (step s o) h.makes (makes_one s o);
        agrees = λ n c. ap (λ w. w >>= step s o) (h.agrees n c) ∙ bind_assoc r (λ p. Ok (push_predicate p n)) (step s o) ∙ bind_same r (λ p. e p n) ∙ sym (bind_assoc r (λ p. Ok (f p)) (λ p. Ok (push_predicate p n)));
      }

  -- an operation on the last two
  on_last_two : (form more : Form) (r w : Checked Predicate) (o : Operation) (f : Predicate → Predicate → Predicate) → MakesPredicate form r → MakesPredicate more w
      → ((p t : Predicate) (n : State) → step s o (push_predicate t (push_predicate p n)) ≡ Ok (push_predicate (f p t) n))
      → MakesPredicate (λ ops. then_one (more (form ops)) o) (r >>= (λ p. w >>= (λ t. Ok (f p t))))
  on_last_two form more r w o f h k e =
      record {
        next = λ n. (h.next n >>= k.next) >>= step s o;
        makes = makes_both s (λ ops. more (form ops)) (λ ops. then_one ops o) (λ n. h.next n >>= k.next) (step s o) (makes_both s form more h.next k.next h.makes k.makes) (makes_one s o);
        agrees = λ n c. ap (λ v. (v >>= k.next) >>= step s o) (h.agrees n c)
            ∙ ap (λ v. v >>= step s o) (bind_assoc r (λ p. Ok (push_predicate p n)) k.next ∙ bind_same r (λ p. k.agrees (push_predicate p n) c))
            ∙ bind_assoc r (λ p. w >>= (λ t. Ok (push_predicate t (push_predicate p n)))) (step s o)
            ∙ bind_same r (λ p. bind_assoc w (λ t. Ok (push_predicate t (push_predicate p n))) (step s o) ∙ bind_same w (λ t. e p t n) ∙ sym (bind_assoc w (λ t. Ok (f p t)) (λ t. Ok (push_predicate t n))))
            ∙ sym (bind_assoc r (λ p. w >>= (λ t. Ok (f p t))) (λ t. Ok (push_predicate t n)));
      }

  -- ---- connectives

  links_make : {A : Type 0} (f : A → Form) (operand : A → Checked Predicate) → ((a : A) → MakesPredicate (f a) (operand a)) → (ls : List (Link A)) (form : Form) (r : Checked Predicate)
      → MakesPredicate form r → MakesPredicate (λ ops. predicate_links f ls (form ops)) (r >>= (λ p. meanings.connected_by s operand p ls))
  unfolding predicate_links meanings.connected_by
  links_make f operand k [] form r h = same_predicate form r (r >>= (λ p. Ok p)) h (sym (bind_ok r))
  links_make f operand k (l ∷ ls) form r h =
      let more : Form = λ ops. then_one (f l.operand (form ops)) (op.Connective l.operator) in
      let w : Checked Predicate = r >>= (λ p. operand l.operand >>= (λ t. Ok (connected l.operator.word p t))) in
      same_predicate (λ ops. predicate_links f ls (more ops)) (w >>= (λ p. meanings.connected_by s operand p ls)) (r >>= (λ p. meanings.connected_by s operand p (l ∷ ls)))
      (links_make f operand k ls more w (on_last_two form (f l.operand) r (operand l.operand) (op.Connective l.operator) (connected l.operator.word) h (k l.operand) (λ p t n. refl)))
      (bind_assoc r (λ p. operand l.operand >>= (λ t. Ok (connected l.operator.word p t))) (λ p. meanings.connected_by s operand p ls)
      ∙ bind_same r (λ p. bind_assoc (operand l.operand) (λ t. Ok (connected l.operator.word p t)) (λ p. meanings.connected_by s operand p ls)))

  chain_makes : {A : Type 0} (f : A → Form) (operand : A → Checked Predicate) → ((a : A) → MakesPredicate (f a) (operand a)) → (c : Chain A) → MakesPredicate (forms.predicate_chain f c) (meanings.predicate_chain s operand c)
  chain_makes f operand k c = links_make f operand k c.rest (f c.first) (operand c.first) (k c.first)

  -- ---- relations

  module _ {A : Type 0} (f : A → Form) (operand : A → Checked Part) (k : (a : A) → MakesPart s (f a) (operand a)) where
    -- a relation of two terms, before which nothing of it was made
    relation_makes : (a : A) (o : Leaf) (b : A) → MakesPredicate (λ ops. then_one (then_one (f b (then_one (f a ops) (op.Side o))) (op.Side o)) (op.Relation o)) (meanings.relation s operand a o b)
    relation_makes a o b =
        always _ _ (binary s (f a) (f b) (operand a) (operand b) (op.Side o) (op.Side o) (op.Relation o) (side (is_equality o.word)) (side (is_equality o.word)) (rules.related o) push_predicate (k a) (k b) (λ a n. refl) (λ a n. refl) (λ a b n. refl))

    relations_make : (left : A) (ls : List (Link A)) (form : Form) (r : Checked Predicate) → MakesPredicate form r → MakesPredicate (λ ops. relation_links f left ls (form ops)) (r >>= (λ p. meanings.relations_by s operand left p ls))
    unfolding relation_links meanings.relations_by
    relations_make left [] form r h = same_predicate form r (r >>= (λ p. Ok p)) h (sym (bind_ok r))
    relations_make left (l ∷ ls) form r h =
        let one : Form = λ ops. then_one (then_one (f l.operand (then_one (f left ops) (op.Side l.operator))) (op.Side l.operator)) (op.Relation l.operator) in
        let more : Form = λ ops. then_one (one (form ops)) op.Both in
        let w : Checked Predicate = r >>= (λ p. meanings.relation s operand left l.operator l.operand >>= (λ t. Ok (q.And p t))) in
        same_predicate (λ ops. relation_links f l.operand ls (more ops)) (w >>= (λ p. meanings.relations_by s operand l.operand p ls)) (r >>= (λ p. meanings.relations_by s operand left p (l ∷ ls)))
        (relations_make l.operand ls more w (on_last_two form one r (meanings.relation s operand left l.operator l.operand) op.Both q.And h (relation_makes left l.operator l.operand) (λ p t n. refl)))
        (bind_assoc r (λ p. meanings.relation s operand left l.operator l.operand >>= (λ t. Ok (q.And p t))) (λ p. meanings.relations_by s operand l.operand p ls)
        ∙ bind_same r (λ p. bind_assoc (meanings.relation s operand left l.operator l.operand) (λ t. Ok (q.And p t)) (λ p. meanings.relations_by s operand l.operand p ls)))

  -- ---- literals

  module _ {A : Type 0} (f : A → Form) (operand : A → Checked Located) (k : (a : A) → Makes s (f a) (λ n. operand a >>= (λ l. Ok (push_location l n)))) where
    -- further locations
    abbrev push_locations : List Located → State → State
    push_locations ms n = state n.parts (n.locations ++ ms) n.predicates

    locations_make : (ls : List (Link A)) → Makes s (operand_links f ls) (λ n. meanings.locations s operand ls >>= (λ ms. Ok (push_locations ms n)))
    unfolding operand_links meanings.locations
    locations_make [] = makes_same s (λ ops. ops) _ _ (makes_nothing s) (λ n. ap (λ ls. Ok (state n.parts ls n.predicates)) (sym (append-nil n.locations)))
    locations_make (l ∷ ls) =
        makes_same s (λ ops. operand_links f ls (f l.operand ops)) _ _ (makes_both s (f l.operand) (operand_links f ls) _ _ (k l.operand) (locations_make ls)) whole
      where
        whole : (n : State)
            → ((operand l.operand >>= (λ a. Ok (push_location a n))) >>= (λ n. meanings.locations s operand ls >>= (λ ms. Ok (push_locations ms n))))
            ≡ ((operand l.operand >>= (λ a. meanings.locations s operand ls >>= (λ more. Ok (a ∷ more)))) >>= (λ ms. Ok (push_locations ms n)))
        whole n =
            bind_assoc (operand l.operand) (λ a. Ok (push_location a n)) (λ n. meanings.locations s operand ls >>= (λ ms. Ok (push_locations ms n)))
            ∙ bind_same (operand l.operand) (λ a. bind_same (meanings.locations s operand ls) (λ ms. ap (λ xs. Ok (state n.parts xs n.predicates)) (append_assoc n.locations (a ∷ []) ms))
            ∙ sym (bind_assoc (meanings.locations s operand ls) (λ more. Ok (a ∷ more)) (λ ms. Ok (push_locations ms n))))
            ∙ sym (bind_assoc (operand l.operand) (λ a. meanings.locations s operand ls >>= (λ more. Ok (a ∷ more))) (λ ms. Ok (push_locations ms n)))

    valid_makes : (a : A) → MakesPredicate (λ ops. then_one (f a ops) op.Valid) (operand a >>= rules.valid)
    valid_makes a =
        record {
          next = λ n. (operand a >>= (λ l. Ok (push_location l n))) >>= step s op.Valid;
          makes = makes_both s (f a) (λ ops. then_one ops op.Valid) _ (step s op.Valid) (k a) (makes_one s op.Valid);
          agrees = λ n c. bind_assoc (operand a) (λ l. Ok (push_location l n)) (step s op.Valid)
              ∙ bind_same (operand a) (λ l. ap (λ ls. to_valid n.parts (ls ++ l ∷ []) n.predicates) c ∙ bind_same (rules.valid l) (λ r. ap (λ ls. Ok (state n.parts ls (r ∷ n.predicates))) (sym c)))
              ∙ sym (bind_assoc (operand a) rules.valid (λ r. Ok (push_predicate r n)));
        }

    separated_makes : (a b : A) (ls : List (Link A))
        → MakesPredicate (λ ops. then_one (operand_links f ls (f b (f a ops))) op.Separated) (operand a >>= (λ x. operand b >>= (λ y. meanings.locations s operand ls >>= (λ more. Ok (q.Separated (map (λ l. l.location) (x ∷ y ∷ more)))))))
    separated_makes a b ls =
        record {
          next = λ n. (((operand a >>= (λ l. Ok (push_location l n))) >>= (λ n. operand b >>= (λ l. Ok (push_location l n)))) >>= (λ n. meanings.locations s operand ls >>= (λ ms. Ok (push_locations ms n)))) >>= step s op.Separated;
          makes = makes_both s (λ ops. operand_links f ls (f b (f a ops))) (λ ops. then_one ops op.Separated) _ (step s op.Separated)
              (makes_both s (λ ops. f b (f a ops)) (operand_links f ls) _ _ (makes_both s (f a) (f b) _ _ (k a) (k b)) (locations_make ls)) (makes_one s op.Separated);
          agrees = whole;
        }
      where
        last : (n : State) → n.locations ≡ [] → (x y : Located) (ms : List Located)
            → ◌≡◌ {A = Checked State} (Ok (state n.parts [] (q.Separated (map (λ l. l.location) (((n.locations ++ x ∷ []) ++ y ∷ []) ++ ms)) ∷ n.predicates))) (Ok (push_predicate (q.Separated (map (λ l. l.location) (x ∷ y ∷ ms))) n))
        last n c x y ms =
            ap (λ xs. Ok (state n.parts [] (q.Separated (map (λ l. l.location) (((xs ++ x ∷ []) ++ y ∷ []) ++ ms)) ∷ n.predicates))) c
            ∙ ap (λ xs. Ok (state n.parts xs (q.Separated (map (λ l. l.location) (x ∷ y ∷ ms)) ∷ n.predicates))) (sym c)

        rest : (n : State) → n.locations ≡ [] → (x y : Located)
            → ((meanings.locations s operand ls >>= (λ ms. Ok (push_locations ms (push_location y (push_location x n))))) >>= step s op.Separated)
            ≡ ((meanings.locations s operand ls >>= (λ more. Ok (q.Separated (map (λ l. l.location) (x ∷ y ∷ more))))) >>= (λ p. Ok (push_predicate p n)))
        rest n c x y =
            bind_assoc (meanings.locations s operand ls) (λ ms. Ok (push_locations ms (push_location y (push_location x n)))) (step s op.Separated)
            ∙ bind_same (meanings.locations s operand ls) (λ ms. last n c x y ms)
            ∙ sym (bind_assoc (meanings.locations s operand ls) (λ more. Ok (q.Separated (map (λ l. l.location) (x ∷ y ∷ more)))) (λ p. Ok (push_predicate p n)))

        second : (n : State) → n.locations ≡ [] → (x : Located)
            → (((operand b >>= (λ l. Ok (push_location l (push_location x n)))) >>= (λ n. meanings.locations s operand ls >>= (λ ms. Ok (push_locations ms n)))) >>= step s op.Separated)
            ≡ ((operand b >>= (λ y. meanings.locations s operand ls >>= (λ more. Ok (q.Separated (map (λ l. l.location) (x ∷ y ∷ more)))))) >>= (λ p. Ok (push_predicate p n)))
        second n c x =
            ap (λ v. v >>= step s op.Separated) (bind_assoc (operand b) (λ l. Ok (push_location l (push_location x n))) (λ n. meanings.locations s operand ls >>= (λ ms. Ok (push_locations ms n))))
            ∙ bind_assoc (operand b) (λ y. meanings.locations s operand ls >>= (λ ms. Ok (push_locations ms (push_location y (push_location x n))))) (step s op.Separated)
            ∙ bind_same (operand b) (λ y. rest n c x y)
            ∙ sym (bind_assoc (operand b) (λ y. meanings.locations s operand ls >>= (λ more. Ok (q.Separated (map (λ l. l.location) (x ∷ y ∷ more))))) (λ p. Ok (push_predicate p n)))

        whole : (n : State) → n.locations ≡ []
            → ((((operand a >>= (λ l. Ok (push_location l n))) >>= (λ n. operand b >>= (λ l. Ok (push_location l n)))) >>= (λ n. meanings.locations s operand ls >>= (λ ms. Ok (push_locations ms n)))) >>= step s op.Separated)
            ≡ ((operand a >>= (λ x. operand b >>= (λ y. meanings.locations s operand ls >>= (λ more. Ok (q.Separated (map (λ l. l.location) (x ∷ y ∷ more))))))) >>= (λ p. Ok (push_predicate p n)))
        whole n c =
            ap (λ v. (v >>= (λ n. meanings.locations s operand ls >>= (λ ms. Ok (push_locations ms n)))) >>= step s op.Separated) (bind_assoc (operand a) (λ l. Ok (push_location l n)) (λ n. operand b >>= (λ l. Ok (push_location l n))))
            ∙ ap (λ v. v >>= step s op.Separated) (bind_assoc (operand a) (λ x. operand b >>= (λ l. Ok (push_location l (push_location x n)))) (λ n. meanings.locations s operand ls >>= (λ ms. Ok (push_locations ms n))))
            ∙ bind_assoc (operand a) (λ x. (operand b >>= (λ l. Ok (push_location l (push_location x n)))) >>= (λ n. meanings.locations s operand ls >>= (λ ms. Ok (push_locations ms n)))) (step s op.Separated)
            ∙ bind_same (operand a) (λ x. second n c x)
            ∙ sym (bind_assoc (operand a) (λ x. operand b >>= (λ y. meanings.locations s operand ls >>= (λ more. Ok (q.Separated (map (λ l. l.location) (x ∷ y ∷ more)))))) (λ p. Ok (push_predicate p n)))

  -- what nests
  pub record InnerMakes {i : Inside} (x : InnerForms i) (y : InnerMeanings i) : Type 0 where
    pub terms : TermsMake s x y
    pub literal : (l : i.Literals) → MakesPredicate (x.literal l) (y.literal l)
    pub implication : (l : i.Implications) → MakesPredicate (x.implication l) (y.implication l)
    pub predicate : (l : i.Predicates) → MakesPredicate (x.predicate l) (y.predicate l)
    pub location : (l : i.Locations) → Makes s (x.location l) (λ n. y.location l >>= (λ a. Ok (push_location a n)))
    pub name : (m : i.Names) → x.name m ≡ y.name m

  module _ {i : Inside} (x : InnerForms i) (y : InnerMeanings i) (k : InnerMakes x y) where
    event_makes : (e : Leaf) (m m2 : Leaf) → m ≡ m2 → MakesPredicate (λ ops. then_one ops (op.Event e m)) (rules.event_of s e m2)
    event_makes e m m2 h = same_predicate _ _ _ (always (λ ops. then_one ops (op.Event e m)) (rules.event_of s e m) (makes_one s (op.Event e m))) (ap (rules.event_of s e) h)

    literal_makes : (l : Literal i) → MakesPredicate (forms.literal x l) (meanings.literal s y l)
    literal_makes (Not t l) = on_last (x.literal l) (y.literal l) op.Not q.Not (k.literal l) (λ p n. refl)
    literal_makes (Grouped (InParens l p r)) = k.predicate p
    literal_makes (Truth t) = always (λ ops. then_one ops (op.Truth t)) (Ok (truth t.word)) (makes_one s (op.Truth t))
    literal_makes (Relations t o c) =
        relations_make (forms.term x) (meanings.term s y) (term_makes s x y k.terms) c.first c.rest (forms.first_relation x t o c.first) (meanings.relation s (meanings.term s y) t o c.first)
        (relation_makes (forms.term x) (meanings.term s y) (term_makes s x y k.terms) t o c.first)
    literal_makes (Valid v l t r) = valid_makes x.location y.location k.location t
    literal_makes (Separated sign l t c ts r) = separated_makes x.location y.location k.location t ts.first ts.rest
    literal_makes (Event e l m r) = event_makes e (x.name m) (y.name m) (k.name m)

    conjunction_makes : (c : Chain (Literal i)) → MakesPredicate (forms.conjunction x c) (meanings.conjunction s y c)
    conjunction_makes c = chain_makes (forms.literal x) (meanings.literal s y) literal_makes c

    disjunction_makes : (d : Disjunction i) → MakesPredicate (forms.disjunction x d) (meanings.disjunction s y d)
    disjunction_makes d = chain_makes (forms.conjunction x) (meanings.conjunction s y) conjunction_makes d

    implication_makes : (l : Implication i) → MakesPredicate (forms.implication x l) (meanings.implication s y l)
    implication_makes (Plain d) = disjunction_makes d
    implication_makes (Implies d t n) = on_last_two (forms.disjunction x d) (x.implication n) (meanings.disjunction s y d) (y.implication n) (op.Connective t) (connected t.word) (disjunction_makes d) (k.implication n) (λ p u n. refl)

    predicate_makes : (p : trees.Predicate i) → MakesPredicate (forms.predicate x p) (meanings.predicate s y p)
    predicate_makes p = chain_makes (forms.implication x) (meanings.implication s y) implication_makes p

  pub inner_makes : (n : ℕ) → InnerMakes (forms_at n) (meanings_at s n)
  inner_makes zero =
      record {
        terms = record { term = λ t. absurd t; factor = λ t. absurd t };
        literal = λ t. absurd t;
        implication = λ t. absurd t;
        predicate = λ t. absurd t;
        location = λ t. absurd t;
        name = λ t. absurd t;
      }
  inner_makes (suc n) =
      let k = inner_makes n in
      let x = forms_at n in
      let y = meanings_at s n in
      record {
        terms = record { term = term_makes s x y k.terms; factor = factor_makes s x y k.terms };
        literal = literal_makes x y k;
        implication = implication_makes x y k;
        predicate = predicate_makes x y k;
        location = location_makes s x y k.terms;
        name = λ m. refl;
      }

  pub whole_term : (n : ℕ) (t : Term (inside_at n)) → run s (forms.term (forms_at n) t []) (state [] [] []) ≡ (meanings.term s (meanings_at s n) t >>= (λ a. Ok (state (a ∷ []) [] [])))
  unfolding run
  whole_term n t = (term_makes s (forms_at n) (meanings_at s n) (inner_makes n).terms t).runs [] (state [] [] [])

  pub whole_predicate : (n : ℕ) (p : trees.Predicate (inside_at n)) → run s (forms.predicate (forms_at n) p []) (state [] [] []) ≡ (meanings.predicate s (meanings_at s n) p >>= (λ r. Ok (state [] [] (r ∷ []))))
  unfolding run
  whole_predicate n p = let h = predicate_makes (forms_at n) (meanings_at s n) (inner_makes n) p in h.makes.runs [] (state [] [] []) ∙ h.agrees (state [] [] []) refl
