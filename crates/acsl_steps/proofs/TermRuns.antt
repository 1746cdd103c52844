-- Terms and locations: their forms make what they stand for.
use Rattle.std.proofs.Common.{◌≡◌, List, [], ◌∷◌, ◌++◌, refl, sym, ap, ◌∙◌}
use Rattle.std.specs.Prelude.{Ok, Err}
use Rattle.c_words.specs.declared.word.Leaf.{Leaf}
use Rattle.c_words.specs.declared.chain.Chain.{Chain}
use Rattle.c_words.specs.declared.chain.Link.{Link}
use Rattle.acsl_grammar.specs.Trees as trees
use Rattle.acsl_grammar.specs.Trees.{Inside, Atom, Name, Constant, Paren, At, EventValue, Suffix, Member, Arrow, Index, Factor, Prefix, Post, Term, Range, FromTo, Location, Object, Objects}
use Rattle.acsl_postfix.specs.declared.operation.Operation.{Operation}
use Rattle.acsl_postfix.specs.declared.operation.Operation.TheVariants as op
use Rattle.acsl_postfix.specs.Forms as forms
use Rattle.acsl_postfix.specs.Forms.{Form, InnerForms, then_one, term_links}
use Rattle.acsl_rules.specs.Checked.{Checked, ◌>>=◌}
use Rattle.acsl_rules.specs.Parts.{Part, parenthesised, value, base}
use Rattle.acsl_rules.specs.Rules as rules
use Rattle.acsl_rules.specs.Rules.{Known, Located, place_of}
use Rattle.acsl_rules.specs.Meanings as meanings
use Rattle.acsl_rules.specs.Meanings.{InnerMeanings}
use Rattle.acsl_steps.specs.Machine.{State, state, push_part, push_location, step, run}
use Rattle.acsl_steps.proofs.Runs.{bind_assoc, bind_same, bind_ok, Makes, makes_nothing, makes_one, makes_both, makes_same}
use Rattle.acsl_steps.proofs.Combining.{MakesPart, same_part, unary, binary}

-- the ends of a range
abbrev ends_of : Part → Part → Checked (Part × Part)
ends_of a b = Ok (a, b)

module _ (s : Known) where
  -- operators and operands after a first
  pub links_make : {A : Type 0} (f : A → Form) (operand : A → Checked Part) → ((a : A) → MakesPart s (f a) (operand a)) → (ls : List (Link A)) (form : Form) (r : Checked Part)
      → MakesPart s form r → MakesPart s (λ ops. term_links f ls (form ops)) (r >>= (λ a. meanings.operated_by s operand a ls))
  unfolding term_links meanings.operated_by
  links_make f operand k [] form r h = same_part s form r (r >>= (λ a. Ok a)) h (sym (bind_ok r))
  links_make f operand k (l ∷ ls) form r h =
      let more : Form = λ ops. then_one (then_one (f l.operand (then_one (form ops) op.Value)) op.Value) (op.Operator l.operator) in
      let q : Checked Part = r >>= (λ a. value a >>= (λ x. operand l.operand >>= (λ b. value b >>= (λ y. rules.operated s l.operator x y)))) in
      same_part s (λ ops. term_links f ls (more ops)) (q >>= (λ a. meanings.operated_by s operand a ls)) (r >>= (λ a. meanings.operated_by s operand a (l ∷ ls)))
      (links_make f operand k ls more q (binary s form (f l.operand) r (operand l.operand) op.Value op.Value (op.Operator l.operator) value value (rules.operated s l.operator) push_part h (k l.operand) (λ a n. refl) (λ a n. refl) (λ a b n. refl)))
      (bind_assoc r (λ a. value a >>= (λ x. operand l.operand >>= (λ b. value b >>= (λ y. rules.operated s l.operator x y)))) (λ a. meanings.operated_by s operand a ls)
      ∙ bind_same r (λ a. bind_assoc (value a) (λ x. operand l.operand >>= (λ b. value b >>= (λ y. rules.operated s l.operator x y))) (λ a. meanings.operated_by s operand a ls)
      ∙ bind_same (value a) (λ x. bind_assoc (operand l.operand) (λ b. value b >>= (λ y. rules.operated s l.operator x y)) (λ a. meanings.operated_by s operand a ls)
      ∙ bind_same (operand l.operand) (λ b. bind_assoc (value b) (λ y. rules.operated s l.operator x y) (λ a. meanings.operated_by s operand a ls)))))

  pub chain_makes : {A : Type 0} (f : A → Form) (operand : A → Checked Part) → ((a : A) → MakesPart s (f a) (operand a)) → (c : Chain A) → MakesPart s (forms.term_chain f c) (meanings.term_chain s operand c)
  chain_makes f operand k c = links_make f operand k c.rest (f c.first) (operand c.first) (k c.first)

  -- what nests in terms
  pub record TermsMake {i : Inside} (x : InnerForms i) (y : InnerMeanings i) : Type 0 where
    pub term : (t : i.Terms) → MakesPart s (x.term t) (y.term t)
    pub factor : (f : i.Factors) → MakesPart s (x.factor f) (y.factor f)

  module _ {i : Inside} (x : InnerForms i) (y : InnerMeanings i) (k : TermsMake x y) where
    atom_makes : (a : Atom i) → MakesPart s (forms.atom x a) (meanings.atom s y a)
    atom_makes (Name t) = makes_one s (op.Name t)
    atom_makes (Constant t) = makes_one s (op.Constant t)
    atom_makes (Paren l t r) = unary s (x.term t) (y.term t) (op.Parenthesis l) (λ a. Ok (parenthesised (place_of l) a)) push_part (k.term t) (λ a n. refl)
    atom_makes (At a l t c n r) = unary s (x.term t) (y.term t) (op.At a n) (rules.at s a n) push_part (k.term t) (λ a n. refl)
    atom_makes (EventValue f l r d v) = makes_one s (op.EventValue f v)

    suffix_makes : (u : Suffix i) (form : Form) (r : Checked Part) → MakesPart s form r → MakesPart s (λ ops. forms.suffix x u (form ops)) (r >>= meanings.suffix s y u)
    suffix_makes (Member t n) form r h = unary s form r (op.Member t n) (rules.member s t n) push_part h (λ a n. refl)
    suffix_makes (Arrow t n) form r h = unary s form r (op.Arrow t n) (rules.arrow s t n) push_part h (λ a n. refl)
    suffix_makes (Index l t e) form r h = binary s form (x.term t) r (y.term t) op.Base op.Value (op.Index l) base value (rules.element s l) push_part h (k.term t) (λ a n. refl) (λ a n. refl) (λ a b n. refl)

    suffixes_make : (us : List (Suffix i)) (form : Form) (r : Checked Part) → MakesPart s form r → MakesPart s (λ ops. forms.suffixes x us (form ops)) (r >>= (λ a. meanings.suffixes s y a us))
    unfolding forms.suffixes meanings.suffixes
    suffixes_make [] form r h = same_part s form r (r >>= (λ a. Ok a)) h (sym (bind_ok r))
    suffixes_make (u ∷ us) form r h =
        same_part s (λ ops. forms.suffixes x us (forms.suffix x u (form ops))) ((r >>= meanings.suffix s y u) >>= (λ a. meanings.suffixes s y a us)) (r >>= (λ a. meanings.suffix s y u a >>= (λ b. meanings.suffixes s y b us)))
        (suffixes_make us (λ ops. forms.suffix x u (form ops)) (r >>= meanings.suffix s y u) (suffix_makes u form r h)) (bind_assoc r (meanings.suffix s y u) (λ b. meanings.suffixes s y b us))

    pub factor_makes : (f : Factor i) → MakesPart s (forms.factor x f) (meanings.factor s y f)
    factor_makes (Prefix t f) = unary s (x.factor f) (y.factor f) (op.Prefix t) (rules.prefix t) push_part (k.factor f) (λ a n. refl)
    factor_makes (Post a us) = suffixes_make us (forms.atom x a) (meanings.atom s y a) (atom_makes a)

    product_makes : (c : Chain (Factor i)) → MakesPart s (forms.product x c) (meanings.product s y c)
    product_makes c = chain_makes (forms.factor x) (meanings.factor s y) factor_makes c

    pub term_makes : (t : Term i) → MakesPart s (forms.term x t) (meanings.term s y t)
    term_makes t = chain_makes (forms.product x) (meanings.product s y) product_makes t

    -- ---- locations

    -- the two ends of a range
    range_makes : (e : Range i) → Makes s (forms.range x e) (λ n. meanings.range s y e >>= (λ ends. Ok (push_part ends.1 (push_part ends.0 n))))
    range_makes (FromTo l a d b r) =
        let va = unary s (x.term a) (y.term a) op.Value value push_part (k.term a) (λ a n. refl) in
        let vb = unary s (x.term b) (y.term b) op.Value value push_part (k.term b) (λ a n. refl) in
        makes_same s (forms.range x (FromTo l a d b r)) _ _ (makes_both s (λ ops. then_one (x.term a ops) op.Value) (λ ops. then_one (x.term b ops) op.Value) _ _ va vb) whole
      where
        both : (u : Part) → (y.term b >>= (λ p. value p >>= (λ v. ends_of u v))) ≡ ((y.term b >>= value) >>= (λ v. ends_of u v))
        both u = sym (bind_assoc (y.term b) value (λ v. ends_of u v))

        whole : (n : State)
            → (((y.term a >>= value) >>= (λ u. Ok (push_part u n))) >>= (λ n. (y.term b >>= value) >>= (λ v. Ok (push_part v n))))
            ≡ ((y.term a >>= (λ p. value p >>= (λ u. y.term b >>= (λ q. value q >>= (λ v. ends_of u v))))) >>= (λ ends. Ok (push_part ends.1 (push_part ends.0 n))))
        whole n =
            bind_assoc (y.term a >>= value) (λ u. Ok (push_part u n)) (λ n. (y.term b >>= value) >>= (λ v. Ok (push_part v n)))
            ∙ bind_same (y.term a >>= value) (λ u. sym (bind_assoc (y.term b >>= value) (λ v. ends_of u v) (λ ends. Ok (push_part ends.1 (push_part ends.0 n)))) ∙ ap (λ q. q >>= (λ ends. Ok (push_part ends.1 (push_part ends.0 n)))) (sym (both u)))
            ∙ sym (bind_assoc (y.term a >>= value) (λ u. y.term b >>= (λ q. value q >>= (λ v. ends_of u v))) (λ ends. Ok (push_part ends.1 (push_part ends.0 n))))
            ∙ ap (λ q. q >>= (λ ends. Ok (push_part ends.1 (push_part ends.0 n)))) (bind_assoc (y.term a) value (λ u. y.term b >>= (λ q. value q >>= (λ v. ends_of u v))))

    pub location_makes : (l : Location i) → Makes s (forms.location x l) (λ n. meanings.location s y l >>= (λ a. Ok (push_location a n)))
    location_makes (Object t) = unary s (forms.term x t) (meanings.term s y t) op.Object rules.object push_location (term_makes t) (λ a n. refl)
    location_makes (Objects t p e) =
        let v = unary s (forms.term x t) (meanings.term s y t) op.Value value push_part (term_makes t) (λ a n. refl) in
        makes_same s (forms.location x (Objects t p e)) _ _
        (makes_both s (λ ops. forms.range x e (then_one (forms.term x t ops) op.Value)) (λ ops. then_one ops op.Objects) _ _
        (makes_both s (λ ops. then_one (forms.term x t ops) op.Value) (forms.range x e) _ _ v (range_makes e)) (makes_one s op.Objects)) whole
      where
        whole : (n : State)
            → ((((meanings.term s y t >>= value) >>= (λ v. Ok (push_part v n))) >>= (λ n. meanings.range s y e >>= (λ ends. Ok (push_part ends.1 (push_part ends.0 n))))) >>= step s op.Objects)
            ≡ ((meanings.term s y t >>= (λ a. value a >>= (λ v. meanings.range s y e >>= (λ ends. rules.objects s v ends.0 ends.1)))) >>= (λ a. Ok (push_location a n)))
        whole n =
            ap (λ q. q >>= step s op.Objects) (bind_assoc (meanings.term s y t >>= value) (λ v. Ok (push_part v n)) (λ n. meanings.range s y e >>= (λ ends. Ok (push_part ends.1 (push_part ends.0 n)))))
            ∙ bind_assoc (meanings.term s y t >>= value) (λ v. meanings.range s y e >>= (λ ends. Ok (push_part ends.1 (push_part ends.0 (push_part v n))))) (step s op.Objects)
            ∙ bind_same (meanings.term s y t >>= value) (λ v. bind_assoc (meanings.range s y e) (λ ends. Ok (push_part ends.1 (push_part ends.0 (push_part v n)))) (step s op.Objects)
            ∙ sym (bind_assoc (meanings.range s y e) (λ ends. rules.objects s v ends.0 ends.1) (λ a. Ok (push_location a n))))
            ∙ sym (bind_assoc (meanings.term s y t >>= value) (λ v. meanings.range s y e >>= (λ ends. rules.objects s v ends.0 ends.1)) (λ a. Ok (push_location a n)))
            ∙ ap (λ q. q >>= (λ a. Ok (push_location a n))) (bind_assoc (meanings.term s y t) value (λ v. meanings.range s y e >>= (λ ends. rules.objects s v ends.0 ends.1)))
