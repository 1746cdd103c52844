-- What a tree stands for, or the first rule that it breaks: parts come before the whole, from left to right; chains are grouped to the left, `==>` to the right, and a chain of relations is the conjunction of its neighbours.
use Rattle.std.specs.Prelude.{ℕ, zero, suc, Bool, true, false, List, [], ◌∷◌, map, Ok, Err}
use Rattle.c_words.specs.declared.word.Word.{Word}
use Rattle.c_words.specs.declared.word.Word.TheVariants as w
use Rattle.c_words.specs.declared.word.Leaf.{Leaf}
use Rattle.c_words.specs.declared.chain.Chain.{Chain}
use Rattle.c_words.specs.declared.chain.Link.{Link}
use Rattle.step_meaning.specs.declared.predicate.Predicate.{Predicate}
use Rattle.step_meaning.specs.declared.predicate.Predicate.TheVariants as q
use Rattle.acsl_grammar.specs.Trees as trees
use Rattle.acsl_grammar.specs.Trees.{Inside, Atom, Name, Constant, Paren, At, EventValue, Suffix, Member, Arrow, Index, Factor, Prefix, Post, Term, Range, FromTo, Object, Objects, Group, InParens, Literal, Not, Grouped, Truth, Relations, Valid, Separated, Event, Disjunction, Implication, Plain, Implies, inside_at}
use Rattle.acsl_rules.specs.Checked.{Checked, ◌>>=◌}
use Rattle.acsl_rules.specs.Parts.{Part, parenthesised, value, side, base}
use Rattle.acsl_rules.specs.Rules as rules
use Rattle.acsl_rules.specs.Rules.{Known, Located, place_of, is_equality}

-- what stands in the positions that nest
pub record InnerMeanings (i : Inside) : Type 0 where
  pub term : i.Terms → Checked Part
  pub factor : i.Factors → Checked Part
  pub literal : i.Literals → Checked Predicate
  pub implication : i.Implications → Checked Predicate
  pub predicate : i.Predicates → Checked Predicate
  pub location : i.Locations → Checked Located
  pub name : i.Names → Leaf

abbrev pub truth : Word → Predicate
truth w.SlashTrue = q.True
truth _ = q.False

abbrev pub connected : Word → Predicate → Predicate → Predicate
connected w.AndAnd a b = q.And a b
connected w.OrOr a b = q.Or a b
connected w.Implies a b = q.Implies a b
connected _ a b = q.Iff a b

module _ (s : Known) where
  -- ---- chains

  module _ {A : Type 0} (operand : A → Checked Part) where
    unfoldable pub operated_by : Part → List (Link A) → Checked Part
    operated_by a [] = Ok a
    operated_by a (l ∷ ls) = do
      x ← value a
      b ← operand l.operand
      y ← value b
      c ← rules.operated s l.operator x y
      operated_by c ls

    abbrev pub term_chain : Chain A → Checked Part
    term_chain c = operand c.first >>= (λ a. operated_by a c.rest)

    -- a relation between two operands of a chain
    abbrev pub relation : A → Leaf → A → Checked Predicate
    relation a o b = do
      x ← operand a
      u ← side (is_equality o.word) x
      y ← operand b
      v ← side (is_equality o.word) y
      rules.related o u v

    unfoldable pub relations_by : A → Predicate → List (Link A) → Checked Predicate
    relations_by left r [] = Ok r
    relations_by left r (l ∷ ls) = do
      n ← relation left l.operator l.operand
      relations_by l.operand (q.And r n) ls

  module _ {A : Type 0} (operand : A → Checked Predicate) where
    unfoldable pub connected_by : Predicate → List (Link A) → Checked Predicate
    connected_by a [] = Ok a
    connected_by a (l ∷ ls) = do
      b ← operand l.operand
      connected_by (connected l.operator.word a b) ls

    abbrev pub predicate_chain : Chain A → Checked Predicate
    predicate_chain c = operand c.first >>= (λ a. connected_by a c.rest)

  module _ {A : Type 0} (operand : A → Checked Located) where
    unfoldable pub locations : List (Link A) → Checked (List Located)
    locations [] = Ok []
    locations (l ∷ ls) = do
      a ← operand l.operand
      more ← locations ls
      Ok (a ∷ more)

  module _ {i : Inside} (inner : InnerMeanings i) where
    -- ---- terms

    abbrev pub atom : Atom i → Checked Part
    atom (Name t) = rules.named s t
    atom (Constant t) = rules.constant s t
    atom (Paren l t r) = inner.term t >>= (λ a. Ok (parenthesised (place_of l) a))
    atom (At sign l t c label r) = inner.term t >>= (λ a. rules.at s sign label a)
    atom (EventValue f l r d x) = rules.event_value s f x

    abbrev pub suffix : Suffix i → Part → Checked Part
    suffix (Member dot n) a = rules.member s dot n a
    suffix (Arrow sign n) a = rules.arrow s sign n a
    suffix (Index l t r) a = do
      b ← base a
      x ← inner.term t
      y ← value x
      rules.element s l b y

    unfoldable pub suffixes : Part → List (Suffix i) → Checked Part
    suffixes a [] = Ok a
    suffixes a (x ∷ xs) = suffix x a >>= (λ b. suffixes b xs)

    abbrev pub factor : Factor i → Checked Part
    factor (Prefix t f) = inner.factor f >>= (λ a. rules.prefix t a)
    factor (Post a xs) = atom a >>= (λ b. suffixes b xs)

    abbrev pub product : Chain (Factor i) → Checked Part
    product c = term_chain factor c

    abbrev pub term : Term i → Checked Part
    term c = term_chain product c

    -- ---- locations

    abbrev pub range : Range i → Checked (Part × Part)
    range (FromTo l a d b r) = do
      x ← inner.term a
      u ← value x
      y ← inner.term b
      v ← value y
      Ok (u, v)

    abbrev pub location : trees.Location i → Checked Located
    location (Object t) = term t >>= (λ a. rules.object a)
    location (Objects t plus r) = do
      a ← term t
      v ← value a
      ends ← range r
      rules.objects s v ends.0 ends.1

    -- ---- predicates

    abbrev pub group : Group i → Checked Predicate
    group (InParens l p r) = inner.predicate p

    abbrev pub literal : Literal i → Checked Predicate
    literal (Not t l) = inner.literal l >>= (λ p. Ok (q.Not p))
    literal (Grouped g) = group g
    literal (Truth t) = Ok (truth t.word)
    literal (Relations t o c) = do
      r ← relation term t o c.first
      relations_by term c.first r c.rest
    literal (Valid v l t r) = inner.location t >>= (λ a. rules.valid a)
    literal (Separated sign l t c ts r) = do
      a ← inner.location t
      b ← inner.location ts.first
      more ← locations inner.location ts.rest
      Ok (q.Separated (map (λ l. l.location) (a ∷ b ∷ more)))
    literal (Event e l n r) = rules.event_of s e (inner.name n)

    abbrev pub conjunction : Chain (Literal i) → Checked Predicate
    conjunction c = predicate_chain literal c

    abbrev pub disjunction : Disjunction i → Checked Predicate
    disjunction d = predicate_chain conjunction d

    abbrev pub implication : Implication i → Checked Predicate
    implication (Plain d) = disjunction d
    implication (Implies d t n) = do
      a ← disjunction d
      b ← inner.implication n
      Ok (connected t.word a b)

    abbrev pub predicate : trees.Predicate i → Checked Predicate
    predicate p = predicate_chain implication p

  abbrev pub meanings_at : (n : ℕ) → InnerMeanings (inside_at n)
  meanings_at zero =
      record { term = λ t. absurd t; factor = λ t. absurd t; literal = λ t. absurd t; implication = λ t. absurd t; predicate = λ t. absurd t; location = λ t. absurd t; name = λ t. absurd t }
  meanings_at (suc n) =
      let m = meanings_at n in
      record { term = term m; factor = factor m; literal = literal m; implication = implication m; predicate = predicate m; location = location m; name = λ t. t }

  -- what a predicate stands for, and the part that a term is
  abbrev pub meaning_of_predicate : (n : ℕ) → trees.Predicate (inside_at n) → Checked Predicate
  meaning_of_predicate n p = predicate (meanings_at n) p

  abbrev pub meaning_of_term : (n : ℕ) → Term (inside_at n) → Checked Part
  meaning_of_term n t = term (meanings_at n) t
