-- The postfix form of a tree: the operations after those that were there before it. A term between two relations stands there once for each.
use Rattle.std.specs.Prelude.{ℕ, zero, suc, List, [], ◌∷◌, ◌++◌}
use Rattle.c_words.specs.declared.word.Leaf.{Leaf}
use Rattle.c_words.specs.declared.chain.Chain.{Chain}
use Rattle.c_words.specs.declared.chain.Link.{Link}
use Rattle.acsl_grammar.specs.Trees.{Inside, Atom, Name, Constant, Paren, At, EventValue, Suffix, Member, Arrow, Index, Factor, Prefix, Post, Term, Range, FromTo, Location, Object, Objects, Group, InParens, Literal, Not, Grouped, Truth, Relations, Valid, Separated, Event, Disjunction, Implication, Plain, Implies, Predicate, inside_at}
use Rattle.acsl_postfix.specs.declared.operation.Operation.{Operation}
use Rattle.acsl_postfix.specs.declared.operation.Operation.TheVariants as op

-- what a tree adds to the operations before it
abbrev pub Form : Type 0
Form = List Operation → List Operation

abbrev pub then_one : List Operation → Operation → List Operation
then_one ops o = ops ++ o ∷ []

pub record InnerForms (i : Inside) : Type 0 where
  pub term : i.Terms → Form
  pub factor : i.Factors → Form
  pub literal : i.Literals → Form
  pub implication : i.Implications → Form
  pub predicate : i.Predicates → Form
  pub location : i.Locations → Form
  pub name : i.Names → Leaf

-- operands with operators between them
module _ {A : Type 0} (operand : A → Form) where
  unfoldable pub term_links : List (Link A) → Form
  term_links [] ops = ops
  term_links (l ∷ ls) ops = term_links ls (then_one (then_one (operand l.operand (then_one ops op.Value)) op.Value) (op.Operator l.operator))

  abbrev pub term_chain : Chain A → Form
  term_chain c ops = term_links c.rest (operand c.first ops)

  unfoldable pub predicate_links : List (Link A) → Form
  predicate_links [] ops = ops
  predicate_links (l ∷ ls) ops = predicate_links ls (then_one (operand l.operand ops) (op.Connective l.operator))

  abbrev pub predicate_chain : Chain A → Form
  predicate_chain c ops = predicate_links c.rest (operand c.first ops)

  -- more relations after one whose right operand this is
  unfoldable pub relation_links : A → List (Link A) → Form
  relation_links left [] ops = ops
  relation_links left (l ∷ ls) ops =
      relation_links l.operand ls
      (then_one (then_one (then_one (operand l.operand (then_one (operand left ops) (op.Side l.operator))) (op.Side l.operator)) (op.Relation l.operator)) op.Both)

  -- operands without operations of their own between them
  unfoldable pub operand_links : List (Link A) → Form
  operand_links [] ops = ops
  operand_links (l ∷ ls) ops = operand_links ls (operand l.operand ops)

module _ {i : Inside} (inner : InnerForms i) where
  abbrev pub atom : Atom i → Form
  atom (Name t) ops = then_one ops (op.Name t)
  atom (Constant t) ops = then_one ops (op.Constant t)
  atom (Paren l t r) ops = then_one (inner.term t ops) (op.Parenthesis l)
  atom (At a l t c n r) ops = then_one (inner.term t ops) (op.At a n)
  atom (EventValue f l r d x) ops = then_one ops (op.EventValue f x)

  abbrev pub suffix : Suffix i → Form
  suffix (Member t n) ops = then_one ops (op.Member t n)
  suffix (Arrow t n) ops = then_one ops (op.Arrow t n)
  suffix (Index l t r) ops = then_one (then_one (inner.term t (then_one ops op.Base)) op.Value) (op.Index l)

  unfoldable pub suffixes : List (Suffix i) → Form
  suffixes [] ops = ops
  suffixes (s ∷ ss) ops = suffixes ss (suffix s ops)

  abbrev pub factor : Factor i → Form
  factor (Prefix t f) ops = then_one (inner.factor f ops) (op.Prefix t)
  factor (Post a ss) ops = suffixes ss (atom a ops)

  abbrev pub product : Chain (Factor i) → Form
  product c = term_chain factor c

  abbrev pub term : Term i → Form
  term c = term_chain product c

  abbrev pub range : Range i → Form
  range (FromTo l a d b r) ops = then_one (inner.term b (then_one (inner.term a ops) op.Value)) op.Value

  abbrev pub location : Location i → Form
  location (Object t) ops = then_one (term t ops) op.Object
  location (Objects t p r) ops = then_one (range r (then_one (term t ops) op.Value)) op.Objects

  abbrev pub group : Group i → Form
  group (InParens l p r) ops = inner.predicate p ops

  abbrev pub first_relation : Term i → Leaf → Term i → Form
  first_relation t o u ops = then_one (then_one (term u (then_one (term t ops) (op.Side o))) (op.Side o)) (op.Relation o)

  abbrev pub literal : Literal i → Form
  literal (Not t l) ops = then_one (inner.literal l ops) op.Not
  literal (Grouped g) ops = group g ops
  literal (Truth t) ops = then_one ops (op.Truth t)
  literal (Relations t o c) ops = relation_links term c.first c.rest (first_relation t o c.first ops)
  literal (Valid v l t r) ops = then_one (inner.location t ops) op.Valid
  literal (Separated s l t c ts r) ops = then_one (operand_links inner.location ts.rest (inner.location ts.first (inner.location t ops))) op.Separated
  literal (Event e l n r) ops = then_one ops (op.Event e (inner.name n))

  abbrev pub conjunction : Chain (Literal i) → Form
  conjunction c = predicate_chain literal c

  abbrev pub disjunction : Disjunction i → Form
  disjunction d = predicate_chain conjunction d

  abbrev pub implication : Implication i → Form
  implication (Plain d) ops = disjunction d ops
  implication (Implies d t n) ops = then_one (inner.implication n (disjunction d ops)) (op.Connective t)

  abbrev pub predicate : Predicate i → Form
  predicate p = predicate_chain implication p

abbrev pub forms_at : (n : ℕ) → InnerForms (inside_at n)
forms_at zero =
    record { term = λ t. absurd t; factor = λ t. absurd t; literal = λ t. absurd t; implication = λ t. absurd t; predicate = λ t. absurd t; location = λ t. absurd t; name = λ t. absurd t }
forms_at (suc n) =
    let f = forms_at n in
    record { term = term f; factor = factor f; literal = literal f; implication = implication f; predicate = predicate f; location = location f; name = λ t. t }
