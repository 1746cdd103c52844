-- The nodes of a text: each name, constant, operator, relation, index, member, `\at` and predicate word is one; a member counts with its name, `\at` with its label, an event with its function's name, and the `+` and `..` of a location together.
-- A chain of relations counts as the conjunction that it stands for; parentheses count nothing.
use Rattle.std.specs.Prelude.{ℕ, zero, suc, ◌+◌, List, [], ◌∷◌}
use Rattle.c_words.specs.declared.word.Leaf.{Leaf}
use Rattle.c_words.specs.declared.chain.Chain.{Chain}
use Rattle.c_words.specs.declared.chain.Link.{Link}
use Rattle.acsl_grammar.specs.Trees.{Inside, Atom, Name, Constant, Paren, At, EventValue, Suffix, Member, Arrow, Index, Factor, Prefix, Post, Term, Range, FromTo, Location, Object, Objects, Group, InParens, Literal, Not, Grouped, Truth, Relations, Valid, Separated, Event, Disjunction, Implication, Plain, Implies, Predicate, inside_at}

pub record InnerNodes (i : Inside) : Type 0 where
  pub term : i.Terms → ℕ
  pub factor : i.Factors → ℕ
  pub literal : i.Literals → ℕ
  pub implication : i.Implications → ℕ
  pub predicate : i.Predicates → ℕ
  pub location : i.Locations → ℕ

module _ {A : Type 0} (operand : A → ℕ) where
  -- each operator with its operand
  unfoldable pub links : List (Link A) → ℕ
  links [] = 0
  links (l ∷ ls) = suc (operand l.operand + links ls)

  abbrev pub chain : Chain A → ℕ
  chain c = operand c.first + links c.rest

  -- a further relation has its left operand once more, and a connective before it
  unfoldable pub more_relations : A → List (Link A) → ℕ
  more_relations left [] = 0
  more_relations left (l ∷ ls) = suc (suc (operand left + operand l.operand)) + more_relations l.operand ls

  unfoldable pub parts : List (Link A) → ℕ
  parts [] = 0
  parts (l ∷ ls) = operand l.operand + parts ls

module _ {i : Inside} (inner : InnerNodes i) where
  abbrev pub atom : Atom i → ℕ
  atom (Name t) = 1
  atom (Constant t) = 1
  atom (Paren l t r) = inner.term t
  atom (At a l t c n r) = suc (inner.term t)
  atom (EventValue f l r d x) = 1

  abbrev pub suffix : Suffix i → ℕ
  suffix (Member t n) = 1
  suffix (Arrow t n) = 1
  suffix (Index l t r) = suc (inner.term t)

  unfoldable pub suffixes : List (Suffix i) → ℕ
  suffixes [] = 0
  suffixes (s ∷ ss) = suffix s + suffixes ss

  abbrev pub factor : Factor i → ℕ
  factor (Prefix t f) = suc (inner.factor f)
  factor (Post a ss) = atom a + suffixes ss

  abbrev pub product : Chain (Factor i) → ℕ
  product c = chain factor c

  abbrev pub term : Term i → ℕ
  term c = chain product c

  abbrev pub range : Range i → ℕ
  range (FromTo l a d b r) = inner.term a + inner.term b

  abbrev pub location : Location i → ℕ
  location (Object t) = term t
  location (Objects t p r) = suc (term t + range r)

  abbrev pub group : Group i → ℕ
  group (InParens l p r) = inner.predicate p

  abbrev pub literal : Literal i → ℕ
  literal (Not t l) = suc (inner.literal l)
  literal (Grouped g) = group g
  literal (Truth t) = 1
  literal (Relations t o c) = suc (term t + term c.first) + more_relations term c.first c.rest
  literal (Valid v l t r) = suc (inner.location t)
  literal (Separated s l t c ts r) = suc (inner.location t + (inner.location ts.first + parts inner.location ts.rest))
  literal (Event e l n r) = 1

  abbrev pub conjunction : Chain (Literal i) → ℕ
  conjunction c = chain literal c

  abbrev pub disjunction : Disjunction i → ℕ
  disjunction d = chain conjunction d

  abbrev pub implication : Implication i → ℕ
  implication (Plain d) = disjunction d
  implication (Implies d t n) = suc (disjunction d + inner.implication n)

  abbrev pub predicate : Predicate i → ℕ
  predicate p = chain implication p

abbrev pub nodes_at : (n : ℕ) → InnerNodes (inside_at n)
nodes_at zero = record { term = λ t. absurd t; factor = λ t. absurd t; literal = λ t. absurd t; implication = λ t. absurd t; predicate = λ t. absurd t; location = λ t. absurd t }
nodes_at (suc n) =
    let m = nodes_at n in
    record { term = term m; factor = factor m; literal = literal m; implication = implication m; predicate = predicate m; location = location m }

-- the nodes of a predicate and of a term
abbrev pub nodes_of_predicate : (n : ℕ) → Predicate (inside_at n) → ℕ
nodes_of_predicate n p = predicate (nodes_at n) p

abbrev pub nodes_of_term : (n : ℕ) → Term (inside_at n) → ℕ
nodes_of_term n t = term (nodes_at n) t
