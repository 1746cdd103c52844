-- The grammar of terms and predicates (ACSL, terms, predicates, memory locations, `\at`; Aoraï manual, Ya): its trees, and the tokens that each writes.
-- Whatever stands inside parentheses or brackets, after a prefix operator, inside `\at` or on the right of `==>` is in a position that nests. So a tree that nests at most so deep is made of trees that nest one less.
use Rattle.std.specs.Prelude.{ℕ, zero, suc, List, map}
use Rattle.c_words.specs.declared.word.Word.{Word}
use Rattle.c_words.specs.declared.word.Word.TheVariants as w
use Rattle.c_words.specs.declared.word.Leaf.{Leaf}
use Rattle.c_words.specs.declared.chain.Chain.{Chain}
use Rattle.c_words.specs.declared.chain.Link.{Link}
use Rattle.c_words.specs.Words.{same}
use Rattle.c_words.specs.OperatorWords.{is_comma, is_product_operator, is_sum_operator}
use Rattle.c_words.specs.Written.{Written, ◌then◌, one, one_of, only, run, chain}
use Rattle.acsl_grammar.specs.Vocabulary.{is_name, is_constant, is_label, is_event_value, is_unary, is_truth, is_validity, is_event, is_comparison, is_one_way}

-- what stands in the positions that nest
pub record Inside : Type 1 where
  pub Terms : Type 0
  pub Factors : Type 0
  pub Literals : Type 0
  pub Implications : Type 0
  pub Predicates : Type 0
  pub Locations : Type 0
  pub Names : Type 0

-- ---- the alternatives, over what nests

module _ (i : Inside) where
  pub data Atom : Type 0 where
    Name : Leaf → Atom
    Constant : Leaf → Atom
    Paren : Leaf → i.Terms → Leaf → Atom
    -- `\at(t, Pre)` and `\at(t, Here)`
    At : Leaf → Leaf → i.Terms → Leaf → Leaf → Leaf → Atom
    -- `f().x` and `f().\result`
    EventValue : Leaf → Leaf → Leaf → Leaf → Leaf → Atom

  pub data Suffix : Type 0 where
    Member : Leaf → Leaf → Suffix
    Arrow : Leaf → Leaf → Suffix
    Index : Leaf → i.Terms → Leaf → Suffix

  pub data Factor : Type 0 where
    Prefix : Leaf → i.Factors → Factor
    Post : Atom → List Suffix → Factor

  abbrev pub Term : Type 0
  Term = Chain (Chain Factor)

  -- `(a .. b)`
  pub data Range : Type 0 where
    FromTo : Leaf → i.Terms → Leaf → i.Terms → Leaf → Range

  -- `p` and `p + (a .. b)`
  pub data Location : Type 0 where
    Object : Term → Location
    Objects : Term → Leaf → Range → Location

  -- a predicate in parentheses
  pub data Group : Type 0 where
    InParens : Leaf → i.Predicates → Leaf → Group

  pub data Literal : Type 0 where
    Not : Leaf → i.Literals → Literal
    Grouped : Group → Literal
    Truth : Leaf → Literal
    -- a relation has an operator at least
    Relations : Term → Leaf → Chain Term → Literal
    Valid : Leaf → Leaf → i.Locations → Leaf → Literal
    -- `\separated` has two locations at least
    Separated : Leaf → Leaf → i.Locations → Leaf → Chain i.Locations → Leaf → Literal
    -- `CALL(f)`, `RETURN(f)` and `COR(f)`
    Event : Leaf → Leaf → i.Names → Leaf → Literal

  abbrev pub Disjunction : Type 0
  Disjunction = Chain (Chain Literal)

  pub data Implication : Type 0 where
    Plain : Disjunction → Implication
    Implies : Disjunction → Leaf → i.Implications → Implication

  abbrev pub Predicate : Type 0
  Predicate = Chain Implication

-- ---- trees that nest at most so deep: one that nests has nothing inside where the depth is 0

abbrev pub inside_at : ℕ → Inside
inside_at zero = record { Terms = ⊥; Factors = ⊥; Literals = ⊥; Implications = ⊥; Predicates = ⊥; Locations = ⊥; Names = ⊥ }
inside_at (suc n) =
    let i = inside_at n in
    record { Terms = Term i; Factors = Factor i; Literals = Literal i; Implications = Implication i; Predicates = Predicate i; Locations = Location i; Names = Leaf }

-- ---- what a tree writes

pub record Writes (i : Inside) : Type 0 where
  pub term : i.Terms → Written
  pub factor : i.Factors → Written
  pub literal : i.Literals → Written
  pub implication : i.Implications → Written
  pub predicate : i.Predicates → Written
  pub location : i.Locations → Written
  pub name : i.Names → Written

abbrev pub operator_words : {A : Type 0} → List (Link A) → List Word
operator_words ls = map (λ l. l.operator.word) ls

module _ {i : Inside} (writes : Writes i) where
  abbrev pub atom : Atom i → Written
  atom (Name t) = one_of is_name t
  atom (Constant t) = one_of is_constant t
  atom (Paren l t r) = one w.LeftParen l then writes.term t then one w.RightParen r
  atom (At a l t c n r) = one w.SlashAt a then one w.LeftParen l then writes.term t then one w.Comma c then one_of is_label n then one w.RightParen r
  atom (EventValue f l r d x) = one_of is_name f then one w.LeftParen l then one w.RightParen r then one w.Dot d then one_of is_event_value x

  abbrev pub suffix : Suffix i → Written
  suffix (Member t n) = one w.Dot t then one_of is_name n
  suffix (Arrow t n) = one w.Arrow t then one_of is_name n
  suffix (Index l t r) = one w.LeftBracket l then writes.term t then one w.RightBracket r

  abbrev pub factor : Factor i → Written
  factor (Prefix t f) = one_of is_unary t then writes.factor f
  factor (Post a ss) = atom a then run suffix ss

  abbrev pub product : Chain (Factor i) → Written
  product t = chain is_product_operator factor t

  abbrev pub term : Term i → Written
  term t = chain is_sum_operator product t

  abbrev pub range : Range i → Written
  range (FromTo l a d b r) = one w.LeftParen l then writes.term a then one w.DotDot d then writes.term b then one w.RightParen r

  abbrev pub location : Location i → Written
  location (Object t) = term t
  location (Objects t p r) = term t then one w.Plus p then range r

  abbrev pub group : Group i → Written
  group (InParens l p r) = one w.LeftParen l then writes.predicate p then one w.RightParen r

  abbrev pub literal : Literal i → Written
  literal (Not t l) = one w.Exclamation t then writes.literal l
  literal (Grouped g) = group g
  literal (Truth t) = one_of is_truth t
  literal (Relations t o c) = only (is_one_way o.word (operator_words c.rest)) then term t then one_of is_comparison o then chain is_comparison term c
  literal (Valid v l t r) = one_of is_validity v then one w.LeftParen l then writes.location t then one w.RightParen r
  literal (Separated s l t c ts r) = one w.SlashSeparated s then one w.LeftParen l then writes.location t then one w.Comma c then chain is_comma writes.location ts then one w.RightParen r
  literal (Event e l n r) = one_of is_event e then one w.LeftParen l then writes.name n then one w.RightParen r

  abbrev pub conjunction : Chain (Literal i) → Written
  conjunction c = chain (same w.AndAnd) literal c

  abbrev pub disjunction : Disjunction i → Written
  disjunction d = chain (same w.OrOr) conjunction d

  abbrev pub implication : Implication i → Written
  implication (Plain d) = disjunction d
  implication (Implies d t n) = disjunction d then one w.Implies t then writes.implication n

  abbrev pub predicate : Predicate i → Written
  predicate p = chain (same w.Equivalent) implication p

abbrev pub writes_at : (n : ℕ) → Writes (inside_at n)
writes_at zero =
    record { term = λ t. absurd t; factor = λ t. absurd t; literal = λ t. absurd t; implication = λ t. absurd t; predicate = λ t. absurd t; location = λ t. absurd t; name = λ t. absurd t }
writes_at (suc n) =
    let w = writes_at n in
    record { term = term w; factor = factor w; literal = literal w; implication = implication w; predicate = predicate w; location = location w; name = one_of is_name }
