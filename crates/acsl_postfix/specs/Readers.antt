-- Reading of terms and predicates into postfix form, for each alternative of the grammar.
use Rattle.std.specs.Prelude.{ℕ, zero, suc, Bool, true, false, not, ◌&&◌, if◌then◌else◌, Some}
use Rattle.c_words.specs.declared.word.Word.{Word}
use Rattle.c_words.specs.declared.word.Word.TheVariants as w
use Rattle.c_words.specs.declared.word.Leaf.{Leaf}
use Rattle.c_words.specs.Words.{same}
use Rattle.c_words.specs.OperatorWords.{is_comma, is_product_operator, is_sum_operator}
use Rattle.c_words.specs.Parsing.{Leaves, word_at, after}
use Rattle.acsl_grammar.specs.Vocabulary.{is_name, is_constant, is_label, is_event_value, is_unary, is_truth, is_validity, is_event, is_comparison}
use Rattle.acsl_grammar.specs.TermReading.{is_suffix, FactorStart, StartsName, StartsConstant, StartsUnary, StartsParen, StartsAt, StartsNoFactor, factor_start, LiteralStart, StartsNot, StartsTruth, StartsValid, StartsSeparated, StartsEvent, StartsTerm, literal_start, is_event_ahead, start_at, Way, way_of, way_after, leads}
use Rattle.acsl_postfix.specs.declared.operation.Operation.TheVariants as op
use Rattle.acsl_postfix.specs.declared.sort.Sort.{Sort}
use Rattle.acsl_postfix.specs.declared.sort.Sort.TheVariants as sort
use Rattle.acsl_postfix.specs.Coders.{State, Coder, Done, and_then, ◌>>=◌, ◌>>◌, pure, refuse, expect, take_if, emit, word_of, is_next, left, repeated}

-- the readers of what nests; none, where nothing may nest
pub record Inner : Type 0 where
  pub nests : Bool
  pub any : Coder Sort
  pub factor : Done
  pub literal : Done
  pub implication : Done
  pub location : Done

abbrev pub must_be_term : Sort → Done
must_be_term sort.Term = pure tt
must_be_term _ = refuse

abbrev pub must_be_predicate : Sort → Done
must_be_predicate sort.Predicate = pure tt
must_be_predicate _ = refuse

-- ---- what a literal begins with

-- parentheses after the first word, with something in them
abbrev pub has_arguments : Leaves → Bool
has_arguments ts = same w.LeftParen (word_at (after ts)) && not (same w.RightParen (word_at (after (after ts))))

abbrev pub is_event_next : State → Bool
is_event_next s = is_event_ahead s.leaves

abbrev pub literal_start_of : State → LiteralStart
literal_start_of s = literal_start (word_of s)

-- where one of them must stand
abbrev pub as_term : Coder Sort → Done
as_term p = p >>= must_be_term

abbrev pub as_predicate : Coder Sort → Done
as_predicate p = p >>= must_be_predicate

-- after a term, or after a predicate; anything else ends here
abbrev pub after_term : Done → Sort → Coder Sort
after_term more sort.Term = more >> pure sort.Term
after_term more s = pure s

abbrev pub after_predicate : Done → Sort → Coder Sort
after_predicate more sort.Predicate = more >> pure sort.Predicate
after_predicate more s = pure s

module _ (inner : Inner) where
  abbrev pub nested : {A : Type 0} → Coder A → Coder A
  nested p = λ s. (if inner.nests then p else refuse) s

  unfoldable pub inner_term : Done
  inner_term = as_term inner.any

  -- ---- suffixes

  unfoldable pub member : Done
  member = do
    dot ← expect w.Dot
    name ← take_if is_name
    emit (op.Member dot name)

  unfoldable pub arrow : Done
  arrow = do
    sign ← expect w.Arrow
    name ← take_if is_name
    emit (op.Arrow sign name)

  unfoldable pub index_inside : Done
  index_inside = do
    opening ← expect w.LeftBracket
    emit op.Base
    inner_term
    emit op.Value
    closing ← expect w.RightBracket
    emit (op.Index opening)

  unfoldable pub index : Done
  index = nested index_inside

  abbrev pub suffix_by : Word → Done
  suffix_by w.LeftBracket = index
  suffix_by w.Dot = member
  suffix_by w.Arrow = arrow
  suffix_by _ = refuse

  unfoldable pub suffix : Done
  suffix s = suffix_by (word_of s) s

  unfoldable pub suffixes : Done
  suffixes = repeated is_suffix suffix

  -- ---- atoms, or what stands in parentheses and is no term

  unfoldable pub event_value : Leaf → Done
  event_value name = do
    opening ← expect w.LeftParen
    closing ← expect w.RightParen
    dot ← expect w.Dot
    value ← take_if is_event_value
    emit (op.EventValue name value)

  unfoldable pub after_name : Leaf → Done
  after_name name s = (if is_next w.LeftParen s then event_value name else emit (op.Name name)) s

  unfoldable pub named : Done
  named = do
    name ← take_if is_name
    after_name name

  unfoldable pub constant : Done
  constant = do
    t ← take_if is_constant
    emit (op.Constant t)

  unfoldable pub at_inside : Done
  at_inside = do
    sign ← expect w.SlashAt
    opening ← expect w.LeftParen
    inner_term
    comma ← expect w.Comma
    label ← take_if is_label
    closing ← expect w.RightParen
    emit (op.At sign label)

  unfoldable pub at : Done
  at = nested at_inside

  unfoldable pub range : Coder Sort
  range = do
    emit op.Value
    dots ← expect w.DotDot
    inner_term
    emit op.Value
    closing ← expect w.RightParen
    pure sort.Range

  unfoldable pub closed_term : Leaf → Coder Sort
  closed_term opening = do
    closing ← expect w.RightParen
    emit (op.Parenthesis opening)
    pure sort.Term

  unfoldable pub closed_predicate : Coder Sort
  closed_predicate = do
    closing ← expect w.RightParen
    pure sort.Predicate

  abbrev pub closed : Leaf → Sort → Coder Sort
  closed opening sort.Term = λ s. (if is_next w.DotDot s then range else closed_term opening) s
  closed opening sort.Predicate = closed_predicate
  closed opening sort.Range = refuse

  unfoldable pub parenthesized_inside : Coder Sort
  parenthesized_inside = do
    opening ← expect w.LeftParen
    found ← inner.any
    closed opening found

  unfoldable pub parenthesized : Coder Sort
  parenthesized = nested parenthesized_inside

  -- ---- factors

  unfoldable pub prefix_inside : Done
  prefix_inside = do
    operator ← take_if is_unary
    inner.factor
    emit (op.Prefix operator)

  unfoldable pub prefix : Done
  prefix = nested prefix_inside

  unfoldable pub suffixed : Done → Coder Sort
  suffixed atom = do
    atom
    suffixes
    pure sort.Term

  unfoldable pub enclosed : Coder Sort
  enclosed = parenthesized >>= after_term suffixes

  unfoldable pub prefixed : Coder Sort
  prefixed = do
    prefix
    pure sort.Term

  abbrev pub factor_by : FactorStart → Coder Sort
  factor_by StartsName = suffixed named
  factor_by StartsConstant = suffixed constant
  factor_by StartsUnary = prefixed
  factor_by StartsParen = enclosed
  factor_by StartsAt = suffixed at
  factor_by StartsNoFactor = refuse

  unfoldable pub factor : Coder Sort
  factor s = factor_by (factor_start (word_of s)) s

  -- ---- operators between terms

  unfoldable pub term_link : (Word → Bool) → Coder Sort → Done
  term_link is_operator operand = do
    emit op.Value
    t ← take_if is_operator
    as_term operand
    emit op.Value
    emit (op.Operator t)

  unfoldable pub products : Done
  products = repeated is_product_operator (term_link is_product_operator factor)

  unfoldable pub product : Coder Sort
  product = factor >>= after_term products

  unfoldable pub sums : Done
  sums = repeated is_sum_operator (term_link is_sum_operator product)

  unfoldable pub term : Coder Sort
  term = product >>= after_term sums

  -- ---- locations

  unfoldable pub summed : Leaf → Coder Sort
  summed t = do
    emit op.Value
    emit (op.Operator t)
    pure sort.Term

  unfoldable pub ranged : Leaf → Coder Sort
  ranged t = do
    emit op.Objects
    pure sort.Range

  abbrev pub located : Leaf → Sort → Coder Sort
  located t sort.Term = summed t
  located t sort.Predicate = refuse
  located t sort.Range = if same w.Plus t.word then ranged t else refuse

  unfoldable pub location_link : Coder Sort
  location_link = do
    emit op.Value
    t ← take_if is_sum_operator
    found ← product
    located t found

  -- what follows a further operand: more, or nothing where it was a range
  abbrev pub location_next : Done → Sort → Done
  location_next more sort.Term = more
  location_next more sort.Predicate = refuse
  location_next more sort.Range = pure tt

  unfoldable pub location_from : ℕ → Done
  location_from zero = emit op.Object
  location_from (suc n) = λ s. (if is_sum_operator (word_of s) then (location_link >>= location_next (location_from n)) else emit op.Object) s

  unfoldable pub location_rest : Done
  location_rest s = location_from (left s) s

  unfoldable pub location : Done
  location = do
    as_term product
    location_rest

  -- ---- relations

  -- the term that stands at these leaves, once more
  unfoldable pub again : Leaves → Done
  again ts s = and_then (as_term term (record { operations = s.operations; leaves = ts })) (λ u t. Some (u, record { operations = t.operations; leaves = s.leaves }))

  unfoldable pub compared : Leaf → Done
  compared o = do
    as_term term
    emit (op.Side o)
    emit (op.Relation o)

  -- one more relation, with the operand at these leaves on its left
  unfoldable pub relation_link : Way → Leaves → Coder Leaf
  relation_link way ts = do
    o ← take_if (leads way)
    again ts
    emit (op.Side o)
    compared o
    emit op.Both
    pure o

  unfoldable pub relations_from : Way → Leaves → ℕ → Done
  relations_from way ts zero = pure tt
  relations_from way ts (suc n) = λ s. (if leads way (word_of s) then (relation_link way ts >>= (λ o. relations_from (way_after way o.word) (after s.leaves) n)) else pure tt) s

  unfoldable pub relations_rest : Way → Leaves → Done
  relations_rest way ts s = relations_from way ts (left s) s

  unfoldable pub relation_after : Leaf → Done
  relation_after o s = and_then (compared o s) (λ u. relations_rest (way_of o.word) s.leaves)

  unfoldable pub relations : Coder Sort
  relations = do
    o ← take_if is_comparison
    emit (op.Side o)
    relation_after o
    pure sort.Predicate

  abbrev pub related : Sort → Coder Sort
  related sort.Term = λ s. (if is_comparison (word_of s) then relations else pure sort.Term) s
  related sort.Predicate = pure sort.Predicate
  related sort.Range = refuse

  -- ---- literals, or a term

  unfoldable pub negation_inside : Coder Sort
  negation_inside = do
    sign ← expect w.Exclamation
    inner.literal
    emit op.Not
    pure sort.Predicate

  unfoldable pub negation : Coder Sort
  negation = nested negation_inside

  unfoldable pub truth : Coder Sort
  truth = do
    t ← take_if is_truth
    emit (op.Truth t)
    pure sort.Predicate

  unfoldable pub validity_inside : Coder Sort
  validity_inside = do
    sign ← take_if is_validity
    opening ← expect w.LeftParen
    inner.location
    closing ← expect w.RightParen
    emit op.Valid
    pure sort.Predicate

  unfoldable pub validity : Coder Sort
  validity = nested validity_inside

  unfoldable pub location_more : Done
  location_more = do
    comma ← take_if is_comma
    inner.location

  unfoldable pub locations : Done
  locations = repeated is_comma location_more

  unfoldable pub separation_inside : Coder Sort
  separation_inside = do
    sign ← expect w.SlashSeparated
    opening ← expect w.LeftParen
    inner.location
    comma ← expect w.Comma
    inner.location
    locations
    closing ← expect w.RightParen
    emit op.Separated
    pure sort.Predicate

  unfoldable pub separation : Coder Sort
  separation = nested separation_inside

  unfoldable pub event : Coder Sort
  event = do
    sign ← take_if is_event
    opening ← expect w.LeftParen
    name ← nested (take_if is_name)
    closing ← expect w.RightParen
    emit (op.Event sign name)
    pure sort.Predicate

  unfoldable pub compared_term : Coder Sort
  compared_term = term >>= related

  abbrev pub literal_by : LiteralStart → Coder Sort
  literal_by StartsNot = negation
  literal_by StartsTruth = truth
  literal_by StartsValid = validity
  literal_by StartsSeparated = separation
  literal_by StartsEvent = event
  literal_by StartsTerm = compared_term

  unfoldable pub literal : Coder Sort
  literal s = literal_by (start_at s.leaves) s

  -- ---- predicates, or a term

  unfoldable pub predicate_link : (Word → Bool) → Coder Sort → Done
  predicate_link is_connective operand = do
    t ← take_if is_connective
    as_predicate operand
    emit (op.Connective t)

  unfoldable pub conjuncts : Done
  conjuncts = repeated (same w.AndAnd) (predicate_link (same w.AndAnd) literal)

  unfoldable pub conjunction : Coder Sort
  conjunction = literal >>= after_predicate conjuncts

  unfoldable pub disjuncts : Done
  disjuncts = repeated (same w.OrOr) (predicate_link (same w.OrOr) conjunction)

  unfoldable pub disjunction : Coder Sort
  disjunction = conjunction >>= after_predicate disjuncts

  unfoldable pub implies_inside : Done
  implies_inside = do
    sign ← expect w.Implies
    inner.implication
    emit (op.Connective sign)

  unfoldable pub implies : Done
  implies = nested implies_inside

  unfoldable pub conclusion : Done
  conclusion s = (if is_next w.Implies s then implies else pure tt) s

  unfoldable pub implication : Coder Sort
  implication = disjunction >>= after_predicate conclusion

  unfoldable pub equivalents : Done
  equivalents = repeated (same w.Equivalent) (predicate_link (same w.Equivalent) implication)

  unfoldable pub any : Coder Sort
  any = implication >>= after_predicate equivalents

unfoldable pub readers_at : ℕ → Inner
readers_at zero = record { nests = false; any = refuse; factor = refuse; literal = refuse; implication = refuse; location = refuse }
readers_at (suc n) =
    let j = readers_at n in
    record { nests = true; any = any j; factor = as_term (factor j); literal = as_predicate (literal j); implication = as_predicate (implication j); location = location j }
