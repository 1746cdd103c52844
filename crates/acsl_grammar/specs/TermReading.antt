-- Reading of terms and predicates. A parenthesis may begin a term, a predicate or a range: what stands inside tells which.
use Rattle.std.specs.Prelude.{ℕ, zero, suc, Bool, true, false, ◌||◌, ◌&&◌, not, if◌then◌else◌, List, [], ◌∷◌, ◌++◌, length}
use Rattle.c_words.specs.declared.word.Word.{Word}
use Rattle.c_words.specs.declared.word.Word.TheVariants as w
use Rattle.c_words.specs.declared.word.Leaf.{Leaf}
use Rattle.c_words.specs.declared.chain.Chain.{Chain}
use Rattle.c_words.specs.declared.chain.Link.{Link}
use Rattle.c_words.specs.Words.{same}
use Rattle.c_words.specs.OperatorWords.{is_comma, is_product_operator, is_sum_operator}
use Rattle.c_words.specs.Parsing.{Leaves, Parser, and_then, ◌>>=◌, ◌<$>◌, pure, refuse, peek, word_at, after, take_if, expect, run_at, chain_at}
use Rattle.acsl_grammar.specs.Vocabulary.{is_name, is_constant, is_label, is_event_value, is_unary, is_truth, is_validity, is_event, is_comparison, ascends, descends}
use Rattle.acsl_grammar.specs.Trees.{Inside, Atom, Name, Constant, Paren, At, EventValue, Suffix, Member, Arrow, Index, Factor, Prefix, Post, Term, Range, FromTo, Location, Object, Objects, Group, InParens, Literal, Not, Grouped, Truth, Relations, Valid, Separated, Event, Disjunction, Implication, Plain, Implies, Predicate, inside_at}

-- what is read where a term or something else may stand
pub data Either (T P : Type 0) : Type 0 where
  ATerm : T → Either T P
  NoTerm : P → Either T P

module _ {T P : Type 0} where
  abbrev pub term_of : Either T P → Parser T
  term_of (ATerm t) = pure t
  term_of (NoTerm p) = refuse

  abbrev pub predicate_of : Either T P → Parser P
  predicate_of (ATerm t) = refuse
  predicate_of (NoTerm p) = pure p

  unfoldable pub a_term : Parser (Either T P) → Parser T
  a_term p = p >>= term_of

  unfoldable pub a_predicate : Parser (Either T P) → Parser P
  a_predicate p = p >>= predicate_of

  -- what is no term as it is; a term is read anew, by what takes a term there
  abbrev pub from_term : {U : Type 0} → Parser U → Leaves → Either T P → Parser (Either U P)
  from_term q ts (ATerm t) = λ rest. (ATerm <$> q) ts
  from_term q ts (NoTerm p) = pure (NoTerm p)

  abbrev pub from_predicate : {Q : Type 0} → Parser Q → Leaves → Either T P → Parser (Either T Q)
  from_predicate q ts (ATerm t) = pure (ATerm t)
  from_predicate q ts (NoTerm p) = λ rest. (NoTerm <$> q) ts

  -- terms with operators between them, or no term
  unfoldable pub terms : (Word → Bool) → Parser (Either T P) → Parser (Either (Chain T) P)
  terms op p ts = and_then (p ts) (from_term (chain_at op (a_term p)) ts)

  -- predicates with connectives between them, or a term
  unfoldable pub predicates : (Word → Bool) → Parser (Either T P) → Parser (Either T (Chain P))
  predicates op p ts = and_then (p ts) (from_predicate (chain_at op (a_predicate p)) ts)

-- what stands in parentheses and is no term
pub data Enclosed (i : Inside) : Type 0 where
  EnclosedPredicate : Group i → Enclosed i
  EnclosedRange : Range i → Enclosed i

-- the parsers of what nests
pub record Inner (i : Inside) : Type 0 where
  pub any : Parser (Either i.Terms i.Predicates)
  pub factor : Parser i.Factors
  pub literal : Parser i.Literals
  pub implication : Parser i.Implications
  pub location : Parser i.Locations
  pub name : Parser i.Names

-- ---- what a word begins

abbrev pub is_suffix : Word → Bool
is_suffix w.LeftBracket = true
is_suffix w.Dot = true
is_suffix w.Arrow = true
is_suffix _ = false

pub data FactorStart : Type 0 where
  StartsName : FactorStart
  StartsConstant : FactorStart
  StartsUnary : FactorStart
  StartsParen : FactorStart
  StartsAt : FactorStart
  StartsNoFactor : FactorStart

abbrev pub factor_start : Word → FactorStart
factor_start w.Name = StartsName
factor_start w.CallEvent = StartsName
factor_start w.ReturnEvent = StartsName
factor_start w.EitherEvent = StartsName
factor_start w.PreLabel = StartsName
factor_start w.HereLabel = StartsName
factor_start w.MetaName = StartsName
factor_start w.OtherName = StartsName
factor_start w.Number = StartsConstant
factor_start w.Character = StartsConstant
factor_start w.SlashNull = StartsConstant
factor_start w.SlashWritten = StartsConstant
factor_start w.SlashRead = StartsConstant
factor_start w.SlashCalled = StartsConstant
factor_start w.Minus = StartsUnary
factor_start w.Star = StartsUnary
factor_start w.Ampersand = StartsUnary
factor_start w.LeftParen = StartsParen
factor_start w.SlashAt = StartsAt
factor_start _ = StartsNoFactor

pub data LiteralStart : Type 0 where
  StartsNot : LiteralStart
  StartsTruth : LiteralStart
  StartsValid : LiteralStart
  StartsSeparated : LiteralStart
  StartsEvent : LiteralStart
  StartsTerm : LiteralStart

abbrev pub literal_start : Word → LiteralStart
literal_start w.Exclamation = StartsNot
literal_start w.SlashTrue = StartsTruth
literal_start w.SlashFalse = StartsTruth
literal_start w.SlashValid = StartsValid
literal_start w.SlashValidRead = StartsValid
literal_start w.SlashSeparated = StartsSeparated
literal_start _ = StartsTerm

-- `CALL(f)` begins like `CALL().x`, where `CALL` is the name of a function
abbrev pub is_event_ahead : Leaves → Bool
is_event_ahead ts = is_event (word_at ts) && (same w.LeftParen (word_at (after ts)) && not (same w.RightParen (word_at (after (after ts)))))

abbrev pub start_at : Leaves → LiteralStart
start_at ts = if is_event_ahead ts then StartsEvent else literal_start (word_at ts)

-- ---- chains of relations: which operators may come next

pub data Way : Type 0 where
  -- `==` alone so far
  Undecided : Way
  Ascending : Way
  Descending : Way
  -- after `!=`
  Ended : Way

abbrev pub way_of : Word → Way
way_of w.EqualEqual = Undecided
way_of w.Less = Ascending
way_of w.LessEqual = Ascending
way_of w.Greater = Descending
way_of w.GreaterEqual = Descending
way_of _ = Ended

abbrev pub way_after : Way → Word → Way
way_after Undecided o = way_of o
way_after way o = way

abbrev pub leads : Way → Word → Bool
leads Undecided o = ascends o || descends o
leads Ascending o = ascends o
leads Descending o = descends o
leads Ended o = false

module _ {i : Inside} (inner : Inner i) where
  -- ---- suffixes

  unfoldable pub member : Parser (Suffix i)
  member = do
    dot ← expect w.Dot
    name ← take_if is_name
    pure (Member dot name)

  unfoldable pub arrow : Parser (Suffix i)
  arrow = do
    sign ← expect w.Arrow
    name ← take_if is_name
    pure (Arrow sign name)

  unfoldable pub index : Parser (Suffix i)
  index = do
    opening ← expect w.LeftBracket
    found ← a_term inner.any
    closing ← expect w.RightBracket
    pure (Index opening found closing)

  abbrev pub suffix_by : Word → Parser (Suffix i)
  suffix_by w.LeftBracket = index
  suffix_by w.Dot = member
  suffix_by w.Arrow = arrow
  suffix_by _ = refuse

  unfoldable pub suffix : Parser (Suffix i)
  suffix = peek >>= suffix_by

  -- ---- atoms, or what stands in parentheses and is no term

  unfoldable pub event_value : Leaf → Parser (Atom i)
  event_value name = do
    opening ← expect w.LeftParen
    closing ← expect w.RightParen
    dot ← expect w.Dot
    value ← take_if is_event_value
    pure (EventValue name opening closing dot value)

  unfoldable pub named : Parser (Atom i)
  named = do
    name ← take_if is_name
    word ← peek
    if same w.LeftParen word then event_value name else pure (Name name)

  unfoldable pub at : Parser (Atom i)
  at = do
    sign ← expect w.SlashAt
    opening ← expect w.LeftParen
    found ← a_term inner.any
    comma ← expect w.Comma
    label ← take_if is_label
    closing ← expect w.RightParen
    pure (At sign opening found comma label closing)

  unfoldable pub range_from : Leaf → i.Terms → Parser (Range i)
  range_from opening first = do
    dots ← expect w.DotDot
    last ← a_term inner.any
    closing ← expect w.RightParen
    pure (FromTo opening first dots last closing)

  abbrev pub closed : Leaf → Either i.Terms i.Predicates → Parser (Either (Atom i) (Enclosed i))
  closed opening (ATerm t) = do
    word ← peek
    if same w.DotDot word then (λ r. NoTerm (EnclosedRange r)) <$> range_from opening t else (λ r. ATerm (Paren opening t r)) <$> expect w.RightParen
  closed opening (NoTerm p) = (λ r. NoTerm (EnclosedPredicate (InParens opening p r))) <$> expect w.RightParen

  unfoldable pub parenthesized : Parser (Either (Atom i) (Enclosed i))
  parenthesized = do
    opening ← expect w.LeftParen
    found ← inner.any
    closed opening found

  -- ---- factors

  unfoldable pub prefix : Parser (Factor i)
  prefix = do
    operator ← take_if is_unary
    operand ← inner.factor
    pure (Prefix operator operand)

  abbrev pub suffixed : Either (Atom i) (Enclosed i) → Parser (Either (Factor i) (Enclosed i))
  suffixed (ATerm a) = (λ ss. ATerm (Post a ss)) <$> run_at is_suffix suffix
  suffixed (NoTerm e) = pure (NoTerm e)

  abbrev pub factor_by : FactorStart → Parser (Either (Factor i) (Enclosed i))
  factor_by StartsName = ATerm <$> named >>= suffixed
  factor_by StartsConstant = (λ t. ATerm (Constant t)) <$> take_if is_constant >>= suffixed
  factor_by StartsUnary = ATerm <$> prefix
  factor_by StartsParen = parenthesized >>= suffixed
  factor_by StartsAt = ATerm <$> at >>= suffixed
  factor_by StartsNoFactor = refuse

  unfoldable pub factor : Parser (Either (Factor i) (Enclosed i))
  factor ts = factor_by (factor_start (word_at ts)) ts

  unfoldable pub product : Parser (Either (Chain (Factor i)) (Enclosed i))
  product = terms is_product_operator factor

  unfoldable pub term : Parser (Either (Term i) (Enclosed i))
  term = terms is_sum_operator product

  -- ---- locations

  abbrev pub located : (List (Link (Chain (Factor i))) → Parser (Location i)) → Chain (Factor i) → List (Link (Chain (Factor i))) → Leaf → Either (Chain (Factor i)) (Enclosed i) → Parser (Location i)
  located next first found t (ATerm c) = next (found ++ record { operator = t; operand = c } ∷ [])
  located next first found t (NoTerm (EnclosedRange r)) = if same w.Plus t.word then pure (Objects (record { first = first; rest = found }) t r) else refuse
  located next first found t (NoTerm (EnclosedPredicate p)) = refuse

  unfoldable pub location_from : ℕ → Chain (Factor i) → List (Link (Chain (Factor i))) → Parser (Location i)
  location_from zero first found = pure (Object (record { first = first; rest = found }))
  location_from (suc n) first found = do
    word ← peek
    if is_sum_operator word then (do t ← take_if is_sum_operator; x ← product; located (location_from n first) first found t x) else pure (Object (record { first = first; rest = found }))

  unfoldable pub location : Parser (Location i)
  location = do
    first ← a_term product
    λ ts. location_from (length ts) first [] ts

  -- ---- relations

  unfoldable pub relations_from : Way → ℕ → List (Link (Term i)) → Parser (List (Link (Term i)))
  relations_from way zero found = pure found
  relations_from way (suc n) found = do
    word ← peek
    if leads way word then (do t ← take_if (leads way); x ← a_term term; relations_from (way_after way t.word) n (found ++ record { operator = t; operand = x } ∷ [])) else pure found

  unfoldable pub relations : Term i → Parser (Literal i)
  relations first = do
    operator ← take_if is_comparison
    second ← a_term term
    more ← λ ts. relations_from (way_of operator.word) (length ts) [] ts
    pure (Relations first operator (record { first = second; rest = more }))

  abbrev pub related : Either (Term i) (Enclosed i) → Parser (Either (Term i) (Literal i))
  related (ATerm t) = do
    word ← peek
    if is_comparison word then NoTerm <$> relations t else pure (ATerm t)
  related (NoTerm (EnclosedPredicate g)) = pure (NoTerm (Grouped g))
  related (NoTerm (EnclosedRange r)) = refuse

  -- ---- literals, or a term

  unfoldable pub negation : Parser (Literal i)
  negation = do
    sign ← expect w.Exclamation
    found ← inner.literal
    pure (Not sign found)

  unfoldable pub validity : Parser (Literal i)
  validity = do
    sign ← take_if is_validity
    opening ← expect w.LeftParen
    found ← inner.location
    closing ← expect w.RightParen
    pure (Valid sign opening found closing)

  unfoldable pub separation : Parser (Literal i)
  separation = do
    sign ← expect w.SlashSeparated
    opening ← expect w.LeftParen
    first ← inner.location
    comma ← expect w.Comma
    more ← chain_at is_comma inner.location
    closing ← expect w.RightParen
    pure (Separated sign opening first comma more closing)

  unfoldable pub event : Parser (Literal i)
  event = do
    sign ← take_if is_event
    opening ← expect w.LeftParen
    name ← inner.name
    closing ← expect w.RightParen
    pure (Event sign opening name closing)

  abbrev pub literal_by : LiteralStart → Parser (Either (Term i) (Literal i))
  literal_by StartsNot = NoTerm <$> negation
  literal_by StartsTruth = (λ t. NoTerm (Truth t)) <$> take_if is_truth
  literal_by StartsValid = NoTerm <$> validity
  literal_by StartsSeparated = NoTerm <$> separation
  literal_by StartsEvent = NoTerm <$> event
  literal_by StartsTerm = term >>= related

  unfoldable pub literal : Parser (Either (Term i) (Literal i))
  literal ts = literal_by (start_at ts) ts

  -- ---- predicates, or a term

  unfoldable pub disjunction : Parser (Either (Term i) (Disjunction i))
  disjunction = predicates (same w.OrOr) (predicates (same w.AndAnd) literal)

  unfoldable pub implies : Disjunction i → Parser (Implication i)
  implies left = do
    sign ← expect w.Implies
    right ← inner.implication
    pure (Implies left sign right)

  abbrev pub implied : Either (Term i) (Disjunction i) → Parser (Either (Term i) (Implication i))
  implied (ATerm t) = pure (ATerm t)
  implied (NoTerm d) = do
    word ← peek
    if same w.Implies word then NoTerm <$> implies d else pure (NoTerm (Plain d))

  unfoldable pub implication : Parser (Either (Term i) (Implication i))
  implication = disjunction >>= implied

  unfoldable pub any : Parser (Either (Term i) (Predicate i))
  any = predicates (same w.Equivalent) implication

unfoldable pub inner_at : (n : ℕ) → Inner (inside_at n)
inner_at zero = record { any = refuse; factor = refuse; literal = refuse; implication = refuse; location = refuse; name = refuse }
inner_at (suc n) =
    let j = inner_at n in
    record { any = any j; factor = a_term (factor j); literal = a_predicate (literal j); implication = a_predicate (implication j); location = location j; name = take_if is_name }
