-- Reading of expressions. What nests is read by the parsers that are passed in.
use Rattle.std.specs.Prelude.{ℕ, zero, suc, Bool, true, false, if◌then◌else◌, ◌&&◌, ◌||◌, List, [], ◌∷◌, Option, Some, None}
use Rattle.c_words.specs.declared.word.Word.{Word}
use Rattle.c_words.specs.declared.word.Word.TheVariants as w
use Rattle.c_words.specs.declared.word.Leaf.{Leaf}
use Rattle.c_words.specs.declared.chain.Chain.{Chain}
use Rattle.c_words.specs.declared.chain.Link.{Link}
use Rattle.c_grammar.specs.declared.expression.Assign.{Assign}
use Rattle.c_grammar.specs.declared.expression.Assign.TheVariants as a
use Rattle.c_grammar.specs.declared.expression.Choice.{Choice}
use Rattle.c_grammar.specs.declared.expression.Choice.TheVariants as c
use Rattle.c_grammar.specs.declared.expression.Or.{Or}
use Rattle.c_grammar.specs.declared.expression.Unary.{Unary}
use Rattle.c_grammar.specs.declared.expression.Unary.TheVariants as u
use Rattle.c_grammar.specs.declared.expression.Postfix.{Postfix, roll-Postfix}
use Rattle.c_grammar.specs.declared.expression.Suffix.{Suffix}
use Rattle.c_grammar.specs.declared.expression.Suffix.TheVariants as s
use Rattle.c_grammar.specs.declared.expression.Primary.{Primary}
use Rattle.c_grammar.specs.declared.expression.Primary.TheVariants as p
use Rattle.c_words.specs.Words.{same}
use Rattle.c_words.specs.OperatorWords.{is_comma, is_prefix_operator, is_assignment_operator}
use Rattle.c_words.specs.Operators.{is_binary_operator}
use Rattle.c_words.specs.Parsing.{Parser, ◌>>=◌, ◌<$>◌, pure, refuse, peek, peek_second, take_if, expect, run_at, chain_at}
use Rattle.c_type_names.specs.TypeReading.{begins_type, type_name}
use Rattle.c_grouping.specs.Grouping.{or_of}

-- the parsers of what stands in a position that nests, and how deep that may nest
pub record Inner : Type 0 where
  pub depth : ℕ
  pub assign : Parser Assign
  pub choice : Parser Choice
  pub unary : Parser Unary

-- where nothing may nest, a word whose inside can't be empty is refused itself
abbrev pub deep : {A : Type 0} → ℕ → Parser A → Parser A
deep zero p = refuse
deep (suc n) p = p

-- an operand that no binary operator follows
abbrev pub lone : Unary → List (Link Unary) → Parser Unary
lone left [] = pure left
lone left (l ∷ ls) = refuse

-- these words begin a type in parentheses
abbrev pub begins_cast : Word → Word → Bool
begins_cast first second = same w.LeftParen first && begins_type second

abbrev pub is_suffix : Word → Bool
is_suffix w.LeftBracket = true
is_suffix w.Dot = true
is_suffix w.Arrow = true
is_suffix w.Increment = true
is_suffix w.Decrement = true
is_suffix _ = false

unfoldable pub member : Parser Suffix
member = do
  dot ← expect w.Dot
  name ← expect w.Name
  pure (s.Member dot name)

unfoldable pub arrow : Parser Suffix
arrow = do
  sign ← expect w.Arrow
  name ← expect w.Name
  pure (s.Arrow sign name)

module _ (inner : Inner) where
  -- ---- primary expressions

  unfoldable pub arguments : Parser (Option (Chain Assign))
  arguments = do
    word ← peek
    if same w.RightParen word then pure None else Some <$> chain_at is_comma inner.assign

  unfoldable pub call : Leaf → Parser Primary
  call name = do
    opening ← expect w.LeftParen
    found ← arguments
    closing ← expect w.RightParen
    pure (p.Call name opening found closing)

  unfoldable pub named : Parser Primary
  named = do
    name ← expect w.Name
    word ← peek
    if same w.LeftParen word then call name else pure (p.Name name)

  unfoldable pub parenthesized : Parser Primary
  parenthesized = do
    opening ← expect w.LeftParen
    found ← inner.assign
    closing ← expect w.RightParen
    pure (p.Paren opening found closing)

  abbrev pub primary_by : Word → Parser Primary
  primary_by w.Name = named
  primary_by w.Number = p.Number <$> expect w.Number
  primary_by w.Character = p.Character <$> expect w.Character
  primary_by w.LeftParen = deep inner.depth parenthesized
  primary_by _ = refuse

  unfoldable pub primary : Parser Primary
  primary = peek >>= primary_by

  -- ---- postfix expressions

  unfoldable pub index : Parser Suffix
  index = do
    opening ← expect w.LeftBracket
    found ← inner.assign
    closing ← expect w.RightBracket
    pure (s.Index opening found closing)

  abbrev pub suffix_by : Word → Parser Suffix
  suffix_by w.LeftBracket = deep inner.depth index
  suffix_by w.Dot = member
  suffix_by w.Arrow = arrow
  suffix_by w.Increment = s.Increment <$> expect w.Increment
  suffix_by w.Decrement = s.Decrement <$> expect w.Decrement
  suffix_by _ = refuse

  unfoldable pub suffix : Parser Suffix
  suffix = peek >>= suffix_by

  abbrev pub suffixed : Primary → Parser Postfix
  suffixed first = do
    more ← run_at is_suffix suffix
    pure (roll-Postfix (record { primary = first; suffixes = more }))

  unfoldable pub postfix : Parser Postfix
  postfix = primary >>= suffixed

  -- ---- operands of binary operators

  unfoldable pub prefix : Parser Unary
  prefix = do
    operator ← take_if is_prefix_operator
    operand ← inner.unary
    pure (u.Prefix operator operand)

  unfoldable pub cast : Parser Unary
  cast = do
    opening ← expect w.LeftParen
    type ← type_name inner.depth
    closing ← expect w.RightParen
    operand ← inner.unary
    pure (u.Cast opening type closing operand)

  -- after `sizeof`
  unfoldable pub size_of_type : Leaf → Parser Unary
  size_of_type first = do
    opening ← expect w.LeftParen
    type ← type_name inner.depth
    closing ← expect w.RightParen
    pure (u.SizeOfType first opening type closing)

  unfoldable pub size_of_operand : Leaf → Parser Unary
  size_of_operand first = do
    operand ← inner.unary
    pure (u.SizeOf first operand)

  unfoldable pub size : Parser Unary
  size = do
    first ← expect w.SizeOf
    next ← peek
    second ← peek_second
    if begins_cast next second then size_of_type first else size_of_operand first

  unfoldable pub unary : Parser Unary
  unary = do
    first ← peek
    second ← peek_second
    if is_prefix_operator first then deep inner.depth prefix else
        (if same w.SizeOf first then deep inner.depth size else (if begins_cast first second then deep inner.depth cast else u.Postfix <$> postfix))

  -- operands and the binary operators of all levels
  unfoldable pub flat : Parser (Chain Unary)
  flat = chain_at is_binary_operator unary

  -- ---- conditional expressions

  unfoldable pub choose : Or → Parser Choice
  choose test = do
    question ← expect w.Question
    second ← inner.assign
    colon ← expect w.Colon
    third ← inner.choice
    pure (c.Choose test question second colon third)

  unfoldable pub choice_after : Or → Parser Choice
  choice_after test = do
    word ← peek
    if same w.Question word then deep inner.depth (choose test) else pure (c.Or test)

  unfoldable pub choice : Parser Choice
  choice = do
    found ← flat
    choice_after (or_of found)

  -- ---- assignments

  unfoldable pub assigned : Unary → Parser Assign
  assigned left = do
    operator ← take_if is_assignment_operator
    right ← inner.assign
    pure (a.Assign left operator right)

  -- a lone operand can be assigned to
  abbrev pub assigned_to : Chain Unary → Parser Assign
  assigned_to found = do
    left ← lone found.first found.rest
    deep inner.depth (assigned left)

  abbrev pub assign_after : Chain Unary → Parser Assign
  assign_after found = do
    word ← peek
    if is_assignment_operator word then assigned_to found else a.Choice <$> choice_after (or_of found)

  unfoldable pub assign : Parser Assign
  assign = flat >>= assign_after

-- the parsers of trees that nest below the number
unfoldable pub inner_at : ℕ → Inner
inner_at zero = record { depth = zero; assign = refuse; choice = refuse; unary = refuse }
inner_at (suc n) = record { depth = suc n; assign = assign (inner_at n); choice = choice (inner_at n); unary = unary (inner_at n) }

-- ---- how expressions begin, and what goes on with them

abbrev pub begins_primary : Word → Bool
begins_primary w.Name = true
begins_primary w.Number = true
begins_primary w.Character = true
begins_primary w.LeftParen = true
begins_primary _ = false

abbrev pub begins_expression : Word → Bool
begins_expression x = is_prefix_operator x || (same w.SizeOf x || begins_primary x)

abbrev pub goes_on_unary : Word → Bool
goes_on_unary x = same w.LeftParen x || is_suffix x

abbrev pub goes_on_or : Word → Bool
goes_on_or x = is_binary_operator x || goes_on_unary x

abbrev pub goes_on_choice : Word → Bool
goes_on_choice x = same w.Question x || goes_on_or x

abbrev pub goes_on_assign : Word → Bool
goes_on_assign x = is_assignment_operator x || goes_on_choice x
