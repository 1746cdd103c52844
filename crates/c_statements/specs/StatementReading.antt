-- Reading of statements. What nests is read by the parsers that are passed in.
use Rattle.std.specs.Prelude.{ℕ, zero, suc, Bool, true, ◌||◌, ◌&&◌, if◌then◌else◌, List, [], ◌∷◌, ◌++◌, Option, Some, None}
use Rattle.c_words.specs.declared.word.Word.{Word}
use Rattle.c_words.specs.declared.word.Word.TheVariants as w
use Rattle.c_words.specs.declared.word.Leaf.{Leaf}
use Rattle.c_words.specs.declared.chain.Chain.{Chain}
use Rattle.c_grammar.specs.declared.expression.Assign.{Assign}
use Rattle.c_grammar.specs.declared.declaration.Declared.{Declared}
use Rattle.c_grammar.specs.declared.statement.Local.{Local}
use Rattle.c_grammar.specs.declared.statement.Local.TheVariants as l
use Rattle.c_grammar.specs.declared.statement.ForFirst.{ForFirst}
use Rattle.c_grammar.specs.declared.statement.ForFirst.TheVariants as f
use Rattle.c_grammar.specs.declared.statement.Stmt.{Stmt}
use Rattle.c_grammar.specs.declared.statement.Stmt.TheVariants as s
use Rattle.c_grammar.specs.declared.statement.Block.{Block, roll-Block}
use Rattle.c_grammar.specs.declared.statement.BlockPart.{BlockPart}
use Rattle.c_grammar.specs.declared.statement.BlockPart.TheVariants as b
use Rattle.c_statements.specs.declared.head.Head.{Head}
use Rattle.c_statements.specs.declared.head.Control.{Control}
use Rattle.c_words.specs.Words.{same}
use Rattle.c_grammar.specs.Statements.{is_dangling}
use Rattle.c_words.specs.Parsing.{Parser, ◌>>=◌, ◌<$>◌, pure, refuse, peek, expect, run_at}
use Rattle.c_type_names.specs.TypeReading.{consts, base, begins_type}
use Rattle.c_expressions.specs.ExpressionReading.{inner_at, deep, begins_expression}
use Rattle.c_declarations.specs.DeclaredReading.{all_declared}

-- a part that is left out where this word comes next
unfoldable pub unless : {A : Type 0} → Word → Parser A → Parser (Option A)
unless stop part = do
  next ← peek
  if same stop next then pure None else Some <$> part

-- the same, and the word
unfoldable pub up_to : {A : Type 0} → Word → Parser A → Parser (Option A × Leaf)
up_to stop part = do
  found ← unless stop part
  last ← expect stop
  pure (found, last)

-- ---- declarations in a function; they nest below k

module _ (k : ℕ) where
  -- what is declared, and the `;`
  unfoldable pub names : Parser (Chain Declared × Leaf)
  names = do
    found ← all_declared k
    semicolon ← expect w.Semicolon
    pure (found, semicolon)

  unfoldable pub registers : Parser Local
  registers = do
    register ← expect w.Register
    x ← base
    found ← names
    pure (l.Registers register x found.0 found.1)

  unfoldable pub variables : Parser Local
  variables = do
    cs ← consts
    x ← base
    found ← names
    pure (l.Variables cs x found.0 found.1)

  unfoldable pub local : Parser Local
  local = do
    word ← peek
    deep k (if same w.Register word then registers else variables)

abbrev pub begins_local : Word → Bool
begins_local x = same w.Register x || (same w.Const x || begins_type x)

abbrev pub begins_stmt : Word → Bool
begins_stmt w.Semicolon = true
begins_stmt w.LeftBrace = true
begins_stmt w.If = true
begins_stmt w.While = true
begins_stmt w.Do = true
begins_stmt w.For = true
begins_stmt w.Break = true
begins_stmt w.Continue = true
begins_stmt w.Return = true
begins_stmt w.Ghost = true
begins_stmt w.Assert = true
begins_stmt x = begins_expression x

abbrev pub begins_part : Word → Bool
begins_part x = begins_local x || begins_stmt x

-- ---- statements; n is how deep what nests here may nest

module _ (n : ℕ) (here inside : Parser Assign) (inner : Parser Stmt) where
  unfoldable pub for_expression : Parser ForFirst
  for_expression = do
    value ← up_to w.Semicolon inside
    pure (f.Expression value.0 value.1)

  unfoldable pub for_first : Parser ForFirst
  for_first = do
    word ← peek
    if begins_local word then f.Local <$> local n else for_expression

  unfoldable pub block_part : Parser BlockPart
  block_part = do
    word ← peek
    if begins_local word then b.Local <$> local n else b.Stmt <$> inner

  unfoldable pub one_more : List BlockPart → Parser (List BlockPart)
  one_more found = do
    x ← block_part
    pure (found ++ x ∷ [])

  unfoldable pub block : Parser Block
  block = do
    opening ← expect w.LeftBrace
    parts ← run_at begins_part block_part
    closing ← expect w.RightBrace
    pure (roll-Block (record { opening = opening; parts = parts; closing = closing }))

  unfoldable pub expression : Parser Stmt
  expression = do
    value ← here
    semicolon ← expect w.Semicolon
    pure (s.Expression value semicolon)

  -- a word, and a condition in parentheses
  unfoldable pub head : Word → Parser Head
  head word = do
    first ← expect word
    opening ← expect w.LeftParen
    test ← inside
    closing ← expect w.RightParen
    pure (record { first = first; opening = opening; test = test; closing = closing })

  -- an `else` belongs to the nearest `if` that allows it
  unfoldable pub otherwise : Head → Stmt → Parser Stmt
  otherwise front body = do
    other ← expect w.Else
    rest ← inner
    pure (s.IfElse front.first front.opening front.test front.closing body other rest)

  unfoldable pub conditional : Parser Stmt
  conditional = do
    front ← head w.If
    body ← inner
    next ← peek
    if same w.Else next then otherwise front body else pure (s.If front.first front.opening front.test front.closing body)

  unfoldable pub while_loop : Parser Stmt
  while_loop = do
    front ← head w.While
    body ← inner
    pure (s.While front.first front.opening front.test front.closing body)

  unfoldable pub do_loop : Parser Stmt
  do_loop = do
    first ← expect w.Do
    body ← inner
    test ← head w.While
    semicolon ← expect w.Semicolon
    pure (s.Do first body test.first test.opening test.test test.closing semicolon)

  -- `for`, and what stands in parentheses after it
  unfoldable pub control : Parser Control
  control = do
    first ← expect w.For
    opening ← expect w.LeftParen
    start ← for_first
    test ← up_to w.Semicolon inside
    step ← up_to w.RightParen inside
    pure (record { first = first; opening = opening; start = start; test = test.0; semicolon = test.1; step = step.0; closing = step.1 })

  unfoldable pub for_loop : Parser Stmt
  for_loop = do
    c ← control
    body ← inner
    pure (s.For c.first c.opening c.start c.test c.semicolon c.step c.closing body)

  unfoldable pub break_stmt : Parser Stmt
  break_stmt = do
    first ← expect w.Break
    semicolon ← expect w.Semicolon
    pure (s.Break first semicolon)

  unfoldable pub continue_stmt : Parser Stmt
  continue_stmt = do
    first ← expect w.Continue
    semicolon ← expect w.Semicolon
    pure (s.Continue first semicolon)

  unfoldable pub return_stmt : Parser Stmt
  return_stmt = do
    first ← expect w.Return
    value ← up_to w.Semicolon here
    pure (s.Return first value.0 value.1)

  abbrev pub empty : Parser Stmt
  empty = s.Empty <$> expect w.Semicolon

  abbrev pub block_stmt : Parser Stmt
  block_stmt = s.Block <$> block

  abbrev pub ghost_code : Parser Stmt
  ghost_code = s.Ghost <$> expect w.Ghost

  abbrev pub assertion : Parser Stmt
  assertion = s.Assert <$> expect w.Assert

  abbrev pub stmt_by : Word → Parser Stmt
  stmt_by w.Semicolon = empty
  stmt_by w.LeftBrace = block_stmt
  stmt_by w.If = deep n conditional
  stmt_by w.While = deep n while_loop
  stmt_by w.Do = deep n do_loop
  stmt_by w.For = deep n for_loop
  stmt_by w.Break = break_stmt
  stmt_by w.Continue = continue_stmt
  stmt_by w.Return = return_stmt
  stmt_by w.Ghost = ghost_code
  stmt_by w.Assert = assertion
  stmt_by _ = expression

  unfoldable pub stmt : Parser Stmt
  stmt = peek >>= stmt_by

-- a statement that nests below the number
unfoldable pub stmt_at : ℕ → Parser Stmt
stmt_at zero = refuse
stmt_at (suc n) = stmt n (inner_at (suc n)).assign (inner_at n).assign (stmt_at n)

-- a block that nests below the number
unfoldable pub block_at : ℕ → Parser Block
block_at zero = refuse
block_at (suc n) = block n (inner_at (suc n)).assign (inner_at n).assign (stmt_at n)

-- a rule where what stands here nests below the first number, and what nests in it below the second
abbrev pub at_level : {X : Type 0} → (ℕ → Parser Assign → Parser Assign → Parser Stmt → X) → ℕ → ℕ → X
at_level rule here inside = rule inside (inner_at here).assign (inner_at inside).assign (stmt_at inside)

-- ---- what goes on with a statement: an `else`, where it ends in an `if` without one

abbrev pub goes_on_stmt : Stmt → Word → Bool
goes_on_stmt a x = is_dangling a && same w.Else x
