-- Reading of initialisers and of what a declaration declares.
use Rattle.std.specs.Prelude.{ℕ, zero, suc, Bool, true, false, ◌||◌, if◌then◌else◌, []}
use Rattle.c_words.specs.declared.word.Word.{Word}
use Rattle.c_words.specs.declared.word.Word.TheVariants as w
use Rattle.c_words.specs.declared.chain.Chain.{Chain}
use Rattle.c_words.specs.declared.operators.Operators.TheVariants as o
use Rattle.c_grammar.specs.declared.declaration.Declarator.{Declarator}
use Rattle.c_grammar.specs.declared.declaration.Init.{Init}
use Rattle.c_grammar.specs.declared.declaration.Init.TheVariants as i
use Rattle.c_grammar.specs.declared.declaration.Declared.{Declared}
use Rattle.c_grammar.specs.declared.declaration.Declared.TheVariants as e
use Rattle.c_words.specs.Words.{same}
use Rattle.c_words.specs.OperatorWords.{is_comma}
use Rattle.c_grammar.specs.Declarations.{is_unsized}
use Rattle.c_words.specs.Operators.{continues}
use Rattle.c_words.specs.Parsing.{Parser, ◌>>=◌, ◌<$>◌, pure, refuse, peek, expect, optional_at, chain_by, chain_at}
use Rattle.c_expressions.specs.ExpressionReading.{inner_at, deep, goes_on_assign}
use Rattle.c_declarations.specs.DeclaratorReading.{declarator_from}

module _ (inner : Parser Init) where
  -- a comma before `}` is no comma of the list
  unfoldable pub elements : Parser (Chain Init)
  elements = chain_by (continues o.Elements) is_comma inner

  unfoldable pub braces : Parser Init
  braces = do
    opening ← expect w.LeftBrace
    found ← elements
    last ← optional_at w.Comma
    closing ← expect w.RightBrace
    pure (i.Braces opening found last closing)

-- an initialiser that nests below the number
unfoldable pub init_at : ℕ → Parser Init
init_at zero = refuse
init_at (suc n) = do
  word ← peek
  if same w.LeftBrace word then deep n (braces (init_at n)) else i.Value <$> (inner_at (suc n)).assign

-- a declarator without initialiser, whose `[ ]` are not empty
abbrev pub plain : Declarator → Parser Declared
plain a = if is_unsized a then refuse else pure (e.Plain a)

-- what is declared, and nests below the number
module _ (k : ℕ) where
  unfoldable pub initialised : Declarator → Parser Declared
  initialised a = do
    equals ← expect w.Assign
    value ← init_at k
    pure (e.Initialised a equals value)

  unfoldable pub after_declarator : Declarator → Parser Declared
  after_declarator a = do
    word ← peek
    if same w.Assign word then initialised a else plain a

  unfoldable pub declared : Parser Declared
  declared = declarator_from true k [] >>= after_declarator

  unfoldable pub all_declared : Parser (Chain Declared)
  all_declared = chain_at is_comma declared

  -- declarators whose `[ ]` are not empty
  unfoldable pub declarators : Parser (Chain Declarator)
  declarators = chain_at is_comma (declarator_from false k [])

-- ---- what goes on with them

abbrev pub goes_on_declared : Word → Bool
goes_on_declared x = same w.Assign x || (same w.LeftBracket x || goes_on_assign x)
