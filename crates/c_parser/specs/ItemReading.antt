-- Reading of items and programs.
use Rattle.std.specs.Prelude.{◌≡◌, ℕ, zero, suc, nat_le, Bool, true, false, not, ◌||◌, ◌&&◌, if◌then◌else◌, List, [], ◌∷◌, ◌++◌, Option, Some, None}
use Rattle.std.specs.List.{list_all}
use Rattle.c_lexer.specs.declared.token.Token.{Token}
use Rattle.c_words.specs.declared.word.Mode.{Mode}
use Rattle.c_words.specs.declared.word.Word.{Word}
use Rattle.c_words.specs.declared.word.Word.TheVariants as w
use Rattle.c_words.specs.declared.word.Leaf.{Leaf}
use Rattle.c_words.specs.declared.chain.Chain.{Chain}
use Rattle.c_grammar.specs.declared.types.Base.{Base}
use Rattle.c_grammar.specs.declared.declaration.Declared.{Declared}
use Rattle.c_grammar.specs.declared.declaration.Params.{Params}
use Rattle.c_grammar.specs.declared.program.Member.{Member}
use Rattle.c_grammar.specs.declared.program.Body.{Body}
use Rattle.c_grammar.specs.declared.program.Body.TheVariants as b
use Rattle.c_grammar.specs.declared.program.Item.{Item}
use Rattle.c_grammar.specs.declared.program.Item.TheVariants as i
use Rattle.c_grammar.specs.declared.program.ProgramTree.{ProgramTree}
use Rattle.c_words.specs.Words.{same, leaves_of}
use Rattle.c_grammar.specs.Programs.{is_variable_prefix, is_function_prefix, is_empty, all_named, nesting_limit}
use Rattle.c_words.specs.Parsing.{Parser, Leaves, ◌>>=◌, ◌>>◌, ◌<$>◌, pure, refuse, word_at, after, peek, take_if, expect, run_at}
use Rattle.c_type_names.specs.TypeReading.{consts, base, stars_from, begins_type}
use Rattle.c_declarations.specs.DeclaredReading.{all_declared, declarators}
use Rattle.c_declarations.specs.ParameterReading.{params}
use Rattle.c_statements.specs.StatementReading.{block_at, unless}

-- ---- what an item is, by the words that it begins with

-- the leaves from the first whose word fails the test
unfoldable pub skip : (Word → Bool) → Leaves → Leaves
skip test [] = []
skip test (t ∷ ts) = if test t.word then skip test ts else (t ∷ ts)

abbrev pub is_pointer : Word → Bool
is_pointer x = same w.Star x || same w.Const x

-- the stars before the first word that is neither `*` nor `const`
unfoldable pub leading_stars : Leaves → ℕ
leading_stars [] = 0
leading_stars (t ∷ ts) = if same w.Star t.word then suc (leading_stars ts) else (if same w.Const t.word then leading_stars ts else 0)

abbrev pub is_called : Leaves → Bool
is_called ts = same w.Name (word_at ts) && same w.LeftParen (word_at (after ts))

abbrev pub all_variable_prefixes : List Leaf → Bool
all_variable_prefixes = list_all (λ t. is_variable_prefix t.word)

-- A function's name has a parenthesis after it. What can't begin variables is read as a function too, so that the fault
-- comes at the first leaf that goes on with neither: `extern` stands before functions alone, and a variable has fewer stars.
abbrev pub begins_function : ℕ → List Leaf → Leaves → Bool
begins_function k prefixes ts = is_called (skip is_pointer ts) || (not (all_variable_prefixes prefixes) || nat_le k (leading_stars ts))

-- a struct is declared where a brace stands after its tag
abbrev pub is_struct : Leaves → Bool
is_struct ts = same w.Struct (word_at ts) && same w.LeftBrace (word_at (after (after ts)))

abbrev pub begins_member : Word → Bool
begins_member x = same w.Const x || begins_type x

-- ---- items that nest below k, where what nests in them nests below n

module _ (k n : ℕ) where
  unfoldable pub member : Parser Member
  member = do
    cs ← consts
    x ← base
    names ← declarators n
    semicolon ← expect w.Semicolon
    pure (record { consts = cs; base = x; declarators = names; semicolon = semicolon })

  -- a struct has a member
  unfoldable pub members : Parser (List Member)
  members = do
    all ← run_at begins_member member
    if is_empty all then refuse else pure all

  unfoldable pub struct_item : Parser Item
  struct_item = do
    word ← expect w.Struct
    tag ← expect w.Name
    opening ← expect w.LeftBrace
    all ← members
    closing ← expect w.RightBrace
    names ← unless w.Semicolon (all_declared k)
    semicolon ← expect w.Semicolon
    pure (i.Struct word tag opening all closing names semicolon)

  unfoldable pub variables : List Leaf → Base → Parser Item
  variables prefixes x = do
    names ← all_declared k
    semicolon ← expect w.Semicolon
    pure (i.Variables prefixes x names semicolon)

  -- each parameter of a function with a body has a name
  unfoldable pub body_where : Bool → Parser Body
  body_where complete = do
    word ← peek
    if same w.Semicolon word then b.Absent <$> expect w.Semicolon else (if complete then b.Block <$> block_at k else refuse)

  abbrev pub body : Params → Parser Body
  body inside = body_where (all_named inside)

  unfoldable pub function : List Leaf → Base → Parser Item
  function prefixes x = do
    stars ← stars_from k []
    name ← expect w.Name
    opening ← expect w.LeftParen
    inside ← params n
    closing ← expect w.RightParen
    rest ← body inside
    pure (i.Function prefixes x stars name opening inside closing rest)

  unfoldable pub after_base : List Leaf → Base → Parser Item
  after_base prefixes x = λ ts. (if begins_function k prefixes ts then function prefixes x else variables prefixes x) ts

  unfoldable pub declaration : Parser Item
  declaration = do
    prefixes ← run_at is_function_prefix (take_if is_function_prefix)
    x ← base
    after_base prefixes x

  abbrev pub item_by : Word → Parser Item
  item_by w.Meta = i.Meta <$> expect w.Meta
  item_by w.Ghost = i.Ghost <$> expect w.Ghost
  item_by _ = declaration

  unfoldable pub item : Parser Item
  item = λ ts. (if is_struct ts then struct_item else item_by (word_at ts)) ts

abbrev pub begins_item : Word → Bool
begins_item w.Meta = true
begins_item w.Ghost = true
begins_item x = is_function_prefix x || begins_type x

-- the items of a text whose items nest at most so deep
unfoldable pub items_at : ℕ → Parser (List Item)
items_at limit = run_at begins_item (item (suc limit) limit)

-- the parser gives the tree, and nothing is left
abbrev pub IsWhole : Mode → List ℕ → List Token → ProgramTree → Type 0
IsWhole m text tokens p = items_at (nesting_limit m) (leaves_of m text tokens) ≡ Some (p.items, [])
