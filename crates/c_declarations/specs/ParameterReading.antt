-- Reading of parameters.
use Rattle.std.specs.Prelude.{ℕ, zero, suc, ◌-◌, nat_lt, nat_eq, is_none, Bool, true, ◌&&◌, if◌then◌else◌, List, [], length, Option, Some, None}
use Rattle.c_words.specs.declared.word.Word.TheVariants as w
use Rattle.c_words.specs.declared.word.Leaf.{Leaf}
use Rattle.c_words.specs.declared.chain.Chain.{Chain}
use Rattle.c_grammar.specs.declared.types.Base.{Base}
use Rattle.c_grammar.specs.declared.types.Star.{Star}
use Rattle.c_grammar.specs.declared.declaration.Sizes.{Sizes}
use Rattle.c_grammar.specs.declared.declaration.Sizes.TheVariants as z
use Rattle.c_grammar.specs.declared.declaration.Parameter.{Parameter}
use Rattle.c_grammar.specs.declared.declaration.Parameter.TheVariants as p
use Rattle.c_grammar.specs.declared.declaration.Params.{Params}
use Rattle.c_grammar.specs.declared.declaration.Params.TheVariants as ps
use Rattle.c_words.specs.Words.{same}
use Rattle.c_words.specs.OperatorWords.{is_comma}
use Rattle.c_grammar.specs.Declarations as grammar
use Rattle.c_grammar.specs.Declarations.{lone_void}
use Rattle.c_words.specs.Parsing.{Parser, ◌>>=◌, ◌<$>◌, pure, refuse, after, peek, peek_second, expect, chain_at}
use Rattle.c_type_names.specs.TypeReading.{consts, base, stars_from}
use Rattle.c_expressions.specs.ExpressionReading.{inner_at}
use Rattle.c_declarations.specs.Brackets.{bracketed}
use Rattle.c_declarations.specs.DeclaratorReading.{declarator_from, begins_direct}

-- the `[ ]` of a parameter without name
unfoldable pub empty_size : Parser Sizes
empty_size = do
  opening ← expect w.LeftBracket
  closing ← expect w.RightBracket
  pure (z.Unsized opening closing)

-- n is how deep what nests here may nest
module _ (n : ℕ) where
  unfoldable pub some_size : Parser Sizes
  some_size = do
    b ← bracketed (inner_at n).choice
    pure (z.First b.left b.size b.right)

  unfoldable pub first_size : Parser Sizes
  first_size = do
    second ← peek_second
    if same w.RightBracket second then empty_size else some_size

  unfoldable pub next_size : Sizes → Parser Sizes
  next_size found = do
    b ← bracketed (inner_at n).choice
    pure (z.More found b.left b.size b.right)

  unfoldable pub sizes_from : ℕ → Sizes → Parser Sizes
  sizes_from zero found = pure found
  sizes_from (suc turns) found = do
    word ← peek
    if same w.LeftBracket word && nat_lt (grammar.sizes found).nesting n then (do next ← next_size found; sizes_from turns next) else pure found

-- sizes that nest below the number
unfoldable pub sizes_at : ℕ → Parser Sizes
sizes_at zero = refuse
sizes_at (suc n) = first_size n >>= sizes_from n n

-- a parameter with a name, and one without that has sizes
abbrev pub with_name : ℕ → List Leaf → Base → List Star → Parser Parameter
with_name k cs x stars = p.Named cs x <$> declarator_from true (k - length stars) stars

abbrev pub with_sizes : ℕ → List Leaf → Base → List Star → Parser Parameter
with_sizes k cs x stars = do
  found ← sizes_at (k - length stars)
  pure (p.Nameless cs x stars (Some found))

-- the stars are common to both kinds of parameters
unfoldable pub after_stars : ℕ → List Leaf → Base → List Star → Parser Parameter
after_stars k cs x stars = do
  word ← peek
  if begins_direct word then with_name k cs x stars
      else (if same w.LeftBracket word then with_sizes k cs x stars else pure (p.Nameless cs x stars None))

abbrev pub some_parameter : ℕ → Parser Parameter
some_parameter k = do
  cs ← consts
  x ← base
  stars ← stars_from k []
  after_stars k cs x stars

-- a parameter that nests below the number
unfoldable pub parameter : ℕ → Parser Parameter
parameter zero = refuse
parameter (suc n) = some_parameter (suc n)

-- whether a parameter writes nothing but its type
abbrev pub is_bare : List Leaf → List Leaf → List Star → Option Sizes → Bool
is_bare after before stars brackets = (nat_eq (length after) 0 && nat_eq (length before) 0) && (nat_eq (length stars) 0 && is_none brackets)

abbrev pub params_of : Chain Parameter → Option Leaf → Params
params_of all (Some t) = ps.Void t
params_of all None = ps.List all

-- what stands in the parentheses, and nests below the number
unfoldable pub params : ℕ → Parser Params
params k = do
  word ← peek
  if same w.RightParen word then pure ps.Empty else (do all ← chain_at is_comma (parameter k); pure (params_of all (lone_void all)))
