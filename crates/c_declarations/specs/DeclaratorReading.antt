-- Reading of declarators. What nests is read by the parsers that are passed in.
use Rattle.std.specs.Prelude.{ℕ, zero, suc, nat_lt, Bool, ◌&&◌, ◌||◌, if◌then◌else◌, List, [], ◌∷◌, ◌++◌}
use Rattle.c_words.specs.declared.word.Word.{Word}
use Rattle.c_words.specs.declared.word.Word.TheVariants as w
use Rattle.c_words.specs.declared.word.Leaf.{Leaf}
use Rattle.c_grammar.specs.declared.types.Star.{Star}
use Rattle.c_grammar.specs.declared.expression.Choice.{Choice}
use Rattle.c_grammar.specs.declared.declaration.Declarator.{Declarator}
use Rattle.c_grammar.specs.declared.declaration.Direct.{Direct}
use Rattle.c_grammar.specs.declared.declaration.Direct.TheVariants as d
use Rattle.c_words.specs.Words.{same}
use Rattle.c_words.specs.Parsing.{Parser, ◌>>=◌, pure, refuse, peek, peek_second, expect}
use Rattle.c_grammar.specs.Declarations as grammar
use Rattle.c_type_names.specs.TypeReading.{star}
use Rattle.c_expressions.specs.ExpressionReading.{inner_at, deep}
use Rattle.c_declarations.specs.Brackets.{bracketed}

-- `may` says whether the `[ ]` right after the name may be empty, and n how deep what nests here may nest
abbrev pub is_empty_bracket : Bool → ℕ → Word → Word → Bool
is_empty_bracket may n first second = (may && nat_lt 0 n) && (same w.LeftBracket first && same w.RightBracket second)

unfoldable pub empty_bracket : Leaf → Parser Direct
empty_bracket name = do
  opening ← expect w.LeftBracket
  closing ← expect w.RightBracket
  pure (d.Unsized name opening closing)

unfoldable pub named : Bool → ℕ → Parser Direct
named may n = do
  name ← expect w.Name
  first ← peek
  second ← peek_second
  if is_empty_bracket may n first second then empty_bracket name else pure (d.Name name)

unfoldable pub array : Parser Choice → Direct → Parser Direct
array size found = do
  b ← bracketed size
  pure (d.Array found b.left b.size b.right)

-- a `[` is taken where what it stands after may nest one deeper; each adds one to the nesting, so n turns are enough
unfoldable pub arrays_from : ℕ → Parser Choice → ℕ → Direct → Parser Direct
arrays_from n size zero found = pure found
arrays_from n size (suc turns) found = do
  word ← peek
  if same w.LeftBracket word && nat_lt (grammar.direct found).nesting n then (do next ← array size found; arrays_from n size turns next) else pure found

unfoldable pub parenthesized : Parser Declarator → Parser Direct
parenthesized inner = do
  opening ← expect w.LeftParen
  found ← inner
  closing ← expect w.RightParen
  pure (d.Paren opening found closing)

module _ (may : Bool) (n : ℕ) (inner : Parser Declarator) where
  abbrev pub core_by : Word → Parser Direct
  core_by w.Name = named may n
  core_by w.LeftParen = deep n (parenthesized inner)
  core_by _ = refuse

  unfoldable pub core : Parser Direct
  core = peek >>= core_by

unfoldable pub direct : Bool → ℕ → Parser Choice → Parser Declarator → Parser Direct
direct may n size inner = core may n inner >>= arrays_from n size n

-- a declarator that nests below the number, after the stars that were found
unfoldable pub declarator_from : Bool → ℕ → List Star → Parser Declarator
declarator_from may zero found = refuse
declarator_from may (suc n) found = do
  word ← peek
  if same w.Star word then deep n (do x ← star; declarator_from may n (found ++ x ∷ []))
      else (do x ← direct may n (inner_at n).choice (declarator_from may n []); pure (record { stars = found; direct = x }))

-- ---- how declarators begin, and what goes on with them

abbrev pub begins_direct : Word → Bool
begins_direct x = same w.Name x || same w.LeftParen x

abbrev pub begins_declarator : Word → Bool
begins_declarator x = same w.Star x || begins_direct x

abbrev pub goes_on_declarator : Word → Bool
goes_on_declarator = same w.LeftBracket
