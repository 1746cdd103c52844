-- Reading of types.
use Rattle.std.specs.Prelude.{ℕ, zero, suc, Bool, true, false, if◌then◌else◌, List, [], ◌∷◌, ◌++◌, Some, None}
use Rattle.c_words.specs.declared.word.Word.{Word}
use Rattle.c_words.specs.declared.word.Word.TheVariants as w
use Rattle.c_words.specs.declared.word.Leaf.{Leaf}
use Rattle.c_grammar.specs.declared.types.Integer.{Integer}
use Rattle.c_grammar.specs.declared.types.Integer.TheVariants as i
use Rattle.c_grammar.specs.declared.types.Specifier.{Specifier}
use Rattle.c_grammar.specs.declared.types.Specifier.TheVariants as s
use Rattle.c_grammar.specs.declared.types.Base.{Base}
use Rattle.c_grammar.specs.declared.types.Star.{Star}
use Rattle.c_grammar.specs.declared.types.TypeName.{TypeName}
use Rattle.c_words.specs.Words.{same}
use Rattle.c_words.specs.Parsing.{Parser, ◌>>=◌, ◌<$>◌, pure, refuse, peek, expect, optional_at, run_at}

-- after `signed`
abbrev pub signed_by : Leaf → Word → Parser Integer
signed_by first w.Char = i.SignedChar first <$> expect w.Char
signed_by first w.Short = do
  t ← expect w.Short
  n ← optional_at w.Int
  pure (i.Short (Some first) t n)
signed_by first w.Long = do
  t ← expect w.Long
  n ← optional_at w.Int
  pure (i.Long (Some first) t n)
signed_by first _ = i.Signed first <$> optional_at w.Int

unfoldable pub signed : Parser Integer
signed = do
  first ← expect w.Signed
  next ← peek
  signed_by first next

-- after `unsigned`
abbrev pub unsigned_by : Leaf → Word → Parser Integer
unsigned_by first w.Char = i.UnsignedChar first <$> expect w.Char
unsigned_by first w.Short = do
  t ← expect w.Short
  n ← optional_at w.Int
  pure (i.UnsignedShort first t n)
unsigned_by first w.Long = do
  t ← expect w.Long
  n ← optional_at w.Int
  pure (i.UnsignedLong first t n)
unsigned_by first _ = i.Unsigned first <$> optional_at w.Int

unfoldable pub unsigned : Parser Integer
unsigned = do
  first ← expect w.Unsigned
  next ← peek
  unsigned_by first next

abbrev pub integer_by : Word → Parser Integer
integer_by w.Char = i.Char <$> expect w.Char
integer_by w.Short = do
  t ← expect w.Short
  n ← optional_at w.Int
  pure (i.Short None t n)
integer_by w.Int = i.Int <$> expect w.Int
integer_by w.Long = do
  t ← expect w.Long
  n ← optional_at w.Int
  pure (i.Long None t n)
integer_by w.Signed = signed
integer_by w.Unsigned = unsigned
integer_by _ = refuse

unfoldable pub integer : Parser Integer
integer = peek >>= integer_by

unfoldable pub struct_type : Parser Specifier
struct_type = do
  t ← expect w.Struct
  tag ← expect w.Name
  pure (s.Struct t tag)

abbrev pub specifier_by : Word → Parser Specifier
specifier_by w.Void = s.Void <$> expect w.Void
specifier_by w.Struct = struct_type
specifier_by _ = s.Integer <$> integer

unfoldable pub specifier : Parser Specifier
specifier = peek >>= specifier_by

unfoldable pub consts : Parser (List Leaf)
consts = run_at (same w.Const) (expect w.Const)

unfoldable pub base : Parser Base
base = do
  x ← specifier
  cs ← consts
  pure (record { specifier = x; consts = cs })

unfoldable pub star : Parser Star
star = do
  t ← expect w.Star
  cs ← consts
  pure (record { star = t; consts = cs })

-- at most so many stars after those that were found
unfoldable pub stars_from : ℕ → List Star → Parser (List Star)
stars_from zero found = pure found
stars_from (suc n) found = do
  word ← peek
  if same w.Star word then (do x ← star; stars_from n (found ++ x ∷ [])) else pure found

-- the name of a type that nests below the number
unfoldable pub type_name : ℕ → Parser TypeName
type_name zero = refuse
type_name (suc n) = do
  x ← base
  stars ← stars_from (suc n) []
  pure (record { base = x; stars = stars })

-- ---- how types begin, and what goes on with them

abbrev pub begins_integer : Word → Bool
begins_integer w.Char = true
begins_integer w.Signed = true
begins_integer w.Unsigned = true
begins_integer w.Short = true
begins_integer w.Int = true
begins_integer w.Long = true
begins_integer _ = false

abbrev pub begins_type : Word → Bool
begins_type w.Void = true
begins_type w.Struct = true
begins_type x = begins_integer x

abbrev pub goes_on_integer : Word → Bool
goes_on_integer w.Char = true
goes_on_integer w.Short = true
goes_on_integer w.Int = true
goes_on_integer w.Long = true
goes_on_integer _ = false

abbrev pub goes_on_base : Word → Bool
goes_on_base w.Const = true
goes_on_base x = goes_on_integer x

abbrev pub goes_on_type : Word → Bool
goes_on_type w.Star = true
goes_on_type x = goes_on_base x
