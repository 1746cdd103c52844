-- The grammar of types: the integer types (C11 6.7.2), what a declaration begins with, pointers (6.7.6.1) and the names of types (6.7.7).
use Rattle.std.specs.Prelude.{ℕ, Bool, List, [], ◌∷◌, Option, Some, None}
use Rattle.c_words.specs.declared.word.Word.{Word}
use Rattle.c_words.specs.declared.word.Word.TheVariants as w
use Rattle.c_words.specs.declared.word.Leaf.{Leaf}
use Rattle.c_grammar.specs.declared.types.Integer.{Integer}
use Rattle.c_grammar.specs.declared.types.Integer.TheVariants as i
use Rattle.c_grammar.specs.declared.types.Specifier.{Specifier}
use Rattle.c_grammar.specs.declared.types.Specifier.TheVariants as s
use Rattle.c_grammar.specs.declared.types.Base.{Base}
use Rattle.c_grammar.specs.declared.types.Star.{Star}
use Rattle.c_grammar.specs.declared.types.TypeName.{TypeName}
use Rattle.c_words.specs.Written.{Written, nothing, ◌then◌, one, nested, optional, run}

unfoldable pub integer : Integer → Written
integer (i.Char t) = one w.Char t
integer (i.SignedChar s t) = one w.Signed s then one w.Char t
integer (i.UnsignedChar u t) = one w.Unsigned u then one w.Char t
integer (i.Short s t n) = optional (one w.Signed) s then one w.Short t then optional (one w.Int) n
integer (i.UnsignedShort u t n) = one w.Unsigned u then one w.Short t then optional (one w.Int) n
integer (i.Int t) = one w.Int t
integer (i.Signed s n) = one w.Signed s then optional (one w.Int) n
integer (i.Unsigned u n) = one w.Unsigned u then optional (one w.Int) n
integer (i.Long s t n) = optional (one w.Signed) s then one w.Long t then optional (one w.Int) n
integer (i.UnsignedLong u t n) = one w.Unsigned u then one w.Long t then optional (one w.Int) n

unfoldable pub specifier : Specifier → Written
specifier (s.Integer x) = integer x
specifier (s.Void t) = one w.Void t
specifier (s.Struct t tag) = one w.Struct t then one w.Name tag

abbrev pub consts : List Leaf → Written
consts = run (one w.Const)

unfoldable pub base : Base → Written
base x = specifier x.specifier then consts x.consts

unfoldable pub star : Star → Written
star x = one w.Star x.star then consts x.consts

-- each `*` of a result or of the name of a type nests the `*` after it
unfoldable pub stars_alone : List Star → Written
stars_alone [] = nothing
stars_alone (x ∷ []) = star x
stars_alone (x ∷ y ∷ more) = star x then nested (stars_alone (y ∷ more))

-- each `*` of a declarator nests what it stands before
unfoldable pub stars_before : List Star → Written → Written
stars_before [] a = a
stars_before (x ∷ more) a = star x then nested (stars_before more a)

unfoldable pub type_name : TypeName → Written
type_name x = base x.base then stars_alone x.stars
