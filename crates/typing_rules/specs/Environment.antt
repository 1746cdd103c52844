-- What names stand for (C11 6.2.1, 6.2.3), and the types that a text spells (C11 6.7.2, 6.7.7).
use Rattle.std.specs.Prelude.{ℕ, suc, zero, Bool, true, false, ◌&&◌, ◌==◌, if◌then◌else◌, List, [], ◌∷◌, slice_index, position, Option, Some, None, Ok}
use Rattle.std.specs.List.{list_any}
use Rattle.std.specs.Str.{bytes_eq}
use Rattle.c_lexer.specs.declared.token.Place.{Place}
use Rattle.c_words.specs.declared.word.Leaf.{Leaf}
use Rattle.c_words.specs.declared.word.Mode.{Mode}
use Rattle.c_words.specs.declared.word.Mode.TheVariants as mode
use Rattle.c_grammar.specs.declared.types.Integer.{Integer}
use Rattle.c_grammar.specs.declared.types.Integer.TheVariants as i
use Rattle.c_grammar.specs.declared.types.Specifier.{Specifier}
use Rattle.c_grammar.specs.declared.types.Specifier.TheVariants as s
use Rattle.c_words.specs.Words as words
use Rattle.step_meaning.specs.declared.value.IntKind.{IntKind}
use Rattle.step_meaning.specs.declared.value.IntKind.TheVariants as kind
use Rattle.step_meaning.specs.declared.value.CType.{CType}
use Rattle.step_meaning.specs.declared.value.CType.TheVariants as type
use Rattle.step_meaning.specs.declared.program.Layout.{Layout}
use Rattle.step_meaning.specs.ExpressionTypes.{pointer_to}
use Rattle.typing_rules.specs.declared.operand.Entry.{Entry}
use Rattle.typing_rules.specs.declared.fault.TypeFault.TheVariants.{Unknown}
use Rattle.typing_rules.specs.Checked.{Checked, ◌>>=◌, kept}
use Rattle.typing_rules.specs.Syntax.{Spelled}

-- the names of one scope
abbrev pub Scope : Type 0
Scope = List (List ℕ × Entry)

pub record Environment : Type 0 where
  pub mode : Mode
  pub text : List ℕ
  -- the structs that are complete, and the tags in order: after the complete ones that of a struct whose members are being read
  pub layouts : List Layout
  pub tags : List (List ℕ)
  -- the scopes, innermost first
  pub scopes : List Scope
  -- the functions that have a body somewhere in the text
  pub bodies : List (List ℕ)

abbrev pub place_of : Leaf → Place
place_of t = t.token.place

abbrev pub bytes_in : Environment → Leaf → List ℕ
bytes_in s t = words.bytes_of s.text t.token

abbrev pub contains : List (List ℕ) → List ℕ → Bool
contains names name = list_any (bytes_eq name) names

abbrev pub is_source : Mode → Bool
is_source mode.Source = true
is_source mode.Woven = false

-- a name that a source may not declare: woven texts have names of their own that begin so
abbrev pub is_reserved : Environment → List ℕ → Bool
is_reserved g name = is_source g.mode && (slice_index name 0 == 95 && slice_index name 1 == 95)

-- ---- names

unfoldable pub found_in : Scope → List ℕ → Option Entry
found_in [] name = None
found_in (p ∷ ps) name = if bytes_eq p.0 name then Some p.1 else found_in ps name

abbrev pub or_else : Option Entry → Option Entry → Option Entry
or_else (Some x) o = Some x
or_else None o = o

-- the innermost scope that has the name says what it stands for
unfoldable pub found : List Scope → List ℕ → Option Entry
found [] name = None
found (scope ∷ outer) name = or_else (found_in scope name) (found outer name)

-- what a name stands for (C11 6.5.1, 2)
abbrev pub entry : Environment → Leaf → Checked Entry
entry s t = kept (Unknown (place_of t)) (found s.scopes (bytes_in s t))

-- ---- types

-- each spelling of an integer type (C11 6.7.2, 2)
abbrev pub integer_kind : Integer → IntKind
integer_kind (i.Char t) = kind.Char
integer_kind (i.SignedChar t u) = kind.SChar
integer_kind (i.UnsignedChar t u) = kind.UChar
integer_kind (i.Short t u v) = kind.Short
integer_kind (i.UnsignedShort t u v) = kind.UShort
integer_kind (i.Int t) = kind.Int
integer_kind (i.Signed t u) = kind.Int
integer_kind (i.Unsigned t u) = kind.UInt
integer_kind (i.Long t u v) = kind.Long
integer_kind (i.UnsignedLong t u v) = kind.ULong

-- the number of the struct with this tag
abbrev pub tag_number : List (List ℕ) → List ℕ → Option ℕ
tag_number tags tag = position (bytes_eq tag) tags

-- what stands before the stars or the declarator (C11 6.7.2)
unfoldable pub specified : Environment → Specifier → Checked CType
specified g (s.Integer x) = Ok (type.Int (integer_kind x))
specified g (s.Void t) = Ok type.Void
specified g (s.Struct t tag) = do
  n ← kept (Unknown (place_of tag)) (tag_number g.tags (bytes_in g tag))
  Ok (type.Struct n)

unfoldable pub with_stars : ℕ → CType → CType
with_stars zero t = t
with_stars (suc n) t = with_stars n (pointer_to t)

-- the type that a cast, a `sizeof` or a result spells
unfoldable pub spelled_type : Environment → Spelled → Checked CType
spelled_type g x = do
  t ← specified g x.specifier
  Ok (with_stars x.stars t)
