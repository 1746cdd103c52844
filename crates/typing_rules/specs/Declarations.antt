-- Declarators (C11 6.7.6), and the rules on a declared name.
use Rattle.std.specs.Prelude.{ℕ, suc, Bool, true, false, ◌&&◌, not, nat_lt, nat_le, List, [], ◌∷◌, length, Option, Some, Ok}
use Rattle.c_lexer.specs.declared.token.Place.{Place}
use Rattle.step_meaning.specs.declared.value.CType.{CType, end_of-CType, more_of-CType}
use Rattle.step_meaning.specs.declared.value.CType.TheVariants as type
use Rattle.step_meaning.specs.declared.program.Layout.{Layout}
use Rattle.step_meaning.specs.TypeRules.{cells, most_cells}
use Rattle.step_meaning.specs.ExpressionTypes.{pointer_to}
use Rattle.typing_rules.specs.declared.fault.TypeFault.TheVariants.{Redeclared, Mismatch, StructValue, Reserved, TooLarge, BadInitialiser}
use Rattle.typing_rules.specs.Checked.{Checked, ◌>>=◌, kept, none_of}
use Rattle.typing_rules.specs.Syntax.{Expression, Modifier, PointerTo, ArrayUnsized, ArrayOf, Initialiser, Braces, Initialisers, NoElement, Element}
use Rattle.typing_rules.specs.Operands as operands
use Rattle.typing_rules.specs.Environment.{Environment}
use Rattle.typing_rules.specs.ConstantExpressions.{size_of_array}
use Rattle.typing_rules.specs.Expressions.{operand}

-- ---- array sizes

-- a modifier with its size
pub data Layer : Type 0 where
  Pointing : Layer
  Sized : ℕ → Layer

-- its fault stands at the first token of the size
unfoldable pub size : Environment → Expression → Checked ℕ
size g x = do
  a ← operand g x
  v ← operands.value a
  kept (BadInitialiser a.first) (size_of_array v.expr)

-- the sizes in text order, which is from the name outwards; `[ ]` has so many elements
unfoldable pub layers : Environment → ℕ → List Modifier → Checked (List Layer)
layers g count [] = Ok []
layers g count (PointerTo ∷ ms) = do
  ls ← layers g count ms
  Ok (Pointing ∷ ls)
layers g count (ArrayUnsized ∷ ms) = do
  ls ← layers g count ms
  Ok (Sized count ∷ ls)
layers g count (ArrayOf x ∷ ms) = do
  n ← size g x
  ls ← layers g count ms
  Ok (Sized n ∷ ls)

abbrev pub array_of : CType → ℕ → CType
array_of t n = type.Array' tt (more_of-CType t end_of-CType) n

-- the type of a name whose modifiers are these, from the name outwards
unfoldable pub layered : List Layer → CType → CType
layered [] t = t
layered (Pointing ∷ ls) t = pointer_to (layered ls t)
layered (Sized n ∷ ls) t = array_of (layered ls t) n

unfoldable pub element_number : Initialisers → ℕ
element_number NoElement = 0
element_number (Element x xs) = suc (element_number xs)

-- the elements of `[ ]`: those of the initialiser (C11 6.7.9, 22)
abbrev pub count_of : Option Initialiser → ℕ
count_of (Some (Braces t xs)) = element_number xs
count_of _ = 1

-- ---- types of objects (C11 6.2.5, 6.7.2.1, 6.7.6.2)

-- complete; a struct whose members are being read stands behind a pointer alone, and `void` nowhere
unfoldable pub is_complete : ℕ → ℕ → CType → Bool
is_complete complete known type.Void = false
is_complete complete known (type.Int k) = true
is_complete complete known (type.Pointer' b (more_of-CType (type.Struct n) end_of-CType)) = nat_lt n known
is_complete complete known (type.Pointer' b (more_of-CType t end_of-CType)) = is_complete complete known t
is_complete complete known (type.Array' b (more_of-CType t end_of-CType) n) = is_complete complete known t
is_complete complete known (type.Struct n) = nat_lt n complete

-- no array above the limit of 65,536 cells, behind a pointer neither
unfoldable pub is_within_limit : List Layout → CType → Bool
is_within_limit layouts (type.Pointer' b (more_of-CType t end_of-CType)) = is_within_limit layouts t
is_within_limit layouts (type.Array' b (more_of-CType t end_of-CType) n) = is_within_limit layouts t && nat_le (cells layouts (type.Array' b (more_of-CType t end_of-CType) n)) most_cells
is_within_limit layouts _ = true

abbrev pub is_struct : CType → Bool
is_struct (type.Struct n) = true
is_struct t = false

-- complete where it stands
abbrev pub is_complete_in : Environment → CType → Bool
is_complete_in g t = is_complete (length g.layouts) (length g.tags) t

-- ---- rules on a declared name, which stands at this place

-- of a variable, parameter or member: whether its scope has the name already, whether a rule of its own on its type is broken, whether it is a value, as a parameter is, and whether its name is reserved
abbrev pub declarable : Environment → Place → Bool → Bool → Bool → Bool → CType → Checked (Unit {0})
declarable g at again wrong is_value reserved t =
    none_of ((again, Redeclared at)
    ∷ (wrong, Mismatch at)
    ∷ (is_value && is_struct t, StructValue at)
    ∷ (reserved, Reserved at)
    ∷ (not (is_within_limit g.layouts t), TooLarge at) ∷ [])
