-- Types that declarators give.
use Rattle.std.specs.Prelude.{ℕ, ◌≤◌, ◌<◌, Bool, true, false, nat_lt, List, length}
use Rattle.step_meaning.specs.declared.value.CType.{CType}
use Rattle.step_meaning.specs.declared.value.CType.TheVariants as type
use Rattle.step_meaning.specs.declared.value.CType.TheVariants.{Struct}
use Rattle.step_meaning.specs.declared.program.Layout.{Layout}
use Rattle.step_meaning.specs.TypeRules.{cells}
use Rattle.step_meaning.specs.ExpressionTypes.{pointer_to}
use Rattle.typing_rules.specs.Declarations as rules

-- whether a pointer to the type is complete: a struct is known, and what is no struct is complete itself
abbrev pub behind_pointer : ℕ → Bool → CType → Bool
behind_pointer known otherwise (Struct n) = nat_lt n known
behind_pointer known otherwise t = otherwise

abbrev pub around : rules.Layer → CType → CType
around rules.Pointing t = pointer_to t
around (rules.Sized n) t = rules.array_of t n

-- what stands before a declarator: an integer type, `void` or a struct (C11 6.7.2)
abbrev pub is_specified : CType → Bool
is_specified type.Void = true
is_specified (type.Int k) = true
is_specified (Struct n) = true
is_specified _ = false

-- an array has an element
abbrev pub HasElements : rules.Layer → Type 0
HasElements rules.Pointing = Unit {0}
HasElements (rules.Sized n) = 1 ≤ n

-- each complete struct has a cell
abbrev pub StructsHaveCells : List Layout → Type 0
StructsHaveCells layouts = (n : ℕ) → n < length layouts → 1 ≤ cells layouts (Struct n)
