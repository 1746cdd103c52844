-- What rules say of each type that code makes.
use Rattle.std.proofs.Common.{◌≡◌, refl, ℕ, List, Err}
use Rattle.c_lexer.specs.declared.token.Place.{Place}
use Rattle.step_meaning.specs.declared.value.IntKind.{IntKind}
use Rattle.step_meaning.specs.declared.value.CType.{CType}
use Rattle.step_meaning.specs.declared.value.CType.TheVariants.{Void, Int, Struct, Pointer, Array}
use Rattle.step_meaning.specs.declared.value.CType.TheBlock.{shape-the_row-CType-0, hidden-the_row-CType-0}
use denote.Hole.Carrier.{hidden}
use Rattle.step_meaning.specs.declared.program.Layout.{Layout}
use Rattle.step_meaning.specs.TypeRules.{cells}
use Rattle.step_meaning.specs.declared.expr.Expr.{Expr}
use Rattle.step_meaning.specs.ExpressionTypes.{pointer_to}
use Rattle.typing_rules.specs.declared.fault.TypeFault.TheVariants.{Mismatch}
use Rattle.typing_rules.specs.declared.operand.Value.{Value}
use Rattle.typing_rules.specs.Operators.{unit, promoted_value}

-- ---- a pointer to a type

pub pointer-Pointer : (t : CType) → pointer_to t ≡ Pointer t
unfolding shape-the_row-CType-0 hidden-the_row-CType-0 hidden
pointer-Pointer t = refl

pub ruleset pointer = (pointer-Pointer)

-- ---- the cells of what a pointer points to

pub unit-Pointer : (layouts : List Layout) (t : CType) → unit layouts (Pointer t) ≡ cells layouts t
unfolding unit shape-the_row-CType-0 hidden-the_row-CType-0 hidden
unit-Pointer layouts t = refl

pub unit-Void : (layouts : List Layout) → unit layouts Void ≡ 0
unfolding unit shape-the_row-CType-0 hidden-the_row-CType-0 hidden
unit-Void layouts = refl

pub unit-Int : (layouts : List Layout) (k : IntKind) → unit layouts (Int k) ≡ 0
unfolding unit shape-the_row-CType-0 hidden-the_row-CType-0 hidden
unit-Int layouts k = refl

pub unit-Array : (layouts : List Layout) (t : CType) (n : ℕ) → unit layouts (Array t n) ≡ 0
unfolding unit shape-the_row-CType-0 hidden-the_row-CType-0 hidden
unit-Array layouts t n = refl

pub unit-Struct : (layouts : List Layout) (n : ℕ) → unit layouts (Struct n) ≡ 0
unfolding unit shape-the_row-CType-0 hidden-the_row-CType-0 hidden
unit-Struct layouts n = refl

pub ruleset units = (unit-Pointer, unit-Void, unit-Int, unit-Array, unit-Struct)

-- ---- operators on a promoted integer

module _ (at : Place) (f : IntKind → Expr → Expr) (v : Value) where
  pub promoted-Pointer : (t : CType) → promoted_value at f v (Pointer t) ≡ Err (Mismatch at)
  unfolding shape-the_row-CType-0 hidden-the_row-CType-0 hidden
  promoted-Pointer t = refl

  pub promoted-Array : (t : CType) (n : ℕ) → promoted_value at f v (Array t n) ≡ Err (Mismatch at)
  unfolding shape-the_row-CType-0 hidden-the_row-CType-0 hidden
  promoted-Array t n = refl

pub ruleset promotions = (promoted-Pointer, promoted-Array)
