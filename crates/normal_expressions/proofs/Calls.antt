-- Which types have values.
use Rattle.std.proofs.Common.{◌≡◌, ℕ, Some, refl}
use denote.Hole.Carrier.{hidden}
use Rattle.step_meaning.specs.declared.value.CType.{CType}
use Rattle.step_meaning.specs.declared.value.CType.TheVariants.{Pointer, Array}
use Rattle.step_meaning.specs.declared.value.CType.TheBlock.{shape-the_row-CType-0, hidden-the_row-CType-0}
use Rattle.normal_expressions.specs.Code.{value_type}

pub value_Pointer : (t : CType) → value_type (Pointer t) ≡ Some (Pointer t)
unfolding shape-the_row-CType-0 hidden-the_row-CType-0 hidden
value_Pointer t = refl

pub value_Array : (t : CType) (n : ℕ) → value_type (Array t n) ≡ Some (Array t n)
unfolding shape-the_row-CType-0 hidden-the_row-CType-0 hidden
value_Array t n = refl

pub ruleset values = (value_Pointer, value_Array)
