-- What each type that code looks at points to, and what its elements are.
use Rattle.std.proofs.Common.{◌≡◌, ℕ, refl}
use denote.Hole.Carrier.{hidden}
use Rattle.step_meaning.specs.declared.value.CType.{CType}
use Rattle.step_meaning.specs.declared.value.CType.TheVariants.{Void, Pointer, Array}
use Rattle.step_meaning.specs.declared.value.CType.TheBlock.{shape-the_row-CType-0, hidden-the_row-CType-0}
use Rattle.normal_laws.specs.NormalForm.{pointed_type, element_of}

pub pointed_Pointer : (t : CType) → pointed_type (Pointer t) ≡ t
unfolding shape-the_row-CType-0 hidden-the_row-CType-0 hidden
pointed_Pointer t = refl

pub pointed_Array : (t : CType) (n : ℕ) → pointed_type (Array t n) ≡ Void
unfolding shape-the_row-CType-0 hidden-the_row-CType-0 hidden
pointed_Array t n = refl

pub ruleset pointed = (pointed_Pointer, pointed_Array)

pub element_Array : (t : CType) (n : ℕ) → element_of (Array t n) ≡ t
unfolding shape-the_row-CType-0 hidden-the_row-CType-0 hidden
element_Array t n = refl

pub element_Pointer : (t : CType) → element_of (Pointer t) ≡ Void
unfolding shape-the_row-CType-0 hidden-the_row-CType-0 hidden
element_Pointer t = refl

pub ruleset elements = (element_Array, element_Pointer)
