-- When types that code makes are the same.
use Rattle.std.proofs.Common.{◌≡◌, ◌==◌, ℕ, false, refl}
use Rattle.std.specs.Prelude.{◌&&◌}
use Rattle.step_meaning.specs.declared.value.IntKind.{IntKind}
use Rattle.step_meaning.specs.declared.value.CType.{CType, end_of-CType, more_of-CType}
use Rattle.step_meaning.specs.declared.value.CType.TheVariants.{Void, Int, Struct, Pointer, Array, Pointer', Array'}
use Rattle.step_meaning.specs.declared.value.CType.TheBlock.{shape-the_row-CType-0, hidden-the_row-CType-0}
use denote.Hole.Carrier.{hidden}
use Rattle.step_meaning.specs.Types.{same_type}

pub Pointer-is : (t : CType) → Pointer t ≡ Pointer' tt (more_of-CType t end_of-CType)
unfolding shape-the_row-CType-0 hidden-the_row-CType-0 hidden
Pointer-is t = refl

pub Array-is : (t : CType) (n : ℕ) → Array t n ≡ Array' tt (more_of-CType t end_of-CType) n
unfolding shape-the_row-CType-0 hidden-the_row-CType-0 hidden
Array-is t n = refl

pub ruleset types = (Pointer-is, Array-is)

pub same-Pointer-Void : (t : CType) → same_type (Pointer t) Void ≡ false
unfolding shape-the_row-CType-0 hidden-the_row-CType-0 hidden
same-Pointer-Void t = refl

pub same-Pointer-Int : (t : CType) (l : IntKind) → same_type (Pointer t) (Int l) ≡ false
unfolding shape-the_row-CType-0 hidden-the_row-CType-0 hidden
same-Pointer-Int t l = refl

pub same-Pointer-Pointer : (t : CType) (u : CType) → same_type (Pointer t) (Pointer u) ≡ same_type t u
unfolding shape-the_row-CType-0 hidden-the_row-CType-0 hidden
same-Pointer-Pointer t u = refl

pub same-Pointer-Array : (t : CType) (u : CType) (m : ℕ) → same_type (Pointer t) (Array u m) ≡ false
unfolding shape-the_row-CType-0 hidden-the_row-CType-0 hidden
same-Pointer-Array t u m = refl

pub same-Pointer-Struct : (t : CType) (m : ℕ) → same_type (Pointer t) (Struct m) ≡ false
unfolding shape-the_row-CType-0 hidden-the_row-CType-0 hidden
same-Pointer-Struct t m = refl

pub same-Array-Void : (t : CType) (n : ℕ) → same_type (Array t n) Void ≡ false
unfolding shape-the_row-CType-0 hidden-the_row-CType-0 hidden
same-Array-Void t n = refl

pub same-Array-Int : (t : CType) (n : ℕ) (l : IntKind) → same_type (Array t n) (Int l) ≡ false
unfolding shape-the_row-CType-0 hidden-the_row-CType-0 hidden
same-Array-Int t n l = refl

pub same-Array-Pointer : (t : CType) (n : ℕ) (u : CType) → same_type (Array t n) (Pointer u) ≡ false
unfolding shape-the_row-CType-0 hidden-the_row-CType-0 hidden
same-Array-Pointer t n u = refl

pub same-Array-Array : (t : CType) (n : ℕ) (u : CType) (m : ℕ) → same_type (Array t n) (Array u m) ≡ ((n == m) && same_type t u)
unfolding shape-the_row-CType-0 hidden-the_row-CType-0 hidden
same-Array-Array t n u m = refl

pub same-Array-Struct : (t : CType) (n : ℕ) (m : ℕ) → same_type (Array t n) (Struct m) ≡ false
unfolding shape-the_row-CType-0 hidden-the_row-CType-0 hidden
same-Array-Struct t n m = refl

pub ruleset same_types = (same-Pointer-Void, same-Pointer-Int, same-Pointer-Pointer, same-Pointer-Array, same-Pointer-Struct, same-Array-Void, same-Array-Int, same-Array-Pointer, same-Array-Array, same-Array-Struct)
