-- The parts of each type that code makes.
use Rattle.std.proofs.Common.{◌≡◌, refl, ℕ, List, []}
use Rattle.std.specs.Prelude.{replicate, slice_get}
use denote.Hole.Carrier.{hidden}
use Rattle.step_meaning.specs.declared.value.IntKind.{IntKind}
use Rattle.step_meaning.specs.declared.value.CType.{CType}
use Rattle.step_meaning.specs.declared.value.CType.TheVariants as type
use Rattle.step_meaning.specs.declared.value.CType.TheBlock.{shape-the_row-CType-0, hidden-the_row-CType-0}
use Rattle.step_meaning.specs.declared.program.Layout.{Layout}
use Rattle.typing_initialisers.specs.Initialisers.{members_there, parts_of}

module _ (ls : List Layout) where
  pub parts-Array : (t : CType) (n : ℕ) → parts_of ls (type.Array t n) ≡ replicate n t
  unfolding shape-the_row-CType-0 hidden-the_row-CType-0 hidden
  parts-Array t n = refl

  pub parts-Pointer : (t : CType) → parts_of ls (type.Pointer t) ≡ []
  unfolding shape-the_row-CType-0 hidden-the_row-CType-0 hidden
  parts-Pointer t = refl

  pub parts-Void : parts_of ls type.Void ≡ []
  parts-Void = refl

  pub parts-Int : (k : IntKind) → parts_of ls (type.Int k) ≡ []
  parts-Int k = refl

  pub parts-Struct : (n : ℕ) → parts_of ls (type.Struct n) ≡ members_there (slice_get ls n)
  parts-Struct n = refl

pub ruleset part_forms = (parts-Array, parts-Pointer, parts-Void, parts-Int, parts-Struct)
