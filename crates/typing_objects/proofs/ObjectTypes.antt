-- What the rules on types say of each type that code makes.
use Rattle.std.proofs.Common.{◌≡◌, refl, ℕ, List, false, ◌&&◌}
use Rattle.std.specs.Prelude.{Bool, nat_le}
use Rattle.step_meaning.specs.declared.value.CType.{CType, end_of-CType, more_of-CType}
use Rattle.step_meaning.specs.declared.value.CType.TheVariants.{Void, Int, Struct, Pointer, Pointer', Array, Array'}
use Rattle.step_meaning.specs.declared.value.CType.TheBlock.{shape-the_row-CType-0, hidden-the_row-CType-0}
use denote.Hole.Carrier.{hidden}
use Rattle.step_meaning.specs.declared.program.Layout.{Layout}
use Rattle.step_meaning.specs.TypeRules.{cells, most_cells, is_spelled, is_object_type}
use Rattle.typing_objects.specs.Parts.{behind_pointer}

pub spelled-Pointer : (t : CType) → is_spelled (Pointer t) ≡ is_spelled t
unfolding shape-the_row-CType-0 hidden-the_row-CType-0 hidden
spelled-Pointer t = refl

pub spelled-Array : (t : CType) (n : ℕ) → is_spelled (Array t n) ≡ false
unfolding shape-the_row-CType-0 hidden-the_row-CType-0 hidden
spelled-Array t n = refl

pub ruleset spelled_types = (spelled-Pointer, spelled-Array)

pub behind-Pointer : (k : ℕ) (b : Bool) (t : CType) → behind_pointer k b (Pointer t) ≡ b
unfolding shape-the_row-CType-0 hidden-the_row-CType-0 hidden
behind-Pointer k b t = refl

pub behind-Array : (k : ℕ) (b : Bool) (t : CType) (n : ℕ) → behind_pointer k b (Array t n) ≡ b
unfolding shape-the_row-CType-0 hidden-the_row-CType-0 hidden
behind-Array k b t n = refl

pub ruleset behind_pointers = (behind-Pointer, behind-Array)

module _ (ls : List Layout) (k : ℕ) where
  pub object-Pointer : (t : CType) → is_object_type ls k (Pointer t) ≡ behind_pointer k (is_object_type ls k t) t
  unfolding shape-the_row-CType-0 hidden-the_row-CType-0 hidden
  object-Pointer Void = refl
  object-Pointer (Int i) = refl
  object-Pointer (Pointer' b (more_of-CType t end_of-CType)) = refl
  object-Pointer (Array' b (more_of-CType t end_of-CType) n) = refl
  object-Pointer (Struct n) = refl

  pub object-Array : (t : CType) (n : ℕ) → is_object_type ls k (Array t n) ≡ (is_object_type ls k t && (nat_le 1 n && nat_le (cells ls (Array t n)) most_cells))
  unfolding shape-the_row-CType-0 hidden-the_row-CType-0 hidden
  object-Array t n = refl

pub ruleset object_types = (object-Pointer, object-Array)
