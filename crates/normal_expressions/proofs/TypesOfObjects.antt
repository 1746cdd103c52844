-- The types that references stand for.
use Rattle.std.proofs.Common.{◌≡◌, ℕ, List, Option, Some, None, Bor, refl, ap}
use Rattle.std.specs.Prelude.{option_map}
use denote.Hole.Carrier.{hidden}
use Rattle.step_meaning.specs.declared.value.CType.{CType}
use Rattle.step_meaning.specs.declared.value.CType.TheVariants.{Pointer, Array}
use Rattle.step_meaning.specs.declared.value.CType.TheBlock.{shape-the_row-CType-0, hidden-the_row-CType-0}
use Rattle.step_meaning.specs.declared.program.Layout.{Layout}
use Rattle.step_meaning.specs.TypeRules.{member_type}
use Rattle.normal_laws.specs.NormalForm.{or_void}
use Rattle.normal_trees.specs.Operands.{object_of}

pub object_from : (r : Option (Bor CType)) (x : Option CType) → option_map (λ t. t.now) r ≡ x → object_of r ≡ or_void x
object_from None x h = ap or_void h
object_from (Some t) x h = ap or_void h

pub no_member_Pointer : (layouts : List Layout) (t : CType) (offset : ℕ) → member_type layouts (Pointer t) offset ≡ None
unfolding shape-the_row-CType-0 hidden-the_row-CType-0 hidden
no_member_Pointer layouts t offset = refl

pub no_member_Array : (layouts : List Layout) (t : CType) (n : ℕ) (offset : ℕ) → member_type layouts (Array t n) offset ≡ None
unfolding shape-the_row-CType-0 hidden-the_row-CType-0 hidden
no_member_Array layouts t n offset = refl

pub ruleset no_members = (no_member_Pointer, no_member_Array)
