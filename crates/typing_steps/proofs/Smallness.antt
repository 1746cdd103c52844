-- What rules give is small where what they take is.
use Rattle.std.proofs.Common.{◌≡◌, ℕ, length, ◌<◌, ◌≤◌, ◌^◌, List, Ok, Err, IfOk, sym, subst, arith}
use Rattle.step_meaning.specs.declared.value.CType.{CType}
use Rattle.step_meaning.specs.declared.program.Layout.{Layout}
use Rattle.step_meaning.specs.TypeRules.{most_cells}
use Rattle.typing_rules.specs.Checked.{Checked, Gives}
use Rattle.typing_rules.specs.Operators.{unit}
use Rattle.typing_rules.specs.Subobjects as subobjects
use Rattle.typing_objects.specs.declared.subobject.Base.{Base}
use Rattle.typing_objects.specs.declared.subobject.Base.TheVariants.{InArray, BehindPointer}
use Rattle.typing_objects.specs.Parts.{base, base_result, stride, OffsetsFit, allocated_in}
use Rattle.typing_rules.specs.Allocation.{Request, allocated}
use Rattle.typing_rules.specs.Environment.{Environment}
use Rattle.typing_rules.specs.declared.operand.Operand.{Operand}
use Rattle.c_lexer.specs.declared.token.Place.{Place}
use Rattle.typing_laws.specs.SmallTypes.{WhereOk, IsSmallType, StructsAreSmall}
use Rattle.typing_laws.proofs.CheckedValues.{where_ok}
use Rattle.typing_laws.proofs.SmallTypes.{small_cells, small_unit}
use Rattle.typing_laws.proofs.SmallRules.{offsets_fit}
use Rattle.typing_steps.specs.Steps.{IsSmallBase}

pub small_result : {A : Type 0} (P : A → Type 0) (c r : Checked A) → Gives c r → WhereOk P c → IfOk r P
small_result P c (Ok a) g h = where_ok P c a g h
small_result P c (Err e) g h = tt

pub small_base_result : (P : subobjects.Base → Type 0) (c : Checked subobjects.Base) (r : Checked Base) → Gives c (base_result r) → WhereOk P c → IfOk r (λ b. P (base b))
small_base_result P c (Ok b) g h = where_ok P c (base b) g h
small_base_result P c (Err e) g h = tt

pub small_here : {A : Type 0} (ls here : List Layout) → here ≡ ls → (P : A → Type 0) (F : List Layout → Checked A) (r : Checked A) → Gives (F here) r → WhereOk P (F ls) → IfOk r P
small_here ls here same P F r g h = small_result P (F ls) r (subst (λ ks. Gives (F ks) r) same g) h

pub allocated_here : (g : Environment) (here : List Layout) (n : ℕ) (at : Place) (q : Request) (r : Checked Operand) → here ≡ g.layouts → n ≡ length g.tags → Gives (allocated_in here n at q) r → Gives (allocated g at q) r
unfolding allocated
allocated_here g here n at q r same count h = subst (λ k. Gives (allocated_in g.layouts k at q) r) count (subst (λ ks. Gives (allocated_in ks n at q) r) same h)

module _ (ls here : List Layout) (same : here ≡ ls) (structs : StructsAreSmall ls) where
  pub moves : (t : CType) → IsSmallType ls t → unit here t < 2 ^ 32
  moves t h =
      let small : unit ls t ≤ most_cells = small_unit ls structs t h in
      let below : unit ls t < 2 ^ 32 = omega arith in
      subst (λ ks. unit ks t < 2 ^ 32) (sym same) below

  strides : (b : Base) → IsSmallBase ls (base b) → stride ls b ≤ most_cells
  strides (InArray p t) h = small_cells ls structs t h
  strides (BehindPointer v) h = small_unit ls structs v.ctype h

  pub steps : (b : Base) → IsSmallBase ls (base b) → stride here b < 2 ^ 32
  steps b h =
      let small : stride ls b ≤ most_cells = strides b h in
      let below : stride ls b < 2 ^ 32 = omega arith in
      subst (λ ks. stride ks b < 2 ^ 32) (sym same) below

  pub offsets : OffsetsFit here
  offsets = subst OffsetsFit (sym same) (offsets_fit ls structs)
