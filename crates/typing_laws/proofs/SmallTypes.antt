-- Sizes of small types.
use Rattle.std.proofs.Common.{◌≡◌, ℕ, ◌≤◌, true, List, refl, arith}
use Rattle.std.proofs.lemmas.Bool.{leb-true}
use Rattle.step_meaning.specs.declared.value.CType.{CType, end_of-CType, more_of-CType}
use Rattle.step_meaning.specs.declared.value.CType.TheVariants as type
use Rattle.step_meaning.specs.declared.program.Layout.{Layout}
use Rattle.step_meaning.specs.TypeRules.{cells, most_cells, is_spelled}
use Rattle.step_meaning.specs.ExpressionTypes.{pointer_to}
use Rattle.step_meaning.proofs.Ranges.{false_is_not_true, left_of_and, right_of_and}
use Rattle.typing_rules.specs.Declarations.{is_within_limit}
use Rattle.typing_rules.specs.Operators.{unit}
use Rattle.typing_laws.specs.SmallTypes.{IsSmallType, StructsAreSmall}

module _ (ls : List Layout) where
  -- what is no array is small
  pub small_void : IsSmallType ls type.Void
  unfolding is_within_limit
  small_void = refl

  pub small_int : (k : _) → IsSmallType ls (type.Int k)
  unfolding is_within_limit
  small_int k = refl

  pub small_pointer : (t : CType) → IsSmallType ls t → IsSmallType ls (pointer_to t)
  unfolding is_within_limit
  small_pointer t h = h

  pub small_element : (t : CType) (n : ℕ) → IsSmallType ls (type.Array' tt (more_of-CType t end_of-CType) n) → IsSmallType ls t
  unfolding is_within_limit
  small_element t n h = left_of_and _ _ h

  -- a type that a type name spells has no array in it
  pub small_spelled : (t : CType) → is_spelled t ≡ true → IsSmallType ls t
  unfolding is_within_limit
  small_spelled type.Void h = refl
  small_spelled (type.Int k) h = refl
  small_spelled (type.Pointer' b (more_of-CType t end_of-CType)) h = small_spelled t h
  small_spelled (type.Array' b t n) h = false_is_not_true h
  small_spelled (type.Struct n) h = refl

  -- ---- sizes

  pub small_cells : StructsAreSmall ls → (t : CType) → IsSmallType ls t → cells ls t ≤ most_cells
  unfolding is_within_limit
  small_cells s type.Void w = omega arith
  small_cells s (type.Int k) w = omega arith
  small_cells s (type.Pointer' b t) w = omega arith
  small_cells s (type.Array' b (more_of-CType t end_of-CType) n) w = leb-true (cells ls (type.Array' b (more_of-CType t end_of-CType) n)) most_cells (right_of_and _ _ w)
  small_cells s (type.Struct n) w = s.structs n

  pub small_unit : StructsAreSmall ls → (t : CType) → IsSmallType ls t → unit ls t ≤ most_cells
  unfolding unit is_within_limit
  small_unit s type.Void w = omega arith
  small_unit s (type.Int k) w = omega arith
  small_unit s (type.Pointer' b (more_of-CType t end_of-CType)) w = small_cells s t w
  small_unit s (type.Array' b t n) w = omega arith
  small_unit s (type.Struct n) w = omega arith
