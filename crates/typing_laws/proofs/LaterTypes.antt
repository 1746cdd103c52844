-- Types that are complete stay what they are when further structs are complete.
use Rattle.std.proofs.Common.{◌≡◌, ℕ, ◌≤◌, ◌<◌, true, List, ◌++◌, length, refl, sym, ap, subst, arith}
use Rattle.std.specs.Prelude.{nat_le, nat_lt}
use Rattle.std.proofs.lemmas.Bool.{ltb-true}
use Rattle.step_meaning.specs.declared.value.CType.{CType, end_of-CType, more_of-CType}
use Rattle.step_meaning.specs.declared.value.CType.TheVariants.{Void, Int, Pointer', Array', Struct}
use Rattle.step_meaning.specs.declared.program.Layout.{Layout}
use Rattle.step_meaning.specs.Types.{times, object_cells}
use Rattle.step_meaning.specs.TypeRules.{most_cells}
use Rattle.step_meaning.proofs.Ranges.{false_is_not_true, and_true, left_of_and, right_of_and}
use Rattle.step_meaning.proofs.LaterLayouts.{same_cells}
use Rattle.typing_rules.specs.Declarations.{is_complete, is_within_limit}

below : (m n : ℕ) → nat_lt m n ≡ true → m < n
below m n e = ltb-true m n e

is_below : (m n : ℕ) → m < n → nat_lt m n ≡ true
is_below m n l = grind arith

pub still_complete : (c c' k k' : ℕ) (t : CType) → c ≤ c' → k ≤ k' → is_complete c k t ≡ true → is_complete c' k' t ≡ true
unfolding is_complete
still_complete c c' k k' Void l m e = false_is_not_true e
still_complete c c' k k' (Int i) l m e = refl
still_complete c c' k k' (Pointer' b (more_of-CType (Struct n) end_of-CType)) l m e = is_below n k' (let h : n < k = below n k e in omega arith)
still_complete c c' k k' (Pointer' b (more_of-CType Void end_of-CType)) l m e = false_is_not_true e
still_complete c c' k k' (Pointer' b (more_of-CType (Int i) end_of-CType)) l m e = refl
still_complete c c' k k' (Pointer' b (more_of-CType (Pointer' d t) end_of-CType)) l m e = still_complete c c' k k' (Pointer' d t) l m e
still_complete c c' k k' (Pointer' b (more_of-CType (Array' d t n) end_of-CType)) l m e = still_complete c c' k k' (Array' d t n) l m e
still_complete c c' k k' (Array' b (more_of-CType t end_of-CType) n) l m e = still_complete c c' k k' t l m e
still_complete c c' k k' (Struct n) l m e = is_below n c' (let h : n < c = below n c e in omega arith)

module _ (ls more : List Layout) where
  pub complete_cells : (known : ℕ) (t : CType) → is_complete (length ls) known t ≡ true → object_cells (ls ++ more) t ≡ object_cells ls t
  unfolding is_complete
  complete_cells known Void e = refl
  complete_cells known (Int k) e = refl
  complete_cells known (Pointer' b t) e = refl
  complete_cells known (Array' b (more_of-CType t end_of-CType) n) e = ap (λ ts. times n ts) (complete_cells known t e)
  complete_cells known (Struct n) e = same_cells ls more known (Struct n) e

  pub still_within : (known : ℕ) (t : CType) → is_complete (length ls) known t ≡ true → is_within_limit ls t ≡ true → is_within_limit (ls ++ more) t ≡ true
  unfolding is_complete is_within_limit
  still_within known Void e w = refl
  still_within known (Int k) e w = refl
  still_within known (Pointer' b (more_of-CType (Struct n) end_of-CType)) e w = refl
  still_within known (Pointer' b (more_of-CType Void end_of-CType)) e w = refl
  still_within known (Pointer' b (more_of-CType (Int k) end_of-CType)) e w = refl
  still_within known (Pointer' b (more_of-CType (Pointer' c t) end_of-CType)) e w = still_within known (Pointer' c t) e w
  still_within known (Pointer' b (more_of-CType (Array' c t n) end_of-CType)) e w = still_within known (Array' c t n) e w
  still_within known (Array' b (more_of-CType t end_of-CType) n) e w =
      and_true (still_within known t e (left_of_and _ _ w))
      (subst (λ ts. nat_le (length ts) most_cells ≡ true) (sym (complete_cells known (Array' b (more_of-CType t end_of-CType) n) e)) (right_of_and _ _ w))
  still_within known (Struct n) e w = refl
