-- More structs change no cells of a type that keeps the rules without them, and it keeps the rules with them.
use Rattle.std.proofs.Common.{◌≡◌, ℕ, zero, suc, ◌+◌, ◌≤◌, ◌<◌, Bool, true, List, [], ◌∷◌, ◌++◌, length, Option, Some, None, refl, sym, ap, subst, ◌∙◌, arith, length-append, append_assoc}
use Rattle.std.specs.Prelude.{slice_get, nat_lt, nat_le}
use Rattle.std.specs.List.{list_all}
use Rattle.std.proofs.lemmas.Bool.{ltb-true}
use Rattle.step_meaning.specs.declared.value.CType.{CType, end_of-CType, more_of-CType}
use Rattle.step_meaning.specs.declared.value.CType.TheVariants.{Void, Int, Pointer', Array', Struct}
use Rattle.step_meaning.specs.declared.program.Layout.{Layout}
use Rattle.step_meaning.specs.declared.program.Declared.{Declared}
use Rattle.step_meaning.specs.Types.{times, struct_cells, or_empty, object_cells}
use Rattle.step_meaning.specs.TypeRules.{most_cells, is_object_type, keeps_rules, are_layouts_after, are_layouts}
use Rattle.step_meaning.proofs.Ranges.{false_is_not_true, and_true, left_of_and, right_of_and}
use Rattle.step_meaning.proofs.StructCells.{chained, counted, kept}

below : (m n : ℕ) → nat_lt m n ≡ true → m < n
below m n e = ltb-true m n e

is_below : (m n : ℕ) → m < n → nat_lt m n ≡ true
is_below m n l = grind arith

-- ---- cells

module _ (ls more : List Layout) where
  same_struct : (n : ℕ) → n < length ls → slice_get (struct_cells [] (ls ++ more)) n ≡ slice_get (struct_cells [] ls) n
  same_struct n l =
      let here : n < length (struct_cells [] ls) = let c : length (struct_cells [] ls) ≡ length ls = counted [] ls ∙ omega arith in omega arith in
      ap (λ s. slice_get s n) (chained [] ls more) ∙ kept (struct_cells [] ls) more n here

  -- the cells of a type that keeps the rules, also where some structs are declared besides
  pub same_cells : (declared : ℕ) (t : CType) → is_object_type ls declared t ≡ true → object_cells (ls ++ more) t ≡ object_cells ls t
  same_cells declared Void e = refl
  same_cells declared (Int k) e = refl
  same_cells declared (Pointer' b t) e = refl
  same_cells declared (Array' b (more_of-CType t end_of-CType) n) e = ap (λ ts. times n ts) (same_cells declared t (left_of_and _ _ e))
  same_cells declared (Struct n) e = ap or_empty (same_struct n (below n (length ls) e))

  -- ---- rules

  pub still_keeps : (declared later : ℕ) (t : CType) → declared ≤ later → is_object_type ls declared t ≡ true → is_object_type (ls ++ more) later t ≡ true
  still_keeps declared later Void l e = false_is_not_true e
  still_keeps declared later (Int k) l e = refl
  still_keeps declared later (Pointer' b (more_of-CType (Struct n) end_of-CType)) l e = is_below n later (let m : n < declared = below n declared e in omega arith)
  still_keeps declared later (Pointer' b (more_of-CType Void end_of-CType)) l e = false_is_not_true e
  still_keeps declared later (Pointer' b (more_of-CType (Int k) end_of-CType)) l e = refl
  still_keeps declared later (Pointer' b (more_of-CType (Pointer' c t) end_of-CType)) l e = still_keeps declared later (Pointer' c t) l e
  still_keeps declared later (Pointer' b (more_of-CType (Array' c t n) end_of-CType)) l e = still_keeps declared later (Array' c t n) l e
  still_keeps declared later (Array' b (more_of-CType t end_of-CType) n) l e =
      and_true (still_keeps declared later t l (left_of_and _ _ e))
      (and_true (left_of_and (nat_le 1 n) _ (right_of_and _ _ e)) (subst (λ ts. nat_le (length ts) most_cells ≡ true) (sym (same_cells declared (Array' b (more_of-CType t end_of-CType) n) e)) (right_of_and _ _ (right_of_and _ _ e))))
  still_keeps declared later (Struct n) l e = is_below n (length (ls ++ more)) (let m : n < length ls = below n (length ls) e in let c : length (ls ++ more) ≡ length ls + length more = length-append ls more in omega arith)

-- ---- members

abbrev pub members_keep : List Layout → Layout → Bool
members_keep ls l = list_all (λ d. keeps_rules ls d.ctype) l.members

all_keep : (before more : List Layout) (declared : ℕ) (ds : List Declared) → declared ≤ length (before ++ more) → list_all (λ d. is_object_type before declared d.ctype) ds ≡ true → list_all (λ d. keeps_rules (before ++ more) d.ctype) ds ≡ true
all_keep before more declared [] l e = refl
all_keep before more declared (d ∷ ds) l e = and_true (still_keeps before more declared (length (before ++ more)) d.ctype l (left_of_and _ _ e)) (all_keep before more declared ds l (right_of_and _ _ e))

-- what is true of an element, where there is one
abbrev WhereThere : (Layout → Type 0) → Option Layout → Type 0
WhereThere P None = Unit {0}
WhereThere P (Some l) = P l

layouts_keep : (before ls : List Layout) → are_layouts_after before ls ≡ true → (n : ℕ) → WhereThere (λ l. members_keep (before ++ ls) l ≡ true) (slice_get ls n)
layouts_keep before [] e n = tt
layouts_keep before (l ∷ ls) e zero =
    all_keep before (l ∷ ls) (suc (length before)) l.members
    (let c : length (before ++ (l ∷ ls)) ≡ length before + length (l ∷ ls) = length-append before (l ∷ ls) in omega arith)
    (left_of_and _ _ (right_of_and _ _ (left_of_and _ _ e)))
layouts_keep before (l ∷ ls) e (suc n) =
    subst (λ all. WhereThere (λ l. members_keep all l ≡ true) (slice_get ls n)) (append_assoc before (l ∷ []) ls)
    (layouts_keep (before ++ (l ∷ [])) ls (right_of_and _ _ e) n)

-- the types of the members of a program's structs keep the rules in the program
pub member_types_keep : (ls : List Layout) → are_layouts ls ≡ true → (n : ℕ) (l : Layout) → slice_get ls n ≡ Some l → members_keep ls l ≡ true
member_types_keep ls e n l found = subst (WhereThere (λ l. members_keep ls l ≡ true)) found (layouts_keep [] ls e n)
