-- Types of objects and of values in the code of a source: they keep the rules on types and nest at most 99 and 100 deep.
use Rattle.std.proofs.Common.{◌≡◌, ◌==◌, ℕ, zero, suc, ◌+◌, ◌≤◌, Bool, true, false, cond, ◌||◌, List, [], ◌∷◌, Option, Some, None, refl, sym, ap, subst, ◌∙◌, arith}
use Rattle.std.specs.Prelude.{slice_get, option_and_then}
use Rattle.std.specs.List.{list_all}
use Rattle.std.proofs.lemmas.Bool.{leb-true}
use Rattle.step_meaning.specs.declared.value.IntKind.{IntKind}
use Rattle.step_meaning.specs.declared.value.CType.{CType, end_of-CType, more_of-CType}
use Rattle.step_meaning.specs.declared.value.CType.TheVariants as type
use Rattle.step_meaning.specs.declared.program.Declared.{Declared}
use Rattle.step_meaning.specs.declared.program.Layout.{Layout}
use Rattle.step_meaning.specs.ExpressionTypes.{pointer_to, is_addressed_at}
use Rattle.step_meaning.specs.Sources.{have_source_types}
use Rattle.step_meaning.specs.TermSizes.{type_depth}
use Rattle.step_meaning.specs.Types.{same_type}
use Rattle.step_meaning.specs.TypeRules.{cells, is_scalar, keeps_rules, are_layouts, member_from, member_type, element_type}
use Rattle.step_meaning.proofs.LaterLayouts.{member_types_keep}
use Rattle.step_meaning.proofs.Ranges.{false_is_not_true, left_of_and, right_of_and}
use Rattle.step_meaning.proofs.SameTypes.{same_type_equal, same_itself}
use Rattle.normal_laws.specs.NormalForm.{element_of}
use Rattle.normal_laws.proofs.TypesOfParts.{none_is_not, some_is, where_true_is, either_is}

pub right_of_or : (a b : Bool) → b ≡ true → (a || b) ≡ true
right_of_or true b e = refl
right_of_or false b e = e

pub left_of_or : (a b : Bool) → a ≡ true → (a || b) ≡ true
left_of_or a b e = ap (λ a. a || b) e

module _ (ls : List Layout) where
  -- of an object
  pub record IsObject (t : CType) : Type 0 where
    pub keeps : keeps_rules ls t ≡ true
    pub depth : type_depth t ≤ 99

  -- of a value in a register
  pub record IsValue (t : CType) : Type 0 where
    pub scalar : is_scalar t ≡ true
    pub keeps : keeps_rules ls t ≡ true
    pub depth : type_depth t ≤ 100

  pub object_value : (t : CType) → is_scalar t ≡ true → IsObject t → IsValue t
  object_value t s h = record { scalar = s; keeps = h.keeps; depth = let d = h.depth in omega arith }

  pub integer_value : (k : IntKind) → IsValue (type.Int k)
  integer_value k = record { scalar = refl; keeps = refl; depth = omega arith }

  -- ---- pointers

  pointer_keeps : (t : CType) → keeps_rules ls t ≡ true → keeps_rules ls (pointer_to t) ≡ true
  pointer_keeps type.Void e = false_is_not_true e
  pointer_keeps (type.Int k) e = refl
  pointer_keeps (type.Pointer' b t) e = e
  pointer_keeps (type.Array' b t n) e = e
  pointer_keeps (type.Struct n) e = e

  pub pointer_value : (t : CType) → IsObject t → IsValue (pointer_to t)
  pointer_value t h = record { scalar = refl; keeps = pointer_keeps t h.keeps; depth = let d = h.depth in omega arith }

  pointed_keeps : (b : Unit {0}) (t : CType) → keeps_rules ls (type.Pointer' b (more_of-CType t end_of-CType)) ≡ true → keeps_rules ls t ≡ true
  pointed_keeps b type.Void e = false_is_not_true e
  pointed_keeps b (type.Int k) e = refl
  pointed_keeps b (type.Pointer' c t) e = e
  pointed_keeps b (type.Array' c t n) e = e
  pointed_keeps b (type.Struct n) e = e

  pub pointed_object : (b : Unit {0}) (t : CType) → IsValue (type.Pointer' b (more_of-CType t end_of-CType)) → IsObject t
  pointed_object b t h = record { keeps = pointed_keeps b t h.keeps; depth = let d = h.depth in omega arith }

  -- an object is no `void`, and a value no `void *`
  pub object_not_void : {A : Type 0} → IsObject type.Void → A
  object_not_void h = false_is_not_true h.keeps

  pub value_not_void_pointer : {A : Type 0} (t : CType) → IsValue t → t ≡ pointer_to type.Void → A
  value_not_void_pointer t h e = false_is_not_true (subst (λ t. keeps_rules ls t ≡ true) e h.keeps)

  -- ---- parts

  pub element_object : (u : CType) (size : ℕ) (t : CType) → IsObject u → element_type ls u size ≡ Some t → IsObject t
  element_object (type.Array' b (more_of-CType w end_of-CType) n) size t h e =
      let i = where_true_is (size == cells ls w) w t e in
      subst IsObject i.1 (record { keeps = left_of_and _ _ h.keeps; depth = let d = h.depth in omega arith })
  element_object type.Void size t h e = none_is_not e
  element_object (type.Int k) size t h e = none_is_not e
  element_object (type.Pointer' b w) size t h e = none_is_not e
  element_object (type.Struct n) size t h e = none_is_not e

  -- the type of the elements of an array
  pub element_is : (u : CType) (size : ℕ) (t : CType) → element_type ls u size ≡ Some t → element_of u ≡ t
  element_is (type.Array' b (more_of-CType w end_of-CType) n) size t e = (where_true_is (size == cells ls w) w t e).1
  element_is type.Void size t e = none_is_not e
  element_is (type.Int k) size t e = none_is_not e
  element_is (type.Pointer' b w) size t e = none_is_not e
  element_is (type.Struct n) size t e = none_is_not e

  addressed_itself : (t : CType) → is_addressed_at t (Some t) ≡ true
  addressed_itself (type.Array' b (more_of-CType w end_of-CType) n) = right_of_or _ _ (same_itself (type.Array' b (more_of-CType w end_of-CType) n))
  addressed_itself type.Void = same_itself type.Void
  addressed_itself (type.Int k) = same_itself (type.Int k)
  addressed_itself (type.Pointer' b w) = same_itself (type.Pointer' b w)
  addressed_itself (type.Struct n) = same_itself (type.Struct n)

  pub addressed_there : (t : CType) (o : Option CType) → o ≡ Some t → is_addressed_at t o ≡ true
  addressed_there t o e = ap (is_addressed_at t) e ∙ addressed_itself t

  pub addressed_object : (t w : CType) → IsObject w → is_addressed_at t (Some w) ≡ true → IsObject t
  addressed_object t (type.Array' b (more_of-CType u end_of-CType) n) h e =
      either_is (same_type t u) (same_type t (type.Array' b (more_of-CType u end_of-CType) n)) e
      (λ e. subst IsObject (sym (same_type_equal t u e)) (record { keeps = left_of_and _ _ h.keeps; depth = let d = h.depth in omega arith }))
      (λ e. subst IsObject (sym (same_type_equal t (type.Array' b (more_of-CType u end_of-CType) n) e)) h)
  addressed_object t type.Void h e = object_not_void h
  addressed_object t (type.Int k) h e = subst IsObject (sym (same_type_equal t (type.Int k) e)) h
  addressed_object t (type.Pointer' b u) h e = subst IsObject (sym (same_type_equal t (type.Pointer' b u) e)) h
  addressed_object t (type.Struct n) h e = subst IsObject (sym (same_type_equal t (type.Struct n) e)) h

  module _ (formed : are_layouts ls ≡ true) (small : list_all (λ l. have_source_types l.members) ls ≡ true) where
    found_object : (ds : List Declared) (at o : ℕ) (t : CType) → list_all (λ d. keeps_rules ls d.ctype) ds ≡ true → have_source_types ds ≡ true → member_from ls ds at o ≡ Some t → IsObject t
    found_object [] at o t k s e = none_is_not e
    found_object (d ∷ ds) at o t k s e = by (at == o) (λ e. found_object ds (at + cells ls d.ctype) o t (right_of_and _ _ k) (right_of_and _ _ s) e) e
      where
        by : (b : Bool) → (member_from ls ds (at + cells ls d.ctype) o ≡ Some t → IsObject t) → cond b (Some d.ctype) (member_from ls ds (at + cells ls d.ctype) o) ≡ Some t → IsObject t
        by true later e = subst IsObject (some_is e) (record { keeps = left_of_and _ _ k; depth = leb-true (type_depth d.ctype) 99 (left_of_and _ _ s) })
        by false later e = later e

    got_small : (xs : List Layout) (n : ℕ) (l : Layout) → list_all (λ l. have_source_types l.members) xs ≡ true → slice_get xs n ≡ Some l → have_source_types l.members ≡ true
    got_small [] zero l h e = none_is_not e
    got_small [] (suc n) l h e = none_is_not e
    got_small (x ∷ xs) zero l h e = subst (λ l. have_source_types l.members ≡ true) (some_is e) (left_of_and _ _ h)
    got_small (x ∷ xs) (suc n) l h e = got_small xs n l (right_of_and _ _ h) e

    member_in : (n o : ℕ) (t : CType) (f : Option Layout) → slice_get ls n ≡ f → option_and_then (λ l. member_from ls l.members 0 o) f ≡ Some t → IsObject t
    member_in n o t None i e = none_is_not e
    member_in n o t (Some l) i e = found_object l.members 0 o t (member_types_keep ls formed n l i) (got_small ls n l small i) e

    pub member_object : (u : CType) (o : ℕ) (t : CType) → member_type ls u o ≡ Some t → IsObject t
    member_object (type.Struct n) o t e = member_in n o t (slice_get ls n) refl e
    member_object type.Void o t e = none_is_not e
    member_object (type.Int k) o t e = none_is_not e
    member_object (type.Pointer' b w) o t e = none_is_not e
    member_object (type.Array' b w n) o t e = none_is_not e
