-- Each shape of code, where its parts are good: choices, assignments and updates.
use Rattle.std.proofs.Common.{◌≡◌, Bool, true, ◌&&◌, ◌||◌, List, [], ◌∷◌, ◌++◌, Option, Some, None, refl, sym, ap, subst, ◌∙◌}
use Rattle.step_meaning.specs.declared.value.CType.{CType}
use Rattle.step_meaning.specs.declared.value.CType.TheVariants as type
use Rattle.step_meaning.specs.declared.expr.CompareOp.{CompareOp}
use Rattle.step_meaning.specs.declared.expr.Expr.{Expr}
use Rattle.step_meaning.specs.declared.expr.Expr.TheVariants.{Null}
use Rattle.step_meaning.specs.declared.stmt.Stmt.{Stmt}
use Rattle.step_meaning.specs.declared.program.Core.{Core}
use Rattle.step_meaning.specs.declared.program.Declared.{Declared}
use Rattle.step_meaning.specs.TypeRules.{is_scalar}
use Rattle.step_meaning.specs.Settings.{Setting}
use Rattle.step_meaning.specs.ExpressionTypes.{pointer_to, has_pointer_type, has_scalar_type, is_null_constant, is_equality, are_comparable, are_of_one_kind, are_of_one_pointer, is_pointer_beside_null, logical_type, is_taken_by}
use Rattle.step_meaning.proofs.Ranges.{false_is_not_true, and_true, left_of_and, right_of_and}
use Rattle.normal_laws.specs.NormalForm.{Operand, Number, Nil, Held, Absent, int, expression_of, common_operand, chosen_type, branch_code, choose_into, Is, Code, PlaceCode}
use Rattle.normal_laws.proofs.Emitted.{each_join}
use Rattle.normal_laws.proofs.TypesOfParts.{none_is_not, some_is, either_is, Chosen, OfOneType, OfVoid, NullLast, NullFirst}
use Rattle.normal_shapes.proofs.GoodTypes.{IsValue, left_of_or, right_of_or}
use Rattle.normal_shapes.proofs.TypedOperands.{T, IsDeclared, OperandFits, operand_typed, operand_type_is, operand_value, scalar_not_void}
use Rattle.normal_shapes.proofs.GoodStatements.{AreDeclared, declared_split, value_join, copy_good, taken_exactly, Allows, IsGoodCode, IsGoodPlace, then_one}

-- ---- null pointer constants in other operands

or_more : (a b x y : Bool) → (a ≡ true → x ≡ true) → (b ≡ true → y ≡ true) → (a || b) ≡ true → (x || y) ≡ true
or_more a b x y m n h = either_is a b h (λ h. left_of_or x y (m h)) (λ h. right_of_or x y (n h))

and_more : (a b x y : Bool) → (a ≡ true → x ≡ true) → (b ≡ true → y ≡ true) → (a && b) ≡ true → (x && y) ≡ true
and_more a b x y m n h = and_true (m (left_of_and a b h)) (n (right_of_and a b h))

pub comparable_more : (c : CompareOp) (e f x y : Expr) (a b : Option CType) → (is_null_constant e ≡ true → is_null_constant x ≡ true) → (is_null_constant f ≡ true → is_null_constant y ≡ true) → are_comparable c e a f b ≡ true → are_comparable c x a y b ≡ true
comparable_more c e f x y a b m n h =
    or_more (are_of_one_kind a b) _ (are_of_one_kind a b) (are_of_one_pointer a b || (is_equality c && (is_pointer_beside_null x b || is_pointer_beside_null y a))) (λ h. h)
    (or_more (are_of_one_pointer a b) (is_equality c && (is_pointer_beside_null e b || is_pointer_beside_null f a)) (are_of_one_pointer a b) (is_equality c && (is_pointer_beside_null x b || is_pointer_beside_null y a)) (λ h. h)
    (and_more (is_equality c) (is_pointer_beside_null e b || is_pointer_beside_null f a) (is_equality c) (is_pointer_beside_null x b || is_pointer_beside_null y a) (λ h. h)
    (or_more (is_pointer_beside_null e b) (is_pointer_beside_null f a) (is_pointer_beside_null x b) (is_pointer_beside_null y a)
    (and_more (is_null_constant e) (has_pointer_type b) (is_null_constant x) (has_pointer_type b) m (λ h. h))
    (and_more (is_null_constant f) (has_pointer_type a) (is_null_constant y) (has_pointer_type a) n (λ h. h))))) h

pub truth_typed : (o : Option CType) → has_scalar_type o ≡ true → logical_type (has_scalar_type (logical_type (has_scalar_type o))) ≡ Some int
truth_typed o h = ap (λ b. logical_type (has_scalar_type (logical_type b))) h

module _ (q : Core) (g : Setting) (ds : List Declared) where
  abbrev Tq : Expr → Option CType
  Tq = T q g ds

  abbrev F : CType → Operand → Type 0
  F = OperandFits q g ds

  -- ---- what a branch leaves

  -- null is taken by each pointer
  pub null_taken : (t : CType) → is_scalar t ≡ true → has_pointer_type (Some t) ≡ true → is_taken_by t Null (Tq Null) ≡ true
  null_taken t s p = and_true s (right_of_or _ _ p)

  record ChoiceFits (a b : Operand) (t : CType) : Type 0 where
    typed : chosen_type a b ≡ t
    value : IsValue g.layouts t
    left : is_taken_by t (expression_of a) (Tq (expression_of a)) ≡ true
    right : is_taken_by t (expression_of b) (Tq (expression_of b)) ≡ true

  -- an expression without a value leaves nothing
  absent_is : (a : Operand) → F type.Void a → a ≡ Absent
  absent_is (Number k z) h = absurd (no h.0)
    where
      no : type.Void ≡ type.Int k → ⊥
      no e = absurd cc
  absent_is Nil h = absurd (no h)
    where
      no : type.Void ≡ pointer_to type.Void → ⊥
      no e = absurd cc
  absent_is (Held i u) h = let v = h.2 in false_is_not_true (subst (λ u. is_scalar u ≡ true) (sym h.0) v.scalar)
  absent_is Absent h = refl

  not_both_nil : (a b : Operand) → common_operand a b ≡ None → a ≡ Nil → b ≡ Nil → ⊥
  not_both_nil a b h x y = no (sym (ap (λ a. common_operand a b) x ∙ ap (common_operand Nil) y) ∙ h)
    where
      no : Some Nil ≡ None → ⊥
      no e = absurd cc

  not_both_absent : (a b : Operand) → common_operand a b ≡ None → a ≡ Absent → b ≡ Absent → ⊥
  not_both_absent a b h x y = no (sym (ap (λ a. common_operand a b) x ∙ ap (common_operand Absent) y) ∙ h)
    where
      no : Some Absent ≡ None → ⊥
      no e = absurd cc

  -- the type and the value where the first operand isn't null
  first_chosen : (a b : Operand) (t : CType) → (a ≡ Nil → ⊥) → F t a → is_scalar t ≡ true → (chosen_type a b ≡ t) × IsValue g.layouts t
  first_chosen (Number k z) b t n h s = (operand_type_is q g ds t (Number k z) h, operand_value q g ds t (Number k z) h n (scalar_not_void q g ds t s))
  first_chosen Nil b t n h s = absurd (n refl)
  first_chosen (Held i u) b t n h s = (operand_type_is q g ds t (Held i u) h, operand_value q g ds t (Held i u) h n (scalar_not_void q g ds t s))
  first_chosen Absent b t n h s = (operand_type_is q g ds t Absent h, operand_value q g ds t Absent h n (scalar_not_void q g ds t s))

  both_chosen : (a b : Operand) (t : CType) → common_operand a b ≡ None → F t a → F t b → is_scalar t ≡ true → (chosen_type a b ≡ t) × IsValue g.layouts t
  both_chosen Nil b t c h k s = (operand_type_is q g ds t b k, operand_value q g ds t b k (λ e. not_both_nil Nil b c refl e) (scalar_not_void q g ds t s))
  both_chosen (Number j z) b t c h k s = first_chosen (Number j z) b t (λ e. absurd cc) h s
  both_chosen (Held i u) b t c h k s = first_chosen (Held i u) b t (λ e. absurd cc) h s
  both_chosen Absent b t c h k s = first_chosen Absent b t (λ e. absurd cc) h s

  exactly : (t : CType) (a : Operand) → F t a → is_scalar t ≡ true → is_taken_by t (expression_of a) (Tq (expression_of a)) ≡ true
  exactly t a h s = taken_exactly q g ds t (expression_of a) s (operand_typed q g ds t a h (scalar_not_void q g ds t s))

  choice_fits : (e f : Expr) (ta tb t : CType) (a b : Operand) → common_operand a b ≡ None → (is_null_constant e ≡ true → a ≡ Nil) → (is_null_constant f ≡ true → b ≡ Nil) → F ta a → F tb b → Chosen e (Some ta) f (Some tb) t → ChoiceFits a b t
  choice_fits e f ta tb t a b c m n h k (OfOneType i j s) =
      let ha = subst (λ t. F t a) (some_is i) h in
      let hb = subst (λ t. F t b) (some_is j) k in
      let x = both_chosen a b t c ha hb s in
      record { typed = x.0; value = x.1; left = exactly t a ha s; right = exactly t b hb s }
  choice_fits e f ta tb t a b c m n h k (OfVoid i j s) =
      absurd (not_both_absent a b c (absent_is a (subst (λ t. F t a) (some_is i) h)) (absent_is b (subst (λ t. F t b) (some_is j) k)))
  choice_fits e f ta tb t a b c m n h k (NullLast z i s p) =
      let ha = subst (λ t. F t a) (some_is i) h in
      let x = first_chosen a b t (λ w. not_both_nil a b c w (n z)) ha s in
      record { typed = x.0; value = x.1; left = exactly t a ha s; right = subst (λ b. is_taken_by t (expression_of b) (Tq (expression_of b)) ≡ true) (sym (n z)) (null_taken t s p) }
  choice_fits e f ta tb t a b c m n h k (NullFirst z j s p) =
      let hb = subst (λ t. F t b) (some_is j) k in
      record {
        typed = ap (λ a. chosen_type a b) (m z) ∙ operand_type_is q g ds t b hb;
        value = operand_value q g ds t b hb (λ w. not_both_nil a b c (m z) w) (scalar_not_void q g ds t s);
        left = subst (λ a. is_taken_by t (expression_of a) (Tq (expression_of a)) ≡ true) (sym (m z)) (null_taken t s p);
        right = exactly t b hb s;
      }

  -- both types are this one
  chosen_is : (e f : Expr) (ta tb t x : CType) → Chosen e (Some ta) f (Some tb) t → ta ≡ x → tb ≡ x → t ≡ x
  chosen_is e f ta tb t x (OfOneType i j s) h k = sym (some_is i) ∙ h
  chosen_is e f ta tb t x (OfVoid i j s) h k = s ∙ sym (some_is i) ∙ h
  chosen_is e f ta tb t x (NullLast z i s p) h k = sym (some_is i) ∙ h
  chosen_is e f ta tb t x (NullFirst z j s p) h k = sym (some_is j) ∙ k

  common_fits : (e f : Expr) (ta tb t : CType) (a b o : Operand) → common_operand a b ≡ Some o → F ta a → F tb b → Chosen e (Some ta) f (Some tb) t → F t o
  common_fits e f ta tb t Nil Nil o c h k x = subst (F t) (some_is c) (chosen_is e f ta tb t (pointer_to type.Void) x h k)
  common_fits e f ta tb t Absent Absent o c h k x = subst (F t) (some_is c) (chosen_is e f ta tb t type.Void x h k)
  common_fits e f ta tb t _ _ o c h k x = none_is_not c

  module _ (S : Stmt → Type 0) (rules : Allows q g ds S) where
    abbrev Good : CType → Code → Type 0
    Good = IsGoodCode q g ds S rules

    abbrev GoodPlace : CType → PlaceCode → Type 0
    GoodPlace = IsGoodPlace q g ds S rules

    pub choose_good : (e f : Expr) (tc ta tb t : CType) (C A B : Code) → Good tc C → is_scalar tc ≡ true → Good ta A → Good tb B → (is_null_constant e ≡ true → A.value ≡ Nil) → (is_null_constant f ≡ true → B.value ≡ Nil)
        → Chosen e (Some ta) f (Some tb) t → (o : Option Operand) → common_operand A.value B.value ≡ o → AreDeclared q g ds (choose_into o C A B).types → Good t (choose_into o C A B)
    choose_good e f tc ta tb t C A B gc sc ga gb m n x (Some o) c at =
        record {
          each = each_join S C.code _ gc.each (rules.chooses C.value tc gc.value sc A.code B.code ga.each gb.each, tt);
          value = common_fits e f ta tb t A.value B.value o c ga.value gb.value x;
          types = value_join q g ds C.types (A.types ++ B.types) gc.types (value_join q g ds A.types B.types ga.types gb.types);
        }
    choose_good e f tc ta tb t C A B gc sc ga gb m n x None c at =
        let fits = choice_fits e f ta tb t A.value B.value c m n ga.value gb.value x in
        let i = B.next in
        let u = chosen_type A.value B.value in
        let d0 = (declared_split q g ds B.types (Is i u ∷ []) (declared_split q g ds A.types (B.types ++ (Is i u ∷ [])) (declared_split q g ds C.types (A.types ++ (B.types ++ (Is i u ∷ []))) at).1).1).1.0 in
        subst (λ w. Good w (choose_into None C A B)) fits.typed (made d0 fits fits.typed)
      where
        made : IsDeclared q g ds B.next (chosen_type A.value B.value) → ChoiceFits A.value B.value t → chosen_type A.value B.value ≡ t → Good (chosen_type A.value B.value) (choose_into None C A B)
        made d f w =
            let i = B.next in
            let u = chosen_type A.value B.value in
            let v = subst (IsValue g.layouts) (sym w) f.value in
            let l = subst (λ u. is_taken_by u (expression_of A.value) (Tq (expression_of A.value)) ≡ true) (sym w) f.left in
            let r = subst (λ u. is_taken_by u (expression_of B.value) (Tq (expression_of B.value)) ≡ true) (sym w) f.right in
            record {
              each = each_join S C.code _ gc.each (
                rules.chooses C.value tc gc.value sc (branch_code i u A) (branch_code i u B)
                    (then_one q g ds S rules A.code _ ga.each (copy_good q g ds i u A.value d l)) (then_one q g ds S rules B.code _ gb.each (copy_good q g ds i u B.value d r)),
                tt,
              );
              value = (refl, d, v);
              types = value_join q g ds C.types (A.types ++ (B.types ++ (Is i u ∷ []))) gc.types (value_join q g ds A.types (B.types ++ (Is i u ∷ [])) ga.types (value_join q g ds B.types (Is i u ∷ []) gb.types (v, tt)));
            }
