-- Assignments and updates, where their parts are good.
use Rattle.std.proofs.Common.{◌≡◌, ℕ, suc, ◌≤◌, Bool, true, false, cond, ◌&&◌, not, List, [], ◌∷◌, ◌++◌, Option, Some, refl, sym, ap, subst, ◌∙◌, arith}
use Rattle.std.specs.Prelude.{is_some}
use Rattle.step_meaning.specs.declared.value.IntKind.{IntKind}
use Rattle.step_meaning.specs.declared.value.CType.{CType}
use Rattle.step_meaning.specs.declared.value.CType.TheVariants as type
use Rattle.step_meaning.specs.declared.expr.IntOp.{IntOp}
use Rattle.step_meaning.specs.declared.expr.Side.{Side}
use Rattle.step_meaning.specs.declared.expr.Place_.{Place_}
use Rattle.step_meaning.specs.declared.expr.Side.TheVariants.{PointerFirst, Minus}
use Rattle.step_meaning.specs.declared.expr.Answer.{Answer}
use Rattle.step_meaning.specs.declared.expr.Answer.TheVariants.{Before, After}
use Rattle.step_meaning.specs.declared.expr.UpdateOp.{UpdateOp}
use Rattle.step_meaning.specs.declared.expr.UpdateOp.TheVariants.{Integer, Forward, Backward}
use Rattle.step_meaning.specs.declared.expr.Expr.{Expr}
use Rattle.step_meaning.specs.declared.expr.Expr.TheVariants.{Load}
use Rattle.step_meaning.specs.declared.stmt.Stmt.{Stmt}
use Rattle.step_meaning.specs.declared.program.Core.{Core}
use Rattle.step_meaning.specs.declared.program.Declared.{Declared}
use Rattle.step_meaning.specs.Types.{where_true, kind_number}
use Rattle.step_meaning.specs.TypeRules.{is_scalar, keeps_rules}
use Rattle.step_meaning.specs.Settings.{Setting}
use Rattle.step_meaning.specs.Conversions.{same_int_kind, is_promoted, promoted, common}
use Rattle.step_meaning.specs.ExpressionTypes.{pointer_to, is_void, has_this_type, has_kind, has_promoted_kind, has_pointer_type, is_null_constant, moved_type, move_type, converted_type, binary_type, is_shift, is_taken_by, is_operation}
use Rattle.step_meaning.specs.Normal.{is_silent}
use Rattle.step_meaning.specs.Printable.{allocates_small_type}
use Rattle.step_meaning.specs.Sizes.{nodes, depth}
use Rattle.step_meaning.proofs.Ranges.{false_is_not_true, and_true, left_of_and, right_of_and}
use Rattle.step_meaning.proofs.SameTypes.{number_same, same_kind_equal, same_itself}
use Rattle.normal_laws.specs.NormalForm.{Operand, Number, Nil, Held, Absent, Target, register, expression_of, place_of, convert, binary, move, convert_between, updated_expression, typed_value, store_code, answered, update_code, Is, Code, PlaceCode}
use Rattle.normal_laws.proofs.Emitted.{each_join}
use Rattle.normal_laws.proofs.TypesOfParts.{some_is, taken, some_type, moved_pointer}
use Rattle.normal_shapes.proofs.GoodTypes.{IsObject, object_value, left_of_or, right_of_or}
use Rattle.normal_shapes.proofs.PromotedKinds.{promoted_is_promoted, common_is_promoted, turned_apart}
use Rattle.normal_shapes.proofs.TypedOperands.{T, IsDeclared, OperandFits, TargetFits, operand_silent, operand_small, target_small, operand_typed, scalar_not_void, target_typed, target_plain, target_object}
use Rattle.normal_shapes.proofs.GoodStatements.{taking, operand_allocates, AreDeclared, declared_split, value_join, IsGood, set_good, silent_good, copy_good, store_good, taken_exactly, Allows, IsGoodCode, IsGoodPlace, then_one, then_set_good}
use Rattle.normal_shapes.proofs.GoodForms.{null_taken}

module _ (q : Core) (g : Setting) (ds : List Declared) where
  abbrev Tq : Expr → Option CType
  Tq = T q g ds

  abbrev F : CType → Operand → Type 0
  F = OperandFits q g ds

  module _ (S : Stmt → Type 0) (rules : Allows q g ds S) where
    abbrev Good : CType → Code → Type 0
    Good = IsGoodCode q g ds S rules

    abbrev GoodPlace : CType → PlaceCode → Type 0
    GoodPlace = IsGoodPlace q g ds S rules

    held_taken : (t : CType) (e : Expr) (u : CType) (a : Operand) → (a ≡ Nil → ⊥) → (is_null_constant e ≡ true → a ≡ Nil) → is_taken_by t e (Some u) ≡ true → F u a → F t a
    held_taken t e u a n null h fits = taken t e (Some u) h (λ i s. subst (λ u. F u a) (some_is i) fits) (λ c p s. absurd (n (null c)))

    nil_taken : {A : Type 0} (t : CType) (e : Expr) (u : CType) → IsObject g.layouts t → is_taken_by t e (Some u) ≡ true → u ≡ pointer_to type.Void → (is_scalar t ≡ true → has_pointer_type (Some t) ≡ true → A) → A
    nil_taken t e u obj h v k = taken t e (Some u) h (λ i s. false_is_not_true (subst (λ t. keeps_rules g.layouts t ≡ true) (sym (some_is i) ∙ v) obj.keeps)) (λ c p s. k s p)

    pub typed_good : (t : CType) (e : Expr) (u : CType) (A : Code) (v : Operand) → A.value ≡ v → IsObject g.layouts t → Good u A → is_taken_by t e (Some u) ≡ true → (is_null_constant e ≡ true → A.value ≡ Nil) → AreDeclared q g ds (typed_value t v A).types → Good t (typed_value t v A)
    typed_good t e u A Nil w obj h k null at =
        let d = (declared_split q g ds A.types (Is A.next t ∷ []) at).1.0 in
        nil_taken t e u obj k (subst (F u) w h.value) (λ s p.
        then_set_good q g ds S rules t (λ x. x) A h.each h.types d (object_value g.layouts t s obj)
        (copy_good q g ds A.next t A.value d (subst (λ a. is_taken_by t (expression_of a) (Tq (expression_of a)) ≡ true) (sym w) (null_taken q g ds t s p))))
    typed_good t e u A (Number j z) w obj h k null at = record { each = h.each; value = held_taken t e u A.value (λ i. other (sym w ∙ i)) null k h.value; types = h.types }
      where
        other : Number j z ≡ Nil → ⊥
        other i = absurd cc
    typed_good t e u A (Held i x) w obj h k null at = record { each = h.each; value = held_taken t e u A.value (λ j. other (sym w ∙ j)) null k h.value; types = h.types }
      where
        other : Held i x ≡ Nil → ⊥
        other j = absurd cc
    typed_good t e u A Absent w obj h k null at = record { each = h.each; value = held_taken t e u A.value (λ i. other (sym w ∙ i)) null k h.value; types = h.types }
      where
        other : Absent ≡ Nil → ⊥
        other i = absurd cc

    pub stored_good : (t : CType) (p : PlaceCode) (A : Code) → GoodPlace t p → is_scalar t ≡ true → Good t A → Good t (store_code t p A)
    stored_good t p A h s k =
        record {
          each = each_join S p.code _ h.each (then_one q g ds S rules A.code _ k.each (store_good q g ds p.target t A.value h.target (taken_exactly q g ds t (expression_of A.value) s (operand_typed q g ds t A.value k.value (scalar_not_void q g ds t s)))));
          value = k.value;
          types = value_join q g ds p.types A.types h.types k.types;
        }

    -- ---- updates

    operation_scalar : (t : CType) (o : UpdateOp) (a : Option CType) → is_operation g.layouts t o a ≡ true → is_scalar t ≡ true
    operation_scalar (type.Int l) o a e = refl
    operation_scalar (type.Pointer' b t) o a e = refl
    operation_scalar type.Void (Integer o k) a e = false_is_not_true e
    operation_scalar type.Void (Forward size) a e = false_is_not_true e
    operation_scalar type.Void (Backward size) a e = false_is_not_true e
    operation_scalar (type.Array' b t n) (Integer o k) a e = false_is_not_true e
    operation_scalar (type.Array' b t n) (Forward size) a e = false_is_not_true e
    operation_scalar (type.Array' b t n) (Backward size) a e = false_is_not_true e
    operation_scalar (type.Struct n) (Integer o k) a e = false_is_not_true e
    operation_scalar (type.Struct n) (Forward size) a e = false_is_not_true e
    operation_scalar (type.Struct n) (Backward size) a e = false_is_not_true e

    -- an expression of so many nodes at most that a register may take
    record Computes (m : ℕ) (t : CType) (e : Expr) : Type 0 where
      typed : Tq e ≡ Some t
      silent : is_silent e ≡ true
      nodes : nodes e ≤ m
      depth : depth e ≤ m
      allocates : (p : Place_) (u : CType) → allocates_small_type (taking p u e) ≡ true

    operand_computes : (t : CType) (a : Operand) → F t a → is_void t ≡ false → Computes 2 t (expression_of a)
    operand_computes t a h v = let s = operand_small a in record { typed = operand_typed q g ds t a h v; silent = operand_silent a; nodes = s.nodes; depth = s.depth; allocates = λ p u. operand_allocates q g ds p u a }

    -- brought from one kind to another
    between_computes : (m : ℕ) (k l : IntKind) (e : Expr) → Computes m (type.Int k) e → Computes (suc m) (type.Int l) (convert_between k l e)
    between_computes m k l e h = by (same_int_kind k l) refl
      where
        by : (b : Bool) → same_int_kind k l ≡ b → Computes (suc m) (type.Int l) (cond b e (convert l e))
        by true i =
            let n = h.nodes in
            let d = h.depth in
            record { typed = h.typed ∙ ap (λ l. Some (type.Int l)) (same_kind_equal k l i); silent = h.silent; nodes = omega arith; depth = omega arith; allocates = h.allocates }
        by false i =
            let n = h.nodes in
            let d = h.depth in
            record { typed = ap (converted_type l) h.typed ∙ ap (λ b. where_true (not b) (type.Int l)) (turned_apart k l i); silent = h.silent; nodes = omega arith; depth = omega arith; allocates = λ p u. refl }

    operation_kind : (o : IntOp) (k l : IntKind) (a : Option CType) → is_operation g.layouts (type.Int l) (Integer o k) a ≡ true → (is_promoted k ≡ true) × (cond (is_shift o) (has_promoted_kind a) (has_kind k a) ≡ true)
    operation_kind o k l a e = by (is_shift o) e
      where
        by : (b : Bool) → cond b (same_int_kind k (promoted l) && has_promoted_kind a) (same_int_kind k (common l k) && has_kind k a) ≡ true → (is_promoted k ≡ true) × (cond b (has_promoted_kind a) (has_kind k a) ≡ true)
        by true e = (subst (λ k. is_promoted k ≡ true) (sym (same_kind_equal k (promoted l) (left_of_and (same_int_kind k (promoted l)) _ e))) (promoted_is_promoted l), right_of_and (same_int_kind k (promoted l)) _ e)
        by false e = (subst (λ k. is_promoted k ≡ true) (sym (same_kind_equal k (common l k) (left_of_and (same_int_kind k (common l k)) _ e))) (common_is_promoted l k), right_of_and (same_int_kind k (common l k)) _ e)

    binary_computes : (o : IntOp) (k : IntKind) (u : CType) (x y : Expr) → is_promoted k ≡ true → cond (is_shift o) (has_promoted_kind (Some u)) (has_kind k (Some u)) ≡ true → Computes 3 (type.Int k) x → Computes 2 u y → Computes 6 (type.Int k) (binary o k x y)
    binary_computes o k u x y p r h j =
        let n = h.nodes in
        let d = h.depth in
        let n2 = j.nodes in
        let d2 = j.depth in
        record {
          typed = ap (λ a. binary_type o k a (Tq y)) h.typed ∙ ap (binary_type o k (Some (type.Int k))) j.typed ∙ ap (λ b. where_true b (type.Int k)) (and_true p (and_true (number_same (kind_number k)) r));
          silent = and_true h.silent j.silent;
          nodes = omega arith;
          depth = omega arith;
          allocates = λ p u. refl;
        }

    moved_computes : (t u : CType) (size : ℕ) (side : Side) (x y : Expr) → ((a b : Option CType) → move_type g.layouts size side a b ≡ moved_type g.layouts size a b) → is_some (moved_type g.layouts size (Some t) (Some u)) ≡ true → Computes 2 t x → Computes 2 u y
        → Computes 7 t (move x y size side)
    moved_computes t u size side x y first e h j =
        let n = h.nodes in
        let d = h.depth in
        let n2 = j.nodes in
        let d2 = j.depth in
        let w = some_type (moved_type g.layouts size (Some t) (Some u)) e in
        let i = moved_pointer g.layouts size (Some t) (Some u) w.0 w.1 in
        record {
          typed = first (Tq x) (Tq y) ∙ ap (λ a. moved_type g.layouts size a (Tq y)) h.typed ∙ ap (moved_type g.layouts size (Some t)) j.typed ∙ w.1 ∙ sym i.1;
          silent = and_true h.silent j.silent;
          nodes = omega arith;
          depth = omega arith;
          allocates = λ p u. refl;
        }

    updated_computes : (t u : CType) (o : UpdateOp) (a b : Operand) → is_operation g.layouts t o (Some u) ≡ true → F t a → F u b → is_void u ≡ false → Computes 7 t (updated_expression t o (expression_of a) (expression_of b))
    updated_computes (type.Int l) u (Integer o k) a b e ha hb v =
        let p = operation_kind o k l (Some u) e in
        between_computes 6 k l (binary o k (convert_between l k (expression_of a)) (expression_of b))
        (binary_computes o k u (convert_between l k (expression_of a)) (expression_of b) p.0 p.1
        (between_computes 2 l k (expression_of a) (operand_computes (type.Int l) a ha refl)) (operand_computes u b hb v))
    updated_computes (type.Pointer' c t) u (Forward size) a b e ha hb v = moved_computes (type.Pointer' c t) u size PointerFirst (expression_of a) (expression_of b) (λ a b. refl) e (operand_computes (type.Pointer' c t) a ha refl) (operand_computes u b hb v)
    updated_computes (type.Pointer' c t) u (Backward size) a b e ha hb v = moved_computes (type.Pointer' c t) u size Minus (expression_of a) (expression_of b) (λ a b. refl) e (operand_computes (type.Pointer' c t) a ha refl) (operand_computes u b hb v)
    updated_computes (type.Int l) u (Forward size) a b e ha hb v = false_is_not_true e
    updated_computes (type.Int l) u (Backward size) a b e ha hb v = false_is_not_true e
    updated_computes (type.Pointer' c t) u (Integer o k) a b e ha hb v = false_is_not_true e
    updated_computes type.Void u (Integer o k) a b e ha hb v = false_is_not_true e
    updated_computes type.Void u (Forward size) a b e ha hb v = false_is_not_true e
    updated_computes type.Void u (Backward size) a b e ha hb v = false_is_not_true e
    updated_computes (type.Array' c t n) u (Integer o k) a b e ha hb v = false_is_not_true e
    updated_computes (type.Array' c t n) u (Forward size) a b e ha hb v = false_is_not_true e
    updated_computes (type.Array' c t n) u (Backward size) a b e ha hb v = false_is_not_true e
    updated_computes (type.Struct n) u (Integer o k) a b e ha hb v = false_is_not_true e
    updated_computes (type.Struct n) u (Forward size) a b e ha hb v = false_is_not_true e
    updated_computes (type.Struct n) u (Backward size) a b e ha hb v = false_is_not_true e

    -- a register takes the value at a place
    pub load_good : (i : ℕ) (t : CType) (u : Target) → IsDeclared q g ds i t → is_scalar t ≡ true → TargetFits q g ds t u → IsGood q g ds (taking (register i) t (Load (place_of u) t))
    load_good i t u d s h =
        let w = target_small u in
        let n = w.nodes in
        let m = w.depth in
        set_good q g ds i t (Load (place_of u) t) d
        (taken_exactly q g ds t (Load (place_of u) t) s (ap (λ b. where_true b t) (and_true s (ap (has_this_type t) (target_typed q g ds t u h) ∙ same_itself t))))
        (right_of_or _ _ (left_of_or _ _ (target_plain q g ds t u h))) (omega arith) (omega arith) refl

    answered_fits : (t : CType) (w : Answer) (a b : Operand) → F t a → F t b → F t (answered w a b)
    answered_fits t Before a b h k = h
    answered_fits t After a b h k = k

    pub update_good : (t u : CType) (o : UpdateOp) (w : Answer) (p : PlaceCode) (b : Code) → GoodPlace t p → Good u b → is_void u ≡ false → is_operation g.layouts t o (Some u) ≡ true → AreDeclared q g ds (update_code t o w p b).types → Good t (update_code t o w p b)
    update_good t u o w p b h k v e at =
        let x = declared_split q g ds p.types (Is p.next t ∷ (b.types ++ (Is b.next t ∷ []))) at in
        let y = declared_split q g ds b.types (Is b.next t ∷ []) x.1.1 in
        let s = operation_scalar t o (Some u) e in
        let value = object_value g.layouts t s (target_object q g ds t p.target h.target) in
        let old : F t (Held p.next t) = (refl, x.1.0, value) in
        let new : F t (Held b.next t) = (refl, y.1.0, value) in
        let c = updated_computes t u o (Held p.next t) b.value e old k.value v in
        let n = c.nodes in
        let d = c.depth in
        record {
          each = each_join S p.code _ h.each (
            rules.evaluates _ (load_good p.next t p.target x.1.0 s h.target),
            each_join S b.code _ k.each (
              rules.evaluates _ (silent_good q g ds b.next t (updated_expression t o (expression_of (Held p.next t)) (expression_of b.value)) y.1.0 value c.typed c.silent (omega arith) (omega arith) (c.allocates (register b.next) t)),
              (rules.evaluates _ (store_good q g ds p.target t (Held b.next t) h.target (taken_exactly q g ds t (expression_of (Held b.next t)) s (operand_typed q g ds t (Held b.next t) new (scalar_not_void q g ds t s)))), tt),
            ),
          );
          value = answered_fits t w (Held p.next t) (Held b.next t) old new;
          types = value_join q g ds p.types (Is p.next t ∷ (b.types ++ (Is b.next t ∷ []))) h.types (value, value_join q g ds b.types (Is b.next t ∷ []) k.types (value, tt));
        }
