-- The code of an expression of a type leaves an operand of that type, and its statements have types, are normal and small.
use Rattle.std.proofs.Common.{◌≡◌, ℕ, suc, ◌+◌, ◌≤◌, true, false, ◌&&◌, not, max, List, [], ◌∷◌, ◌++◌, Option, Some, None, refl, sym, ap, subst, ◌∙◌, arith}
use Rattle.std.specs.Prelude.{ℤ, pos, slice_get, is_some, nat_le}
use Rattle.std.proofs.lemmas.Bool.{leb-true}
use Rattle.step_meaning.specs.declared.value.IntKind.TheVariants as kind
use Rattle.step_meaning.specs.declared.value.CType.{CType, end_of-CType, more_of-CType}
use Rattle.step_meaning.specs.declared.value.CType.TheVariants as type
use Rattle.step_meaning.specs.declared.expr.Side.{Side}
use Rattle.step_meaning.specs.declared.expr.Side.TheVariants.{PointerFirst, PointerLast, Minus}
use Rattle.step_meaning.specs.declared.expr.Expr.{Expr, Row_of-Expr, end_of-Expr, more_of-Expr}
use Rattle.step_meaning.specs.declared.expr.Expr.TheVariants.{Literal, Null, Load, Address, Convert', Unary', Binary', Compare', Move', Difference', Not', Both', Either', Choose', Assign', Update', Invoke', GetChar, PutChar', Malloc', Free', Discard', Own, Deref', Member', Index'}
use Rattle.step_meaning.specs.declared.expr.Place_.{Place_, end_of-Place_, more_of-Place_}
use Rattle.step_meaning.specs.declared.stmt.Stmt.{Stmt}
use Rattle.step_meaning.specs.declared.program.Core.{Core}
use Rattle.step_meaning.specs.declared.program.Declared.{Declared}
use Rattle.step_meaning.specs.Numbers.{is_in_range}
use Rattle.step_meaning.specs.Types.{where_true}
use Rattle.step_meaning.specs.TypeRules.{is_scalar, is_spelled, keeps_rules, member_type}
use Rattle.step_meaning.specs.Settings.{Setting}
use Rattle.step_meaning.specs.Conversions.{is_promoted}
use Rattle.step_meaning.specs.ExpressionTypes.{type_of, type_of_place, are_arguments, pointer_to, is_void, has_this_type, has_kind, has_scalar_type, has_pointer_type, is_null_constant, converted_type, binary_type, are_comparable, move_type, difference_type, logical_type, choice_type, is_taken_by, is_operation, may_answer, is_allocated_type, is_register, is_addressed_at, called, type_of_member, type_of_element, parameter_types}
use Rattle.step_meaning.specs.Sizes.{nodes, depth}
use Rattle.step_meaning.specs.Sources.{has_short_calls, place_has_short_calls, row_has_short_calls, argument_count}
use Rattle.step_meaning.specs.TermSizes.{type_depth}
use Rattle.step_meaning.specs.Printable.{allocates_small_type}
use Rattle.step_meaning.proofs.Ranges.{false_is_not_true, and_true, left_of_and, right_of_and}
use Rattle.std.proofs.lemmas.Bool.{le-leb}
use Rattle.normal_laws.specs.NormalForm.{Operand, Number, Nil, Held, Absent, Target, Named, Pointed, int, register, expression_of, operand_type, or_void, element_of, pointed_type, place_of, load_of, convert, unary, binary, compare, move, difference, negated, as_truth_value, truth_literal, put_char, allocated, released, member, index, one, set_to, choice, moved_operand, common_operand, typed_value, Typed, Is, Code, Codes, PlaceCode, then_set, then_set_both, then_set_from, expression_code, arguments_code, place_code, result_type, invoke_code}
use Rattle.normal_laws.proofs.Emitted.{each_join}
use Rattle.normal_laws.proofs.SourceExpressions.{null_constant_is, null_points}
use Rattle.normal_laws.proofs.TypesOfParts.{none_is_not, some_is, where_true_is, this_type, scalar_type, pointer_type, some_type, addressed, pointed, member_of, element_in, converted_from, operand_kind, operand_kinds, comparable_types, moved_operands, moved_pointer, pointers_apart, choice_is, chosen_types, choice_condition, Chosen, taken_type, operated, call_is}
use Rattle.normal_shapes.proofs.GoodTypes.{IsObject, IsValue, integer_value, object_value, pointer_value, element_object, element_is, addressed_there, addressed_object, member_object}
use Rattle.normal_shapes.proofs.TypedOperands.{T, P, IsDeclared, OperandFits, TargetFits, operand_silent, operand_small, target_small, target_silent, operand_typed, operand_type_is, operand_value, operand_taken, scalar_not_void, target_typed, target_plain, target_object, target_no_register, pointed_target}
use Rattle.normal_shapes.proofs.GoodStatements.{taking, AreDeclared, declared_split, value_join, IsGood, set_good, silent_good, call_good, taken_exactly, Allows, IsGoodCode, IsGoodPlace, then_one, both_one, then_set_good, then_set_both_good, then_set_from_good}
use Rattle.normal_shapes.proofs.GoodForms.{comparable_more, truth_typed, choose_good}
use Rattle.normal_shapes.proofs.GoodAssignments.{typed_good, stored_good, load_good, update_good}
use Rattle.normal_shapes.proofs.GoodCalls.{KnowsSource, AreGoodCodes, invoke_good}

module _ (source : Core) (g : Setting) (q : Core) (ds : List Declared) (knows : KnowsSource source g q ds) (S : Stmt → Type 0) (rules : Allows q g ds S) where
  abbrev T0 : Expr → Option CType
  T0 = type_of source g

  abbrev P0 : Place_ → Option CType
  P0 = type_of_place source g

  abbrev Tq : Expr → Option CType
  Tq = T q g ds

  abbrev ec : Expr → ℕ → Code
  ec = expression_code source g

  abbrev pc : Place_ → ℕ → PlaceCode
  pc = place_code source g

  abbrev F : CType → Operand → Type 0
  F = OperandFits q g ds

  abbrev Good : CType → Code → Type 0
  Good = IsGoodCode q g ds S rules

  abbrev GoodPlace : CType → PlaceCode → Type 0
  GoodPlace = IsGoodPlace q g ds S rules

  abbrev Declares : List Typed → Type 0
  Declares = AreDeclared q g ds

  null_is_nil : (e : Expr) (m : ℕ) → is_null_constant e ≡ true → (ec e m).value ≡ Nil
  null_is_nil e m h = subst (λ e. (ec e m).value ≡ Nil) (sym (null_constant_is e h)) refl

  null_kept : (e : Expr) (m : ℕ) → is_null_constant e ≡ true → is_null_constant (expression_of (ec e m).value) ≡ true
  null_kept e m h = subst (λ a. is_null_constant (expression_of a) ≡ true) (sym (null_is_nil e m h)) refl

  -- an operand has the type of its expression
  same_type_as : (e : Expr) (t : CType) (a : Operand) → T0 e ≡ Some t → is_void t ≡ false → F t a → Tq (expression_of a) ≡ T0 e
  same_type_as e t a h v f = operand_typed q g ds t a f v ∙ sym h

  -- ---- one operand, and two

  one_set : (t u : CType) (f : Expr → Expr) (A : Code) → Good t A → Declares (A.types ++ (Is A.next u ∷ [])) → IsValue g.layouts u → Tq (f (expression_of A.value)) ≡ Some u → IsGood q g ds (taking (register A.next) u (f (expression_of A.value))) → Good u (then_set u f A)
  one_set t u f A h at v e k = then_set_good q g ds S rules u f A h.each h.types (declared_split q g ds A.types (Is A.next u ∷ []) at).1.0 v k

  two_declared : (A B : Code) (u : CType) → Declares (A.types ++ (B.types ++ (Is B.next u ∷ []))) → IsDeclared q g ds B.next u
  two_declared A B u at = (declared_split q g ds B.types (Is B.next u ∷ []) (declared_split q g ds A.types (B.types ++ (Is B.next u ∷ [])) at).1).1.0

  first_declared : (A B : Code) (u : CType) → Declares (A.types ++ (B.types ++ (Is B.next u ∷ []))) → Declares A.types
  first_declared A B u at = (declared_split q g ds A.types (B.types ++ (Is B.next u ∷ [])) at).0

  second_declared : (A B : Code) (u : CType) → Declares (A.types ++ (B.types ++ (Is B.next u ∷ []))) → Declares B.types
  second_declared A B u at = (declared_split q g ds B.types (Is B.next u ∷ []) (declared_split q g ds A.types (B.types ++ (Is B.next u ∷ [])) at).1).0

  one_declared : (A : Code) (u : CType) → Declares (A.types ++ (Is A.next u ∷ [])) → Declares A.types × IsDeclared q g ds A.next u
  one_declared A u at = let x = declared_split q g ds A.types (Is A.next u ∷ []) at in (x.0, x.1.0)

  place_declared : (A : PlaceCode) (u : CType) → Declares (A.types ++ (Is A.next u ∷ [])) → Declares A.types × IsDeclared q g ds A.next u
  place_declared A u at = let x = declared_split q g ds A.types (Is A.next u ∷ []) at in (x.0, x.1.0)

  -- the truth of an operand in a register
  truth_good : (i : ℕ) (t : CType) (a : Operand) → IsDeclared q g ds i int → F t a → is_scalar t ≡ true → IsGood q g ds (taking (register i) int (as_truth_value (expression_of a)))
  truth_good i t a d f s =
      let z = operand_small a in
      let n = z.nodes in
      let m = z.depth in
      silent_good q g ds i int (as_truth_value (expression_of a)) d (integer_value g.layouts kind.Int)
      (truth_typed (Tq (expression_of a)) (ap has_scalar_type (operand_typed q g ds t a f (scalar_not_void q g ds t s)) ∙ s)) (operand_silent a) (omega arith) (omega arith) refl

  literal_good : (i n : ℕ) → IsDeclared q g ds i int → (is_in_range kind.Int (pos n) && Rattle.std.specs.Prelude.int_le (pos 0) (pos n)) ≡ true → IsGood q g ds (taking (register i) int (truth_literal n))
  literal_good i n d r = silent_good q g ds i int (truth_literal n) d (integer_value g.layouts kind.Int) (ap (λ b. where_true b int) r) refl (omega arith) (omega arith) refl

  -- an operator on two operands, in a kind
  operator_good : (t u w : CType) (f : Expr → Expr → Expr) (A B : Code) → Good t A → Good u B → IsValue g.layouts w → Declares (A.types ++ (B.types ++ (Is B.next w ∷ [])))
      → Tq (f (expression_of A.value) (expression_of B.value)) ≡ Some w
      → Rattle.step_meaning.specs.Normal.is_silent (f (expression_of A.value) (expression_of B.value)) ≡ true → nodes (f (expression_of A.value) (expression_of B.value)) ≤ 5 → depth (f (expression_of A.value) (expression_of B.value)) ≤ 3
      → allocates_small_type (taking (register B.next) w (f (expression_of A.value) (expression_of B.value))) ≡ true
      → Good w (then_set_both w f A B)
  operator_good t u w f A B h k v at e x n m a =
      then_set_both_good q g ds S rules w f A B h.each h.types k.each k.types (two_declared A B w at) v
      (silent_good q g ds B.next w (f (expression_of A.value) (expression_of B.value)) (two_declared A B w at) v e x (omega arith) (omega arith) a)

  -- sizes of an operator on two operands
  two_small : (a b : Operand) → (1 + (nodes (expression_of a) + nodes (expression_of b)) ≤ 5) × (1 + max (depth (expression_of a)) (depth (expression_of b)) ≤ 3)
  two_small a b =
      let x = operand_small a in
      let y = operand_small b in
      let n = x.nodes in
      let m = y.nodes in
      let d = x.depth in
      let c = y.depth in
      (omega arith, omega arith)

  -- a pointer that is moved is no null pointer constant
  not_null : (size : ℕ) (x t : CType) (o : Option CType) (a : Operand) → F x a → Rattle.step_meaning.specs.ExpressionTypes.moved_type g.layouts size (Some x) o ≡ Some t → a ≡ Nil → ⊥
  not_null size x t o a f m e = none_is_not (ap (λ x. Rattle.step_meaning.specs.ExpressionTypes.moved_type g.layouts size (Some x) o) (sym (subst (F x) e f)) ∙ m)

  pointer_is : (size : ℕ) (x t : CType) (o : Option CType) (a : Operand) {e : Option CType} → e ≡ Some x → e ≡ Some t → F x a → Rattle.step_meaning.specs.ExpressionTypes.moved_type g.layouts size (Some x) o ≡ Some t → (operand_type a ≡ t) × IsValue g.layouts t
  pointer_is size x t o a h k f m =
      let w = moved_pointer g.layouts size (Some x) o t m in
      let same : x ≡ t = some_is w.1 in
      (operand_type_is q g ds x a f ∙ same, subst (IsValue g.layouts) same (operand_value q g ds x a f (not_null size x t o a f m) (scalar_not_void q g ds x (subst (λ t. is_scalar t ≡ true) (sym same) w.3))))

  -- the type of a moved pointer
  moved_is : (side : Side) (size : ℕ) (e f : Expr) (x y t : CType) (a b : Operand) → T0 e ≡ Some x → T0 f ≡ Some y → F x a → F y b → move_type g.layouts size side (T0 e) (T0 f) ≡ Some t → (operand_type (moved_operand side a b) ≡ t) × IsValue g.layouts t
  moved_is PointerFirst size e f x y t a b h k i j m = pointer_is size x t (T0 f) a h (moved_pointer g.layouts size (T0 e) (T0 f) t m).1 i (ap (λ o. Rattle.step_meaning.specs.ExpressionTypes.moved_type g.layouts size o (T0 f)) (sym h) ∙ m)
  moved_is PointerLast size e f x y t a b h k i j m = pointer_is size y t (T0 e) b k (moved_pointer g.layouts size (T0 f) (T0 e) t m).1 j (ap (λ o. Rattle.step_meaning.specs.ExpressionTypes.moved_type g.layouts size o (T0 e)) (sym k) ∙ m)
  moved_is Minus size e f x y t a b h k i j m = pointer_is size x t (T0 f) a h (moved_pointer g.layouts size (T0 e) (T0 f) t m).1 i (ap (λ o. Rattle.step_meaning.specs.ExpressionTypes.moved_type g.layouts size o (T0 f)) (sym h) ∙ m)

  -- what a choice takes of the registers
  chosen_declared : (C A B : Code) (o : Option Operand) → Declares (Rattle.normal_laws.specs.NormalForm.choose_into o C A B).types → Declares C.types × Declares A.types × Declares B.types
  chosen_declared C A B (Some o) at = let x = declared_split q g ds C.types (A.types ++ B.types) at in let y = declared_split q g ds A.types B.types x.1 in (x.0, y.0, y.1)
  chosen_declared C A B None at =
      let u = Rattle.normal_laws.specs.NormalForm.chosen_type A.value B.value in
      let x = declared_split q g ds C.types (A.types ++ (B.types ++ (Is B.next u ∷ []))) at in
      let y = declared_split q g ds A.types (B.types ++ (Is B.next u ∷ [])) x.1 in
      let z = declared_split q g ds B.types (Is B.next u ∷ []) y.1 in
      (x.0, y.0, z.0)

  typed_declared : (t : CType) (v : Operand) (A : Code) → Declares (typed_value t v A).types → Declares A.types
  typed_declared t Nil A at = (declared_split q g ds A.types (Is A.next t ∷ []) at).0
  typed_declared t (Number k z) A at = at
  typed_declared t (Held i u) A at = at
  typed_declared t Absent A at = at

  invoke_declared : (n : ℕ) (t : CType) (E : Codes) → Declares (invoke_code n t E).types → Declares E.types
  invoke_declared n type.Void E at = at
  invoke_declared n (type.Int k) E at = (declared_split q g ds E.types (Is E.next (type.Int k) ∷ []) at).0
  invoke_declared n (type.Pointer' b u) E at = (declared_split q g ds E.types (Is E.next (type.Pointer' b u) ∷ []) at).0
  invoke_declared n (type.Array' b u m) E at = (declared_split q g ds E.types (Is E.next (type.Array' b u m) ∷ []) at).0
  invoke_declared n (type.Struct m) E at = (declared_split q g ds E.types (Is E.next (type.Struct m) ∷ []) at).0

  -- the address of a part goes into a register
  pub part_good : (Q : PlaceCode) (w u t : CType) (p : Place_) → GoodPlace w Q → u ≡ t → IsObject g.layouts t → IsDeclared q g ds Q.next (pointer_to u) → P q g ds p ≡ Some t → Rattle.step_meaning.specs.Normal.is_silent_place p ≡ true → Rattle.step_meaning.specs.Sizes.place_nodes p ≤ 1000 → Rattle.step_meaning.specs.Sizes.place_depth p ≤ 50
      → is_register p ≡ false
      → GoodPlace t (record { code = Q.code ++ one (set_to Q.next (pointer_to u) (Address p u)); target = Pointed (Held Q.next (pointer_to u)); ctype = u; next = suc Q.next; types = Q.types ++ (Is Q.next (pointer_to u) ∷ []) })
  part_good Q w u t p h e obj d typed silent n l r =
      let v = subst (λ u. IsValue g.layouts (pointer_to u)) (sym e) (pointer_value g.layouts t obj) in
      record {
        each = then_one q g ds S rules Q.code _ h.each
            (silent_good q g ds Q.next (pointer_to u) (Address p u) d v (ap (λ b. where_true b (pointer_to u)) (and_true (ap not r) (addressed_there g.layouts u _ (typed ∙ ap Some (sym e))))) silent (omega arith) (omega arith) refl);
        target = (sym e, d, v);
        named = e;
        types = value_join q g ds Q.types (Is Q.next (pointer_to u) ∷ []) h.types (v, tt);
      }

  mutual
    pub good_expression : (e : Expr) (t : CType) → T0 e ≡ Some t → has_short_calls e ≡ true → (m : ℕ) → Declares (ec e m).types → Good t (ec e m)
    good_expression (Literal k z) t h s m at = record { each = tt; value = (sym (where_true_is (is_promoted k && (is_in_range k z && Rattle.std.specs.Prelude.int_le (pos 0) z)) (type.Int k) t h).1, h); types = tt }
    good_expression Null t h s m at = record { each = tt; value = sym (some_is h); types = tt }
    good_expression (Load p u) t h s m at =
        let i = where_true_is (is_scalar u && has_this_type u (P0 p)) u t h in
        let d = place_declared (pc p m) u at in
        let x = good_place p u (this_type u (P0 p) (right_of_and _ _ i.0)) s m d.0 in
        let c = left_of_and _ _ i.0 in
        subst (λ w. Good w (ec (Load p u) m)) i.1
        (then_set_from_good q g ds S rules u (λ p. Load p u) (pc p m) x.each x.types d.1 (object_value g.layouts u c (target_object q g ds u (pc p m).target x.target)) (load_good q g ds S rules (pc p m).next u (pc p m).target d.1 c x.target))
    good_expression (Address p u) t h s m at =
        let i = where_true_is (not (is_register p) && is_addressed_at u (P0 p)) (pointer_to u) t h in
        let a = addressed u (P0 p) (right_of_and _ _ i.0) in
        let d = place_declared (pc p m) (pointer_to u) at in
        let x = good_place p a.0 a.1 s m d.0 in
        let obj = target_object q g ds a.0 (pc p m).target x.target in
        let there : is_addressed_at u (Some a.0) ≡ true = ap (is_addressed_at u) (sym a.1) ∙ right_of_and _ _ i.0 in
        let v = pointer_value g.layouts u (addressed_object g.layouts u a.0 obj there) in
        let w = target_small (pc p m).target in
        let n = w.nodes in
        let k = w.depth in
        subst (λ w. Good w (ec (Address p u) m)) i.1
        (then_set_from_good q g ds S rules (pointer_to u) (λ p. Address p u) (pc p m) x.each x.types d.1 v
        (silent_good q g ds (pc p m).next (pointer_to u) (Address (place_of (pc p m).target) u) d.1 v
        (ap (λ b. where_true b (pointer_to u)) (and_true (ap not (target_no_register q g ds (pc p m).target a.0 x.target)) (ap (is_addressed_at u) (target_typed q g ds a.0 (pc p m).target x.target) ∙ there)))
        (target_silent (pc p m).target) (omega arith) (omega arith) refl))
    good_expression (Convert' k b (more_of-Expr e end_of-Expr)) t h s m at =
        let c = converted_from k (T0 e) t h in
        let d = one_declared (ec e m) (type.Int k) at in
        let x = good_expression e (type.Int c.0) c.1 s m d.0 in
        let z = operand_small (ec e m).value in
        let n = z.nodes in
        let l = z.depth in
        subst (λ w. Good w (ec (Convert' k b (more_of-Expr e end_of-Expr)) m)) c.2
        (then_set_good q g ds S rules (type.Int k) (convert k) (ec e m) x.each x.types d.1 (integer_value g.layouts k)
        (silent_good q g ds (ec e m).next (type.Int k) (convert k (expression_of (ec e m).value)) d.1 (integer_value g.layouts k)
        (ap (converted_type k) (same_type_as e (type.Int c.0) (ec e m).value c.1 refl x.value) ∙ h ∙ ap Some (sym c.2)) (operand_silent (ec e m).value) (omega arith) (omega arith) refl))
    good_expression (Unary' o k b (more_of-Expr e end_of-Expr)) t h s m at =
        let c = operand_kind k (T0 e) t h in
        let d = one_declared (ec e m) (type.Int k) at in
        let x = good_expression e (type.Int k) c.0 s m d.0 in
        let z = operand_small (ec e m).value in
        let n = z.nodes in
        let l = z.depth in
        subst (λ w. Good w (ec (Unary' o k b (more_of-Expr e end_of-Expr)) m)) c.1
        (then_set_good q g ds S rules (type.Int k) (unary o k) (ec e m) x.each x.types d.1 (integer_value g.layouts k)
        (silent_good q g ds (ec e m).next (type.Int k) (unary o k (expression_of (ec e m).value)) d.1 (integer_value g.layouts k)
        (ap (λ a. where_true (is_promoted k && has_kind k a) (type.Int k)) (same_type_as e (type.Int k) (ec e m).value c.0 refl x.value) ∙ h ∙ ap Some (sym c.1)) (operand_silent (ec e m).value) (omega arith) (omega arith) refl))
    good_expression (Binary' o k b (more_of-Expr e end_of-Expr) c (more_of-Expr f end_of-Expr)) t h s m at =
        let i = operand_kinds o k (T0 e) (T0 f) t h in
        let A = ec e m in
        let B = ec f A.next in
        let x = good_expression e (type.Int k) i.1 (left_of_and _ _ s) m (first_declared A B (type.Int k) at) in
        let y = good_expression f (type.Int i.0) i.2 (right_of_and _ _ s) A.next (second_declared A B (type.Int k) at) in
        subst (λ w. Good w (ec (Binary' o k b (more_of-Expr e end_of-Expr) c (more_of-Expr f end_of-Expr)) m)) i.3
        (operator_good (type.Int k) (type.Int i.0) (type.Int k) (binary o k) A B x y (integer_value g.layouts k) at
        (ap (λ a. binary_type o k a (Tq (expression_of B.value))) (same_type_as e (type.Int k) A.value i.1 refl x.value) ∙ ap (binary_type o k (T0 e)) (same_type_as f (type.Int i.0) B.value i.2 refl y.value) ∙ h ∙ ap Some (sym i.3))
        (and_true (operand_silent A.value) (operand_silent B.value)) (two_small A.value B.value).0 (two_small A.value B.value).1 refl)
    good_expression (Compare' o b (more_of-Expr e end_of-Expr) c (more_of-Expr f end_of-Expr)) t h s m at =
        let i = where_true_is (are_comparable o e (T0 e) f (T0 f)) int t h in
        let z = comparable_types o e f (T0 e) (T0 f) (null_points source g e) (null_points source g f) i.0 in
        let A = ec e m in
        let B = ec f A.next in
        let x = good_expression e z.0 z.2 (left_of_and _ _ s) m (first_declared A B int at) in
        let y = good_expression f z.1 z.3 (right_of_and _ _ s) A.next (second_declared A B int at) in
        subst (λ w. Good w (ec (Compare' o b (more_of-Expr e end_of-Expr) c (more_of-Expr f end_of-Expr)) m)) i.1
        (operator_good z.0 z.1 int (compare o) A B x y (integer_value g.layouts kind.Int) at
        (ap (λ a. logical_type (are_comparable o (expression_of A.value) a (expression_of B.value) (Tq (expression_of B.value)))) (same_type_as e z.0 A.value z.2 (scalar_not_void q g ds z.0 z.4) x.value)
        ∙ ap (λ b. logical_type (are_comparable o (expression_of A.value) (T0 e) (expression_of B.value) b)) (same_type_as f z.1 B.value z.3 (scalar_not_void q g ds z.1 z.5) y.value)
        ∙ ap logical_type (comparable_more o e f (expression_of A.value) (expression_of B.value) (T0 e) (T0 f) (null_kept e m) (null_kept f A.next) i.0))
        (and_true (operand_silent A.value) (operand_silent B.value)) (two_small A.value B.value).0 (two_small A.value B.value).1 refl)
    good_expression (Move' b (more_of-Expr e end_of-Expr) c (more_of-Expr f end_of-Expr) size side) t h s m at =
        let z = moved_operands g.layouts size side (T0 e) (T0 f) t h in
        let A = ec e m in
        let B = ec f A.next in
        let u = operand_type (moved_operand side A.value B.value) in
        let x = good_expression e z.0 z.2 (left_of_and _ _ s) m (first_declared A B u at) in
        let y = good_expression f z.1 z.3 (right_of_and _ _ s) A.next (second_declared A B u at) in
        let typed : Tq (move (expression_of A.value) (expression_of B.value) size side) ≡ Some t =
        ap (λ a. move_type g.layouts size side a (Tq (expression_of B.value))) (same_type_as e z.0 A.value z.2 (scalar_not_void q g ds z.0 z.4) x.value)
        ∙ ap (move_type g.layouts size side (T0 e)) (same_type_as f z.1 B.value z.3 (scalar_not_void q g ds z.1 z.5) y.value) ∙ h in
        let w = moved_is side size e f z.0 z.1 t A.value B.value z.2 z.3 x.value y.value h in
        subst (λ w. Good w (ec (Move' b (more_of-Expr e end_of-Expr) c (more_of-Expr f end_of-Expr) size side) m)) w.0
        (operator_good z.0 z.1 u (λ a b. move a b size side) A B x y (subst (IsValue g.layouts) (sym w.0) w.1) at (typed ∙ ap Some (sym w.0))
        (and_true (operand_silent A.value) (operand_silent B.value)) (two_small A.value B.value).0 (two_small A.value B.value).1 refl)
    good_expression (Difference' b (more_of-Expr e end_of-Expr) c (more_of-Expr f end_of-Expr) unit) t h s m at =
        let d = pointers_apart g.layouts unit (T0 e) (T0 f) t h in
        let z = d.0 in
        let A = ec e m in
        let B = ec f A.next in
        let x = good_expression e z.0 z.2 (left_of_and _ _ s) m (first_declared A B (type.Int kind.Long) at) in
        let y = good_expression f z.1 z.3 (right_of_and _ _ s) A.next (second_declared A B (type.Int kind.Long) at) in
        subst (λ w. Good w (ec (Difference' b (more_of-Expr e end_of-Expr) c (more_of-Expr f end_of-Expr) unit) m)) d.1
        (operator_good z.0 z.1 (type.Int kind.Long) (λ a b. difference a b unit) A B x y (integer_value g.layouts kind.Long) at
        (ap (λ a. difference_type g.layouts unit a (Tq (expression_of B.value))) (same_type_as e z.0 A.value z.2 (scalar_not_void q g ds z.0 z.4) x.value)
        ∙ ap (difference_type g.layouts unit (T0 e)) (same_type_as f z.1 B.value z.3 (scalar_not_void q g ds z.1 z.5) y.value) ∙ h ∙ ap Some (sym d.1))
        (and_true (operand_silent A.value) (operand_silent B.value)) (two_small A.value B.value).0 (two_small A.value B.value).1 refl)
    good_expression (Not' b (more_of-Expr e end_of-Expr)) t h s m at =
        let i = where_true_is (has_scalar_type (T0 e)) int t h in
        let c = scalar_type (T0 e) i.0 in
        let d = one_declared (ec e m) int at in
        let x = good_expression e c.0 c.1 s m d.0 in
        let z = operand_small (ec e m).value in
        let n = z.nodes in
        let l = z.depth in
        subst (λ w. Good w (ec (Not' b (more_of-Expr e end_of-Expr)) m)) i.1
        (then_set_good q g ds S rules int negated (ec e m) x.each x.types d.1 (integer_value g.layouts kind.Int)
        (silent_good q g ds (ec e m).next int (negated (expression_of (ec e m).value)) d.1 (integer_value g.layouts kind.Int)
        (ap (λ a. logical_type (has_scalar_type a)) (same_type_as e c.0 (ec e m).value c.1 (scalar_not_void q g ds c.0 c.2) x.value) ∙ ap logical_type i.0) (operand_silent (ec e m).value) (omega arith) (omega arith) refl))
    good_expression (Both' b (more_of-Expr e end_of-Expr) c (more_of-Expr f end_of-Expr)) t h s m at =
        let i = where_true_is (has_scalar_type (T0 e) && has_scalar_type (T0 f)) int t h in
        let y = scalar_type (T0 e) (left_of_and _ _ i.0) in
        let z = scalar_type (T0 f) (right_of_and _ _ i.0) in
        let A = ec e m in
        let B = ec f A.next in
        let d = two_declared A B int at in
        let x = good_expression e y.0 y.1 (left_of_and _ _ s) m (first_declared A B int at) in
        let w = good_expression f z.0 z.1 (right_of_and _ _ s) A.next (second_declared A B int at) in
        subst (λ w. Good w (ec (Both' b (more_of-Expr e end_of-Expr) c (more_of-Expr f end_of-Expr)) m)) i.1
        (record {
          each = each_join S A.code _ x.each (
            rules.chooses A.value y.0 x.value y.2 _ _
                (then_one q g ds S rules B.code _ w.each (truth_good B.next z.0 B.value d w.value z.2)) (rules.evaluates _ (literal_good B.next 0 d refl), tt),
            tt,
          );
          value = (refl, d, integer_value g.layouts kind.Int);
          types = value_join q g ds A.types (B.types ++ (Is B.next int ∷ [])) x.types (value_join q g ds B.types (Is B.next int ∷ []) w.types (integer_value g.layouts kind.Int, tt));
        })
    good_expression (Either' b (more_of-Expr e end_of-Expr) c (more_of-Expr f end_of-Expr)) t h s m at =
        let i = where_true_is (has_scalar_type (T0 e) && has_scalar_type (T0 f)) int t h in
        let y = scalar_type (T0 e) (left_of_and _ _ i.0) in
        let z = scalar_type (T0 f) (right_of_and _ _ i.0) in
        let A = ec e m in
        let B = ec f A.next in
        let d = two_declared A B int at in
        let x = good_expression e y.0 y.1 (left_of_and _ _ s) m (first_declared A B int at) in
        let w = good_expression f z.0 z.1 (right_of_and _ _ s) A.next (second_declared A B int at) in
        subst (λ w. Good w (ec (Either' b (more_of-Expr e end_of-Expr) c (more_of-Expr f end_of-Expr)) m)) i.1
        (record {
          each = each_join S A.code _ x.each (
            rules.chooses A.value y.0 x.value y.2 _ _
                (rules.evaluates _ (literal_good B.next 1 d refl), tt) (then_one q g ds S rules B.code _ w.each (truth_good B.next z.0 B.value d w.value z.2)),
            tt,
          );
          value = (refl, d, integer_value g.layouts kind.Int);
          types = value_join q g ds A.types (B.types ++ (Is B.next int ∷ [])) x.types (value_join q g ds B.types (Is B.next int ∷ []) w.types (integer_value g.layouts kind.Int, tt));
        })
    good_expression (Choose' b (more_of-Expr e end_of-Expr) c (more_of-Expr f end_of-Expr) d (more_of-Expr j end_of-Expr)) t h s m at =
        let i = choice_condition (has_scalar_type (T0 e)) (choice_type f (T0 f) j (T0 j)) t h in
        let y = scalar_type (T0 e) i.0 in
        let z = choice_is f (T0 f) j (T0 j) t i.1 in
        let w = chosen_types f (T0 f) j (T0 j) t (null_points source g f) (null_points source g j) z in
        let C = ec e m in
        let A = ec f C.next in
        let B = ec j A.next in
        let o = common_operand A.value B.value in
        let k = chosen_declared C A B o at in
        choose_good q g ds S rules f j y.0 w.0 w.1 t C A B
        (good_expression e y.0 y.1 (left_of_and _ _ s) m k.0) y.2
        (good_expression f w.0 w.2 (left_of_and _ _ (right_of_and _ _ s)) C.next k.1)
        (good_expression j w.1 w.3 (right_of_and _ _ (right_of_and _ _ s)) A.next k.2)
        (null_is_nil f C.next) (null_is_nil j A.next)
        (subst (λ a. Chosen f a j (Some w.1) t) w.2 (subst (λ b. Chosen f (T0 f) j b t) w.3 z)) o refl at
    good_expression (Assign' p u b (more_of-Expr e end_of-Expr)) t h s m at =
        let i = where_true_is (has_this_type u (P0 p) && is_taken_by u e (T0 e)) u t h in
        let w = taken_type u e (T0 e) (null_points source g e) (right_of_and _ _ i.0) in
        let Q = pc p m in
        let A = ec e Q.next in
        let N = typed_value u A.value A in
        let d = declared_split q g ds Q.types N.types at in
        let x = good_place p u (this_type u (P0 p) (left_of_and _ _ i.0)) (left_of_and _ _ s) m d.0 in
        let y = good_expression e w.0 w.1 (right_of_and _ _ s) Q.next (typed_declared u A.value A d.1) in
        let k = subst (λ a. is_taken_by u e a ≡ true) w.1 (right_of_and _ _ i.0) in
        let z = typed_good q g ds S rules u e w.0 A A.value refl (target_object q g ds u Q.target x.target) y k (null_is_nil e Q.next) d.1 in
        subst (λ w. Good w (ec (Assign' p u b (more_of-Expr e end_of-Expr)) m)) i.1 (stored_good q g ds S rules u Q N x (left_of_and _ _ k) z)
    good_expression (Update' p u o b (more_of-Expr e end_of-Expr) w) t h s m at =
        let i = where_true_is (has_this_type u (P0 p) && (is_operation g.layouts u o (T0 e) && may_answer u o e w)) u t h in
        let j = left_of_and _ _ (right_of_and _ _ i.0) in
        let z = operated g.layouts u o (T0 e) j in
        let Q = pc p m in
        let A = ec e (suc Q.next) in
        let d = declared_split q g ds Q.types (Is Q.next u ∷ (A.types ++ (Is A.next u ∷ []))) at in
        let x = good_place p u (this_type u (P0 p) (left_of_and _ _ i.0)) (left_of_and _ _ s) m d.0 in
        let y = good_expression e (type.Int z.0) z.1 (right_of_and _ _ s) (suc Q.next) (declared_split q g ds A.types (Is A.next u ∷ []) d.1.1).0 in
        subst (λ w'. Good w' (ec (Update' p u o b (more_of-Expr e end_of-Expr) w) m)) i.1
        (update_good q g ds S rules u (type.Int z.0) o w Q A x y refl (subst (λ a. is_operation g.layouts u o a ≡ true) z.1 j) at)
    good_expression (Invoke' n b es) t h s m at =
        let c = call_is (called source n) (are_arguments source g es) t h in
        let k = knows.callee n c.0 c.1 in
        let E = arguments_code source g es m in
        let few = leb-true (argument_count es) 598 (left_of_and _ _ s) in
        let made = subst (λ u. Declares (invoke_code n u E).types) k.code_result at in
        let x = good_arguments es (parameter_types c.0) c.2 (right_of_and _ _ s) m (invoke_declared n c.0.result E made) in
        subst (λ u. Good t (invoke_code n u E)) (sym k.code_result)
        (subst (λ t. Good t (invoke_code n c.0.result E)) c.3
        (invoke_good q g ds S rules n (argument_count es) few k.other k.found E (subst (λ ts. AreGoodCodes q g ds S rules (argument_count es) ts E) (sym k.parameters) x) c.0.result k.result k.value made))
    good_expression GetChar t h s m at =
        subst (λ w. Good w (ec GetChar m)) (some_is h)
        (record {
          each = (rules.evaluates _ (set_good q g ds m int GetChar at.0 refl refl (omega arith) (omega arith) refl), tt);
          value = (refl, at.0, integer_value g.layouts kind.Int);
          types = (integer_value g.layouts kind.Int, tt);
        })
    good_expression (PutChar' b (more_of-Expr e end_of-Expr)) t h s m at =
        let i = where_true_is (has_kind kind.Int (T0 e)) int t h in
        let c = this_type int (T0 e) i.0 in
        let d = one_declared (ec e m) int at in
        let x = good_expression e int c s m d.0 in
        let z = operand_small (ec e m).value in
        let n = z.nodes in
        let l = z.depth in
        subst (λ w. Good w (ec (PutChar' b (more_of-Expr e end_of-Expr)) m)) i.1
        (then_set_good q g ds S rules int put_char (ec e m) x.each x.types d.1 (integer_value g.layouts kind.Int)
        (set_good q g ds (ec e m).next int (put_char (expression_of (ec e m).value)) d.1
        (taken_exactly q g ds int (put_char (expression_of (ec e m).value)) refl (ap (λ a. logical_type (has_kind kind.Int a)) (same_type_as e int (ec e m).value c refl x.value) ∙ ap logical_type i.0))
        (Rattle.normal_shapes.proofs.TypedOperands.operand_is (ec e m).value) (omega arith) (omega arith) refl))
    good_expression (Malloc' b (more_of-Expr e end_of-Expr) u) t h s m at =
        let i = where_true_is (has_kind kind.ULong (T0 e) && is_allocated_type g.layouts u) (pointer_to u) t h in
        let c = this_type (type.Int kind.ULong) (T0 e) (left_of_and _ _ i.0) in
        let a = right_of_and (has_kind kind.ULong (T0 e)) _ i.0 in
        let d = one_declared (ec e m) (pointer_to u) at in
        let x = good_expression e (type.Int kind.ULong) c (right_of_and _ _ s) m d.0 in
        let low = leb-true (type_depth u) 99 (left_of_and _ _ s) in
        let v = pointer_value g.layouts u (record { keeps = right_of_and (is_spelled u) (keeps_rules g.layouts u) a; depth = low }) in
        let z = operand_small (ec e m).value in
        let n = z.nodes in
        let l = z.depth in
        subst (λ w. Good w (ec (Malloc' b (more_of-Expr e end_of-Expr) u) m)) i.1
        (then_set_good q g ds S rules (pointer_to u) (allocated u) (ec e m) x.each x.types d.1 v
        (set_good q g ds (ec e m).next (pointer_to u) (allocated u (expression_of (ec e m).value)) d.1
        (taken_exactly q g ds (pointer_to u) (allocated u (expression_of (ec e m).value)) refl
        (ap (λ a. where_true (has_kind kind.ULong a && is_allocated_type g.layouts u) (pointer_to u)) (same_type_as e (type.Int kind.ULong) (ec e m).value c refl x.value) ∙ ap (λ b. where_true b (pointer_to u)) i.0))
        (Rattle.normal_shapes.proofs.TypedOperands.operand_is (ec e m).value) (omega arith) (omega arith) (le-leb (type_depth u) 100 (omega arith))))
    good_expression (Free' b (more_of-Expr e end_of-Expr)) t h s m at =
        let i = where_true_is (has_pointer_type (T0 e)) type.Void t h in
        let c = pointer_type (T0 e) i.0 in
        let x = good_expression e c.0 c.1 s m at in
        let z = operand_small (ec e m).value in
        let n = z.nodes in
        let l = z.depth in
        subst (λ w. Good w (ec (Free' b (more_of-Expr e end_of-Expr)) m)) i.1
        (record {
          each = then_one q g ds S rules (ec e m).code _ x.each (call_good q g ds (released (expression_of (ec e m).value)) type.Void
              (ap (λ a. where_true (has_pointer_type a) type.Void) (same_type_as e c.0 (ec e m).value c.1 (scalar_not_void q g ds c.0 c.2) x.value) ∙ ap (λ b. where_true b type.Void) i.0)
              (Rattle.normal_shapes.proofs.TypedOperands.operand_is (ec e m).value) (omega arith) (omega arith) refl);
          value = refl;
          types = x.types;
        })
    good_expression (Discard' b (more_of-Expr e end_of-Expr)) t h s m at =
        let i = where_true_is (is_some (T0 e)) type.Void t h in
        let c = some_type (T0 e) i.0 in
        let x = good_expression e c.0 c.1 s m at in
        record { each = x.each; value = sym i.1; types = x.types }

    pub good_arguments : {n : _} (es : Row_of-Expr n) (ts : List CType) → are_arguments source g es ts ≡ true → row_has_short_calls es ≡ true → (m : ℕ) → Declares (arguments_code source g es m).types → AreGoodCodes q g ds S rules (argument_count es) ts (arguments_code source g es m)
    good_arguments end_of-Expr [] h s m at = record { each = tt; taken = tt; types = tt; counted = refl }
    good_arguments end_of-Expr (t ∷ ts) h s m at = false_is_not_true h
    good_arguments (more_of-Expr e es) [] h s m at = false_is_not_true h
    good_arguments (more_of-Expr e es) (t ∷ ts) h s m at =
        let A = ec e m in
        let E = arguments_code source g es A.next in
        let w = taken_type t e (T0 e) (null_points source g e) (left_of_and _ _ h) in
        let d = declared_split q g ds A.types E.types at in
        let x = good_expression e w.0 w.1 (left_of_and _ _ s) m d.0 in
        let y = good_arguments es ts (right_of_and _ _ h) (right_of_and _ _ s) A.next d.1 in
        record {
          each = each_join S A.code E.code x.each y.each;
          taken = (operand_taken q g ds t e (T0 e) A.value (left_of_and _ _ h) (null_is_nil e m) (λ u i. subst (λ u. F u A.value) (some_is (sym w.1 ∙ i)) x.value), y.taken);
          types = value_join q g ds A.types E.types x.types y.types;
          counted = ap suc y.counted;
        }

    pub good_place : (p : Place_) (t : CType) → P0 p ≡ Some t → place_has_short_calls p ≡ true → (m : ℕ) → Declares (pc p m).types → GoodPlace t (pc p m)
    good_place (Own v) t h s m at = record { each = tt; target = knows.variable v t h; named = ap or_void h; types = tt }
    good_place (Deref' b (more_of-Expr e end_of-Expr)) t h s m at =
        let c = pointed (T0 e) t h in
        let x = good_expression e (type.Pointer' c.0 (more_of-CType t end_of-CType)) c.1 s m at in
        let y = pointed_target q g ds c.0 t (ec e m).value c.2 x.value in
        record { each = x.each; target = y.0; named = y.1; types = x.types }
    good_place (Member' b (more_of-Place_ p end_of-Place_) o) t h s m at =
        let c = member_of g.layouts o (P0 p) t h in
        let Q = pc p m in
        let u = or_void (member_type g.layouts Q.ctype o) in
        let d = place_declared Q (pointer_to u) at in
        let x = good_place p c.0 c.1 s m d.0 in
        let e : u ≡ t = ap (λ w. or_void (member_type g.layouts w o)) x.named ∙ ap or_void c.2 in
        part_good Q c.0 u t (member (place_of Q.target) o) x e (member_object g.layouts knows.structs knows.members c.0 o t c.2) d.1
        (ap (type_of_member g.layouts o) (target_typed q g ds c.0 Q.target x.target) ∙ c.2) (target_silent Q.target)
        (let w = target_small Q.target in let n = w.nodes in omega arith) (let w = target_small Q.target in let n = w.depth in omega arith) refl
    good_place (Index' b (more_of-Place_ p end_of-Place_) c (more_of-Expr e end_of-Expr) size) t h s m at =
        let i = element_in g.layouts size (P0 p) (T0 e) t h in
        let Q = pc p m in
        let A = ec e Q.next in
        let u = element_of Q.ctype in
        let d = declared_split q g ds Q.types (A.types ++ (Is A.next (pointer_to u) ∷ [])) at in
        let k = one_declared A (pointer_to u) d.1 in
        let x = good_place p i.0 i.2 (left_of_and _ _ s) m d.0 in
        let y = good_expression e (type.Int i.1) i.3 (right_of_and _ _ s) Q.next k.0 in
        let w : u ≡ t = ap element_of x.named ∙ element_is g.layouts i.0 size t i.4 in
        let z = target_small Q.target in
        let n = z.nodes in
        let l = z.depth in
        let z2 = operand_small A.value in
        let n2 = z2.nodes in
        let l2 = z2.depth in
        let obj = element_object g.layouts i.0 size t (target_object q g ds i.0 Q.target x.target) i.4 in
        let v = subst (λ u. IsValue g.layouts (pointer_to u)) (sym w) (pointer_value g.layouts t obj) in
        let E = Address (index (place_of Q.target) (expression_of A.value) size) u in
        let typed : P q g ds (index (place_of Q.target) (expression_of A.value) size) ≡ Some t =
        ap (λ a. type_of_element g.layouts size a (Tq (expression_of A.value))) (target_typed q g ds i.0 Q.target x.target)
        ∙ ap (type_of_element g.layouts size (Some i.0)) (operand_typed q g ds (type.Int i.1) A.value y.value refl) ∙ i.4 in
        record {
          each = both_one q g ds S rules Q.code A.code _ x.each y.each
              (silent_good q g ds A.next (pointer_to u) E k.1 v (ap (λ b. where_true b (pointer_to u)) (addressed_there g.layouts u _ (typed ∙ ap Some (sym w)))) (and_true (target_silent Q.target) (operand_silent A.value)) (omega arith) (omega arith) refl);
          target = (sym w, k.1, v);
          named = w;
          types = value_join q g ds Q.types (A.types ++ (Is A.next (pointer_to u) ∷ [])) x.types (value_join q g ds A.types (Is A.next (pointer_to u) ∷ []) y.types (v, tt));
        }
