-- What operators make of values that fit fits.
use Rattle.std.proofs.Common.{◌≡◌, Bool, true, false, ◌&&◌, List, length, Option, Some, None, refl, sym, ap, subst, ◌∙◌}
use Rattle.std.specs.Prelude.{if◌then◌else◌}
use Rattle.c_lexer.specs.declared.token.Place.{Place}
use Rattle.step_meaning.specs.declared.value.IntKind.{IntKind}
use Rattle.step_meaning.specs.declared.value.CType.{CType, end_of-CType, more_of-CType}
use Rattle.step_meaning.specs.declared.value.CType.TheVariants as type
use Rattle.step_meaning.specs.declared.expr.IntOp.{IntOp}
use Rattle.step_meaning.specs.declared.expr.IntOp.TheVariants as op
use Rattle.step_meaning.specs.declared.expr.CompareOp.{CompareOp}
use Rattle.step_meaning.specs.declared.expr.Side.TheVariants.{PointerFirst, PointerLast, Minus}
use Rattle.step_meaning.specs.declared.expr.Expr.{Expr}
use Rattle.step_meaning.specs.declared.expr.Expr.TheVariants as e
use Rattle.step_meaning.specs.declared.program.Core.{Core}
use Rattle.step_meaning.specs.declared.program.Layout.{Layout}
use Rattle.step_meaning.specs.Types.{same_type, where_true}
use Rattle.step_meaning.specs.TypeRules.{cells}
use Rattle.step_meaning.specs.Conversions.{is_promoted, promoted, common}
use Rattle.step_meaning.specs.Settings.{Setting}
use Rattle.step_meaning.specs.ExpressionTypes.{type_of, pointer_to, is_void, is_shift, is_equality, is_register, is_taken_by}
use Rattle.step_meaning.proofs.Ranges.{left_of_and, right_of_and}
use Rattle.step_meaning.proofs.SameTypes.{same_type_equal}
use Rattle.step_meaning.proofs.TypedMemory.{WhereSome}
use Rattle.typing_rules.specs.declared.fault.TypeFault.TheVariants.{Mismatch}
use Rattle.typing_rules.specs.declared.judgement.Shape.{Shape}
use Rattle.typing_rules.specs.declared.judgement.Shape.TheVariants as is
use Rattle.typing_rules.specs.declared.judgement.Operator.{Operator}
use Rattle.typing_rules.specs.declared.judgement.Operator.TheVariants as operator
use Rattle.typing_rules.specs.declared.judgement.Operation.{Operation}
use Rattle.typing_rules.specs.declared.judgement.Operation.TheVariants.{Arithmetic, Shift, MovePointer, PointerDifference, LogicalAnd, LogicalOr}
use Rattle.typing_rules.specs.declared.judgement.Conversion.{Conversion}
use Rattle.typing_rules.specs.declared.judgement.Conversion.TheVariants as conversion_is
use Rattle.typing_rules.specs.declared.judgement.Selection.{Selection}
use Rattle.typing_rules.specs.declared.judgement.Selection.TheVariants.{OfOneType, NullLast, NullFirst}
use Rattle.typing_rules.specs.declared.judgement.CastConversion.{CastConversion}
use Rattle.typing_rules.specs.declared.judgement.CastConversion.TheVariants as cast_is
use Rattle.typing_rules.specs.declared.operand.Origin.{Origin}
use Rattle.typing_rules.specs.declared.operand.Origin.TheVariants.{ZeroLiteral, Allocation}
use Rattle.typing_rules.specs.declared.operand.Operand.{Operand}
use Rattle.typing_rules.specs.declared.operand.Value.{Value}
use Rattle.typing_rules.specs.declared.operand.What.{What}
use Rattle.typing_rules.specs.declared.operand.What.TheVariants.{At, Made}
use Rattle.typing_rules.specs.Checked.{kept}
use Rattle.typing_rules.specs.Judgements.{shape, is_scalar_shape, is_pointer, is_null, on_integers, on_pointers, arithmetic, relation_of_pointers, relation, operation, to_pointer, conversion, are_alike, selection, cast_conversion}
use Rattle.typing_rules.specs.Declarations.{is_complete}
use Rattle.typing_rules.specs.Operands.{brought, converted_by, fitted}
use Rattle.typing_rules.specs.Operators.{unit, computed, combined, selected, choice_of, cast_by, cast, promoted_value, promoting, negation, address_at, address, pointee, dereferenced}
use Rattle.typing_rules.proofs.OperandsFit.{brought_fits}
use Rattle.typing_laws.specs.SmallTypes.{WhereOk}
use Rattle.typing_laws.proofs.CheckedValues.{then_holds, kept_holds, if_holds}
use Rattle.typing_laws.proofs.IntegerKinds.{promoted_is_promoted, common_is_promoted}
use Rattle.typing_laws.proofs.TypedCores.{binary_typed, shift_typed, compared_integers_typed, compared_pointers_typed, compared_with_null_typed, compared_null_with_typed, difference_typed, moved_typed, moved_last_typed, moved_back_typed, not_typed, both_typed, either_typed, discarded_typed, chosen_integers_typed, chosen_pointers_typed, chosen_void_typed, chosen_null_last_typed, chosen_null_first_typed, pointee_typed, address_typed, taken_itself, taken_null}
use Rattle.typing_laws.proofs.TypedValues.{is_value_type, OfShape, of_shape, pointer_of_shape, scalar_of_shape, pointer_valued, pointee_complete, Typed, ValueFits, WhatFits, OperandFits, IsCondition}

module _ (q : Core) (s : Setting) (ls : List Layout) where
  abbrev V : Value → Type 0
  V v = ValueFits q s (length ls) v

  abbrev O : Operand → Type 0
  O a = OperandFits q s (length ls) a

  -- types that are complete have the cells in the program that they have where they stand
  abbrev pub CellsStay : Type 0
  CellsStay = (t : CType) → is_complete (length ls) (length ls) t ≡ true → cells ls t ≡ cells s.layouts t

  brought_typed : (k l : IntKind) (v : Value) → v.ctype ≡ type.Int l → V v → type_of q s (brought k v) ≡ Some (type.Int k)
  brought_typed k l v p h = brought_fits q s k l v p h.typed

  pub unit_stays : CellsStay → (t u : CType) → t ≡ pointer_to u → is_void u ≡ false → is_value_type (length ls) t ≡ true → unit ls t ≡ cells s.layouts u
  unfolding unit
  unit_stays stay t u p v i = ap (unit ls) p ∙ stay u (pointee_complete (length ls) u v (subst (λ t. is_value_type (length ls) t ≡ true) p i))

  -- ---- binary operators

  module _ (stay : CellsStay) (first : Place) (a b : Value) (h : V a) (j : V b) where
    abbrev Makes : Operation → Type 0
    Makes how = O (computed ls first how a b)

    integers_fit : (o : IntOp) (k l : IntKind) → a.ctype ≡ type.Int k → b.ctype ≡ type.Int l → Makes (on_integers o k l)
    unfolding computed
    integers_fit o k l p r =
        if_holds Makes (is_shift o) (Shift o (promoted k) (promoted l)) (Arithmetic o (common k l))
        (λ e. record { typed = shift_typed q s o (promoted k) (promoted l) _ _ (promoted_is_promoted k) (promoted_is_promoted l) e (brought_typed (promoted k) k a p h) (brought_typed (promoted l) l b r j); valued = refl })
        (λ e. record { typed = binary_typed q s o (common k l) _ _ (common_is_promoted k l) e (brought_typed (common k l) k a p h) (brought_typed (common k l) l b r j); valued = refl })

    moved_fits : (u : CType) (l : IntKind) → a.ctype ≡ pointer_to u → is_void u ≡ false → b.ctype ≡ type.Int l → Makes (MovePointer PointerFirst)
    unfolding computed
    moved_fits u l p v r = record { typed = rw (unit_stays stay a.ctype u p v h.valued, p) (moved_typed q s u l a.expr b.expr v (h.typed ∙ ap Some p) (j.typed ∙ ap Some r)); valued = h.valued }

    moved_back_fits : (u : CType) (l : IntKind) → a.ctype ≡ pointer_to u → is_void u ≡ false → b.ctype ≡ type.Int l → Makes (MovePointer Minus)
    unfolding computed
    moved_back_fits u l p v r = record { typed = rw (unit_stays stay a.ctype u p v h.valued, p) (moved_back_typed q s u l a.expr b.expr v (h.typed ∙ ap Some p) (j.typed ∙ ap Some r)); valued = h.valued }

    moved_last_fits : (u : CType) (k : IntKind) → a.ctype ≡ type.Int k → b.ctype ≡ pointer_to u → is_void u ≡ false → Makes (MovePointer PointerLast)
    unfolding computed
    moved_last_fits u k p r v = record { typed = rw (unit_stays stay b.ctype u r v j.valued, r) (moved_last_typed q s u k a.expr b.expr v (h.typed ∙ ap Some p) (j.typed ∙ ap Some r)); valued = j.valued }

    difference_fits : (u : CType) → a.ctype ≡ pointer_to u → is_void u ≡ false → a.ctype ≡ b.ctype → Makes PointerDifference
    unfolding computed
    difference_fits u p v i = record { typed = rw (unit_stays stay a.ctype u p v h.valued) (difference_typed q s u a.expr b.expr v (h.typed ∙ ap Some p) (j.typed ∙ ap Some (sym i ∙ p))); valued = refl }

    pointers_fit : (o : IntOp) (st su : Shape) → OfShape a.ctype st → OfShape b.ctype su → (same : Bool) → same_type a.ctype b.ctype ≡ same → WhereSome Makes (on_pointers o st su same)
    unfolding on_pointers
    pointers_fit op.Add is.ToObject (is.Integer l) p r same i = moved_fits p.0 l p.1 p.2 r
    pointers_fit op.Add (is.Integer k) is.ToObject p r same i = moved_last_fits r.0 k p r.1 r.2
    pointers_fit op.Sub is.ToObject (is.Integer l) p r same i = moved_back_fits p.0 l p.1 p.2 r
    pointers_fit op.Sub is.ToObject is.ToObject p r same i = if_holds (WhereSome Makes) same (Some PointerDifference) None (λ t. difference_fits p.0 p.1 p.2 (same_type_equal a.ctype b.ctype (i ∙ t))) (λ t. tt)
    pointers_fit o st su p r same i = tt

    arithmetic_fits : (o : IntOp) (st su : Shape) → OfShape a.ctype st → OfShape b.ctype su → (same : Bool) → same_type a.ctype b.ctype ≡ same → WhereSome Makes (arithmetic o st su same)
    unfolding arithmetic
    arithmetic_fits o (is.Integer k) (is.Integer l) p r same i = integers_fit o k l p r
    arithmetic_fits o st su p r same i = pointers_fit o st su p r same i

    compared_fits : (c : CompareOp) (st su : Shape) (n m same : Bool) → OfShape a.ctype st → OfShape b.ctype su → same_type a.ctype b.ctype ≡ same → WhereSome Makes (relation_of_pointers c st n su m same)
    unfolding computed
    compared_fits c st su n m same p r i =
        if_holds (WhereSome Makes) (is_pointer st && same) _ _
        (λ e. let u : (u : CType) × (a.ctype ≡ pointer_to u) = pointer_of_shape a.ctype st p (left_of_and _ _ e) in
        record { typed = compared_pointers_typed q s c u.0 a.expr b.expr (h.typed ∙ ap Some u.1) (j.typed ∙ ap Some (sym (same_type_equal a.ctype b.ctype (i ∙ right_of_and _ _ e)) ∙ u.1)); valued = refl })
        (λ d.
        if_holds (WhereSome Makes) (is_equality c && (is_pointer st && m)) _ _
        (λ e. let u : (u : CType) × (a.ctype ≡ pointer_to u) = pointer_of_shape a.ctype st p (left_of_and _ _ (right_of_and _ _ e)) in
        record { typed = compared_with_null_typed q s c u.0 a.expr (left_of_and _ _ e) (h.typed ∙ ap Some u.1); valued = refl })
        (λ d.
        if_holds (WhereSome Makes) (is_equality c && (n && is_pointer su)) _ _
        (λ e. let u : (u : CType) × (b.ctype ≡ pointer_to u) = pointer_of_shape b.ctype su r (right_of_and _ _ (right_of_and _ _ e)) in
        record { typed = compared_null_with_typed q s c u.0 b.expr (left_of_and _ _ e) (j.typed ∙ ap Some u.1); valued = refl })
        (λ d. tt)))

    relation_fits : (c : CompareOp) (st su : Shape) (n m same : Bool) → OfShape a.ctype st → OfShape b.ctype su → same_type a.ctype b.ctype ≡ same → WhereSome Makes (relation c st n su m same)
    unfolding relation computed
    relation_fits c (is.Integer k) (is.Integer l) n m same p r i =
        record { typed = compared_integers_typed q s c (common k l) _ _ (common_is_promoted k l) (brought_typed (common k l) k a p h) (brought_typed (common k l) l b r j); valued = refl }
    relation_fits c st su n m same p r i = compared_fits c st su n m same p r i

    both_fit : (st su : Shape) → OfShape a.ctype st → OfShape b.ctype su → WhereSome Makes (where_true (is_scalar_shape st && is_scalar_shape su) LogicalAnd)
    unfolding computed
    both_fit st su p r =
        if_holds (WhereSome Makes) (is_scalar_shape st && is_scalar_shape su) (Some LogicalAnd) None
        (λ e. record { typed = both_typed q s a.ctype b.ctype a.expr b.expr (scalar_of_shape a.ctype st p (left_of_and _ _ e)) (scalar_of_shape b.ctype su r (right_of_and _ _ e)) h.typed j.typed; valued = refl })
        (λ e. tt)

    either_fit : (st su : Shape) → OfShape a.ctype st → OfShape b.ctype su → WhereSome Makes (where_true (is_scalar_shape st && is_scalar_shape su) LogicalOr)
    unfolding computed
    either_fit st su p r =
        if_holds (WhereSome Makes) (is_scalar_shape st && is_scalar_shape su) (Some LogicalOr) None
        (λ e. record { typed = either_typed q s a.ctype b.ctype a.expr b.expr (scalar_of_shape a.ctype st p (left_of_and _ _ e)) (scalar_of_shape b.ctype su r (right_of_and _ _ e)) h.typed j.typed; valued = refl })
        (λ e. tt)

    operation_fits : (o : Operator) (st su : Shape) (n m same : Bool) → OfShape a.ctype st → OfShape b.ctype su → same_type a.ctype b.ctype ≡ same → WhereSome Makes (operation o st n su m same)
    unfolding operation
    operation_fits (operator.Compute o) st su n m same p r i = arithmetic_fits o st su p r same i
    operation_fits (operator.Relate c) st su n m same p r i = relation_fits c st su n m same p r i
    operation_fits operator.Both st su n m same p r i = both_fit st su p r
    operation_fits operator.Either st su n m same p r i = either_fit st su p r

  pub combined_fits : CellsStay → (at : Place) (o : Operator) (a b : Value) → V a → V b → WhereOk O (combined ls at o a b)
  unfolding combined
  combined_fits stay at o a b h j =
      then_holds (Makes stay a.first a b h j) O (kept (Mismatch at) (operation o (shape a.ctype) (is_null a.origin) (shape b.ctype) (is_null b.origin) (same_type a.ctype b.ctype))) _
      (kept_holds (Makes stay a.first a b h j) _ (operation o (shape a.ctype) (is_null a.origin) (shape b.ctype) (is_null b.origin) (same_type a.ctype b.ctype))
      (operation_fits stay a.first a b h j o (shape a.ctype) (shape b.ctype) (is_null a.origin) (is_null b.origin) (same_type a.ctype b.ctype) (of_shape a.ctype) (of_shape b.ctype) refl))
      (λ how k. k)

  -- ---- `? :`

  module _ (first : Place) (test : Expr) (condition : IsCondition q s (length ls) test) (a b : Value) (h : V a) (j : V b) where
    abbrev Selects : Selection → Type 0
    Selects how = O (selected first how test a b)

    alike_fits : (st : Shape) → OfShape a.ctype st → (same : Bool) → same_type a.ctype b.ctype ≡ same → are_alike st same ≡ true → Selects OfOneType
    unfolding selected
    alike_fits is.NoValue p same i e =
        record { typed = rw p (chosen_void_typed q s test condition a.expr b.expr (h.typed ∙ ap Some p) (j.typed ∙ ap Some (sym (same_type_equal a.ctype b.ctype (i ∙ e)) ∙ p))); valued = h.valued }
    alike_fits st p same i e =
        let u : (u : CType) × (a.ctype ≡ pointer_to u) = pointer_of_shape a.ctype st p (left_of_and (is_pointer st) same e) in
        record { typed = rw u.1 (chosen_pointers_typed q s test condition u.0 a.expr b.expr (h.typed ∙ ap Some u.1) (j.typed ∙ ap Some (sym (same_type_equal a.ctype b.ctype (i ∙ right_of_and (is_pointer st) same e)) ∙ u.1))); valued = h.valued }

    abbrev pub chain_of_selections : Shape → Shape → Bool → Bool → Bool → Option Selection
    chain_of_selections st su n m same = if are_alike st same then Some OfOneType else (if is_pointer st && m then Some NullLast else (if n && is_pointer su then Some NullFirst else None))

    chain_fits : (st su : Shape) (n m same : Bool) → OfShape a.ctype st → OfShape b.ctype su → same_type a.ctype b.ctype ≡ same → WhereSome Selects (chain_of_selections st su n m same)
    unfolding selected
    chain_fits st su n m same p r i =
        if_holds (WhereSome Selects) (are_alike st same) _ _ (alike_fits st p same i) (λ d.
        if_holds (WhereSome Selects) (is_pointer st && m) _ _
        (λ e. let u : (u : CType) × (a.ctype ≡ pointer_to u) = pointer_of_shape a.ctype st p (left_of_and _ _ e) in
        record { typed = rw u.1 (chosen_null_last_typed q s test condition u.0 a.expr (h.typed ∙ ap Some u.1)); valued = h.valued })
        (λ d.
        if_holds (WhereSome Selects) (n && is_pointer su) _ _
        (λ e. let u : (u : CType) × (b.ctype ≡ pointer_to u) = pointer_of_shape b.ctype su r (right_of_and _ _ e) in
        record { typed = rw u.1 (chosen_null_first_typed q s test condition u.0 b.expr (j.typed ∙ ap Some u.1)); valued = j.valued })
        (λ d. tt)))

    selection_fits : (st su : Shape) (n m same : Bool) → OfShape a.ctype st → OfShape b.ctype su → same_type a.ctype b.ctype ≡ same → WhereSome Selects (selection st n su m same)
    unfolding selection selected
    selection_fits (is.Integer k) (is.Integer l) n m same p r i =
        record { typed = chosen_integers_typed q s test condition (common k l) _ _ (common_is_promoted k l) (brought_typed (common k l) k a p h) (brought_typed (common k l) l b r j); valued = refl }
    selection_fits st su n m same p r i = chain_fits st su n m same p r i

  pub choice_fits : (at first : Place) (test : Expr) (a b : Value) → IsCondition q s (length ls) test → V a → V b → WhereOk O (choice_of at first test a b)
  unfolding choice_of
  choice_fits at first test a b c h j =
      then_holds (Selects first test c a b h j) O (kept (Mismatch at) (selection (shape a.ctype) (is_null a.origin) (shape b.ctype) (is_null b.origin) (same_type a.ctype b.ctype))) _
      (kept_holds (Selects first test c a b h j) _ (selection (shape a.ctype) (is_null a.origin) (shape b.ctype) (is_null b.origin) (same_type a.ctype b.ctype))
      (selection_fits first test c a b h j (shape a.ctype) (shape b.ctype) (is_null a.origin) (is_null b.origin) (same_type a.ctype b.ctype) (of_shape a.ctype) (of_shape b.ctype) refl))
      (λ how k. k)

  -- ---- casts

  module _ (first : Place) (t : CType) (v : Value) (h : V v) where
    abbrev Casts : CastConversion → Type 0
    Casts how = O (cast_by first how v)

    cast_fits_by : (st su : Shape) (o : Origin) (same : Bool) → OfShape v.ctype su → WhereSome Casts (cast_conversion st su o same)
    unfolding cast_conversion cast_by
    cast_fits_by is.NoValue su o same r = record { typed = discarded_typed q s v.ctype v.expr h.typed; valued = refl }
    cast_fits_by (is.Integer k) (is.Integer l) o same r = record { typed = brought_typed k l v r h; valued = refl }
    cast_fits_by is.ToVoid su ZeroLiteral same r = record { typed = refl; valued = refl }
    cast_fits_by is.ToObject su Allocation same r = if_holds (WhereSome Casts) same (Some cast_is.Unchanged) None (λ e. h) (λ e. tt)
    cast_fits_by st su o same r = tt

  pub cast_fits : (at : Place) (t : CType) (v : Value) → V v → WhereOk O (cast at t v)
  unfolding cast
  cast_fits at t v h =
      then_holds (Casts at t v h) O (kept (Mismatch at) (cast_conversion (shape t) (shape v.ctype) v.origin (same_type t v.ctype))) _
      (kept_holds (Casts at t v h) _ (cast_conversion (shape t) (shape v.ctype) v.origin (same_type t v.ctype)) (cast_fits_by at t v h (shape t) (shape v.ctype) v.origin (same_type t v.ctype) (of_shape v.ctype)))
      (λ how k. k)

  -- ---- unary operators

  -- what an operator makes of an operand of a promoted kind
  abbrev pub KeepsKinds : (IntKind → Expr → Expr) → Type 0
  KeepsKinds f = (k : IntKind) (x : Expr) → is_promoted k ≡ true → type_of q s x ≡ Some (type.Int k) → type_of q s (f k x) ≡ Some (type.Int k)

  promoted_fits : (at : Place) (f : IntKind → Expr → Expr) (v : Value) (t : CType) → KeepsKinds f → v.ctype ≡ t → V v → WhereOk O (promoted_value at f v t)
  promoted_fits at f v (type.Int k) keeps p h = record { typed = keeps (promoted k) (brought (promoted k) v) (promoted_is_promoted k) (brought_typed (promoted k) k v p h); valued = refl }
  promoted_fits at f v t keeps p h = tt

  pub promoting_fits : (at : Place) (f : IntKind → Expr → Expr) (v : Value) → KeepsKinds f → V v → WhereOk O (promoting at f v)
  unfolding promoting
  promoting_fits at f v keeps h = promoted_fits at f v v.ctype keeps refl h

  pub negation_fits : (at : Place) (v : Value) → V v → WhereOk O (negation at v)
  unfolding negation
  negation_fits at v h = if_holds (WhereOk O) (is_scalar_shape (shape v.ctype)) _ _ (λ i. record { typed = not_typed q s v.ctype v.expr (scalar_of_shape v.ctype (shape v.ctype) (of_shape v.ctype) i) h.typed; valued = refl }) (λ i. tt)

  address_at_fits : (at : Place) (w : What) → WhatFits q s (length ls) w → WhereOk O (address_at at w)
  address_at_fits at (At p t) h = if_holds (WhereOk O) (is_register p) _ _ (λ i. tt) (λ i. record { typed = address_typed q s t p i h.typed; valued = pointer_valued (length ls) t h.complete })
  address_at_fits at (Made o x t) h = tt

  pub address_fits : (at : Place) (a : Operand) → O a → WhereOk O (address at a)
  unfolding address
  address_fits at a h = address_at_fits at a.what h

  pointee_fits : (at first : Place) (x : Expr) (t : CType) → Typed q s (length ls) x t → WhereOk O (pointee at first x t)
  pointee_fits at first x (type.Pointer' b (more_of-CType t end_of-CType)) h =
      if_holds (WhereOk O) (is_void t) _ _ (λ i. tt) (λ i. record { typed = pointee_typed q s t x i h.typed; complete = pointee_complete (length ls) t i h.valued; memory = refl })
  pointee_fits at first x t h = tt

  pub dereferenced_fits : (at : Place) (v : Value) → V v → WhereOk O (dereferenced at v)
  unfolding dereferenced
  dereferenced_fits at v h = pointee_fits at at v.expr v.ctype h

  -- ---- conversions, as an assignment makes them

  -- what an object of the type takes
  abbrev pub IsTaken : CType → Expr → Type 0
  IsTaken t x = is_taken_by t x (type_of q s x) ≡ true

  module _ (t : CType) (v : Value) (h : V v) where
    abbrev Brings : Conversion → Type 0
    Brings how = IsTaken t (converted_by how v)

    to_pointer_fits : (u : CType) → t ≡ pointer_to u → (n same : Bool) → same_type t v.ctype ≡ same → WhereSome Brings (to_pointer n same)
    to_pointer_fits u p n same i =
        if_holds (WhereSome Brings) same (Some conversion_is.Unchanged) (where_true n conversion_is.ToNull)
        (λ e. taken_itself q s t v.expr (rw p refl) (h.typed ∙ ap Some (sym (same_type_equal t v.ctype (i ∙ e)))))
        (λ d. if_holds (WhereSome Brings) n (Some conversion_is.ToNull) None (λ k. subst (λ t. IsTaken t e.Null) (sym p) (taken_null q s u)) (λ d. tt))

    conversion_fits : (st su : Shape) (n same : Bool) → OfShape t st → OfShape v.ctype su → same_type t v.ctype ≡ same → WhereSome Brings (conversion st su n same)
    unfolding conversion
    conversion_fits (is.Integer k) (is.Integer l) n same p r i = subst (λ t. IsTaken t (brought k v)) (sym p) (taken_itself q s (type.Int k) (brought k v) refl (brought_typed k l v r h))
    conversion_fits is.ToObject su n same p r i = to_pointer_fits p.0 p.1 n same i
    conversion_fits is.ToVoid su n same p r i = to_pointer_fits type.Void p n same i
    conversion_fits st su n same p r i = tt

  pub fitted_fits : (at : Place) (t : CType) (v : Value) → V v → WhereOk (IsTaken t) (fitted at t v)
  unfolding fitted
  fitted_fits at t v h =
      then_holds (Brings t v h) (IsTaken t) (kept (Mismatch at) (conversion (shape t) (shape v.ctype) (is_null v.origin) (same_type t v.ctype))) _
      (kept_holds (Brings t v h) _ (conversion (shape t) (shape v.ctype) (is_null v.origin) (same_type t v.ctype)) (conversion_fits t v h (shape t) (shape v.ctype) (is_null v.origin) (same_type t v.ctype) (of_shape t) (of_shape v.ctype) refl))
      (λ how k. k)
