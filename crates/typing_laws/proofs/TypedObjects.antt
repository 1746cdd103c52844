-- What rules on objects make of operands that fit fits: assignments, elements, members, blocks of the heap.
use Rattle.std.proofs.Common.{◌≡◌, ℕ, true, false, List, length, Some, Ok, refl, sym, ap, subst, ◌∙◌}
use Rattle.std.specs.Prelude.{pos, if◌then◌else◌}
use Rattle.c_lexer.specs.declared.token.Place.{Place}
use Rattle.step_meaning.specs.declared.value.IntKind.{IntKind}
use Rattle.step_meaning.specs.declared.value.IntKind.TheVariants as kind
use Rattle.step_meaning.specs.declared.value.CType.{CType, end_of-CType, more_of-CType}
use Rattle.step_meaning.specs.declared.value.CType.TheVariants as type
use Rattle.step_meaning.specs.declared.expr.IntOp.{IntOp}
use Rattle.step_meaning.specs.declared.expr.IntOp.TheVariants as op
use Rattle.step_meaning.specs.declared.expr.Answer.{Answer}
use Rattle.step_meaning.specs.declared.expr.Answer.TheVariants.{Before, After}
use Rattle.step_meaning.specs.declared.expr.UpdateOp.{UpdateOp}
use Rattle.step_meaning.specs.declared.expr.UpdateOp.TheVariants as update
use Rattle.step_meaning.specs.declared.expr.Side.TheVariants.{PointerFirst}
use Rattle.step_meaning.specs.declared.expr.Expr.{Expr}
use Rattle.step_meaning.specs.declared.expr.Expr.TheVariants as e
use Rattle.step_meaning.specs.declared.expr.Expr.TheBlock.{shape-the_row-Expr-0, hidden-the_row-Expr-0, shape-the_row-Place_-2, hidden-the_row-Place_-2}
use Rattle.step_meaning.specs.declared.expr.Place_.{Place_}
use Rattle.step_meaning.specs.declared.program.Core.{Core}
use Rattle.step_meaning.specs.declared.program.Layout.{Layout}
use Rattle.step_meaning.specs.TypeRules.{cells, is_scalar, member_type}
use Rattle.step_meaning.specs.Conversions.{same_int_kind, promoted, common}
use Rattle.step_meaning.specs.Settings.{Setting}
use Rattle.step_meaning.specs.ExpressionTypes.{type_of, type_of_place, pointer_to, is_void, is_shift, is_operation, is_sum, is_one_of, may_answer, is_allocated_type}
use Rattle.step_meaning.proofs.Ranges.{false_is_not_true, and_true}
use Rattle.step_meaning.proofs.SameTypes.{same_itself, number_same}
use Rattle.step_meaning.proofs.TypedMemory.{WhereSome}
use Rattle.typing_rules.specs.declared.fault.TypeFault.TheVariants.{Mismatch, Unknown}
use Rattle.typing_rules.specs.declared.judgement.Shape.{Shape}
use Rattle.typing_rules.specs.declared.judgement.Shape.TheVariants as is
use Rattle.typing_rules.specs.declared.judgement.CompoundOperation.{CompoundOperation}
use Rattle.typing_rules.specs.declared.judgement.CompoundOperation.TheVariants.{OnIntegers, Forward, Backward}
use Rattle.typing_rules.specs.declared.operand.Operand.{Operand}
use Rattle.typing_rules.specs.declared.operand.Value.{Value}
use Rattle.typing_rules.specs.declared.operand.What.{What}
use Rattle.typing_rules.specs.declared.operand.What.TheVariants.{At, Made}
use Rattle.typing_rules.specs.Checked.{kept}
use Rattle.typing_rules.specs.Environment.{Environment}
use Rattle.typing_rules.specs.Judgements.{shape, is_scalar_shape, is_integer_shape, is_pointer, is_null, compound_on_integers, compound_operation}
use Rattle.typing_rules.specs.Declarations.{is_complete, array_of}
use Rattle.typing_rules.specs.Operands.{int, plain_value, loaded, value, brought, fitted}
use Rattle.typing_rules.specs.Operators.{unit}
use Rattle.typing_rules.specs.Assignments.{Target, target_of, decayed, type_of_what, target, assigned, updated, compound, stepped}
use Rattle.typing_rules.specs.Subobjects.{Base, InArray, BehindPointer, before_index, base_of_what, base_of, behind, element_of, indexed, Member, member_of, of_struct, dot_of, dot, arrow_of, arrow}
use Rattle.typing_rules.specs.Allocation.{Request, objects, allocated, is_allocated, freed}
use Rattle.typing_rules.proofs.OperandsFit.{brought_fits}
use Rattle.typing_laws.specs.SmallTypes.{WhereOk}
use Rattle.typing_laws.proofs.CheckedValues.{then_holds, kept_holds, if_holds}
use Rattle.typing_laws.proofs.IntegerKinds.{same_kind_itself, promoted_is_promoted, common_again, common_with_int}
use Rattle.typing_laws.proofs.TypedCores.{pointee_typed, element_typed, member_typed, moved_typed, assigned_typed, updated_typed, malloc_typed, free_typed}
use Rattle.typing_laws.proofs.TypedValues.{is_value_type, OfShape, of_shape, pointer_of_shape, scalar_of_shape, pointer_valued, pointee_complete, scalar_valued, Typed, Placed, ValueFits, WhatFits, OperandFits, loaded_fits, value_fits}
use Rattle.typing_laws.proofs.TypedOperators.{CellsStay, unit_stays, IsTaken, fitted_fits}
use denote.Hole.Carrier.{hidden}

module _ (q : Core) (s : Setting) (ls : List Layout) where
  abbrev V : Value → Type 0
  V v = ValueFits q s (length ls) v

  abbrev O : Operand → Type 0
  O a = OperandFits q s (length ls) a

  -- ---- targets

  pub record TargetFits (to : Target) : Type 0 where
    pub placed : Placed q s (length ls) to.place to.ctype
    pub scalar : is_scalar to.ctype ≡ true

  target_of_fits : (w : What) → WhatFits q s (length ls) w → WhereSome TargetFits (target_of w)
  target_of_fits (At p t) h = if_holds (WhereSome TargetFits) (is_scalar_shape (shape t)) _ _ (λ i. record { placed = h; scalar = scalar_of_shape t (shape t) (of_shape t) i }) (λ i. tt)
  target_of_fits (Made o x t) h = tt

  target_fits : (at : Place) (a : Operand) → O a → WhereOk TargetFits (target at a)
  target_fits at a h = kept_holds TargetFits _ (target_of a.what) (target_of_fits a.what h)

  target_valued : (to : Target) → TargetFits to → is_value_type (length ls) to.ctype ≡ true
  target_valued to h = scalar_valued (length ls) to.ctype h.scalar h.placed.complete

  pub assigned_fits : (at : Place) (a : Operand) (v : Value) → O a → V v → WhereOk O (assigned at a v)
  unfolding assigned
  assigned_fits at a v h j =
      then_holds TargetFits O (target at a) _ (target_fits at a h) (λ to k.
      then_holds (IsTaken q s ls to.ctype) O (fitted at to.ctype v) _ (fitted_fits q s ls at to.ctype v j) (λ x i.
      record { typed = assigned_typed q s to.ctype to.place x k.placed.typed i; valued = target_valued to k }))

  -- ---- compound assignments

  brought_typed : (k l : IntKind) (v : Value) → v.ctype ≡ type.Int l → V v → type_of q s (brought k v) ≡ Some (type.Int k)
  brought_typed k l v p h = brought_fits q s k l v p h.typed

  integers_operate : (o : IntOp) (k l : IntKind) (x : Expr) → is_shift o ≡ false → type_of q s x ≡ Some (type.Int (common k l)) → is_operation s.layouts (type.Int k) (update.Integer o (common k l)) (type_of q s x) ≡ true
  integers_operate o k l x d a = rw (d, a, common_again k l, same_itself (type.Int (common k l))) refl

  shifts_operate : (o : IntOp) (k l : IntKind) (x : Expr) → is_shift o ≡ true → type_of q s x ≡ Some (type.Int (promoted l)) → is_operation s.layouts (type.Int k) (update.Integer o (promoted k)) (type_of q s x) ≡ true
  shifts_operate o k l x d a = rw (d, a, same_kind_itself (promoted k), promoted_is_promoted l) refl

  forward_operates : (u : CType) (l : IntKind) (x : Expr) → is_void u ≡ false → type_of q s x ≡ Some (type.Int l) → is_operation s.layouts (pointer_to u) (update.Forward (cells s.layouts u)) (type_of q s x) ≡ true
  forward_operates u l x v a = rw (a, v, number_same (cells s.layouts u)) refl

  backward_operates : (u : CType) (l : IntKind) (x : Expr) → is_void u ≡ false → type_of q s x ≡ Some (type.Int l) → is_operation s.layouts (pointer_to u) (update.Backward (cells s.layouts u)) (type_of q s x) ≡ true
  backward_operates u l x v a = rw (a, v, number_same (cells s.layouts u)) refl

  module _ (stay : CellsStay q s ls) (first : Place) (to : Target) (h : TargetFits to) (v : Value) (j : V v) (answer : Answer) where
    abbrev Updates : CompoundOperation → Type 0
    Updates how = O (updated ls first how to v answer)

    -- what the operation asks of the answer
    abbrev MayAnswer : UpdateOp → Expr → Type 0
    MayAnswer u x = may_answer to.ctype u x answer ≡ true

    of_operation : (u : UpdateOp) (x : Expr) → is_operation s.layouts to.ctype u (type_of q s x) ≡ true → MayAnswer u x → Typed q s (length ls) (e.Update to.place to.ctype u x answer) to.ctype
    of_operation u x o m = record { typed = updated_typed q s to.ctype to.place u x answer h.placed.typed o m; valued = target_valued to h }

    integer_update : (o : IntOp) (k l : IntKind) → is_shift o ≡ false → to.ctype ≡ type.Int k → v.ctype ≡ type.Int l → MayAnswer (update.Integer o (common k l)) (brought (common k l) v) → Updates (OnIntegers o (common k l) (common k l))
    unfolding updated
    integer_update o k l d p r m =
        of_operation (update.Integer o (common k l)) (brought (common k l) v)
        (subst (λ t. is_operation s.layouts t (update.Integer o (common k l)) (type_of q s (brought (common k l) v)) ≡ true) (sym p) (integers_operate o k l (brought (common k l) v) d (brought_typed (common k l) l v r j))) m

    shift_update : (o : IntOp) (k l : IntKind) → is_shift o ≡ true → to.ctype ≡ type.Int k → v.ctype ≡ type.Int l → MayAnswer (update.Integer o (promoted k)) (brought (promoted l) v) → Updates (OnIntegers o (promoted k) (promoted l))
    unfolding updated
    shift_update o k l d p r m =
        of_operation (update.Integer o (promoted k)) (brought (promoted l) v)
        (subst (λ t. is_operation s.layouts t (update.Integer o (promoted k)) (type_of q s (brought (promoted l) v)) ≡ true) (sym p) (shifts_operate o k l (brought (promoted l) v) d (brought_typed (promoted l) l v r j))) m

    forward_update : (u : CType) (l : IntKind) → to.ctype ≡ pointer_to u → is_void u ≡ false → v.ctype ≡ type.Int l → MayAnswer (update.Forward (unit ls to.ctype)) v.expr → Updates Forward
    unfolding updated
    forward_update u l p i r m =
        of_operation (update.Forward (unit ls to.ctype)) v.expr
        (rw (unit_stays q s ls stay to.ctype u p i (target_valued to h), p) (forward_operates u l v.expr i (j.typed ∙ ap Some r))) m

    backward_update : (u : CType) (l : IntKind) → to.ctype ≡ pointer_to u → is_void u ≡ false → v.ctype ≡ type.Int l → MayAnswer (update.Backward (unit ls to.ctype)) v.expr → Updates Backward
    unfolding updated
    backward_update u l p i r m =
        of_operation (update.Backward (unit ls to.ctype)) v.expr
        (rw (unit_stays q s ls stay to.ctype u p i (target_valued to h), p) (backward_operates u l v.expr i (j.typed ∙ ap Some r))) m

  -- the value after the operation
  module _ (stay : CellsStay q s ls) (first : Place) (v : Value) (j : V v) where
    abbrev UpdatesAfter : CType → CompoundOperation → Type 0
    UpdatesAfter t how = (to : Target) → TargetFits to → to.ctype ≡ t → O (updated ls first how to v After)

    integers_after : (t : CType) (o : IntOp) (k l : IntKind) → t ≡ type.Int k → v.ctype ≡ type.Int l → UpdatesAfter t (compound_on_integers o k l)
    integers_after t o k l p r =
        if_holds (UpdatesAfter t) (is_shift o) (OnIntegers o (promoted k) (promoted l)) (OnIntegers o (common k l) (common k l))
        (λ d to h i. shift_update stay first to h v j After o k l d (i ∙ p) r refl) (λ d to h i. integer_update stay first to h v j After o k l d (i ∙ p) r refl)

    compound_after : (t : CType) (o : IntOp) (st su : Shape) → OfShape t st → OfShape v.ctype su → WhereSome (UpdatesAfter t) (compound_operation o st su)
    unfolding compound_operation
    compound_after t o (is.Integer k) (is.Integer l) p r = integers_after t o k l p r
    compound_after t op.Add is.ToObject (is.Integer l) p r = λ to h i. forward_update stay first to h v j After p.0 l (i ∙ p.1) p.2 r refl
    compound_after t op.Sub is.ToObject (is.Integer l) p r = λ to h i. backward_update stay first to h v j After p.0 l (i ∙ p.1) p.2 r refl
    compound_after t o st su p r = tt

  -- a target has the type that its operand has in a sum
  abbrev TargetOf : What → Target → Type 0
  TargetOf w to = TargetFits to × (to.ctype ≡ type_of_what w)

  scalar_decays : (t : CType) → is_scalar t ≡ true → t ≡ decayed t
  scalar_decays (type.Int k) i = refl
  scalar_decays (type.Pointer' b t) i = refl
  scalar_decays type.Void i = false_is_not_true i
  scalar_decays (type.Array' b t n) i = false_is_not_true i
  scalar_decays (type.Struct n) i = false_is_not_true i

  target_decays : (w : What) → WhatFits q s (length ls) w → WhereSome (TargetOf w) (target_of w)
  target_decays (At p t) h =
      if_holds (WhereSome (TargetOf (At p t))) (is_scalar_shape (shape t)) _ _
      (λ i. let scalar : is_scalar t ≡ true = scalar_of_shape t (shape t) (of_shape t) i in (record { placed = h; scalar = scalar }, scalar_decays t scalar)) (λ i. tt)
  target_decays (Made o x t) h = tt

  pub compound_fits : CellsStay q s ls → (at : Place) (o : IntOp) (a : Operand) (v : Value) → O a → V v → WhereOk O (compound ls at o a v)
  unfolding compound
  compound_fits stay at o a v h j =
      let t : CType = type_of_what a.what in
      then_holds (UpdatesAfter stay a.first v j t) O (kept (Mismatch at) (compound_operation o (shape t) (shape v.ctype))) _
      (kept_holds (UpdatesAfter stay a.first v j t) _ (compound_operation o (shape t) (shape v.ctype)) (compound_after stay a.first v j t o (shape t) (shape v.ctype) (of_shape t) (of_shape v.ctype)))
      (λ how k. then_holds (TargetOf a.what) O (target at a) _ (kept_holds (TargetOf a.what) _ (target_of a.what) (target_decays a.what h)) (λ to m. k to m.0 m.1))

  -- ---- `++` and `--`

  abbrev one : Place → Value
  one first = plain_value first (e.Literal kind.Int (pos 1)) int

  one_fits : (first : Place) → V (one first)
  one_fits first = record { typed = refl; valued = refl }

  one_brought : (m : IntKind) → is_one_of m (if same_int_kind m kind.Int then e.Literal kind.Int (pos 1) else e.Convert m (e.Literal kind.Int (pos 1))) ≡ true
  unfolding shape-the_row-Expr-0 hidden-the_row-Expr-0 hidden
  one_brought m = if_holds (λ x. is_one_of m x ≡ true) (same_int_kind m kind.Int) (e.Literal kind.Int (pos 1)) (e.Convert m (e.Literal kind.Int (pos 1))) (λ i. rw i refl) (λ i. rw (i, same_kind_itself m) refl)

  module _ (stay : CellsStay q s ls) (first : Place) (to : Target) (h : TargetFits to) where
    integer_answers : (answer : Answer) (o : IntOp) (k : IntKind) → is_sum o ≡ true → may_answer (type.Int k) (update.Integer o (common k kind.Int)) (brought (common k kind.Int) (one first)) answer ≡ true
    unfolding brought
    integer_answers After o k i = refl
    integer_answers Before o k i = and_true i (and_true (common_with_int k) (one_brought (common k kind.Int)))

    pointer_answers : (answer : Answer) (u : CType) (o : UpdateOp) → may_answer (pointer_to u) o (e.Literal kind.Int (pos 1)) answer ≡ true
    pointer_answers After u o = refl
    pointer_answers Before u o = refl

    module _ (answer : Answer) where
      abbrev Steps : CompoundOperation → Type 0
      Steps how = O (updated ls first how to (one first) answer)

      integer_step : (o : IntOp) (k : IntKind) → is_sum o ≡ true → is_shift o ≡ false → to.ctype ≡ type.Int k → Steps (OnIntegers o (common k kind.Int) (common k kind.Int))
      integer_step o k i d p =
          integer_update stay first to h (one first) (one_fits first) answer o k kind.Int d p refl
          (subst (λ t. may_answer t (update.Integer o (common k kind.Int)) (brought (common k kind.Int) (one first)) answer ≡ true) (sym p) (integer_answers answer o k i))

      forward_step : (u : CType) → to.ctype ≡ pointer_to u → is_void u ≡ false → Steps Forward
      forward_step u p i =
          forward_update stay first to h (one first) (one_fits first) answer u kind.Int p i refl
          (subst (λ t. may_answer t (update.Forward (unit ls to.ctype)) (e.Literal kind.Int (pos 1)) answer ≡ true) (sym p) (pointer_answers answer u (update.Forward (unit ls to.ctype))))

      backward_step : (u : CType) → to.ctype ≡ pointer_to u → is_void u ≡ false → Steps Backward
      backward_step u p i =
          backward_update stay first to h (one first) (one_fits first) answer u kind.Int p i refl
          (subst (λ t. may_answer t (update.Backward (unit ls to.ctype)) (e.Literal kind.Int (pos 1)) answer ≡ true) (sym p) (pointer_answers answer u (update.Backward (unit ls to.ctype))))

      step_fits : (o : IntOp) (st : Shape) → is_sum o ≡ true → OfShape to.ctype st → WhereSome Steps (compound_operation o st (is.Integer kind.Int))
      unfolding compound_operation
      step_fits op.Add (is.Integer k) i p = integer_step op.Add k i refl p
      step_fits op.Sub (is.Integer k) i p = integer_step op.Sub k i refl p
      step_fits op.Add is.ToObject i p = forward_step p.0 p.1 p.2
      step_fits op.Sub is.ToObject i p = backward_step p.0 p.1 p.2
      step_fits op.Add st i p = tt
      step_fits op.Sub st i p = tt
      step_fits o st i p = false_is_not_true i

  pub stepped_fits : CellsStay q s ls → (at first : Place) (o : IntOp) (a : Operand) (answer : Answer) → is_sum o ≡ true → O a → WhereOk O (stepped ls at first o a answer)
  unfolding stepped shape
  stepped_fits stay at first o a answer i h =
      then_holds TargetFits O (target at a) _ (target_fits at a h) (λ to k.
      then_holds (Steps stay first to k answer) O (kept (Mismatch at) (compound_operation o (shape to.ctype) (is.Integer kind.Int))) _
      (kept_holds (Steps stay first to k answer) _ (compound_operation o (shape to.ctype) (is.Integer kind.Int)) (step_fits stay first to k answer o (shape to.ctype) i (of_shape to.ctype)))
      (λ how m. m))

  -- ---- elements

  abbrev pub BaseFits : Base → Type 0
  BaseFits (InArray p t) = (n : ℕ) × (type_of_place q s p ≡ Some (array_of t n)) × (is_complete (length ls) (length ls) t ≡ true)
  BaseFits (BehindPointer v) = V v

  before_index_fits : (first : Place) (p : Place_) (t : CType) → Placed q s (length ls) p t → WhereOk BaseFits (before_index ls first p t)
  unfolding is_complete
  before_index_fits first p (type.Array' b (more_of-CType t end_of-CType) n) h = (n, h.typed, h.complete)
  before_index_fits first p t h = then_holds V BaseFits (loaded first p t) (λ v. Ok (BehindPointer v)) (loaded_fits q s (length ls) first p t h) (λ v k. k)

  base_of_what_fits : (a : Operand) (w : What) → O a → WhatFits q s (length ls) w → WhereOk BaseFits (base_of_what ls a w)
  base_of_what_fits a (At p t) h j = before_index_fits a.first p t j
  base_of_what_fits a (Made o x t) h j = then_holds V BaseFits (value a) (λ v. Ok (BehindPointer v)) (value_fits q s (length ls) a h) (λ v k. k)

  pub base_fits : (a : Operand) → O a → WhereOk BaseFits (base_of ls a)
  unfolding base_of
  base_fits a h = base_of_what_fits a a.what h h

  integer_of_shape : (t : CType) (sh : Shape) → OfShape t sh → is_integer_shape sh ≡ true → (k : IntKind) × (t ≡ type.Int k)
  integer_of_shape t (is.Integer k) h i = (k, h)
  integer_of_shape t _ h i = false_is_not_true i

  behind_fits : CellsStay q s ls → (at : Place) (v : Value) (t : CType) (i : Value) (k : IntKind) → Typed q s (length ls) v.expr t → V i → i.ctype ≡ type.Int k → WhereOk O (behind ls at v t i)
  unfolding shape-the_row-Expr-0 hidden-the_row-Expr-0 hidden
  behind_fits stay at v (type.Pointer' b (more_of-CType t end_of-CType)) i k h j p =
      if_holds (WhereOk O) (is_void t) _ _ (λ d. tt) (λ d.
      let complete : is_complete (length ls) (length ls) t ≡ true = pointee_complete (length ls) t d h.valued in
      record { typed = pointee_typed q s t (e.Move v.expr i.expr (cells ls t) PointerFirst) d (rw (stay t complete) (moved_typed q s t k v.expr i.expr d h.typed (j.typed ∙ ap Some p))); complete = complete; memory = refl })
  behind_fits stay at v t i k h j p = tt

  element_fits : CellsStay q s ls → (at first : Place) (a : Base) (i : Value) (k : IntKind) → BaseFits a → V i → i.ctype ≡ type.Int k → WhereOk O (element_of ls at first a i)
  unfolding shape-the_row-Expr-0 hidden-the_row-Expr-0 shape-the_row-Place_-2 hidden-the_row-Place_-2 hidden
  element_fits stay at first (InArray p t) i k h j r = record { typed = rw (stay t h.2) (element_typed q s t h.0 k p i.expr h.1 (j.typed ∙ ap Some r)); complete = h.2; memory = refl }
  element_fits stay at first (BehindPointer v) i k h j r = behind_fits stay at v v.ctype i k h j r

  pub indexed_fits : CellsStay q s ls → (at first : Place) (a : Base) (i : Value) → BaseFits a → V i → WhereOk O (indexed ls at first a i)
  unfolding indexed
  indexed_fits stay at first a i h j =
      if_holds (WhereOk O) (is_integer_shape (shape i.ctype)) _ _ (λ d.
      let k : (k : IntKind) × (i.ctype ≡ type.Int k) = integer_of_shape i.ctype (shape i.ctype) (of_shape i.ctype) d in
      element_fits stay at first a i k.0 h j k.1) (λ d. tt)

  -- ---- members

  -- a member that is found by its name stands at its offset in the program too
  pub record MemberFits (n : ℕ) (m : Member) : Type 0 where
    pub typed : member_type s.layouts (type.Struct n) m.offset ≡ Some m.ctype
    pub complete : is_complete (length ls) (length ls) m.ctype ≡ true

  abbrev pub MembersStay : Type 0
  MembersStay = (n : ℕ) (name : List ℕ) → WhereSome (MemberFits n) (member_of ls n name)

  of_struct_fits : MembersStay → (at first at_name : Place) (name : List ℕ) (p : Place_) (t : CType) → type_of_place q s p ≡ Some t → WhereOk O (of_struct ls at first at_name name p t)
  unfolding shape-the_row-Place_-2 hidden-the_row-Place_-2 hidden
  of_struct_fits stay at first at_name name p (type.Struct n) h =
      then_holds (MemberFits n) O (kept (Unknown at_name) (member_of ls n name)) _ (kept_holds (MemberFits n) _ (member_of ls n name) (stay n name))
      (λ m k. record { typed = member_typed q s n m.offset m.ctype p h k.typed; complete = k.complete; memory = refl })
  of_struct_fits stay at first at_name name p t h = tt

  dot_of_fits : MembersStay → (at first at_name : Place) (name : List ℕ) (w : What) → WhatFits q s (length ls) w → WhereOk O (dot_of ls at first at_name name w)
  dot_of_fits stay at first at_name name (At p t) h = of_struct_fits stay at first at_name name p t h.typed
  dot_of_fits stay at first at_name name (Made o x t) h = tt

  pub dot_fits : MembersStay → (at at_name : Place) (name : List ℕ) (a : Operand) → O a → WhereOk O (dot ls at at_name name a)
  unfolding dot
  dot_fits stay at at_name name a h = dot_of_fits stay at a.first at_name name a.what h

  arrow_of_fits : MembersStay → (at at_name : Place) (name : List ℕ) (v : Value) (t : CType) → type_of q s v.expr ≡ Some t → WhereOk O (arrow_of ls at at_name name v t)
  arrow_of_fits stay at at_name name v (type.Pointer' b (more_of-CType (type.Struct n) end_of-CType)) h = of_struct_fits stay at v.first at_name name (e.Deref v.expr) (type.Struct n) (pointee_typed q s (type.Struct n) v.expr refl h)
  arrow_of_fits stay at at_name name v (type.Pointer' b (more_of-CType t end_of-CType)) h = tt
  arrow_of_fits stay at at_name name v t h = tt

  pub arrow_fits : MembersStay → (at at_name : Place) (name : List ℕ) (v : Value) → V v → WhereOk O (arrow ls at at_name name v)
  unfolding arrow
  arrow_fits stay at at_name name v h = arrow_of_fits stay at at_name name v v.ctype h.typed

  -- ---- blocks of the heap

  abbrev pub RequestFits : Request → Type 0
  RequestFits r = type_of q s r.count ≡ Some (type.Int kind.ULong)

  pub objects_fit : (at : Place) (v : Value) (t : CType) → V v → WhereOk RequestFits (objects at v t)
  unfolding objects
  objects_fit at v t h =
      if_holds (WhereOk RequestFits) (is_integer_shape (shape v.ctype)) _ _ (λ d.
      let k : (k : IntKind) × (v.ctype ≡ type.Int k) = integer_of_shape v.ctype (shape v.ctype) (of_shape v.ctype) d in
      brought_typed kind.ULong k.0 v k.1 h) (λ d. tt)

  -- what may be allocated here may be in the program, and is complete
  abbrev pub AllocationStays : Environment → Type 0
  AllocationStays g = (t : CType) → is_allocated g t ≡ true → (is_allocated_type s.layouts t ≡ true) × (is_complete (length ls) (length ls) t ≡ true)

  pub allocated_fits : (g : Environment) → AllocationStays g → (at : Place) (r : Request) → RequestFits r → WhereOk O (allocated g at r)
  unfolding allocated
  allocated_fits g stay at r h =
      if_holds (WhereOk O) (is_allocated g r.ctype) _ _ (λ i.
      let both : (is_allocated_type s.layouts r.ctype ≡ true) × (is_complete (length ls) (length ls) r.ctype ≡ true) = stay r.ctype i in
      record { typed = malloc_typed q s r.ctype r.count h both.0; valued = pointer_valued (length ls) r.ctype both.1 }) (λ i. tt)

  pub freed_fits : (at : Place) (v : Value) → V v → WhereOk O (freed at v)
  unfolding freed
  freed_fits at v h =
      if_holds (WhereOk O) (is_null v.origin) _ _ (λ i. record { typed = free_typed q s type.Void e.Null refl; valued = refl }) (λ d.
      if_holds (WhereOk O) (is_pointer (shape v.ctype)) _ _ (λ i.
      let u : (u : CType) × (v.ctype ≡ pointer_to u) = pointer_of_shape v.ctype (shape v.ctype) (of_shape v.ctype) i in
      record { typed = free_typed q s u.0 v.expr (h.typed ∙ ap Some u.1); valued = refl }) (λ i. tt))
