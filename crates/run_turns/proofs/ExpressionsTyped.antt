-- What an expression's turn leaves takes the values of its parts: one lemma for each form.
use Rattle.std.proofs.Common.{◌≡◌, ℕ, Bool, true, false, cond, ◌&&◌, ◌||◌, not, List, [], ◌∷◌, Option, Some, None, refl, sym, ap, ◌∙◌, subst, arith}
use Rattle.std.specs.Prelude.{ℤ, pos, ◌==◌, int_le, is_some, IsTrue, option_map, slice_get}
use Rattle.std.specs.List.{AllByRecursion}
use Rattle.step_meaning.specs.declared.value.IntKind.{IntKind}
use Rattle.step_meaning.specs.declared.value.IntKind.TheVariants as kind
use Rattle.step_meaning.specs.declared.value.CType.{CType, end_of-CType, more_of-CType}
use Rattle.step_meaning.specs.declared.value.CType.TheVariants as type
use Rattle.step_meaning.specs.declared.value.NameKind.{NameKind}
use Rattle.step_meaning.specs.declared.value.NameKind.TheVariants as names
use Rattle.step_meaning.specs.declared.value.Value.{Value}
use Rattle.step_meaning.specs.declared.value.Value.TheVariants as value
use Rattle.step_meaning.specs.declared.expr.IntOp.{IntOp}
use Rattle.step_meaning.specs.declared.expr.CompareOp.{CompareOp}
use Rattle.step_meaning.specs.declared.expr.Side.{Side}
use Rattle.step_meaning.specs.declared.expr.Side.TheVariants.{PointerFirst, PointerLast, Minus}
use Rattle.step_meaning.specs.declared.expr.UpdateOp.{UpdateOp}
use Rattle.step_meaning.specs.declared.expr.UpdateOp.TheVariants.{Integer, Forward, Backward}
use Rattle.step_meaning.specs.declared.expr.Answer.{Answer}
use Rattle.step_meaning.specs.declared.expr.Expr.{Expr, Row_of-Expr, end_of-Expr, more_of-Expr, items-the_row-Expr}
use Rattle.step_meaning.specs.declared.expr.Expr.TheVariants.{Literal, Null, Load, Address, Convert', Unary', Binary', Compare', Move', Difference', Not', Both', Either', Choose', Assign', Update', Invoke', GetChar, PutChar', Malloc', Free', Discard', Own, Deref', Member', Index'}
use Rattle.step_meaning.specs.declared.expr.Place_.{Place_, end_of-Place_, more_of-Place_}
use Rattle.step_meaning.specs.declared.program.Core.{Core}
use Rattle.step_meaning.specs.declared.program.Function.{Function}
use Rattle.step_meaning.specs.declared.program.Layout.{Layout}
use Rattle.step_meaning.specs.Numbers.{is_in_range}
use Rattle.step_meaning.specs.Names.{integer}
use Rattle.step_meaning.specs.Types.{where_true}
use Rattle.step_meaning.specs.Conversions.{is_promoted, same_int_kind, promoted, common, common_of_promoted}
use Rattle.step_meaning.specs.TypeRules.{cells, is_scalar, element_type}
use Rattle.step_meaning.specs.Settings.{variable_type, code_setting}
use Rattle.step_meaning.specs.State.{Lvalue, InRegister, At, designated}
use Rattle.step_meaning.specs.ExpressionTypes as typing
use Rattle.step_meaning.specs.ExpressionTypes.{type_of, type_of_place, has_this_type, has_kind, has_integer_type, has_promoted_kind, has_pointer_type, has_scalar_type, is_void, is_shift, is_null_constant, is_taken_by, is_register, are_of_one_kind, are_of_one_pointer, are_void, is_pointer_beside_null, is_equality, are_comparable, choice_type, converted_type, moved_type, move_type, difference_type, is_addressed_at, is_operation, may_answer, pointed_to, parameter_types, called, call_type, pointer_to}
use Rattle.step_meaning.proofs.Ranges.{false_is_not_true, left_of_and, right_of_and}
use Rattle.step_meaning.proofs.OperatorRanges.{InRange}
use Rattle.step_meaning.proofs.SameTypes.{same_type_equal}
use Rattle.step_meaning.proofs.TypedMemory.{WhereSome, InCell}
use Rattle.step_meaning.proofs.StepsFit.{IsAddress, InCells}
use Rattle.step_meaning.proofs.TypedAccesses.{IsPlace, address_of_type, type_of_address}
use Rattle.step_meaning.proofs.TypedOperators.{OfType, of_cell, where_true_fits, either_true, not_true}
use Rattle.step_meaning.proofs.TypedPlaces.{Designates, all_some}
use Rattle.run_turns.specs.Pending as pending
use Rattle.run_turns.specs.Turns.{Configuration, evaluated, located, ready}
use Rattle.run_turns.specs.Typed.{IsObject, TakesKind, TakesTruth, UpdateFits, UpdatedFits, IsTypable, IsTypablePlace, MayDesignate, MayGiveAll, Evaluates, OperandTakes, AccessTakes, SelectionTakes, DesignationTakes, CallTakes, TakesValue, TakesLvalue, StateFits, IsTyped}
use Rattle.run_turns.proofs.TypeTests.{OfSome, some_tells, this_is_there, scalar_is_there, integer_is_there, promoted_is_there, pointer_is_there, of_this, of_kind, of_integer, of_pointer, truth_of_type, right_operand}

-- ---- null pointer constants

null_is : (e : Expr) → is_null_constant e ≡ true → e ≡ Null
null_is Null h = refl
null_is e h = false_is_not_true h

null_in_cell : (t : CType) (v : Value) → has_pointer_type (Some t) ≡ true → v ≡ value.Null → InCell t v
null_in_cell (type.Pointer' p u) v h e = subst (λ v. InCell (type.Pointer' p u) v) (sym e) (tt, tt)
null_in_cell type.Void v h e = false_is_not_true h
null_in_cell (type.Int k) v h e = false_is_not_true h
null_in_cell (type.Array' p u n) v h e = false_is_not_true h
null_in_cell (type.Struct n) v h e = false_is_not_true h

-- ---- choices

if_tells : (b : Bool) (o : Option CType) → is_some (cond b o None) ≡ true → (b ≡ true) × (is_some o ≡ true)
if_tells true o h = (refl, h)
if_tells false o h = false_is_not_true h

abbrev FirstRules : Option CType → Expr → Option CType → Bool
FirstRules a f b = are_of_one_kind a b || (are_of_one_pointer a b || (are_void a b || is_pointer_beside_null f a))

second_of : (a b : Option CType) (f : Expr) (w : Value) → FirstRules a f b ≡ true → OfSome b w → (is_null_constant f ≡ true → w ≡ value.Null) → OfSome a w
second_of None b f w h g n = tt
second_of (Some (type.Int k)) b f w h g n =
    either_true (is_promoted k && has_kind k b) _ h (λ e. of_this (type.Int k) b w refl (right_of_and _ _ e) g) (λ e. false_is_not_true (right_of_and (is_null_constant f) false e))
second_of (Some (type.Pointer' p t)) b f w h g n =
    either_true (has_this_type (type.Pointer' p t) b) _ h (λ e. of_this (type.Pointer' p t) b w refl e g) (λ e. null_in_cell (type.Pointer' p t) w refl (n (left_of_and (is_null_constant f) true e)))
second_of (Some type.Void) b f w h g n = tt
second_of (Some (type.Array' p t k)) b f w h g n = false_is_not_true (right_of_and (is_null_constant f) false h)
second_of (Some (type.Struct k)) b f w h g n = false_is_not_true (right_of_and (is_null_constant f) false h)

first_of : (b : Option CType) (e : Expr) (v : Value) → is_pointer_beside_null e b ≡ true → (is_null_constant e ≡ true → v ≡ value.Null) → OfSome b v
first_of None e v h n = tt
first_of (Some t) e v h n = of_cell t v (null_in_cell t v (right_of_and (is_null_constant e) _ h) (n (left_of_and _ _ h)))

pub left_choice : (e f : Expr) (a b : Option CType) (v : Value) → OfSome a v → (is_null_constant e ≡ true → v ≡ value.Null) → OfSome (choice_type e a f b) v
left_choice e f a b v h n = by (FirstRules a f b) (is_pointer_beside_null e b) refl
  where
    by : (c d : Bool) → is_pointer_beside_null e b ≡ d → OfSome (cond c a (cond d b None)) v
    by true d r = h
    by false true r = first_of b e v r n
    by false false r = tt

pub right_choice : (e f : Expr) (a b : Option CType) (w : Value) → OfSome b w → (is_null_constant f ≡ true → w ≡ value.Null) → OfSome (choice_type e a f b) w
right_choice e f a b w h n = by (FirstRules a f b) (is_pointer_beside_null e b) refl
  where
    by : (c d : Bool) → FirstRules a f b ≡ c → OfSome (cond c a (cond d b None)) w
    by true d r = second_of a b f w r h n
    by false true r = h
    by false false r = tt

-- ---- assignments

pub taken_of : (t : CType) (e : Expr) (a : Option CType) (v : Value) → is_taken_by t e a ≡ true → OfSome a v → (is_null_constant e ≡ true → v ≡ value.Null) → InCell t v
taken_of t e a v h g n =
    either_true (has_this_type t a) _ (right_of_and (is_scalar t) _ h) (λ k. of_this t a v (left_of_and (is_scalar t) _ h) k g) (λ k. null_in_cell t v (right_of_and (is_null_constant e) _ k) (n (left_of_and (is_null_constant e) _ k)))

promoted_is : (k : IntKind) → is_promoted (promoted k) ≡ true
promoted_is kind.Char = refl
promoted_is kind.SChar = refl
promoted_is kind.UChar = refl
promoted_is kind.Short = refl
promoted_is kind.UShort = refl
promoted_is kind.Int = refl
promoted_is kind.UInt = refl
promoted_is kind.Long = refl
promoted_is kind.ULong = refl

common_promoted_is : (k l : IntKind) → is_promoted k ≡ true → is_promoted l ≡ true → is_promoted (common_of_promoted k l) ≡ true
common_promoted_is kind.Int kind.Int p r = refl
common_promoted_is kind.Int kind.UInt p r = refl
common_promoted_is kind.Int kind.Long p r = refl
common_promoted_is kind.Int kind.ULong p r = refl
common_promoted_is kind.UInt kind.Int p r = refl
common_promoted_is kind.UInt kind.UInt p r = refl
common_promoted_is kind.UInt kind.Long p r = refl
common_promoted_is kind.UInt kind.ULong p r = refl
common_promoted_is kind.Long kind.Int p r = refl
common_promoted_is kind.Long kind.UInt p r = refl
common_promoted_is kind.Long kind.Long p r = refl
common_promoted_is kind.Long kind.ULong p r = refl
common_promoted_is kind.ULong kind.Int p r = refl
common_promoted_is kind.ULong kind.UInt p r = refl
common_promoted_is kind.ULong kind.Long p r = refl
common_promoted_is kind.ULong kind.ULong p r = refl
common_promoted_is kind.Int _ p r = false_is_not_true r
common_promoted_is kind.UInt _ p r = false_is_not_true r
common_promoted_is kind.Long _ p r = false_is_not_true r
common_promoted_is kind.ULong _ p r = false_is_not_true r
common_promoted_is _ l p r = false_is_not_true p

common_is : (k l : IntKind) → is_promoted (common k l) ≡ true
common_is k l = common_promoted_is (promoted k) (promoted l) (promoted_is k) (promoted_is l)

abbrev IsPromotedType : CType → Bool
IsPromotedType (type.Int k) = is_promoted k
IsPromotedType t = false

same_promoted : (k l : IntKind) → same_int_kind k l ≡ true → is_promoted l ≡ true → is_promoted k ≡ true
same_promoted k l h p = subst (λ t. IsPromotedType t ≡ true) (sym (same_type_equal (type.Int k) (type.Int l) h)) p

-- ---- lvalues

pub place_of : (own : Bool) (o : Option CType) (l : Lvalue) → is_some o ≡ true → WhereSome (λ t. Designates own t l) o → IsPlace l
place_of own None l e h = false_is_not_true e
place_of own (Some t) (InRegister i) e h = tt
place_of own (Some t) (At v) e h = h

-- what is no scalar is in no register
object_of : (own : Bool) (t : CType) (l : Lvalue) → is_scalar t ≡ false → Designates own t l → IsObject l
object_of own t (InRegister i) e h = false_is_not_true (sym e ∙ h.1)
object_of own t (At v) e h = h

module _ (q : Core) (f : Function) where
  abbrev ty : Expr → Option CType
  ty e = type_of q (code_setting q f) e

  abbrev typ : Place_ → Option CType
  typ p = type_of_place q (code_setting q f) p

  null_is_there : (e : Expr) → is_null_constant e ≡ true → is_some (ty e) ≡ true
  null_is_there e h = subst (λ e. is_some (ty e) ≡ true) (sym (null_is e h)) refl

  pub taken_is_there : (t : CType) (e : Expr) → is_taken_by t e (ty e) ≡ true → is_some (ty e) ≡ true
  taken_is_there t e h = either_true (has_this_type t (ty e)) _ (right_of_and (is_scalar t) _ h) (this_is_there t (ty e)) (λ k. null_is_there e (left_of_and (is_null_constant e) _ k))

  right_is_there : (o : IntOp) (k : IntKind) (b : Option CType) → cond (is_shift o) (has_promoted_kind b) (has_kind k b) ≡ true → is_some b ≡ true
  right_is_there o k b e = by (is_shift o) e
    where
      by : (c : Bool) → cond c (has_promoted_kind b) (has_kind k b) ≡ true → is_some b ≡ true
      by true e = promoted_is_there b e
      by false e = this_is_there (type.Int k) b e

  kinds_are_there : (a b : Option CType) → are_of_one_kind a b ≡ true → (is_some a ≡ true) × (is_some b ≡ true)
  kinds_are_there (Some (type.Int k)) (Some t) e = (refl, refl)
  kinds_are_there (Some (type.Int k)) None e = (refl, right_of_and (is_promoted k) _ e)
  kinds_are_there _ b e = false_is_not_true e

  pointers_are_there : (a b : Option CType) → are_of_one_pointer a b ≡ true → (is_some a ≡ true) × (is_some b ≡ true)
  pointers_are_there (Some (type.Pointer' p t)) (Some u) e = (refl, refl)
  pointers_are_there (Some (type.Pointer' p t)) None e = (refl, e)
  pointers_are_there _ b e = false_is_not_true e

  beside_is_there : (e : Expr) (b : Option CType) → is_pointer_beside_null e b ≡ true → is_some b ≡ true
  beside_is_there e (Some t) h = refl
  beside_is_there e None h = right_of_and (is_null_constant e) _ h

  comparables_are_there : (c : CompareOp) (e g : Expr) → are_comparable c e (ty e) g (ty g) ≡ true → (is_some (ty e) ≡ true) × (is_some (ty g) ≡ true)
  comparables_are_there c e g h =
      either_true _ _ h (kinds_are_there (ty e) (ty g)) (λ h.
      either_true _ _ h (pointers_are_there (ty e) (ty g)) (λ h.
      either_true _ _ (right_of_and (is_equality c) _ h)
      (λ h. (null_is_there e (left_of_and _ _ h), beside_is_there e (ty g) h))
      (λ h. (beside_is_there g (ty e) h, null_is_there g (left_of_and _ _ h)))))

  choices_are_there : (e g : Expr) → is_some (choice_type e (ty e) g (ty g)) ≡ true → (is_some (ty e) ≡ true) × (is_some (ty g) ≡ true)
  choices_are_there e g h = by (FirstRules (ty e) g (ty g)) refl (is_pointer_beside_null e (ty g)) refl h
    where
      voids : (a b : Option CType) → are_void a b ≡ true → (is_some a ≡ true) × (is_some b ≡ true)
      voids (Some a) (Some b) e = (refl, refl)
      voids (Some type.Void) None e = (refl, e)
      voids _ b e = false_is_not_true e

      by : (c : Bool) → FirstRules (ty e) g (ty g) ≡ c → (d : Bool) → is_pointer_beside_null e (ty g) ≡ d → is_some (cond c (ty e) (cond d (ty g) None)) ≡ true → (is_some (ty e) ≡ true) × (is_some (ty g) ≡ true)
      by true r d s h =
          either_true _ _ r (kinds_are_there (ty e) (ty g)) (λ r.
          either_true _ _ r (pointers_are_there (ty e) (ty g)) (λ r.
          either_true _ _ r (voids (ty e) (ty g)) (λ r. (beside_is_there g (ty e) r, null_is_there g (left_of_and _ _ r)))))
      by false r true s h = (null_is_there e (left_of_and _ _ s), beside_is_there e (ty g) s)
      by false r false s h = false_is_not_true h

  module _ (takes : Value → Type 0) where
    -- ---- operators

    convert_takes : (k : IntKind) (b : _) (e : Expr) → Evaluates q f (Convert' k b (more_of-Expr e end_of-Expr)) takes → Evaluates q f e (OperandTakes q f takes (pending.Convert k))
    convert_takes k b e h = (there (ty e) h.0, λ v x z r. h.1 (value.Int z) (fits (ty e) z r, λ n. false_is_not_true n))
      where
        there : (a : Option CType) → is_some (converted_type k a) ≡ true → is_some a ≡ true
        there None e = e
        there (Some t) e = refl

        fits : (a : Option CType) (z : ℤ) → InRange k z → OfSome (converted_type k a) (value.Int z)
        fits None z r = tt
        fits (Some (type.Int l)) z r = where_true_fits _ (not (same_int_kind k l)) (type.Int k) (λ e. (r, tt))
        fits (Some type.Void) z r = tt
        fits (Some (type.Pointer' p t)) z r = tt
        fits (Some (type.Array' p t n)) z r = tt
        fits (Some (type.Struct n)) z r = tt

    kind_given : (k : IntKind) (b : Bool) (z : ℤ) → InRange k z → OfSome (where_true b (type.Int k)) (value.Int z)
    kind_given k b z r = where_true_fits (λ t. OfType t (value.Int z)) b (type.Int k) (λ e. (r, tt))

    truth_given : (b c : Bool) → OfSome (where_true c (type.Int kind.Int)) (Rattle.step_meaning.specs.Names.of_truth b)
    truth_given b c = where_true_fits (λ t. OfType t (Rattle.step_meaning.specs.Names.of_truth b)) c (type.Int kind.Int) (λ e. truth_of_type b)

    unary_takes : (o : _) (k : IntKind) (b : _) (e : Expr) → Evaluates q f (Unary' o k b (more_of-Expr e end_of-Expr)) takes → Evaluates q f e (OperandTakes q f takes (pending.Unary o k))
    unary_takes o k b e h =
        let t = some_tells _ (type.Int k) h.0 in
        let own = right_of_and (is_promoted k) _ t in
        (this_is_there (type.Int k) (ty e) own, λ v x. (left_of_and (is_promoted k) _ t, of_kind k (ty e) v own x.0, λ z r. h.1 (value.Int z) (kind_given k _ z r, λ n. false_is_not_true n)))

    binary_takes : (o : IntOp) (k : IntKind) (b c : _) (e g : Expr) → Evaluates q f (Binary' o k b (more_of-Expr e end_of-Expr) c (more_of-Expr g end_of-Expr)) takes → Evaluates q f e (OperandTakes q f takes (pending.BinaryRight o k g))
    binary_takes o k b c e g h =
        let t = some_tells _ (type.Int k) h.0 in
        let left = left_of_and (has_kind k (ty e)) _ (right_of_and (is_promoted k) _ t) in
        let right = right_of_and (has_kind k (ty e)) _ (right_of_and (is_promoted k) _ t) in (
          this_is_there (type.Int k) (ty e) left,
          λ v x. (
            right_is_there o k (ty g) right,
            λ w y.
                ((left_of_and (is_promoted k) _ t, of_kind k (ty e) v left x.0, right_operand o k (ty g) w right y.0), λ z r. h.1 (value.Int z) (kind_given k _ z r, λ n. false_is_not_true n)),
          ),
        )

    compare_takes : (o : CompareOp) (b c : _) (e g : Expr) → Evaluates q f (Compare' o b (more_of-Expr e end_of-Expr) c (more_of-Expr g end_of-Expr)) takes → Evaluates q f e (OperandTakes q f takes (pending.CompareRight o g))
    compare_takes o b c e g h =
        let t = comparables_are_there o e g (some_tells _ (type.Int kind.Int) h.0) in
        (t.0, λ v x. (t.1, λ w y z. h.1 _ (truth_given z _, λ n. false_is_not_true n)))

    not_takes : (b : _) (e : Expr) → Evaluates q f (Not' b (more_of-Expr e end_of-Expr)) takes → Evaluates q f e (OperandTakes q f takes pending.Negated)
    not_takes b e h = (scalar_is_there (ty e) (some_tells _ (type.Int kind.Int) h.0), λ v x z. h.1 _ (truth_given z _, λ n. false_is_not_true n))

    both_takes : (b c : _) (e g : Expr) → Evaluates q f (Both' b (more_of-Expr e end_of-Expr) c (more_of-Expr g end_of-Expr)) takes → Evaluates q f e (OperandTakes q f takes (pending.BothRight g))
    both_takes b c e g h =
        let t = some_tells _ (type.Int kind.Int) h.0 in
        let gives : TakesTruth takes = λ z. h.1 _ (truth_given z _, λ n. false_is_not_true n) in
        (scalar_is_there (ty e) (left_of_and (has_scalar_type (ty e)) _ t), λ v x. ((scalar_is_there (ty g) (right_of_and (has_scalar_type (ty e)) _ t), λ w y. gives), gives))

    either_takes : (b c : _) (e g : Expr) → Evaluates q f (Either' b (more_of-Expr e end_of-Expr) c (more_of-Expr g end_of-Expr)) takes → Evaluates q f e (OperandTakes q f takes (pending.EitherRight g))
    either_takes b c e g h =
        let t = some_tells _ (type.Int kind.Int) h.0 in
        let gives : TakesTruth takes = λ z. h.1 _ (truth_given z _, λ n. false_is_not_true n) in
        (scalar_is_there (ty e) (left_of_and (has_scalar_type (ty e)) _ t), λ v x. ((scalar_is_there (ty g) (right_of_and (has_scalar_type (ty e)) _ t), λ w y. gives), gives))

    choose_takes : (b c d : _) (e g k : Expr) → Evaluates q f (Choose' b (more_of-Expr e end_of-Expr) c (more_of-Expr g end_of-Expr) d (more_of-Expr k end_of-Expr)) takes → Evaluates q f e (OperandTakes q f takes (pending.Choose g k))
    choose_takes b c d e g k h =
        let t = if_tells _ _ h.0 in
        let s = choices_are_there g k t.1 in
        let test = t.0 in (
          scalar_is_there (ty e) test,
          λ v x. (
            (s.0, λ w y. h.1 w (chosen (has_scalar_type (ty e)) (choice_type g (ty g) k (ty k)) w (left_choice g k (ty g) (ty k) w y.0 y.1), λ n. false_is_not_true n)),
            (s.1, λ w y. h.1 w (chosen (has_scalar_type (ty e)) (choice_type g (ty g) k (ty k)) w (right_choice g k (ty g) (ty k) w y.0 y.1), λ n. false_is_not_true n)),
          ),
        )
      where
        chosen : (b : Bool) (o : Option CType) (w : Value) → OfSome o w → OfSome (cond b o None) w
        chosen true o w h = h
        chosen false o w h = tt

    discard_takes : (b : _) (e : Expr) → Evaluates q f (Discard' b (more_of-Expr e end_of-Expr)) takes → Evaluates q f e (OperandTakes q f takes pending.Discard)
    discard_takes b e h = (some_tells _ type.Void h.0, λ v x. h.1 (value.Int (pos 0)) (where_true_fits (λ t. OfType t (value.Int (pos 0))) _ type.Void (λ e. tt), λ n. false_is_not_true n))

    -- ---- pointers

    pointer_given : (t : CType) (b : Bool) (p : Value) → IsAddress p → OfSome (where_true b (pointer_to t)) p
    pointer_given t b p h = where_true_fits (λ u. OfType u p) b (pointer_to t) (λ e. type_of_address tt (more_of-CType t end_of-CType) p h)

    -- what a moved pointer's type tells of its operands
    moved_parts : (layouts : List Layout) (size : ℕ) (a b : Option CType) → is_some (moved_type layouts size a b) ≡ true → (has_pointer_type a ≡ true) × (has_integer_type b ≡ true) × ((p : Value) → IsAddress p → OfSome (moved_type layouts size a b) p)
    moved_parts layouts size (Some (type.Pointer' p (more_of-CType t end_of-CType))) b h =
        let c = some_tells _ (type.Pointer' p (more_of-CType t end_of-CType)) h in
        (refl, right_of_and (size == cells layouts t) _ (right_of_and (not (is_void t)) _ c), λ v x. where_true_fits (λ u. OfType u v) _ (type.Pointer' p (more_of-CType t end_of-CType)) (λ e. type_of_address p (more_of-CType t end_of-CType) v x))
    moved_parts layouts size None b h = false_is_not_true h
    moved_parts layouts size (Some type.Void) b h = false_is_not_true h
    moved_parts layouts size (Some (type.Int k)) b h = false_is_not_true h
    moved_parts layouts size (Some (type.Array' p t n)) b h = false_is_not_true h
    moved_parts layouts size (Some (type.Struct n)) b h = false_is_not_true h

    move_takes : (b c : _) (e g : Expr) (size : ℕ) (side : Side) → Evaluates q f (Move' b (more_of-Expr e end_of-Expr) c (more_of-Expr g end_of-Expr) size side) takes → Evaluates q f e (OperandTakes q f takes (pending.MoveRight size side g))
    move_takes b c e g size PointerFirst h =
        let t = moved_parts q.layouts size (ty e) (ty g) h.0 in
        (pointer_is_there (ty e) t.0, λ v x. (integer_is_there (ty g) t.1, λ w y. ((of_pointer (ty e) v t.0 x.0, of_integer (ty g) w t.1 y.0), λ p i. h.1 p (t.2 p i, λ n. false_is_not_true n))))
    move_takes b c e g size PointerLast h =
        let t = moved_parts q.layouts size (ty g) (ty e) h.0 in
        (integer_is_there (ty e) t.1, λ v x. (pointer_is_there (ty g) t.0, λ w y. ((of_pointer (ty g) w t.0 y.0, of_integer (ty e) v t.1 x.0), λ p i. h.1 p (t.2 p i, λ n. false_is_not_true n))))
    move_takes b c e g size Minus h =
        let t = moved_parts q.layouts size (ty e) (ty g) h.0 in
        (pointer_is_there (ty e) t.0, λ v x. (integer_is_there (ty g) t.1, λ w y. ((of_pointer (ty e) v t.0 x.0, of_integer (ty g) w t.1 y.0), λ p i. h.1 p (t.2 p i, λ n. false_is_not_true n))))

    difference_parts : (layouts : List Layout) (unit : ℕ) (a b : Option CType) → is_some (difference_type layouts unit a b) ≡ true → (has_pointer_type a ≡ true) × (is_some b ≡ true) × ((w : Value) → OfSome b w → IsAddress w) × ((z : ℤ) → InRange kind.Long z → OfSome (difference_type layouts unit a b) (value.Int z))
    difference_parts layouts unit (Some (type.Pointer' p (more_of-CType t end_of-CType))) b h =
        let c = some_tells _ (type.Int kind.Long) h in
        let this = right_of_and (unit == cells layouts t) _ (right_of_and (not (is_void t)) _ c) in
        (refl, this_is_there (type.Pointer' p (more_of-CType t end_of-CType)) b this, λ w x. address_of_type p (more_of-CType t end_of-CType) w (of_this (type.Pointer' p (more_of-CType t end_of-CType)) b w refl this x), λ z r. kind_given kind.Long _ z r)
    difference_parts layouts unit None b h = false_is_not_true h
    difference_parts layouts unit (Some type.Void) b h = false_is_not_true h
    difference_parts layouts unit (Some (type.Int k)) b h = false_is_not_true h
    difference_parts layouts unit (Some (type.Array' p t n)) b h = false_is_not_true h
    difference_parts layouts unit (Some (type.Struct n)) b h = false_is_not_true h

    difference_takes : (b c : _) (e g : Expr) (unit : ℕ) → Evaluates q f (Difference' b (more_of-Expr e end_of-Expr) c (more_of-Expr g end_of-Expr) unit) takes → Evaluates q f e (OperandTakes q f takes (pending.DifferenceRight unit g))
    difference_takes b c e g unit h =
        let t = difference_parts q.layouts unit (ty e) (ty g) h.0 in
        (pointer_is_there (ty e) t.0, λ v x. (t.1, λ w y. ((of_pointer (ty e) v t.0 x.0, t.2 w y.0), λ z r. h.1 (value.Int z) (t.3 z r, λ n. false_is_not_true n))))

    malloc_takes : (b : _) (e : Expr) (t : CType) → Evaluates q f (Malloc' b (more_of-Expr e end_of-Expr) t) takes → Evaluates q f e (OperandTakes q f takes (pending.Allocate t))
    malloc_takes b e t h = (this_is_there (type.Int kind.ULong) (ty e) (left_of_and (has_kind kind.ULong (ty e)) _ (some_tells _ (pointer_to t) h.0)), λ v x p i. h.1 p (pointer_given t _ p i, λ n. false_is_not_true n))

    free_takes : (b : _) (e : Expr) → Evaluates q f (Free' b (more_of-Expr e end_of-Expr)) takes → Evaluates q f e (OperandTakes q f takes pending.Release)
    free_takes b e h =
        let t = some_tells (has_pointer_type (ty e)) type.Void h.0 in
        (pointer_is_there (ty e) t, λ v x. (of_pointer (ty e) v t x.0, h.1 (value.Int (pos 0)) (where_true_fits (λ t. OfType t (value.Int (pos 0))) _ type.Void (λ e. tt), λ n. false_is_not_true n)))

    put_takes : (b : _) (e : Expr) → Evaluates q f (PutChar' b (more_of-Expr e end_of-Expr)) takes → Evaluates q f e (λ v. TakesKind kind.Int takes)
    put_takes b e h = (this_is_there (type.Int kind.Int) (ty e) (some_tells _ (type.Int kind.Int) h.0), λ v x z r. h.1 (value.Int z) (kind_given kind.Int _ z r, λ n. false_is_not_true n))

    -- ---- accesses

    abbrev Locates : Place_ → (Lvalue → Type 0) → Type 0
    Locates p finds = IsTypablePlace q f p × ((l : Lvalue) → MayDesignate q f p l → finds l)

    load_takes : (p : Place_) (t : CType) → Evaluates q f (Load p t) takes → Locates p (AccessTakes q f takes (pending.LoadAt t))
    load_takes p t h =
        let c = some_tells _ t h.0 in
        let here = this_is_there t (typ p) (right_of_and (is_scalar t) _ c) in
        (here, λ l x. (place_of (is_register p) (typ p) l here x, λ v g. h.1 v (where_true_fits (λ u. OfType u v) _ t (λ e. of_cell t v g), λ n. false_is_not_true n)))

    address_takes : (p : Place_) (t : CType) → Evaluates q f (Address p t) takes → Locates p (AccessTakes q f takes pending.AddressOf)
    address_takes p t h =
        let c = some_tells _ (pointer_to t) h.0 in
        (there (typ p) (right_of_and (not (is_register p)) _ c), λ l x. taken l (typ p) (there (typ p) (right_of_and (not (is_register p)) _ c)) (not_true (is_register p) (left_of_and (not (is_register p)) _ c)) x)
      where
        there : (o : Option CType) → is_addressed_at t o ≡ true → is_some o ≡ true
        there None e = e
        there (Some u) e = refl

        taken : (l : Lvalue) (o : Option CType) → is_some o ≡ true → is_register p ≡ false → WhereSome (λ u. Designates (is_register p) u l) o → AccessTakes q f takes pending.AddressOf l
        taken (At v) (Some u) s r x = h.1 v (pointer_given t _ v x, λ n. false_is_not_true n)
        taken (InRegister i) (Some u) s r x = false_is_not_true (sym r ∙ x.0)
        taken l None s r x = false_is_not_true s

    assign_takes : (p : Place_) (t : CType) (b : _) (e : Expr) → Evaluates q f (Assign' p t b (more_of-Expr e end_of-Expr)) takes → Locates p (AccessTakes q f takes (pending.AssignRight t e))
    assign_takes p t b e h =
        let c = some_tells _ t h.0 in
        let here = this_is_there t (typ p) (left_of_and (has_this_type t (typ p)) _ c) in
        let taken = right_of_and (has_this_type t (typ p)) _ c in (
          here,
          λ l x. (
            place_of (is_register p) (typ p) l here x,
            (
              taken_is_there t e taken,
              λ v y.
                  let g = taken_of t e (ty e) v taken y.0 y.1 in
                  (g, h.1 v (where_true_fits (λ u. OfType u v) _ t (λ e. of_cell t v g), λ n. false_is_not_true n)),
            ),
          ),
        )

    -- the operation of a compound assignment: its place, and its right side
    operation_parts : (layouts : List Layout) (t : CType) (u : UpdateOp) (a : Option CType) → is_operation layouts t u a ≡ true → (is_some a ≡ true) × ((old : Value) → InCell t old → UpdatedFits t u old) × ((v : Value) → OfSome a v → UpdateFits u v)
    operation_parts layouts (type.Int l) (Integer o k) a h = by (is_shift o) refl h
      where
        fits : (c : Bool) → is_shift o ≡ c → cond c (has_promoted_kind a) (has_kind k a) ≡ true → is_promoted k ≡ true → (is_some a ≡ true) × ((old : Value) → InCell (type.Int l) old → UpdatedFits (type.Int l) (Integer o k) old) × ((v : Value) → OfSome a v → UpdateFits (Integer o k) v)
        fits c s r p =
            let right = ap (λ c. cond c (has_promoted_kind a) (has_kind k a)) s ∙ r in
            (right_is_there o k a right, (λ old g. (l, refl)), λ v g. (p, right_operand o k a v right g))

        by : (c : Bool) → is_shift o ≡ c → cond c (same_int_kind k (promoted l) && has_promoted_kind a) (same_int_kind k (common l k) && has_kind k a) ≡ true → (is_some a ≡ true) × ((old : Value) → InCell (type.Int l) old → UpdatedFits (type.Int l) (Integer o k) old) × ((v : Value) → OfSome a v → UpdateFits (Integer o k) v)
        by true s h = fits true s (right_of_and (same_int_kind k (promoted l)) _ h) (same_promoted k (promoted l) (left_of_and (same_int_kind k (promoted l)) _ h) (promoted_is l))
        by false s h = fits false s (right_of_and (same_int_kind k (common l k)) _ h) (same_promoted k (common l k) (left_of_and (same_int_kind k (common l k)) _ h) (common_is l k))
    operation_parts layouts (type.Pointer' p (more_of-CType t end_of-CType)) (Forward size) a h =
        let m = moved_parts layouts size (Some (type.Pointer' p (more_of-CType t end_of-CType))) a h in
        (integer_is_there a m.1, (λ old g. address_of_type p (more_of-CType t end_of-CType) old g), λ v g. of_integer a v m.1 g)
    operation_parts layouts (type.Pointer' p (more_of-CType t end_of-CType)) (Backward size) a h =
        let m = moved_parts layouts size (Some (type.Pointer' p (more_of-CType t end_of-CType))) a h in
        (integer_is_there a m.1, (λ old g. address_of_type p (more_of-CType t end_of-CType) old g), λ v g. of_integer a v m.1 g)
    operation_parts layouts (type.Pointer' p t) (Integer o k) a h = false_is_not_true h
    operation_parts layouts (type.Int l) (Forward size) a h = false_is_not_true h
    operation_parts layouts (type.Int l) (Backward size) a h = false_is_not_true h
    operation_parts layouts type.Void (Integer o k) a h = false_is_not_true h
    operation_parts layouts type.Void (Forward size) a h = false_is_not_true h
    operation_parts layouts type.Void (Backward size) a h = false_is_not_true h
    operation_parts layouts (type.Array' p t n) (Integer o k) a h = false_is_not_true h
    operation_parts layouts (type.Array' p t n) (Forward size) a h = false_is_not_true h
    operation_parts layouts (type.Array' p t n) (Backward size) a h = false_is_not_true h
    operation_parts layouts (type.Struct n) (Integer o k) a h = false_is_not_true h
    operation_parts layouts (type.Struct n) (Forward size) a h = false_is_not_true h
    operation_parts layouts (type.Struct n) (Backward size) a h = false_is_not_true h

    update_takes : (p : Place_) (t : CType) (u : UpdateOp) (b : _) (e : Expr) (w : Answer) → Evaluates q f (Update' p t u b (more_of-Expr e end_of-Expr) w) takes → Locates p (AccessTakes q f takes (pending.UpdateOld t u e w))
    update_takes p t u b e w h =
        let c = some_tells _ t h.0 in
        let here = this_is_there t (typ p) (left_of_and (has_this_type t (typ p)) _ c) in
        let op = operation_parts q.layouts t u (ty e) (left_of_and (is_operation q.layouts t u (ty e)) _ (right_of_and (has_this_type t (typ p)) _ c)) in (
          here,
          λ l x.
              let place = place_of (is_register p) (typ p) l here x in
              (place, λ old g. (place, g, op.1 old g, (op.0, λ v y. op.2 v y.0), λ v k. h.1 v (where_true_fits (λ u. OfType u v) _ t (λ e. of_cell t v k), λ n. false_is_not_true n))),
        )

    -- ---- calls

    typable_row : {n : _} (es : Row_of-Expr n) (ts : List CType) → typing.are_arguments q (code_setting q f) es ts ≡ true → AllByRecursion (IsTypable q f) (items-the_row-Expr n es)
    typable_row end_of-Expr ts h = tt
    typable_row (more_of-Expr e es) [] h = false_is_not_true h
    typable_row (more_of-Expr e es) (t ∷ ts) h = (taken_is_there t e (left_of_and (is_taken_by t e (ty e)) _ h), typable_row es ts (right_of_and (is_taken_by t e (ty e)) _ h))

    arguments_row : {n : _} (es : Row_of-Expr n) (ts : List CType) → typing.are_arguments q (code_setting q f) es ts ≡ true → (vs : List Value) → MayGiveAll q f (items-the_row-Expr n es) vs → InCells ts vs
    arguments_row end_of-Expr [] h [] g = tt
    arguments_row end_of-Expr [] h (v ∷ vs) g = absurd g
    arguments_row end_of-Expr (t ∷ ts) h vs g = false_is_not_true h
    arguments_row (more_of-Expr e es) [] h vs g = false_is_not_true h
    arguments_row (more_of-Expr e es) (t ∷ ts) h [] g = absurd g
    arguments_row (more_of-Expr e es) (t ∷ ts) h (v ∷ vs) g = (taken_of t e (ty e) v (left_of_and (is_taken_by t e (ty e)) _ h) g.0.0 g.0.1, arguments_row es ts (right_of_and (is_taken_by t e (ty e)) _ h) vs g.1)

    invoke_takes : (g : ℕ) {n : _} (es : Row_of-Expr n) → is_some (call_type (called q g) (typing.are_arguments q (code_setting q f) es)) ≡ true → ((v : Value) → OfSome (call_type (called q g) (typing.are_arguments q (code_setting q f) es)) v → takes v) → CallTakes q f g (items-the_row-Expr n es) (λ vs. vs) takes
    invoke_takes g {n} es h k = by (called q g) refl h k
      where
        by : (o : Option Function) → called q g ≡ o → is_some (call_type o (typing.are_arguments q (code_setting q f) es)) ≡ true → ((v : Value) → OfSome (call_type o (typing.are_arguments q (code_setting q f) es)) v → takes v) → CallTakes q f g (items-the_row-Expr n es) (λ vs. vs) takes
        by None e h k = false_is_not_true h
        by (Some callee) e h k =
            let fit = some_tells (typing.are_arguments q (code_setting q f) es (parameter_types callee)) callee.result h in
            (typable_row es (parameter_types callee) fit, callee, e, arguments_row es (parameter_types callee) fit, λ v x. k v (where_true_fits (λ t. OfType t v) _ callee.result (λ e. x)))

  -- ---- lvalues

  module _ (finds : Lvalue → Type 0) where
    abbrev Finds : Place_ → Type 0
    Finds p = IsTypablePlace q f p × ((l : Lvalue) → MayDesignate q f p l → finds l)

    object_given : (own : Bool) (o : Option CType) (p : Value) → IsAddress p → WhereSome (λ t. Designates own t (At p)) o
    object_given own None p h = tt
    object_given own (Some t) p h = h

    deref_takes : (b : _) (e : Expr) → Finds (Deref' b (more_of-Expr e end_of-Expr)) → Evaluates q f e (DesignationTakes q finds pending.Dereference)
    deref_takes b e h = (there (ty e) h.0, λ v x. h.1 (At v) (object_given false (pointed_to (ty e)) v (address (ty e) v h.0 x.0)))
      where
        there : (o : Option CType) → is_some (pointed_to o) ≡ true → is_some o ≡ true
        there None h = h
        there (Some t) h = refl

        address : (o : Option CType) (v : Value) → is_some (pointed_to o) ≡ true → OfSome o v → IsAddress v
        address (Some (type.Pointer' p (more_of-CType t end_of-CType))) v h g = address_of_type p (more_of-CType t end_of-CType) v g
        address None v h g = false_is_not_true h
        address (Some type.Void) v h g = false_is_not_true h
        address (Some (type.Int k)) v h g = false_is_not_true h
        address (Some (type.Array' p t n)) v h g = false_is_not_true h
        address (Some (type.Struct n)) v h g = false_is_not_true h

    -- what has members or elements is an object in memory
    struct_object : (layouts : List Layout) (o : ℕ) (own : Bool) (a : Option CType) (l : Lvalue) → is_some (typing.type_of_member layouts o a) ≡ true → WhereSome (λ t. Designates own t l) a → IsObject l
    struct_object layouts o own (Some (type.Struct n)) l h g = object_of own (type.Struct n) l refl g
    struct_object layouts o own None l h g = false_is_not_true h
    struct_object layouts o own (Some type.Void) l h g = false_is_not_true h
    struct_object layouts o own (Some (type.Int k)) l h g = false_is_not_true h
    struct_object layouts o own (Some (type.Pointer' p t)) l h g = false_is_not_true h
    struct_object layouts o own (Some (type.Array' p t n)) l h g = false_is_not_true h

    member_is_there : (layouts : List Layout) (o : ℕ) (a : Option CType) → is_some (typing.type_of_member layouts o a) ≡ true → is_some a ≡ true
    member_is_there layouts o None h = h
    member_is_there layouts o (Some t) h = refl

    member_takes : (b : _) (p : Place_) (o : ℕ) → Finds (Member' b (more_of-Place_ p end_of-Place_) o) → IsTypablePlace q f p × ((l : Lvalue) → MayDesignate q f p l → SelectionTakes q f finds (pending.MemberAt o) l)
    member_takes b p o h = (member_is_there q.layouts o (typ p) h.0, λ l x. (struct_object q.layouts o (is_register p) (typ p) l h.0 x, λ v g. h.1 (At v) (object_given false (typing.type_of_member q.layouts o (typ p)) v g)))

    array_object : (layouts : List Layout) (size : ℕ) (own : Bool) (a i : Option CType) (l : Lvalue) → is_some (typing.type_of_element layouts size a i) ≡ true → WhereSome (λ t. Designates own t l) a → IsObject l
    array_object layouts size own a i l h g = by a (if_tells (has_integer_type i) _ h).1 g
      where
        by : (a : Option CType) → is_some (Rattle.std.specs.Prelude.option_and_then (λ t. element_type layouts t size) a) ≡ true → WhereSome (λ t. Designates own t l) a → IsObject l
        by (Some (type.Array' p (more_of-CType t end_of-CType) n)) h g = object_of own (type.Array' p (more_of-CType t end_of-CType) n) l refl g
        by None h g = false_is_not_true h
        by (Some type.Void) h g = false_is_not_true h
        by (Some (type.Int k)) h g = false_is_not_true h
        by (Some (type.Pointer' p t)) h g = false_is_not_true h
        by (Some (type.Struct n)) h g = false_is_not_true h

    element_is_there : (layouts : List Layout) (size : ℕ) (a i : Option CType) → is_some (typing.type_of_element layouts size a i) ≡ true → is_some a ≡ true
    element_is_there layouts size (Some t) i h = refl
    element_is_there layouts size None i h = (if_tells (has_integer_type i) None h).1

    element_takes : (b c : _) (p : Place_) (e : Expr) (size : ℕ) → Finds (Index' b (more_of-Place_ p end_of-Place_) c (more_of-Expr e end_of-Expr) size) → IsTypablePlace q f p × ((l : Lvalue) → MayDesignate q f p l → SelectionTakes q f finds (pending.ElementAt e size) l)
    element_takes b c p e size h =
        let integer = (if_tells (has_integer_type (ty e)) _ h.0).0 in (
          element_is_there q.layouts size (typ p) (ty e) h.0,
          λ l x.
              (array_object q.layouts size (is_register p) (typ p) (ty e) l h.0 x, (integer_is_there (ty e) integer, λ i y. of_integer (ty e) i integer y.0), λ v g. h.1 (At v) (object_given false (typing.type_of_element q.layouts size (typ p) (ty e)) v g)),
        )

    -- registers are scalars
    abbrev pub ScalarRegisters : Type 0
    ScalarRegisters = (i : ℕ) → WhereSome (λ t. is_scalar t ≡ true) (option_map (λ d. d.ctype) (slice_get f.registers i))

    own_takes : ScalarRegisters → (activation : ℕ) (k : NameKind) (i : ℕ) → Finds (Own (record { kind = k; index = i })) → finds (designated activation (record { kind = k; index = i }) 0)
    own_takes scalars activation names.Global i h = h.1 _ (all_some _ (variable_type (code_setting q f) (record { kind = names.Global; index = i })) (λ t. (omega arith, refl)))
    own_takes scalars activation names.Local i h = h.1 _ (all_some _ (variable_type (code_setting q f) (record { kind = names.Local; index = i })) (λ t. (omega arith, refl)))
    own_takes scalars activation names.Register i h = h.1 _ (by (option_map (λ d. d.ctype) (slice_get f.registers i)) (scalars i))
      where
        by : (o : Option CType) → WhereSome (λ t. is_scalar t ≡ true) o → WhereSome (λ t. Designates true t (InRegister i)) o
        by None h = tt
        by (Some t) h = (refl, h)
    own_takes scalars activation names.Heap i h = false_is_not_true h.0
    own_takes scalars activation names.GhostGlobal i h = false_is_not_true h.0
    own_takes scalars activation names.GhostLocal i h = false_is_not_true h.0

-- ---- the turn

module _ (q : Core) (f : Function) (fs : List Function) where
  abbrev Fits : Configuration → Type 0
  Fits m = StateFits q (f ∷ fs) m.memory m.allocated m.context.registers m.context.callers

  pub evaluated_typed : (e : Expr) (m : Configuration) → Fits m → Evaluates q f e (TakesValue q (f ∷ fs) m.context.arguments m.work) → IsTyped q (f ∷ fs) (evaluated e (ready m))
  evaluated_typed (Literal k z) m s h =
      let c = some_tells (is_promoted k && (is_in_range k z && int_le (pos 0) z)) (type.Int k) h.0 in
      (s, h.1 (value.Int z) (where_true_fits (λ t. OfType t (value.Int z)) _ (type.Int k) (λ e. (left_of_and (is_in_range k z) _ (right_of_and (is_promoted k) _ c), tt)), λ n. false_is_not_true n))
  evaluated_typed Null m s h = (s, h.1 value.Null ((tt, tt), λ n. refl))
  evaluated_typed (Load p t) m s h = (s, load_takes q f _ p t h)
  evaluated_typed (Address p t) m s h = (s, address_takes q f _ p t h)
  evaluated_typed (Convert' k b (more_of-Expr e end_of-Expr)) m s h = (s, convert_takes q f _ k b e h)
  evaluated_typed (Unary' o k b (more_of-Expr e end_of-Expr)) m s h = (s, unary_takes q f _ o k b e h)
  evaluated_typed (Binary' o k b (more_of-Expr e end_of-Expr) c (more_of-Expr g end_of-Expr)) m s h = (s, binary_takes q f _ o k b c e g h)
  evaluated_typed (Compare' o b (more_of-Expr e end_of-Expr) c (more_of-Expr g end_of-Expr)) m s h = (s, compare_takes q f _ o b c e g h)
  evaluated_typed (Move' b (more_of-Expr e end_of-Expr) c (more_of-Expr g end_of-Expr) size side) m s h = (s, move_takes q f _ b c e g size side h)
  evaluated_typed (Difference' b (more_of-Expr e end_of-Expr) c (more_of-Expr g end_of-Expr) unit) m s h = (s, difference_takes q f _ b c e g unit h)
  evaluated_typed (Not' b (more_of-Expr e end_of-Expr)) m s h = (s, not_takes q f _ b e h)
  evaluated_typed (Both' b (more_of-Expr e end_of-Expr) c (more_of-Expr g end_of-Expr)) m s h = (s, both_takes q f _ b c e g h)
  evaluated_typed (Either' b (more_of-Expr e end_of-Expr) c (more_of-Expr g end_of-Expr)) m s h = (s, either_takes q f _ b c e g h)
  evaluated_typed (Choose' b (more_of-Expr e end_of-Expr) c (more_of-Expr g end_of-Expr) d (more_of-Expr k end_of-Expr)) m s h = (s, choose_takes q f _ b c d e g k h)
  evaluated_typed (Assign' p t b (more_of-Expr e end_of-Expr)) m s h = (s, assign_takes q f _ p t b e h)
  evaluated_typed (Update' p t u b (more_of-Expr e end_of-Expr) w) m s h = (s, update_takes q f _ p t u b e w h)
  evaluated_typed (Invoke' g b es) m s h = (s, invoke_takes q f _ g es h.0 (λ v x. h.1 v (x, λ n. false_is_not_true n)))
  evaluated_typed GetChar m s h = (s, λ z r. h.1 (value.Int z) ((r, tt), λ n. false_is_not_true n))
  evaluated_typed (PutChar' b (more_of-Expr e end_of-Expr)) m s h = (s, put_takes q f _ b e h)
  evaluated_typed (Malloc' b (more_of-Expr e end_of-Expr) t) m s h = (s, malloc_takes q f _ b e t h)
  evaluated_typed (Free' b (more_of-Expr e end_of-Expr)) m s h = (s, free_takes q f _ b e h)
  evaluated_typed (Discard' b (more_of-Expr e end_of-Expr)) m s h = (s, discard_takes q f _ b e h)

  pub located_typed : ((i : ℕ) → WhereSome (λ t. is_scalar t ≡ true) (option_map (λ d. d.ctype) (slice_get f.registers i))) → (p : Place_) (m : Configuration) → Fits m → IsTypablePlace q f p × ((l : Lvalue) → MayDesignate q f p l → TakesLvalue q (f ∷ fs) m.context.arguments m.work l) → IsTyped q (f ∷ fs) (located p (ready m))
  located_typed scalars (Own v) m s h = (s, own_takes q f _ scalars m.context.here.activation v.kind v.index h)
  located_typed scalars (Deref' b (more_of-Expr e end_of-Expr)) m s h = (s, deref_takes q f _ b e h)
  located_typed scalars (Member' b (more_of-Place_ p end_of-Place_) o) m s h = (s, member_takes q f _ b p o h)
  located_typed scalars (Index' b (more_of-Place_ p end_of-Place_) c (more_of-Expr e end_of-Expr) size) m s h = (s, element_takes q f _ b c p e size h)
