-- What the type of an expression or lvalue tells of the types of its parts.
use Rattle.std.proofs.Common.{◌≡◌, ◌==◌, ℕ, Bool, true, false, cond, ◌&&◌, ◌||◌, not, List, Option, Some, None, refl, sym, ap, subst, ◌∙◌}
use Rattle.std.specs.Prelude.{is_some}
use Rattle.step_meaning.specs.declared.value.IntKind.{IntKind}
use Rattle.step_meaning.specs.declared.value.IntKind.TheVariants as kind
use Rattle.step_meaning.specs.declared.value.CType.{CType, end_of-CType, more_of-CType}
use Rattle.step_meaning.specs.declared.value.CType.TheVariants as type
use Rattle.step_meaning.specs.declared.expr.IntOp.{IntOp}
use Rattle.step_meaning.specs.declared.expr.CompareOp.{CompareOp}
use Rattle.step_meaning.specs.declared.expr.Side.{Side}
use Rattle.step_meaning.specs.declared.expr.Side.TheVariants.{PointerFirst, PointerLast, Minus}
use Rattle.step_meaning.specs.declared.expr.UpdateOp.{UpdateOp}
use Rattle.step_meaning.specs.declared.expr.UpdateOp.TheVariants.{Integer, Forward, Backward}
use Rattle.step_meaning.specs.declared.expr.Expr.{Expr}
use Rattle.step_meaning.specs.declared.program.Layout.{Layout}
use Rattle.step_meaning.specs.declared.program.Function.{Function}
use Rattle.step_meaning.specs.Types.{where_true}
use Rattle.step_meaning.specs.Conversions.{same_int_kind, is_promoted}
use Rattle.step_meaning.specs.TypeRules.{cells, is_scalar, member_type, element_type}
use Rattle.step_meaning.specs.ExpressionTypes.{pointer_to, is_void, has_this_type, has_kind, has_integer_type, has_promoted_kind, has_pointer_type, has_scalar_type, is_null_constant, converted_type, is_shift, binary_type, are_of_one_kind, are_of_one_pointer, is_pointer_beside_null, is_equality, are_comparable, moved_type, move_type, difference_type, are_void, choice_type, is_taken_by, is_operation, pointed_to, type_of_member, type_of_element, is_addressed_at, parameter_types, call_type}
use Rattle.step_meaning.proofs.Ranges.{false_is_not_true, left_of_and, right_of_and}
use Rattle.step_meaning.proofs.SameTypes.{same_type_equal}

-- ---- tests

pub some_is : {A : Type 0} {a b : A} → Some a ≡ Some b → a ≡ b
some_is e = cc

pub none_is_not : {A B : Type 0} {a : A} → None ≡ Some a → B
none_is_not e = absurd (no e)
  where
    no : {A : Type 0} {a : A} → None ≡ Some a → ⊥
    no e = cc

pub not_false : (b : Bool) → not b ≡ true → b ≡ false
not_false true e = false_is_not_true e
not_false false e = refl

pub where_true_is : {A : Type 0} (b : Bool) (t u : A) → where_true b t ≡ Some u → (b ≡ true) × (t ≡ u)
where_true_is true t u e = (refl, some_is e)
where_true_is false t u e = none_is_not e

pub this_type : (t : CType) (o : Option CType) → has_this_type t o ≡ true → o ≡ Some t
this_type t None e = false_is_not_true e
this_type t (Some u) e = ap Some (sym (same_type_equal t u e))

pub integer_kind : (o : Option CType) → has_integer_type o ≡ true → (k : IntKind) × (o ≡ Some (type.Int k))
integer_kind (Some (type.Int k)) e = (k, refl)
integer_kind _ e = false_is_not_true e

pub promoted_kind : (o : Option CType) → has_promoted_kind o ≡ true → (k : IntKind) × (o ≡ Some (type.Int k))
promoted_kind (Some (type.Int k)) e = (k, refl)
promoted_kind _ e = false_is_not_true e

pub scalar_type : (o : Option CType) → has_scalar_type o ≡ true → (t : CType) × (o ≡ Some t) × (is_scalar t ≡ true)
scalar_type None e = false_is_not_true e
scalar_type (Some t) e = (t, refl, e)

pub pointer_type : (o : Option CType) → has_pointer_type o ≡ true → (t : CType) × (o ≡ Some t) × (is_scalar t ≡ true)
pointer_type (Some (type.Pointer' b t)) e = (type.Pointer' b t, refl, refl)
pointer_type _ e = false_is_not_true e

pub some_type : (o : Option CType) → is_some o ≡ true → (t : CType) × (o ≡ Some t)
some_type None e = false_is_not_true e
some_type (Some t) e = (t, refl)

-- ---- lvalues

pub addressed : (t : CType) (o : Option CType) → is_addressed_at t o ≡ true → (u : CType) × (o ≡ Some u)
addressed t None e = false_is_not_true e
addressed t (Some u) e = (u, refl)

-- what is pointed to
pub pointed : (o : Option CType) (t : CType) → pointed_to o ≡ Some t → (b : Unit {0}) × (o ≡ Some (type.Pointer' b (more_of-CType t end_of-CType))) × (is_void t ≡ false)
pointed (Some (type.Pointer' b (more_of-CType t end_of-CType))) u e =
    let h = where_true_is (not (is_void t)) t u e in
    (b, ap (λ t. Some (type.Pointer' b (more_of-CType t end_of-CType))) h.1, subst (λ t. is_void t ≡ false) h.1 (not_false (is_void t) h.0))
pointed None u e = none_is_not e
pointed (Some type.Void) u e = none_is_not e
pointed (Some (type.Int k)) u e = none_is_not e
pointed (Some (type.Array' b t n)) u e = none_is_not e
pointed (Some (type.Struct n)) u e = none_is_not e

pub member_of : (layouts : List Layout) (o : ℕ) (a : Option CType) (t : CType) → type_of_member layouts o a ≡ Some t → (u : CType) × (a ≡ Some u) × (member_type layouts u o ≡ Some t)
member_of layouts o None t e = none_is_not e
member_of layouts o (Some u) t e = (u, refl, e)

pub element_in : (layouts : List Layout) (size : ℕ) (a i : Option CType) (t : CType) → type_of_element layouts size a i ≡ Some t
    → (u : CType) × (k : IntKind) × (a ≡ Some u) × (i ≡ Some (type.Int k)) × (element_type layouts u size ≡ Some t)
element_in layouts size None i t e = none (has_integer_type i) e
  where
    none : {B : Type 0} (b : Bool) → cond {A = Option CType} b None None ≡ Some t → B
    none true e = none_is_not e
    none false e = none_is_not e
element_in layouts size (Some u) i t e = by (has_integer_type i) refl e
  where
    by : (b : Bool) → has_integer_type i ≡ b → cond b (element_type layouts u size) None ≡ Some t
        → (u' : CType) × (k : IntKind) × (Some u ≡ Some u') × (i ≡ Some (type.Int k)) × (element_type layouts u' size ≡ Some t)
    by true h e = let k = integer_kind i h in (u, k.0, refl, k.1, e)
    by false h e = none_is_not e

-- ---- operators

pub converted_from : (k : IntKind) (a : Option CType) (t : CType) → converted_type k a ≡ Some t → (l : IntKind) × (a ≡ Some (type.Int l)) × (type.Int k ≡ t)
converted_from k (Some (type.Int l)) t e = (l, refl, (where_true_is (not (same_int_kind k l)) (type.Int k) t e).1)
converted_from k None t e = none_is_not e
converted_from k (Some type.Void) t e = none_is_not e
converted_from k (Some (type.Pointer' b u)) t e = none_is_not e
converted_from k (Some (type.Array' b u n)) t e = none_is_not e
converted_from k (Some (type.Struct n)) t e = none_is_not e

pub operand_kind : (k : IntKind) (a : Option CType) (t : CType) → where_true (is_promoted k && has_kind k a) (type.Int k) ≡ Some t → (a ≡ Some (type.Int k)) × (type.Int k ≡ t)
operand_kind k a t e = let h = where_true_is (is_promoted k && has_kind k a) (type.Int k) t e in (this_type (type.Int k) a (right_of_and _ _ h.0), h.1)

pub operand_kinds : (o : IntOp) (k : IntKind) (a b : Option CType) (t : CType) → binary_type o k a b ≡ Some t → (l : IntKind) × (a ≡ Some (type.Int k)) × (b ≡ Some (type.Int l)) × (type.Int k ≡ t)
operand_kinds o k a b t e =
    let h = where_true_is (is_promoted k && (has_kind k a && cond (is_shift o) (has_promoted_kind b) (has_kind k b))) (type.Int k) t e in
    let r = by (is_shift o) (right_of_and _ _ (right_of_and _ _ h.0)) in
    (r.0, this_type (type.Int k) a (left_of_and _ _ (right_of_and _ _ h.0)), r.1, h.1)
  where
    by : (c : Bool) → cond c (has_promoted_kind b) (has_kind k b) ≡ true → (l : IntKind) × (b ≡ Some (type.Int l))
    by true e = promoted_kind b e
    by false e = (k, this_type (type.Int k) b e)

-- one of two tests is passed
pub either_is : {A : Type 0} (a b : Bool) → (a || b) ≡ true → (a ≡ true → A) → (b ≡ true → A) → A
either_is true b e f g = f refl
either_is false b e f g = g e

-- two operands that are integers or pointers
abbrev pub AreScalars : Option CType → Option CType → Type 0
AreScalars a b = (t : CType) × (u : CType) × (a ≡ Some t) × (b ≡ Some u) × (is_scalar t ≡ true) × (is_scalar u ≡ true)

pub of_one_kind : (a b : Option CType) → are_of_one_kind a b ≡ true → (k : IntKind) × (a ≡ Some (type.Int k)) × (b ≡ Some (type.Int k))
of_one_kind (Some (type.Int k)) b e = (k, refl, this_type (type.Int k) b (right_of_and _ _ e))
of_one_kind _ b e = false_is_not_true e

pub of_one_pointer : (a b : Option CType) → are_of_one_pointer a b ≡ true → (t : CType) × (a ≡ Some t) × (b ≡ Some t) × (is_scalar t ≡ true)
of_one_pointer (Some (type.Pointer' p t)) b e = (type.Pointer' p t, refl, this_type (type.Pointer' p t) b e, refl)
of_one_pointer _ b e = false_is_not_true e

-- an operand that is a null pointer constant points to `void`
abbrev pub NullPoints : Expr → Option CType → Type 0
NullPoints e a = is_null_constant e ≡ true → a ≡ Some (pointer_to type.Void)

beside_null : (e : Expr) (a b : Option CType) → NullPoints e a → is_pointer_beside_null e b ≡ true → AreScalars a b
beside_null e a b n h = let p = pointer_type b (right_of_and _ _ h) in (pointer_to type.Void, p.0, n (left_of_and _ _ h), p.1, refl, p.2)

turned : (a b : Option CType) → AreScalars a b → AreScalars b a
turned a b h = (h.1, h.0, h.3, h.2, h.5, h.4)

pub comparable_types : (c : CompareOp) (e f : Expr) (a b : Option CType) → NullPoints e a → NullPoints f b → are_comparable c e a f b ≡ true → AreScalars a b
comparable_types c e f a b n m h =
    either_is _ _ h (λ h. let k = of_one_kind a b h in (type.Int k.0, type.Int k.0, k.1, k.2, refl, refl)) (λ h.
    either_is _ _ h (λ h. let p = of_one_pointer a b h in (p.0, p.0, p.1, p.2, p.3, p.3)) (λ h.
    either_is _ _ (right_of_and (is_equality c) _ h) (λ h. beside_null e a b n h) (λ h. turned b a (beside_null f b a m h))))

-- a pointer that is moved, and the integer beside it
pub moved_pointer : (layouts : List Layout) (size : ℕ) (a b : Option CType) (t : CType) → moved_type layouts size a b ≡ Some t → (k : IntKind) × (a ≡ Some t) × (b ≡ Some (type.Int k)) × (is_scalar t ≡ true)
moved_pointer layouts size (Some (type.Pointer' p (more_of-CType u end_of-CType))) b t e =
    let h = where_true_is (not (is_void u) && (size == cells layouts u && has_integer_type b)) (type.Pointer' p (more_of-CType u end_of-CType)) t e in
    let k = integer_kind b (right_of_and _ _ (right_of_and _ _ h.0)) in
    (k.0, ap Some h.1, k.1, subst (λ t. is_scalar t ≡ true) h.1 refl)
moved_pointer layouts size None b t e = none_is_not e
moved_pointer layouts size (Some type.Void) b t e = none_is_not e
moved_pointer layouts size (Some (type.Int k)) b t e = none_is_not e
moved_pointer layouts size (Some (type.Array' p u n)) b t e = none_is_not e
moved_pointer layouts size (Some (type.Struct n)) b t e = none_is_not e

-- the operands of a sum with a pointer, as they stand
pub moved_operands : (layouts : List Layout) (size : ℕ) (side : Side) (a b : Option CType) (t : CType) → move_type layouts size side a b ≡ Some t → AreScalars a b
moved_operands layouts size PointerFirst a b t e = let h = moved_pointer layouts size a b t e in (t, type.Int h.0, h.1, h.2, h.3, refl)
moved_operands layouts size PointerLast a b t e = let h = moved_pointer layouts size b a t e in (type.Int h.0, t, h.2, h.1, refl, h.3)
moved_operands layouts size Minus a b t e = let h = moved_pointer layouts size a b t e in (t, type.Int h.0, h.1, h.2, h.3, refl)

pub pointers_apart : (layouts : List Layout) (unit : ℕ) (a b : Option CType) (t : CType) → difference_type layouts unit a b ≡ Some t → AreScalars a b × (type.Int kind.Long ≡ t)
pointers_apart layouts unit (Some (type.Pointer' p (more_of-CType u end_of-CType))) b t e =
    let h = where_true_is (not (is_void u) && (unit == cells layouts u && has_this_type (type.Pointer' p (more_of-CType u end_of-CType)) b)) (type.Int kind.Long) t e in
    ((type.Pointer' p (more_of-CType u end_of-CType), type.Pointer' p (more_of-CType u end_of-CType), refl, this_type (type.Pointer' p (more_of-CType u end_of-CType)) b (right_of_and _ _ (right_of_and _ _ h.0)), refl, refl), h.1)
pointers_apart layouts unit None b t e = none_is_not e
pointers_apart layouts unit (Some type.Void) b t e = none_is_not e
pointers_apart layouts unit (Some (type.Int k)) b t e = none_is_not e
pointers_apart layouts unit (Some (type.Array' p u n)) b t e = none_is_not e
pointers_apart layouts unit (Some (type.Struct n)) b t e = none_is_not e

-- ---- choices

void_types : (a b : Option CType) → are_void a b ≡ true → (a ≡ Some type.Void) × (b ≡ Some type.Void)
void_types (Some type.Void) (Some type.Void) e = (refl, refl)
void_types _ _ e = false_is_not_true e

-- how the two operands of a choice stand to each other
pub data Chosen (e : Expr) (a : Option CType) (f : Expr) (b : Option CType) (t : CType) : Type 0 where
  -- both have the type of the choice
  OfOneType : a ≡ Some t → b ≡ Some t → is_scalar t ≡ true → Chosen e a f b t
  -- neither has a value
  OfVoid : a ≡ Some type.Void → b ≡ Some type.Void → t ≡ type.Void → Chosen e a f b t
  -- the second is a null pointer constant beside a pointer, or the first is
  NullLast : is_null_constant f ≡ true → a ≡ Some t → is_scalar t ≡ true → has_pointer_type (Some t) ≡ true → Chosen e a f b t
  NullFirst : is_null_constant e ≡ true → b ≡ Some t → is_scalar t ≡ true → has_pointer_type (Some t) ≡ true → Chosen e a f b t

pub choice_is : (e : Expr) (a : Option CType) (f : Expr) (b : Option CType) (t : CType) → choice_type e a f b ≡ Some t → Chosen e a f b t
choice_is e a f b t h = by (are_of_one_kind a b || (are_of_one_pointer a b || (are_void a b || is_pointer_beside_null f a))) refl h
  where
    first : a ≡ Some t → (are_of_one_kind a b || (are_of_one_pointer a b || (are_void a b || is_pointer_beside_null f a))) ≡ true → Chosen e a f b t
    first i c =
        either_is (are_of_one_kind a b) (are_of_one_pointer a b || (are_void a b || is_pointer_beside_null f a)) c (λ c. let k = of_one_kind a b c in let s : t ≡ type.Int k.0 = some_is (sym i ∙ k.1) in OfOneType i (k.2 ∙ ap Some (sym s)) (subst (λ t. is_scalar t ≡ true) (sym s) refl)) (λ c.
        either_is (are_of_one_pointer a b) (are_void a b || is_pointer_beside_null f a) c (λ c. let p = of_one_pointer a b c in let s : t ≡ p.0 = some_is (sym i ∙ p.1) in OfOneType i (p.2 ∙ ap Some (sym s)) (subst (λ t. is_scalar t ≡ true) (sym s) p.3)) (λ c.
        either_is (are_void a b) (is_pointer_beside_null f a) c (λ c. let v = void_types a b c in OfVoid v.0 v.1 (some_is (sym i ∙ v.0))) (λ c.
        let p = pointer_type a (right_of_and (is_null_constant f) (has_pointer_type a) c) in let s : t ≡ p.0 = some_is (sym i ∙ p.1) in
        NullLast (left_of_and (is_null_constant f) (has_pointer_type a) c) i (subst (λ t. is_scalar t ≡ true) (sym s) p.2) (subst (λ o. has_pointer_type o ≡ true) i (right_of_and (is_null_constant f) (has_pointer_type a) c)))))

    second : (c : Bool) → is_pointer_beside_null e b ≡ c → cond c b None ≡ Some t → Chosen e a f b t
    second true c i =
        let p = pointer_type b (right_of_and (is_null_constant e) (has_pointer_type b) c) in let s : t ≡ p.0 = some_is (sym i ∙ p.1) in
        NullFirst (left_of_and (is_null_constant e) (has_pointer_type b) c) i (subst (λ t. is_scalar t ≡ true) (sym s) p.2) (subst (λ o. has_pointer_type o ≡ true) i (right_of_and (is_null_constant e) (has_pointer_type b) c))
    second false c i = none_is_not i

    by : (c : Bool) → (are_of_one_kind a b || (are_of_one_pointer a b || (are_void a b || is_pointer_beside_null f a))) ≡ c → cond c a (cond (is_pointer_beside_null e b) b None) ≡ Some t → Chosen e a f b t
    by true c i = first i c
    by false c i = second (is_pointer_beside_null e b) refl i

-- the operands of a choice have types
pub chosen_types : (e : Expr) (a : Option CType) (f : Expr) (b : Option CType) (t : CType) → NullPoints e a → NullPoints f b → Chosen e a f b t → (u : CType) × (v : CType) × (a ≡ Some u) × (b ≡ Some v)
chosen_types e a f b t n m (OfOneType i j s) = (t, t, i, j)
chosen_types e a f b t n m (OfVoid i j s) = (type.Void, type.Void, i, j)
chosen_types e a f b t n m (NullLast c i s p) = (t, pointer_to type.Void, i, m c)
chosen_types e a f b t n m (NullFirst c i s p) = (pointer_to type.Void, t, n c, i)

-- the condition of a choice
pub choice_condition : (b : Bool) (o : Option CType) (t : CType) → cond b o None ≡ Some t → (b ≡ true) × (o ≡ Some t)
choice_condition true o t e = (refl, e)
choice_condition false o t e = none_is_not e

-- ---- assignments and calls

-- what a place takes has the place's type, or is a null pointer constant for a pointer
pub taken : {A : Type 0} (t : CType) (e : Expr) (a : Option CType) → is_taken_by t e a ≡ true → (a ≡ Some t → is_scalar t ≡ true → A) → (is_null_constant e ≡ true → has_pointer_type (Some t) ≡ true → is_scalar t ≡ true → A) → A
taken t e a h f g = either_is _ _ (right_of_and _ _ h) (λ k. f (this_type t a k) (left_of_and _ _ h)) (λ k. g (left_of_and _ _ k) (right_of_and _ _ k) (left_of_and _ _ h))

pub taken_type : (t : CType) (e : Expr) (a : Option CType) → NullPoints e a → is_taken_by t e a ≡ true → (u : CType) × (a ≡ Some u)
taken_type t e a n h = taken t e a h (λ i s. (t, i)) (λ c p s. (pointer_to type.Void, n c))

moved_by : (layouts : List Layout) (size : ℕ) (t : CType) (a : Option CType) → is_some (moved_type layouts size (Some t) a) ≡ true → (k : IntKind) × (a ≡ Some (type.Int k))
moved_by layouts size t a e = let u = some_type (moved_type layouts size (Some t) a) e in let h = moved_pointer layouts size (Some t) a u.0 u.1 in (h.0, h.2)

-- the operand of an update is an integer
pub operated : (layouts : List Layout) (t : CType) (u : UpdateOp) (a : Option CType) → is_operation layouts t u a ≡ true → (k : IntKind) × (a ≡ Some (type.Int k))
operated layouts (type.Int l) (Integer o k) a e = by (is_shift o) e
  where
    by : (b : Bool) → cond b (same_int_kind k (Rattle.step_meaning.specs.Conversions.promoted l) && has_promoted_kind a) (same_int_kind k (Rattle.step_meaning.specs.Conversions.common l k) && has_kind k a) ≡ true → (k : IntKind) × (a ≡ Some (type.Int k))
    by true e = promoted_kind a (right_of_and _ _ e)
    by false e = (k, this_type (type.Int k) a (right_of_and _ _ e))
operated layouts (type.Int l) (Forward size) a e = moved_by layouts size (type.Int l) a e
operated layouts (type.Int l) (Backward size) a e = moved_by layouts size (type.Int l) a e
operated layouts (type.Pointer' b t) (Forward size) a e = moved_by layouts size (type.Pointer' b t) a e
operated layouts (type.Pointer' b t) (Backward size) a e = moved_by layouts size (type.Pointer' b t) a e
operated layouts (type.Pointer' b t) (Integer o k) a e = false_is_not_true e
operated layouts type.Void (Forward size) a e = moved_by layouts size type.Void a e
operated layouts type.Void (Backward size) a e = moved_by layouts size type.Void a e
operated layouts type.Void (Integer o k) a e = false_is_not_true e
operated layouts (type.Array' b t n) (Forward size) a e = moved_by layouts size (type.Array' b t n) a e
operated layouts (type.Array' b t n) (Backward size) a e = moved_by layouts size (type.Array' b t n) a e
operated layouts (type.Array' b t n) (Integer o k) a e = false_is_not_true e
operated layouts (type.Struct n) (Forward size) a e = moved_by layouts size (type.Struct n) a e
operated layouts (type.Struct n) (Backward size) a e = moved_by layouts size (type.Struct n) a e
operated layouts (type.Struct n) (Integer o k) a e = false_is_not_true e

-- the function that is called
pub call_is : (o : Option Function) (fit : List CType → Bool) (t : CType) → call_type o fit ≡ Some t → (f : Function) × (o ≡ Some f) × (fit (parameter_types f) ≡ true) × (f.result ≡ t)
call_is None fit t e = none_is_not e
call_is (Some f) fit t e = let h = where_true_is (fit (parameter_types f)) f.result t e in (f, refl, h.0, h.1)
