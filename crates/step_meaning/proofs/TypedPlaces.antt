-- The typing of choices, assignments, addresses and lvalues, on what their parts are known to keep.
use Rattle.std.proofs.Common.{◌≡◌, ℕ, Bool, true, false, cond, ◌&&◌, ◌||◌, not, List, Option, Some, None, Ok, Err, refl, sym, ◌∙◌}
use Rattle.std.specs.Prelude.{◌==◌, ℤ, pos, ◌*ℤ◌, neg_ℤ, is_some}
use Rattle.step_meaning.specs.declared.value.IntKind.{IntKind}
use Rattle.step_meaning.specs.declared.value.CType.{CType, end_of-CType, more_of-CType}
use Rattle.step_meaning.specs.declared.value.CType.TheVariants as type
use Rattle.step_meaning.specs.declared.value.Value.{Value}
use Rattle.step_meaning.specs.declared.value.Value.TheVariants as value
use Rattle.step_meaning.specs.declared.expr.UpdateOp.{UpdateOp}
use Rattle.step_meaning.specs.declared.expr.UpdateOp.TheVariants.{Integer, Forward, Backward}
use Rattle.step_meaning.specs.declared.expr.Answer.{Answer}
use Rattle.step_meaning.specs.declared.expr.Answer.TheVariants.{Before, After}
use Rattle.step_meaning.specs.declared.expr.Expr.{Expr}
use Rattle.step_meaning.specs.declared.program.Layout.{Layout}
use Rattle.step_meaning.specs.declared.program.Core.{Core}
use Rattle.step_meaning.specs.Numbers.{Checked, converted, binary_of}
use Rattle.step_meaning.specs.Names.{integer, truth}
use Rattle.step_meaning.specs.State.{Here, Lvalue, InRegister, At}
use Rattle.step_meaning.specs.Flow.{direct, Direct}
use Rattle.step_meaning.specs.Accesses as acc
use Rattle.step_meaning.specs.Accesses.{answer, brought}
use Rattle.step_meaning.specs.Types.{where_true}
use Rattle.step_meaning.specs.Conversions.{is_promoted, same_int_kind, promoted, common}
use Rattle.step_meaning.specs.TypeRules.{cells, is_scalar, member_type, element_type}
use Rattle.step_meaning.specs.ExpressionTypes.{is_void, has_this_type, has_kind, has_integer_type, has_pointer_type, is_null_constant, is_shift, are_of_one_kind, are_of_one_pointer, is_pointer_beside_null, are_void, choice_type, is_taken_by, is_operation, pointed_to, type_of_member, type_of_element, is_addressed_at, pointer_to}
use Rattle.step_meaning.specs.Traced.{HasType}
use Rattle.step_meaning.proofs.Ranges.{false_is_not_true, left_of_and, right_of_and, converted_in_range}
use Rattle.step_meaning.proofs.OperatorRanges.{OnOk, InRange, binary_fits}
use Rattle.step_meaning.proofs.TypedMemory.{WhereSome, InCell, Shape, has_same_type}
use Rattle.step_meaning.proofs.StepsFit.{IsAddress}
use Rattle.step_meaning.proofs.TypedAccesses.{IsPlace, address_of_type, type_of_address, keeps_checked, keeps_move_by, keeps_load, keeps_store}
use Rattle.step_meaning.proofs.TypedOperators.{OfType, of_cell, where_true_fits, if_fits, either_true, integer_in_range, not_true, Typed, this_keeps, kind_keeps, some_keeps, this_is_some, integer_is_some}
use Rattle.step_meaning.proofs.Kept.{Keeps, Always, keeps_pure, keeps_bind, keeps_weaker, keeps_cond}

-- what an lvalue of a type designates: where it is a register, a scalar; else an object at an address
abbrev pub Designates : Bool → CType → Lvalue → Type 0
Designates own t (InRegister i) = (own ≡ true) × (is_scalar t ≡ true)
Designates own t (At v) = IsAddress v

pub all_some : (P : CType → Type 0) (o : Option CType) → ((t : CType) → P t) → WhereSome P o
all_some P None h = tt
all_some P (Some t) h = h t

void_is_some : (a b : Option CType) → are_void a b ≡ true → is_some b ≡ true
void_is_some (Some type.Void) (Some t) e = refl
void_is_some (Some type.Void) None e = e
void_is_some _ b e = false_is_not_true e

always_ok : {A : Type 0} (c : Checked A) → OnOk Always c
always_ok (Ok a) = tt
always_ok (Err f) = tt

true_of_some : (b : Bool) (t : CType) → is_some (where_true b t) ≡ true → b ≡ true
true_of_some true t e = refl
true_of_some false t e = e

brought_in_range : (l k : IntKind) (z : ℤ) → InRange l z → InRange k (brought l k z)
brought_in_range l k z h = by (same_int_kind l k) refl
  where
    by : (b : Bool) → same_int_kind l k ≡ b → InRange k (cond b z (converted k z))
    by true e = has_same_type (type.Int l) (type.Int k) (value.Int z) e h
    by false e = converted_in_range k z

module _ (q : Core) (frames : List Shape) (registers : List CType) (here : Here) where
  abbrev pub K : {A : Type 0} → (A → Type 0) → Direct A → Type 0
  K P d = Keeps q frames registers P d

  -- a null pointer constant is a pointer of each type
  abbrev pub NullKeeps : Expr → Direct Value → Type 0
  NullKeeps e d = is_null_constant e ≡ true → (p : _) (t : _) → K (InCell (type.Pointer' p t)) d

  -- ---- choices

  -- the second part has the type of the first
  second_keeps : (a b : Option CType) (f : Expr) (y : Direct Value) → (are_of_one_kind a b || (are_of_one_pointer a b || (are_void a b || is_pointer_beside_null f a))) ≡ true → Typed q frames registers b y → NullKeeps f y → Typed q frames registers a y
  second_keeps None b f y e h n = tt
  second_keeps (Some (type.Int k)) b f y e h n =
      either_true (is_promoted k && has_kind k b) _ e (λ e. kind_keeps q frames registers here k b y (right_of_and _ _ e) h) (λ e. false_is_not_true (right_of_and (is_null_constant f) false e))
  second_keeps (Some (type.Pointer' p t)) b f y e h n =
      either_true (has_this_type (type.Pointer' p t) b) _ e (λ e. this_keeps q frames registers here (type.Pointer' p t) b y refl e h) (λ e. n (left_of_and (is_null_constant f) true e) p t)
  second_keeps (Some type.Void) b f y e h n =
      either_true (are_void (Some type.Void) b) _ e (λ e. some_keeps q frames registers here b y (void_is_some (Some type.Void) b e) h) (λ e. false_is_not_true (right_of_and (is_null_constant f) false e))
  second_keeps (Some (type.Array' p t n)) b f y e h k = false_is_not_true (right_of_and (is_null_constant f) false e)
  second_keeps (Some (type.Struct n)) b f y e h k = false_is_not_true (right_of_and (is_null_constant f) false e)

  -- the first has that of the second
  first_keeps : (b : Option CType) (e : Expr) (x : Direct Value) → is_pointer_beside_null e b ≡ true → NullKeeps e x → Typed q frames registers b x
  first_keeps None e x h n = tt
  first_keeps (Some (type.Pointer' p t)) e x h n = n (left_of_and _ _ h) p t
  first_keeps (Some type.Void) e x h n = false_is_not_true (right_of_and (is_null_constant e) false h)
  first_keeps (Some (type.Int k)) e x h n = false_is_not_true (right_of_and (is_null_constant e) false h)
  first_keeps (Some (type.Array' p t m)) e x h n = false_is_not_true (right_of_and (is_null_constant e) false h)
  first_keeps (Some (type.Struct m)) e x h n = false_is_not_true (right_of_and (is_null_constant e) false h)

  pub keeps_choice : (e f : Expr) (a b : Option CType) (d x y : Direct Value) → K Always d → Typed q frames registers a x → Typed q frames registers b y → NullKeeps e x → NullKeeps f y → Typed q frames registers (choice_type e a f b) (direct.bind d (λ v. cond (truth v) x y))
  keeps_choice e f a b d x y h i j n m = by (are_of_one_kind a b || (are_of_one_pointer a b || (are_void a b || is_pointer_beside_null f a))) refl (is_pointer_beside_null e b) refl
    where
      pair : (t : CType) → K (OfType t) x → K (OfType t) y → K (OfType t) (direct.bind d (λ v. cond (truth v) x y))
      pair t k l = keeps_bind h (λ v g. keeps_cond (truth v) k l)

      both : (o : Option CType) → Typed q frames registers o x → Typed q frames registers o y → Typed q frames registers o (direct.bind d (λ v. cond (truth v) x y))
      both None k l = tt
      both (Some t) k l = pair t k l

      by : (c : Bool) → (are_of_one_kind a b || (are_of_one_pointer a b || (are_void a b || is_pointer_beside_null f a))) ≡ c → (g : Bool) → is_pointer_beside_null e b ≡ g → Typed q frames registers (cond c a (cond g b None)) (direct.bind d (λ v. cond (truth v) x y))
      by true p g r = both a i (second_keeps a b f y p j m)
      by false p true r = both b (first_keeps b e x r n) j
      by false p false r = tt

  -- ---- assignments

  pub taken_keeps : (t : CType) (e : Expr) (a : Option CType) (x : Direct Value) → is_taken_by t e a ≡ true → Typed q frames registers a x → NullKeeps e x → K (InCell t) x
  taken_keeps t e a x h k n =
      either_true (has_this_type t a) _ (right_of_and _ _ h) (λ g. this_keeps q frames registers here t a x (left_of_and _ _ h) g k) (λ g. null t (right_of_and (is_null_constant e) _ g) (left_of_and (is_null_constant e) _ g))
    where
      null : (t : CType) → has_pointer_type (Some t) ≡ true → is_null_constant e ≡ true → K (InCell t) x
      null (type.Pointer' p u) g l = n l p u
      null type.Void g l = false_is_not_true g
      null (type.Int k) g l = false_is_not_true g
      null (type.Array' p u m) g l = false_is_not_true g
      null (type.Struct m) g l = false_is_not_true g

  -- an lvalue of some type
  abbrev pub PlaceTyped : Bool → Option CType → Direct Lvalue → Type 0
  PlaceTyped own o d = WhereSome (λ t. K (Designates own t) d) o

  designates_place : (own : Bool) (t : CType) (l : Lvalue) → Designates own t l → IsPlace l
  designates_place own t (InRegister i) h = tt
  designates_place own t (At v) h = h

  some_place : (own : Bool) (o : Option CType) (d : Direct Lvalue) → is_some o ≡ true → PlaceTyped own o d → K IsPlace d
  some_place own None d e h = false_is_not_true e
  some_place own (Some t) d e h = keeps_weaker (designates_place own t) h

  pub keeps_read : (own : Bool) (t : CType) (o : Option CType) (d : Direct Lvalue) → (is_scalar t && has_this_type t o) ≡ true → PlaceTyped own o d → K (OfType t) (direct.bind d (acc.load direct here t))
  keeps_read own t o d e h = keeps_bind (some_place own o d (this_is_some q frames registers here t o (right_of_and _ _ e)) h) (λ l g. keeps_weaker (of_cell t) (keeps_load here t l g))

  pub keeps_assign : (own : Bool) (t : CType) (e : Expr) (o a : Option CType) (d : Direct Lvalue) (x : Direct Value) → (has_this_type t o && is_taken_by t e a) ≡ true → PlaceTyped own o d → Typed q frames registers a x → NullKeeps e x → K (OfType t) (direct.bind d (λ l. direct.bind x (acc.store direct here t l)))
  keeps_assign own t e o a d x c h k n =
      keeps_bind (some_place own o d (this_is_some q frames registers here t o (left_of_and _ _ c)) h) (λ l g.
      keeps_bind (taken_keeps t e a x (right_of_and _ _ c) k n) (λ v i. keeps_weaker (of_cell t) (keeps_store here t l v g i)))

  updated_keeps : (layouts : List Layout) (t : CType) (u : UpdateOp) (a : Option CType) (old v : Value) → is_operation layouts t u a ≡ true → InCell t old → K (InCell t) (acc.updated direct here t u old v)
  updated_keeps layouts (type.Int l) (Integer o k) a old v e h =
      keeps_bind {P = InRange l}
      (keeps_bind {P = InRange k} (keeps_checked here (binary_of o k (brought l k (integer old)) (integer v)) (binary_fits o k (brought l k (integer old)) (integer v) (brought_in_range l k (integer old) (integer_in_range l old h)))) (λ z g. keeps_pure (brought k l z) (brought_in_range k l z g)))
      (λ z r. keeps_pure (value.Int z) (r, tt))
  updated_keeps layouts (type.Pointer' p t) (Forward size) a old v e h = keeps_weaker (type_of_address p t) (keeps_move_by here old (integer v *ℤ pos size) (address_of_type p t old h))
  updated_keeps layouts (type.Pointer' p t) (Backward size) a old v e h = keeps_weaker (type_of_address p t) (keeps_move_by here old (neg_ℤ (integer v *ℤ pos size)) (address_of_type p t old h))
  updated_keeps layouts (type.Pointer' p t) (Integer o k) a old v e h = false_is_not_true e
  updated_keeps layouts (type.Int l) (Forward size) a old v e h = false_is_not_true e
  updated_keeps layouts (type.Int l) (Backward size) a old v e h = false_is_not_true e
  updated_keeps layouts type.Void u a old v e h = absurd (no old h.0)
    where
      no : (v : Value) → HasType type.Void v → ⊥
      no (value.Int z) h = h
      no value.Null h = h
      no (value.Pointer n o) h = h
  updated_keeps layouts (type.Array' p t n) u a old v e h = absurd (no old h.0)
    where
      no : (v : Value) → HasType (type.Array' p t n) v → ⊥
      no (value.Int z) h = h
      no value.Null h = h
      no (value.Pointer n o) h = h
  updated_keeps layouts (type.Struct n) u a old v e h = absurd (no old h.0)
    where
      no : (v : Value) → HasType (type.Struct n) v → ⊥
      no (value.Int z) h = h
      no value.Null h = h
      no (value.Pointer n o) h = h

  operand_is_some : (layouts : List Layout) (t : CType) (u : UpdateOp) (a : Option CType) → is_operation layouts t u a ≡ true → is_some a ≡ true
  operand_is_some layouts t u (Some b) e = refl
  operand_is_some layouts (type.Int l) (Integer o k) None e = by (is_shift o) e
    where
      by : (c : Bool) → cond c (same_int_kind k (promoted l) && false) (same_int_kind k (common l k) && false) ≡ true → false ≡ true
      by true e = right_of_and _ _ e
      by false e = right_of_and _ _ e
  operand_is_some layouts (type.Int l) (Forward size) None e = e
  operand_is_some layouts (type.Int l) (Backward size) None e = e
  operand_is_some layouts (type.Pointer' p (more_of-CType t end_of-CType)) (Forward size) None e = right_of_and _ _ (right_of_and _ _ (true_of_some _ _ e))
  operand_is_some layouts (type.Pointer' p (more_of-CType t end_of-CType)) (Backward size) None e = right_of_and _ _ (right_of_and _ _ (true_of_some _ _ e))
  operand_is_some layouts (type.Pointer' p t) (Integer o k) None e = e
  operand_is_some layouts type.Void (Integer o k) None e = e
  operand_is_some layouts type.Void (Forward size) None e = e
  operand_is_some layouts type.Void (Backward size) None e = e
  operand_is_some layouts (type.Array' p t n) (Integer o k) None e = e
  operand_is_some layouts (type.Array' p t n) (Forward size) None e = e
  operand_is_some layouts (type.Array' p t n) (Backward size) None e = e
  operand_is_some layouts (type.Struct n) (Integer o k) None e = e
  operand_is_some layouts (type.Struct n) (Forward size) None e = e
  operand_is_some layouts (type.Struct n) (Backward size) None e = e

  answer_fits : (t : CType) (w : Answer) (old new : Value) → InCell t old → InCell t new → OfType t (answer w old new)
  answer_fits t Before old new h k = of_cell t old h
  answer_fits t After old new h k = of_cell t new k

  pub keeps_update : (layouts : List Layout) (own : Bool) (t : CType) (u : UpdateOp) (w : Answer) (m : Bool) (o a : Option CType) (d : Direct Lvalue) (x : Direct Value) → (has_this_type t o && (is_operation layouts t u a && m)) ≡ true → PlaceTyped own o d → Typed q frames registers a x → K (OfType t) (direct.bind d (λ l. direct.bind (acc.load direct here t l) (λ old. direct.bind x (λ v. direct.bind (acc.updated direct here t u old v) (λ new. direct.bind (acc.store direct here t l new) (λ written. direct.pure (answer w old new)))))))
  keeps_update layouts own t u w m o a d x c h k =
      keeps_bind (some_place own o d (this_is_some q frames registers here t o (left_of_and _ _ c)) h) (λ l g.
      keeps_bind (keeps_load here t l g) (λ old i.
      keeps_bind (some_keeps q frames registers here a x (operand_is_some layouts t u a (left_of_and _ _ (right_of_and _ _ c))) k) (λ v b.
      keeps_bind (updated_keeps layouts t u a old v (left_of_and _ _ (right_of_and _ _ c)) i) (λ new j.
      keeps_bind (keeps_store here t l new g j) (λ written b. keeps_pure (answer w old new) (answer_fits t w old new i j))))))

  -- ---- addresses and lvalues

  addressed_is_some : (t : CType) (o : Option CType) → is_addressed_at t o ≡ true → is_some o ≡ true
  addressed_is_some t None e = e
  addressed_is_some t (Some u) e = refl

  pub keeps_address : (own : Bool) (t : CType) (o : Option CType) (d : Direct Lvalue) → (not own && is_addressed_at t o) ≡ true → PlaceTyped own o d → K (OfType (pointer_to t)) (direct.bind d (acc.address_of direct))
  keeps_address own t None d e h = false_is_not_true (right_of_and (not own) false e)
  keeps_address own t (Some u) d e h = keeps_bind h on
    where
      on : (l : Lvalue) → Designates own u l → K (OfType (pointer_to t)) (acc.address_of direct l)
      on (InRegister i) g = false_is_not_true (sym (not_true own (left_of_and _ _ e)) ∙ g.0)
      on (At v) g = keeps_pure v (type_of_address tt (more_of-CType t end_of-CType) v g)

  -- a part of an object
  after_keeps : (own : Bool) (t : CType) (l : Lvalue) (by : ℤ) → is_scalar t ≡ false → Designates own t l → K (λ k. Designates false type.Void k) (acc.object_after direct here l by)
  after_keeps own t (InRegister i) by e h = false_is_not_true (sym e ∙ h.1)
  after_keeps own t (At v) by e h = keeps_bind (keeps_pure v h) (λ p g. keeps_bind (keeps_move_by here p by g) (λ q k. keeps_pure (At q) k))

  anywhere : (own : Bool) (t : CType) (l : Lvalue) → Designates false type.Void l → Designates own t l
  anywhere own t (InRegister i) h = false_is_not_true h.0
  anywhere own t (At v) h = h

  pub keeps_deref : (a : Option CType) (x : Direct Value) → Typed q frames registers a x → PlaceTyped false (pointed_to a) (direct.bind x (λ p. direct.pure (At p)))
  keeps_deref (Some (type.Pointer' p (more_of-CType t end_of-CType))) x h = where_true_fits _ (not (is_void t)) t (λ e. keeps_bind h (λ v g. keeps_pure (At v) (address_of_type p (more_of-CType t end_of-CType) v g)))
  keeps_deref None x h = tt
  keeps_deref (Some type.Void) x h = tt
  keeps_deref (Some (type.Int k)) x h = tt
  keeps_deref (Some (type.Array' p t n)) x h = tt
  keeps_deref (Some (type.Struct n)) x h = tt

  pub keeps_member : (layouts : List Layout) (own : Bool) (o : ℕ) (a : Option CType) (d : Direct Lvalue) → PlaceTyped own a d → PlaceTyped false (type_of_member layouts o a) (direct.bind d (λ l. acc.object_after direct here l (pos o)))
  keeps_member layouts own o (Some (type.Struct n)) d h = all_some _ (member_type layouts (type.Struct n) o) (λ t. keeps_bind h (λ l g. keeps_weaker (anywhere false t) (after_keeps own (type.Struct n) l (pos o) refl g)))
  keeps_member layouts own o None d h = tt
  keeps_member layouts own o (Some type.Void) d h = tt
  keeps_member layouts own o (Some (type.Int k)) d h = tt
  keeps_member layouts own o (Some (type.Pointer' p t)) d h = tt
  keeps_member layouts own o (Some (type.Array' p t n)) d h = tt

  pub keeps_element : (layouts : List Layout) (own : Bool) (size : ℕ) (a b : Option CType) (d : Direct Lvalue) (x : Direct Value) → PlaceTyped own a d → Typed q frames registers b x → PlaceTyped false (type_of_element layouts size a b) (direct.bind d (λ l. direct.bind x (λ i. acc.object_after direct here l (integer i *ℤ pos size))))
  keeps_element layouts own size (Some (type.Array' p (more_of-CType t end_of-CType) n)) b d x h k =
      if_fits _ (has_integer_type b) (element_type layouts (type.Array' p (more_of-CType t end_of-CType) n) size) (λ e.
      where_true_fits _ (size == cells layouts t) t (λ f.
      keeps_bind h (λ l g.
      keeps_bind (some_keeps q frames registers here b x (integer_is_some q frames registers here b e) k) (λ v j.
      keeps_weaker (anywhere false t) (after_keeps own (type.Array' p (more_of-CType t end_of-CType) n) l (integer v *ℤ pos size) refl g)))))
  keeps_element layouts own size None b d x h k = if_fits _ (has_integer_type b) None (λ e. tt)
  keeps_element layouts own size (Some type.Void) b d x h k = if_fits _ (has_integer_type b) None (λ e. tt)
  keeps_element layouts own size (Some (type.Int l)) b d x h k = if_fits _ (has_integer_type b) None (λ e. tt)
  keeps_element layouts own size (Some (type.Pointer' p t)) b d x h k = if_fits _ (has_integer_type b) None (λ e. tt)
  keeps_element layouts own size (Some (type.Struct n)) b d x h k = if_fits _ (has_integer_type b) None (λ e. tt)
