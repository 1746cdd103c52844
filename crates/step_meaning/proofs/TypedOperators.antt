-- The typing of each form of expression, on what its parts are known to keep.
use Rattle.std.proofs.Common.{◌≡◌, ℕ, Bool, true, false, cond, ◌&&◌, ◌||◌, not, List, Option, Some, None, refl}
use Rattle.std.specs.Prelude.{◌==◌, ℤ, pos, ◌*ℤ◌, neg_ℤ, is_some}
use Rattle.step_meaning.specs.declared.value.IntKind.{IntKind}
use Rattle.step_meaning.specs.declared.value.IntKind.TheVariants as kind
use Rattle.step_meaning.specs.declared.value.CType.{CType, end_of-CType, more_of-CType}
use Rattle.step_meaning.specs.declared.value.CType.TheVariants as type
use Rattle.step_meaning.specs.declared.value.Value.{Value}
use Rattle.step_meaning.specs.declared.value.Value.TheVariants as value
use Rattle.step_meaning.specs.declared.expr.IntOp.{IntOp}
use Rattle.step_meaning.specs.declared.expr.UnaryOp.{UnaryOp}
use Rattle.step_meaning.specs.declared.expr.CompareOp.{CompareOp}
use Rattle.step_meaning.specs.declared.expr.Side.{Side}
use Rattle.step_meaning.specs.declared.expr.Side.TheVariants.{PointerFirst, PointerLast, Minus}
use Rattle.step_meaning.specs.declared.program.Layout.{Layout}
use Rattle.step_meaning.specs.declared.program.Core.{Core}
use Rattle.step_meaning.specs.Numbers.{converted, binary_of, unary_of}
use Rattle.step_meaning.specs.Names.{integer, truth, of_truth, compared, distance}
use Rattle.step_meaning.specs.Types.{same_type, where_true}
use Rattle.step_meaning.specs.State.{Here}
use Rattle.step_meaning.specs.Flow.{direct, Direct}
use Rattle.step_meaning.specs.Accesses as acc
use Rattle.step_meaning.specs.Conversions.{is_promoted, same_int_kind}
use Rattle.step_meaning.specs.TypeRules.{cells, is_scalar}
use Rattle.step_meaning.specs.ExpressionTypes.{is_void, has_this_type, has_kind, has_integer_type, has_promoted_kind, has_pointer_type, has_scalar_type, converted_type, is_shift, binary_type, moved_type, move_type, difference_type}
use Rattle.step_meaning.proofs.Ranges.{false_is_not_true, left_of_and, right_of_and, converted_in_range}
use Rattle.step_meaning.proofs.OperatorRanges.{InRange, binary_fits, unary_fits, distance_fits, HasShortOffset}
use Rattle.step_meaning.proofs.TypedMemory.{WhereSome, InCell, has_same_type, same_type_turned, Shape}
use Rattle.step_meaning.proofs.StepsFit.{IsAddress}
use Rattle.step_meaning.proofs.TypedAccesses.{address_of_type, type_of_address, keeps_move_by, keeps_int, keeps_truth, keeps_checked_truth}
use Rattle.step_meaning.proofs.Kept.{Keeps, Always, keeps_pure, keeps_bind, keeps_weaker, keeps_cond}

-- ---- values of a type

-- an expression without a value has one that nothing uses
abbrev pub OfType : CType → Value → Type 0
OfType type.Void v = Unit {0}
OfType (type.Int k) v = InCell (type.Int k) v
OfType (type.Pointer' b t) v = InCell (type.Pointer' b t) v
OfType (type.Array' b t n) v = InCell (type.Array' b t n) v
OfType (type.Struct n) v = InCell (type.Struct n) v

pub of_cell : (t : CType) (v : Value) → InCell t v → OfType t v
of_cell type.Void v h = tt
of_cell (type.Int k) v h = h
of_cell (type.Pointer' b t) v h = h
of_cell (type.Array' b t n) v h = h
of_cell (type.Struct n) v h = h

-- a value of a type is one of each scalar type that is the same
pub in_same_cell : (t u : CType) (v : Value) → is_scalar t ≡ true → same_type t u ≡ true → OfType u v → InCell t v
in_same_cell (type.Int k) (type.Int l) v s e h = (has_same_type (type.Int l) (type.Int k) v (same_type_turned (type.Int k) (type.Int l) e) h.0, h.1)
in_same_cell (type.Pointer' p (more_of-CType t end_of-CType)) (type.Pointer' q (more_of-CType u end_of-CType)) v s e h = (has_same_type (type.Pointer' q (more_of-CType u end_of-CType)) (type.Pointer' p (more_of-CType t end_of-CType)) v (same_type_turned t u e) h.0, h.1)
in_same_cell type.Void u v s e h = false_is_not_true s
in_same_cell (type.Array' p t n) u v s e h = false_is_not_true s
in_same_cell (type.Struct n) u v s e h = false_is_not_true s
in_same_cell _ _ v s e h = false_is_not_true e

pub integer_in_range : (k : IntKind) (v : Value) → InCell (type.Int k) v → InRange k (integer v)
integer_in_range k (value.Int z) h = h.0
integer_in_range k value.Null h = absurd h.0
integer_in_range k (value.Pointer n o) h = absurd h.0

pub short_offset : (v : Value) → IsAddress v → HasShortOffset v
short_offset (value.Int z) h = tt
short_offset value.Null h = tt
short_offset (value.Pointer n o) h = h.0

pub where_true_fits : (P : CType → Type 0) (b : Bool) (t : CType) → (b ≡ true → P t) → WhereSome P (where_true b t)
where_true_fits P true t h = h refl
where_true_fits P false t h = tt

pub if_fits : (P : CType → Type 0) (b : Bool) (o : Option CType) → (b ≡ true → WhereSome P o) → WhereSome P (cond b o None)
if_fits P true o h = h refl
if_fits P false o h = tt

-- one of two tests is passed
pub either_true : {A : Type 0} (a b : Bool) → (a || b) ≡ true → (a ≡ true → A) → (b ≡ true → A) → A
either_true true b e f g = f refl
either_true false b e f g = g e

pub not_true : (b : Bool) → not b ≡ true → b ≡ false
not_true true e = false_is_not_true e
not_true false e = refl

-- where there is a type, the part gives a value of it
abbrev pub Typed : Core → List Shape → List CType → Option CType → Direct Value → Type 0
Typed q frames registers o d = WhereSome (λ t. Keeps q frames registers (OfType t) d) o

module _ (q : Core) (frames : List Shape) (registers : List CType) (here : Here) where
  abbrev pub K : {A : Type 0} → (A → Type 0) → Direct A → Type 0
  K P d = Keeps q frames registers P d

  -- ---- what a test on a type tells

  pub this_keeps : (t : CType) (o : Option CType) (d : Direct Value) → is_scalar t ≡ true → has_this_type t o ≡ true → Typed q frames registers o d → K (InCell t) d
  this_keeps t None d s e h = false_is_not_true e
  this_keeps t (Some u) d s e h = keeps_weaker (λ v g. in_same_cell t u v s e g) h

  pub kind_keeps : (k : IntKind) (o : Option CType) (d : Direct Value) → has_kind k o ≡ true → Typed q frames registers o d → K (InCell (type.Int k)) d
  kind_keeps k o d e h = this_keeps (type.Int k) o d refl e h

  -- a part with some type keeps
  pub some_keeps : (o : Option CType) (d : Direct Value) → is_some o ≡ true → Typed q frames registers o d → K Always d
  some_keeps None d e h = false_is_not_true e
  some_keeps (Some t) d e h = keeps_weaker (λ v g. tt) h

  pub scalar_is_some : (o : Option CType) → has_scalar_type o ≡ true → is_some o ≡ true
  scalar_is_some None e = e
  scalar_is_some (Some t) e = refl

  pub kind_is_some : (k : IntKind) (o : Option CType) → has_kind k o ≡ true → is_some o ≡ true
  kind_is_some k None e = e
  kind_is_some k (Some t) e = refl

  pub integer_is_some : (o : Option CType) → has_integer_type o ≡ true → is_some o ≡ true
  integer_is_some None e = e
  integer_is_some (Some t) e = refl

  pub promoted_is_some : (o : Option CType) → has_promoted_kind o ≡ true → is_some o ≡ true
  promoted_is_some None e = e
  promoted_is_some (Some t) e = refl

  pub pointer_is_some : (o : Option CType) → has_pointer_type o ≡ true → is_some o ≡ true
  pointer_is_some None e = e
  pointer_is_some (Some t) e = refl

  pub this_is_some : (t : CType) (o : Option CType) → has_this_type t o ≡ true → is_some o ≡ true
  this_is_some t None e = e
  this_is_some t (Some u) e = refl

  -- ---- operators on integers

  pub keeps_convert : (k : IntKind) (o : Option CType) (d : Direct Value) → Typed q frames registers o d → Typed q frames registers (converted_type k o) (direct.bind d (λ v. direct.pure (value.Int (converted k (integer v)))))
  keeps_convert k None d h = tt
  keeps_convert k (Some (type.Int l)) d h = where_true_fits _ (not (same_int_kind k l)) (type.Int k) (λ e. keeps_bind h (λ v g. keeps_pure (value.Int (converted k (integer v))) (converted_in_range k (integer v), tt)))
  keeps_convert k (Some type.Void) d h = tt
  keeps_convert k (Some (type.Pointer' b t)) d h = tt
  keeps_convert k (Some (type.Array' b t n)) d h = tt
  keeps_convert k (Some (type.Struct n)) d h = tt

  pub keeps_unary : (u : UnaryOp) (k : IntKind) (o : Option CType) (d : Direct Value) → (is_promoted k && has_kind k o) ≡ true → Typed q frames registers o d → K (InCell (type.Int k)) (direct.bind d (λ v. acc.as_int direct (acc.checked direct here (unary_of u k (integer v)))))
  keeps_unary u k o d e h = keeps_bind (kind_keeps k o d (right_of_and _ _ e) h) (λ v g. keeps_int here k (unary_of u k (integer v)) (unary_fits u k (integer v)))

  pub right_is_some : (o : IntOp) (k : IntKind) (b : Option CType) → cond (is_shift o) (has_promoted_kind b) (has_kind k b) ≡ true → is_some b ≡ true
  right_is_some o k b e = by (is_shift o) e
    where
      by : (c : Bool) → cond c (has_promoted_kind b) (has_kind k b) ≡ true → is_some b ≡ true
      by true e = promoted_is_some b e
      by false e = kind_is_some k b e

  pub keeps_binary : (o : IntOp) (k : IntKind) (a b : Option CType) (d x : Direct Value) → Typed q frames registers a d → Typed q frames registers b x → Typed q frames registers (binary_type o k a b) (direct.bind d (λ v. direct.bind x (λ w. acc.as_int direct (acc.checked direct here (binary_of o k (integer v) (integer w))))))
  keeps_binary o k a b d x h g =
      where_true_fits _ (is_promoted k && (has_kind k a && cond (is_shift o) (has_promoted_kind b) (has_kind k b))) (type.Int k) (λ e.
      keeps_bind (kind_keeps k a d (left_of_and _ _ (right_of_and _ _ e)) h) (λ v i.
      keeps_bind (some_keeps b x (right_is_some o k b (right_of_and _ _ (right_of_and _ _ e))) g) (λ w j.
      keeps_int here k (binary_of o k (integer v) (integer w)) (binary_fits o k (integer v) (integer w) (integer_in_range k v i)))))

  -- ---- comparisons, `!`, `&&` and `||`

  pub keeps_compare : (c : CompareOp) (d x : Direct Value) → K Always d → K Always x → K (InCell (type.Int kind.Int)) (direct.bind d (λ v. direct.bind x (λ w. acc.as_truth direct (acc.checked direct here (compared c v w)))))
  keeps_compare c d x h g = keeps_bind h (λ v i. keeps_bind g (λ w j. keeps_checked_truth here (compared c v w)))

  pub keeps_not : (d : Direct Value) → K Always d → K (InCell (type.Int kind.Int)) (direct.bind d (λ v. direct.pure (of_truth (not (truth v)))))
  keeps_not d h = keeps_bind h (λ v i. keeps_truth here (not (truth v)))

  pub keeps_both : (d x : Direct Value) → K Always d → K Always x → K (InCell (type.Int kind.Int)) (direct.bind d (λ v. cond (truth v) (direct.bind x (λ w. direct.pure (of_truth (truth w)))) (direct.pure (of_truth false))))
  keeps_both d x h g = keeps_bind h (λ v i. keeps_cond (truth v) (keeps_bind g (λ w j. keeps_truth here (truth w))) (keeps_truth here false))

  pub keeps_either : (d x : Direct Value) → K Always d → K Always x → K (InCell (type.Int kind.Int)) (direct.bind d (λ v. cond (truth v) (direct.pure (of_truth true)) (direct.bind x (λ w. direct.pure (of_truth (truth w))))))
  keeps_either d x h g = keeps_bind h (λ v i. keeps_cond (truth v) (keeps_truth here true) (keeps_bind g (λ w j. keeps_truth here (truth w))))

  -- ---- pointers

  keeps_moved : (layouts : List Layout) (size : ℕ) (o b : Option CType) (by : Value → Value → ℤ) (d x : Direct Value) → Typed q frames registers o d → Typed q frames registers b x → Typed q frames registers (moved_type layouts size o b) (direct.bind d (λ v. direct.bind x (λ w. acc.move_by direct here v (by v w))))
  keeps_moved layouts size (Some (type.Pointer' p (more_of-CType t end_of-CType))) b by d x h g =
      where_true_fits _ (not (is_void t) && (size == cells layouts t && has_integer_type b)) (type.Pointer' p (more_of-CType t end_of-CType)) (λ e.
      keeps_bind h (λ v i.
      keeps_bind (some_keeps b x (integer_is_some b (right_of_and _ _ (right_of_and _ _ e))) g) (λ w j.
      keeps_weaker (λ u k. type_of_address p (more_of-CType t end_of-CType) u k) (keeps_move_by here v (by v w) (address_of_type p (more_of-CType t end_of-CType) v i)))))
  keeps_moved layouts size None b by d x h g = tt
  keeps_moved layouts size (Some type.Void) b by d x h g = tt
  keeps_moved layouts size (Some (type.Int k)) b by d x h g = tt
  keeps_moved layouts size (Some (type.Array' p t n)) b by d x h g = tt
  keeps_moved layouts size (Some (type.Struct n)) b by d x h g = tt

  -- the pointer second
  keeps_moved_last : (layouts : List Layout) (size : ℕ) (o b : Option CType) (by : Value → Value → ℤ) (d x : Direct Value) → Typed q frames registers b d → Typed q frames registers o x → Typed q frames registers (moved_type layouts size o b) (direct.bind d (λ v. direct.bind x (λ w. acc.move_by direct here w (by v w))))
  keeps_moved_last layouts size (Some (type.Pointer' p (more_of-CType t end_of-CType))) b by d x h g =
      where_true_fits _ (not (is_void t) && (size == cells layouts t && has_integer_type b)) (type.Pointer' p (more_of-CType t end_of-CType)) (λ e.
      keeps_bind (some_keeps b d (integer_is_some b (right_of_and _ _ (right_of_and _ _ e))) h) (λ v j.
      keeps_bind g (λ w i.
      keeps_weaker (λ u k. type_of_address p (more_of-CType t end_of-CType) u k) (keeps_move_by here w (by v w) (address_of_type p (more_of-CType t end_of-CType) w i)))))
  keeps_moved_last layouts size None b by d x h g = tt
  keeps_moved_last layouts size (Some type.Void) b by d x h g = tt
  keeps_moved_last layouts size (Some (type.Int k)) b by d x h g = tt
  keeps_moved_last layouts size (Some (type.Array' p t n)) b by d x h g = tt
  keeps_moved_last layouts size (Some (type.Struct n)) b by d x h g = tt

  pub keeps_move : (layouts : List Layout) (size : ℕ) (side : Side) (a b : Option CType) (d x : Direct Value) → Typed q frames registers a d → Typed q frames registers b x → Typed q frames registers (move_type layouts size side a b) (direct.bind d (λ v. direct.bind x (λ w. acc.move_elements direct here side size v w)))
  keeps_move layouts size PointerFirst a b d x h g = keeps_moved layouts size a b (λ v w. integer w *ℤ pos size) d x h g
  keeps_move layouts size PointerLast a b d x h g = keeps_moved_last layouts size b a (λ v w. integer v *ℤ pos size) d x h g
  keeps_move layouts size Minus a b d x h g = keeps_moved layouts size a b (λ v w. neg_ℤ (integer w *ℤ pos size)) d x h g

  pub keeps_difference : (layouts : List Layout) (unit : ℕ) (o b : Option CType) (d x : Direct Value) → Typed q frames registers o d → Typed q frames registers b x → Typed q frames registers (difference_type layouts unit o b) (direct.bind d (λ v. direct.bind x (λ w. acc.as_int direct (acc.checked direct here (distance v w unit)))))
  keeps_difference layouts unit (Some (type.Pointer' p (more_of-CType t end_of-CType))) b d x h g =
      where_true_fits _ (not (is_void t) && (unit == cells layouts t && has_this_type (type.Pointer' p (more_of-CType t end_of-CType)) b)) (type.Int kind.Long) (λ e.
      keeps_bind h (λ v i.
      keeps_bind (this_keeps (type.Pointer' p (more_of-CType t end_of-CType)) b x refl (right_of_and _ _ (right_of_and _ _ e)) g) (λ w j.
      keeps_int here kind.Long (distance v w unit) (distance_fits v w unit (short_offset v (address_of_type p (more_of-CType t end_of-CType) v i)) (short_offset w (address_of_type p (more_of-CType t end_of-CType) w j))))))
  keeps_difference layouts unit None b d x h g = tt
  keeps_difference layouts unit (Some type.Void) b d x h g = tt
  keeps_difference layouts unit (Some (type.Int k)) b d x h g = tt
  keeps_difference layouts unit (Some (type.Array' p t n)) b d x h g = tt
  keeps_difference layouts unit (Some (type.Struct n)) b d x h g = tt
