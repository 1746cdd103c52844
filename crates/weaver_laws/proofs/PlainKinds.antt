-- Terms with a kind that isn't of an access: their parts name no access, and what has the kind of an access is the accessed pointer itself.
use Rattle.std.proofs.Common.{◌≡◌, ℕ, List, Option, Some, None, refl, ap₂, Bool, true, false, ◌&&◌}
use Rattle.std.specs.Prelude.{option_and_then, ◌==◌, IsTrue, if◌then◌else◌}
use Rattle.std.proofs.Math.Dec.{eqb_refl, T}
use Rattle.step_meaning.specs.declared.value.CType.{CType, end_of-CType, more_of-CType}
use Rattle.step_meaning.specs.declared.value.CType.TheVariants as type
use Rattle.step_meaning.specs.declared.expr.IntOp.{IntOp}
use Rattle.step_meaning.specs.declared.expr.CompareOp.{CompareOp}
use Rattle.step_meaning.specs.declared.expr.CompareOp.TheVariants as comparing
use Rattle.step_meaning.specs.declared.program.Layout.{Layout}
use Rattle.step_meaning.specs.Settings.{Setting}
use Rattle.step_meaning.specs.Allowances.{Allowed}
use Rattle.step_meaning.specs.TermKinds.{kind_of_read, address_kind, kind_of_negation, kind_of_operation, kind_of_move, pointed_type, indexed_type, RelationFits, IsObjectType, Kind, Integer, PointerTo, AnyNull, OfAccess, kind_of_type, may_order}
use Rattle.step_meaning.specs.TypeRules.{member_type}
use Rattle.step_meaning.specs.Annotations.{Takes}
use Rattle.step_meaning.specs.Types.{same_type, where_true, kind_number}

-- ---- a kind that isn't of an access

abbrev pub HasKind : Option Kind → Type 0
HasKind None = ⊥
HasKind (Some OfAccess) = ⊥
HasKind (Some _) = Unit {0}

abbrev pub HasType : Option CType → Type 0
HasType None = ⊥
HasType (Some u) = Unit {0}

pub of_negation : (k : Option Kind) → HasKind (kind_of_negation k) → HasKind k
of_negation (Some Integer) x = tt
of_negation _ x = absurd x

pub of_operation : (o : IntOp) (k l : Option Kind) → HasKind (kind_of_operation o k l) → HasKind k × HasKind l
of_operation o (Some Integer) (Some Integer) x = (tt, tt)
of_operation o _ _ x = absurd x

pub of_move : (layouts : List Layout) (k l : Option Kind) (size : ℕ) → HasKind (kind_of_move layouts k l size) → HasKind k × HasKind l
of_move layouts (Some (PointerTo u)) (Some Integer) size x = (tt, tt)
of_move layouts (Some AnyNull) (Some Integer) size x = (tt, tt)
of_move layouts _ _ size x = absurd x

pub of_pointed : (k : Option Kind) → HasType (option_and_then pointed_type k) → HasKind k
of_pointed (Some (PointerTo u)) x = tt
of_pointed _ x = absurd x

pub of_member : (layouts : List Layout) (w : Option CType) (o : ℕ) → HasType (option_and_then (λ u. member_type layouts u o) w) → HasType w
of_member layouts None o x = absurd x
of_member layouts (Some u) o x = tt

pub of_indexed : (layouts : List Layout) (size : ℕ) (w : Option CType) (k : Option Kind) → HasType (indexed_type layouts size w k) → HasType w × HasKind k
of_indexed layouts size (Some u) (Some Integer) x = (tt, tt)
of_indexed layouts size None (Some Integer) x = absurd x
of_indexed layouts size w None x = absurd x
of_indexed layouts size w (Some (PointerTo u)) x = absurd x
of_indexed layouts size w (Some AnyNull) x = absurd x
of_indexed layouts size w (Some OfAccess) x = absurd x

pub of_read : (g : Setting) (a : Allowed) (w : Option CType) (u : CType) → HasKind (kind_of_read g a w u) → HasType w
of_read g a None u x = absurd x
of_read g a (Some w) u x = tt

pub of_address : (g : Setting) (a : Allowed) (b : Bool) (w : Option CType) (u : CType) → HasKind (address_kind g a b w u) → HasType w
of_address g a b None u x = absurd x
of_address g a b (Some w) u x = tt

pub of_taken : (w : Option CType) (k : Option Kind) → Takes w k → HasKind k
of_taken (Some (type.Int i)) (Some Integer) x = tt
of_taken (Some (type.Pointer' b u)) (Some (PointerTo w)) x = tt
of_taken (Some (type.Pointer' b u)) (Some AnyNull) x = tt
of_taken _ _ x = absurd x

pub of_object : (g : Setting) (a : Allowed) (k : Option Kind) (u : CType) → IsObjectType g a k u → HasKind k
of_object g a (Some (PointerTo w)) u x = tt
of_object g a (Some AnyNull) u x = tt
of_object g a _ u x = absurd x

-- ---- no kind of an access

pub never : IsTrue false → ⊥
never x = cc

abbrev pub HasSome : Option Kind → Type 0
HasSome None = ⊥
HasSome (Some k) = Unit {0}

abbrev pub IsOther : Option Kind → Type 0
IsOther (Some OfAccess) = ⊥
IsOther _ = Unit {0}

pub kind_there : (k : Option Kind) → HasSome k → IsOther k → HasKind k
kind_there None x y = x
kind_there (Some Integer) x y = tt
kind_there (Some (PointerTo u)) x y = tt
kind_there (Some AnyNull) x y = tt
kind_there (Some OfAccess) x y = y

type_other : (u : CType) → IsOther (kind_of_type u)
type_other (type.Int k) = tt
type_other (type.Pointer' b (more_of-CType u end_of-CType)) = tt
type_other type.Void = tt
type_other (type.Array' b u n) = tt
type_other (type.Struct n) = tt

pub types_other : (w : Option CType) → IsOther (option_and_then kind_of_type w)
types_other None = tt
types_other (Some u) = type_other u

pub read_other : (g : Setting) (a : Allowed) (w : Option CType) (u : CType) → IsOther (kind_of_read g a w u)
read_other g a None u = tt
read_other g a (Some w) u = by (same_type w u)
  where
    by : (b : Bool) → IsOther (if b then kind_of_type u else None)
    by true = type_other u
    by false = tt

pub true_other : (b : Bool) (k : Kind) → IsOther (Some k) → IsOther (where_true b k)
true_other true k x = x
true_other false k x = tt

pub address_other : (g : Setting) (a : Allowed) (b : Bool) (w : Option CType) (u : CType) → IsOther (address_kind g a b w u)
address_other g a b None u = tt
address_other g a b (Some w) u = true_other _ (PointerTo u) tt

pub negation_other : (k : Option Kind) → IsOther (kind_of_negation k)
negation_other (Some Integer) = tt
negation_other _ = tt

pub operation_other : (o : IntOp) (k l : Option Kind) → IsOther (kind_of_operation o k l)
operation_other o (Some Integer) (Some Integer) = true_other _ Integer tt
operation_other o _ _ = tt

pub move_other : (layouts : List Layout) (k l : Option Kind) (size : ℕ) → IsOther (kind_of_move layouts k l size)
move_other layouts (Some (PointerTo u)) (Some Integer) size = true_other _ (PointerTo u) tt
move_other layouts (Some AnyNull) (Some Integer) size = true_other _ (PointerTo type.Void) tt
move_other layouts _ _ size = tt

pub is_there : (b : Bool) → HasSome (where_true b OfAccess) → IsTrue b
is_there true x = refl
is_there false x = absurd x

pub of_relation : (g : Setting) (a : Allowed) (c : CompareOp) (k l : Option Kind) → RelationFits g a c k l → HasSome k × HasSome l
of_relation g a c (Some k) (Some l) x = (tt, tt)
of_relation g a c _ _ x = absurd x

module _ (g : Setting) (a : Allowed) where
  no_order : (k : Kind) → IsTrue (may_order g a k OfAccess) → ⊥
  no_order Integer x = never x
  no_order (PointerTo u) x = never x
  no_order AnyNull x = never x
  no_order OfAccess x = never x

-- a pointer to an object is compared where that of an access is
pub access_left : (g : Setting) (a : Allowed) (c : CompareOp) (w : CType) (l : Option Kind) → RelationFits g a c (Some OfAccess) l → RelationFits g a c (Some (PointerTo w)) l
access_left g a c w None x = x
access_left g a comparing.Equal w (Some l) x = x
access_left g a comparing.Unequal w (Some l) x = x
access_left g a comparing.Less w (Some l) x = absurd (never x)
access_left g a comparing.LessEqual w (Some l) x = absurd (never x)
access_left g a comparing.Greater w (Some l) x = absurd (never x)
access_left g a comparing.GreaterEqual w (Some l) x = absurd (never x)

pub access_right : (g : Setting) (a : Allowed) (c : CompareOp) (w : CType) (k : Option Kind) → RelationFits g a c k (Some OfAccess) → RelationFits g a c k (Some (PointerTo w))
access_right g a c w None x = x
access_right g a comparing.Equal w (Some Integer) x = absurd (never x)
access_right g a comparing.Equal w (Some (PointerTo u)) x = refl
access_right g a comparing.Equal w (Some AnyNull) x = refl
access_right g a comparing.Equal w (Some OfAccess) x = refl
access_right g a comparing.Unequal w (Some Integer) x = absurd (never x)
access_right g a comparing.Unequal w (Some (PointerTo u)) x = refl
access_right g a comparing.Unequal w (Some AnyNull) x = refl
access_right g a comparing.Unequal w (Some OfAccess) x = refl
access_right g a comparing.Less w (Some k) x = absurd (no_order g a k x)
access_right g a comparing.LessEqual w (Some k) x = absurd (no_order g a k x)
access_right g a comparing.Greater w (Some k) x = absurd (no_order g a k x)
access_right g a comparing.GreaterEqual w (Some k) x = absurd (no_order g a k x)

pub no_access : (b : Bool) → HasKind (where_true b OfAccess) → ⊥
no_access true x = x
no_access false x = x

told : (b : Bool) → T b → b ≡ true
told true x = refl
told false x = absurd x

same_number : (n : ℕ) → (n == n) ≡ true
same_number n = told (n == n) (eqb_refl n)

pub same_itself : (u : CType) → same_type u u ≡ true
same_itself type.Void = refl
same_itself (type.Int k) = same_number (kind_number k)
same_itself (type.Pointer' b (more_of-CType u end_of-CType)) = same_itself u
same_itself (type.Array' b (more_of-CType u end_of-CType) n) = ap₂ (λ x y. x && y) (same_number n) (same_itself u)
same_itself (type.Struct n) = same_number n
