-- The value of a constant expression lies in the range of its type.
use Rattle.std.proofs.Common.{◌≡◌, Bool, true, false, ◌&&◌, ◌||◌, not, Option, Some, None, Ok, Err, refl, sym, subst}
use Rattle.std.specs.Prelude.{ℤ, pos, int_le, option_and_then, option_map, if◌then◌else◌}
use Rattle.step_meaning.specs.declared.value.IntKind.{IntKind}
use Rattle.step_meaning.specs.declared.value.IntKind.TheVariants as kind
use Rattle.step_meaning.specs.declared.value.CType.{CType}
use Rattle.step_meaning.specs.declared.value.CType.TheVariants as type
use Rattle.step_meaning.specs.declared.expr.Expr.{Expr, end_of-Expr, more_of-Expr}
use Rattle.step_meaning.specs.declared.expr.Expr.TheVariants.{Literal, Convert', Unary', Binary', Compare', Not', Both', Either', Choose'}
use Rattle.step_meaning.specs.declared.program.Core.{Core}
use Rattle.step_meaning.specs.Numbers.{is_in_range, converted, binary_of, unary_of, compared_integers, is_zero}
use Rattle.step_meaning.specs.Numbers as numbers
use Rattle.step_meaning.specs.Settings.{Setting}
use Rattle.step_meaning.specs.Conversions.{same_int_kind, is_promoted}
use Rattle.step_meaning.specs.ExpressionTypes.{type_of, has_kind, has_integer_type, has_promoted_kind, has_scalar_type, is_null_constant, is_shift, are_of_one_kind, are_of_one_pointer, are_void, are_comparable, is_pointer_beside_null, choice_type, converted_type}
use Rattle.step_meaning.proofs.Ranges.{converted_in_range, false_is_not_true, left_of_and, right_of_and}
use Rattle.step_meaning.proofs.SameTypes.{same_type_equal}
use Rattle.step_meaning.proofs.OperatorRanges.{OnOk, InRange, binary_fits, unary_fits}
use Rattle.step_meaning.proofs.TypedMemory.{WhereSome}
use Rattle.step_meaning.proofs.TypedOperators.{where_true_fits, if_fits}
use Rattle.typing_rules.specs.ConstantExpressions.{is_constant, without_fault, truth, value_of, constant}
use Rattle.typing_laws.proofs.CheckedValues.{if_holds, some_then, some_mapped, some_known}

-- a value of an integer type lies in its range
abbrev pub InType : CType → ℤ → Type 0
InType (type.Int k) z = InRange k z
InType t z = Unit {0}

-- whatever the value
abbrev Any : {A : Type 0} → A → Type 0
Any a = Unit {0}

any : {A : Type 0} (o : Option A) → WhereSome Any o
any None = tt
any (Some a) = tt

fault_free : (k : IntKind) (c : numbers.Checked ℤ) → OnOk (InRange k) c → WhereSome (InRange k) (without_fault c)
fault_free k (Ok z) h = h
fault_free k (Err f) h = tt

truth_in_range : (b : Bool) → InRange kind.Int (truth b)
truth_in_range b = if_holds (InRange kind.Int) b (pos 1) (pos 0) (λ e. refl) (λ e. refl)

-- a value of `&&` or `||`, or of what is brought to a truth value
one_in_range : (b : Bool) → InRange kind.Int (if b then pos 0 else pos 1)
one_in_range b = if_holds (InRange kind.Int) b (pos 0) (pos 1) (λ e. refl) (λ e. refl)

module _ (v : Option ℤ) where
  abbrev Within : CType → Type 0
  Within t = WhereSome (InType t) v

  of_kind : (k : IntKind) (o : Option CType) → has_kind k o ≡ true → WhereSome Within o → WhereSome (InRange k) v
  of_kind k (Some t) e h = subst Within (sym (same_type_equal (type.Int k) t e)) h
  of_kind k None e h = false_is_not_true e

  no_integer : (o : Option CType) → has_integer_type o ≡ false → WhereSome Within o
  no_integer None e = tt
  no_integer (Some (type.Int k)) e = false_is_not_true (sym e)
  no_integer (Some type.Void) e = any v
  no_integer (Some (type.Pointer' b t)) e = any v
  no_integer (Some (type.Array' b t n)) e = any v
  no_integer (Some (type.Struct n)) e = any v

  pointer_within : (x : Expr) (o : Option CType) → is_pointer_beside_null x o ≡ true → WhereSome Within o
  pointer_within x (Some (type.Pointer' b t)) e = any v
  pointer_within x None e = tt
  pointer_within x (Some type.Void) e = any v
  pointer_within x (Some (type.Array' b t n)) e = any v
  pointer_within x (Some (type.Struct n)) e = any v
  pointer_within x (Some (type.Int k)) e = false_is_not_true (right_of_and (is_null_constant x) false e)

first_of_or : (a n : Bool) → (a || (false || (false || (n && false)))) ≡ true → a ≡ true
first_of_or true n e = refl
first_of_or false true e = e
first_of_or false false e = e

module _ (test value other : Option ℤ) where
  abbrev Chosen : Option ℤ
  Chosen = option_and_then (λ x. if is_zero x then other else value) test

  chosen_in : (k : IntKind) → WhereSome (InRange k) value → WhereSome (InRange k) other → WhereSome (InRange k) Chosen
  chosen_in k h j = some_then Any (InRange k) (λ x. if is_zero x then other else value) test (any test) (λ x u. if_holds (WhereSome (InRange k)) (is_zero x) other value (λ e. j) (λ e. h))

  -- the type of a choice is that of both values, where it is an integer type
  choice_within : (x y : Expr) (a b : Option CType) → WhereSome (Within value) a → WhereSome (Within other) b → WhereSome (Within Chosen) (choice_type x a y b)
  choice_within x y (Some (type.Int k)) b h j =
      if_holds (WhereSome (Within Chosen)) (are_of_one_kind (Some (type.Int k)) b || (are_of_one_pointer (Some (type.Int k)) b || (are_void (Some (type.Int k)) b || is_pointer_beside_null y (Some (type.Int k))))) _ _
      (λ e. chosen_in k h (of_kind other k b (right_of_and (is_promoted k) _ (first_of_or (are_of_one_kind (Some (type.Int k)) b) (is_null_constant y) e)) j))
      (λ d. if_holds (WhereSome (Within Chosen)) (is_pointer_beside_null x b) b None (λ e. pointer_within Chosen x b e) (λ e. tt))
  choice_within x y a b h j =
      if_holds (WhereSome (Within Chosen)) (are_of_one_kind a b || (are_of_one_pointer a b || (are_void a b || is_pointer_beside_null y a))) a _
      (λ e. no_integer Chosen a refl)
      (λ d. if_holds (WhereSome (Within Chosen)) (is_pointer_beside_null x b) b None (λ e. pointer_within Chosen x b e) (λ e. tt))

module _ (q : Core) (s : Setting) where
  abbrev T : Expr → Option CType
  T x = type_of q s x

  pub value_in_type : (x : Expr) → WhereSome (Within (value_of x)) (T x)
  unfolding value_of
  value_in_type (Literal k z) = where_true_fits (Within (Some z)) (is_promoted k && (is_in_range k z && int_le (pos 0) z)) (type.Int k) (λ e. left_of_and _ _ (right_of_and _ _ e))
  value_in_type (Convert' k b (more_of-Expr x end_of-Expr)) = converted_within k (T x) (value_of x)
    where
      converted_within : (k : IntKind) (o : Option CType) (v : Option ℤ) → WhereSome (Within (option_map (converted k) v)) (converted_type k o)
      converted_within k (Some (type.Int l)) v = where_true_fits (Within (option_map (converted k) v)) (not (same_int_kind k l)) (type.Int k) (λ e. some_mapped Any (InRange k) (converted k) v (any v) (λ z u. converted_in_range k z))
      converted_within k None v = tt
      converted_within k (Some type.Void) v = tt
      converted_within k (Some (type.Pointer' b t)) v = tt
      converted_within k (Some (type.Array' b t n)) v = tt
      converted_within k (Some (type.Struct n)) v = tt
  value_in_type (Unary' o k b (more_of-Expr x end_of-Expr)) =
      where_true_fits (Within (option_and_then (λ x. without_fault (unary_of o k x)) (value_of x))) (is_promoted k && has_kind k (T x)) (type.Int k) (λ e.
      some_then Any (InRange k) (λ x. without_fault (unary_of o k x)) (value_of x) (any (value_of x)) (λ z u. fault_free k (unary_of o k z) (unary_fits o k z)))
  value_in_type (Binary' o k b (more_of-Expr x end_of-Expr) c (more_of-Expr y end_of-Expr)) =
      where_true_fits (Within (option_and_then (λ x. option_and_then (λ y. without_fault (binary_of o k x y)) (value_of y)) (value_of x))) (is_promoted k && (has_kind k (T x) && (if is_shift o then has_promoted_kind (T y) else has_kind k (T y)))) (type.Int k) (λ e.
      some_then (InRange k) (InRange k) (λ x. option_and_then (λ y. without_fault (binary_of o k x y)) (value_of y)) (value_of x) (of_kind (value_of x) k (T x) (left_of_and _ _ (right_of_and _ _ e)) (value_in_type x)) (λ z r.
      some_then Any (InRange k) (λ y. without_fault (binary_of o k z y)) (value_of y) (any (value_of y)) (λ w u. fault_free k (binary_of o k z w) (binary_fits o k z w r))))
  value_in_type (Compare' o b (more_of-Expr x end_of-Expr) c (more_of-Expr y end_of-Expr)) =
      where_true_fits (Within (option_and_then (λ x. option_and_then (λ y. Some (truth (compared_integers o x y))) (value_of y)) (value_of x))) (are_comparable o x (T x) y (T y)) (type.Int kind.Int) (λ e.
      some_then Any (InRange kind.Int) (λ x. option_and_then (λ y. Some (truth (compared_integers o x y))) (value_of y)) (value_of x) (any (value_of x)) (λ z u.
      some_then Any (InRange kind.Int) (λ y. Some (truth (compared_integers o z y))) (value_of y) (any (value_of y)) (λ w u. truth_in_range (compared_integers o z w))))
  value_in_type (Not' b (more_of-Expr x end_of-Expr)) =
      where_true_fits (Within (option_map (λ x. truth (is_zero x)) (value_of x))) (has_scalar_type (T x)) (type.Int kind.Int) (λ e. some_mapped Any (InRange kind.Int) (λ x. truth (is_zero x)) (value_of x) (any (value_of x)) (λ z u. truth_in_range (is_zero z)))
  value_in_type (Both' b (more_of-Expr x end_of-Expr) c (more_of-Expr y end_of-Expr)) =
      where_true_fits (Within (option_and_then (λ x. if is_zero x then Some (pos 0) else option_map (λ y. if is_zero y then pos 0 else pos 1) (value_of y)) (value_of x))) (has_scalar_type (T x) && has_scalar_type (T y)) (type.Int kind.Int) (λ e.
      some_then Any (InRange kind.Int) (λ x. if is_zero x then Some (pos 0) else option_map (λ y. if is_zero y then pos 0 else pos 1) (value_of y)) (value_of x) (any (value_of x)) (λ z u.
      if_holds (WhereSome (InRange kind.Int)) (is_zero z) (Some (pos 0)) (option_map (λ y. if is_zero y then pos 0 else pos 1) (value_of y)) (λ e. refl) (λ e. some_mapped Any (InRange kind.Int) (λ y. if is_zero y then pos 0 else pos 1) (value_of y) (any (value_of y)) (λ w u. one_in_range (is_zero w)))))
  value_in_type (Either' b (more_of-Expr x end_of-Expr) c (more_of-Expr y end_of-Expr)) =
      where_true_fits (Within (option_and_then (λ x. if is_zero x then option_map (λ y. if is_zero y then pos 0 else pos 1) (value_of y) else Some (pos 1)) (value_of x))) (has_scalar_type (T x) && has_scalar_type (T y)) (type.Int kind.Int) (λ e.
      some_then Any (InRange kind.Int) (λ x. if is_zero x then option_map (λ y. if is_zero y then pos 0 else pos 1) (value_of y) else Some (pos 1)) (value_of x) (any (value_of x)) (λ z u.
      if_holds (WhereSome (InRange kind.Int)) (is_zero z) (option_map (λ y. if is_zero y then pos 0 else pos 1) (value_of y)) (Some (pos 1)) (λ e. some_mapped Any (InRange kind.Int) (λ y. if is_zero y then pos 0 else pos 1) (value_of y) (any (value_of y)) (λ w u. one_in_range (is_zero w))) (λ e. refl)))
  value_in_type (Choose' b (more_of-Expr x end_of-Expr) c (more_of-Expr y end_of-Expr) d (more_of-Expr z end_of-Expr)) =
      if_fits (Within (Chosen (value_of x) (value_of y) (value_of z))) (has_scalar_type (T x)) (choice_type y (T y) z (T z)) (λ e.
      choice_within (value_of x) (value_of y) (value_of z) y z (T y) (T z) (value_in_type y) (value_in_type z))
  value_in_type x = some_known (Within None) (T x) (λ t e. tt)

  -- of a constant expression of an integer type
  pub constant_in_range : (k : IntKind) (x : Expr) → T x ≡ Some (type.Int k) → WhereSome (InRange k) (constant x)
  unfolding constant
  constant_in_range k x e =
      if_holds (WhereSome (InRange k)) (is_constant x) (value_of x) None (λ c. subst (WhereSome (Within (value_of x))) e (value_in_type x)) (λ c. tt)
