-- The types of the cores that rules make, where their parts have types.
use Rattle.std.proofs.Common.{◌≡◌, ℕ, Bool, true, false, ◌&&◌, ◌||◌, List, [], ◌∷◌, Some, refl, sym, ap, ◌∙◌}
use Rattle.std.specs.Prelude.{pos, int_le}
use Rattle.step_meaning.specs.declared.value.IntKind.{IntKind}
use Rattle.step_meaning.specs.declared.value.IntKind.TheVariants as kind
use Rattle.step_meaning.specs.declared.value.CType.{CType, end_of-CType, more_of-CType}
use Rattle.step_meaning.specs.declared.value.CType.TheVariants as type
use Rattle.step_meaning.specs.declared.expr.IntOp.{IntOp}
use Rattle.step_meaning.specs.declared.expr.UnaryOp.{UnaryOp}
use Rattle.step_meaning.specs.declared.expr.CompareOp.{CompareOp}
use Rattle.step_meaning.specs.declared.expr.UpdateOp.{UpdateOp}
use Rattle.step_meaning.specs.declared.expr.Answer.{Answer}
use Rattle.step_meaning.specs.declared.expr.Side.TheVariants.{PointerFirst, PointerLast, Minus}
use Rattle.step_meaning.specs.declared.expr.Expr.{Expr}
use Rattle.step_meaning.specs.declared.expr.Expr.TheVariants as e
use Rattle.step_meaning.specs.declared.expr.Expr.TheBlock.{shape-the_row-Expr-0, hidden-the_row-Expr-0, shape-the_row-Expr-1, hidden-the_row-Expr-1, shape-the_row-Place_-2, hidden-the_row-Place_-2}
use Rattle.step_meaning.specs.declared.expr.Place_.{Place_}
use Rattle.step_meaning.specs.declared.program.Core.{Core}
use Rattle.step_meaning.specs.declared.program.Function.{Function}
use Rattle.step_meaning.specs.Numbers.{is_in_range}
use Rattle.step_meaning.specs.Types.{same_type, where_true}
use Rattle.step_meaning.specs.TypeRules.{cells, is_scalar, member_type}
use Rattle.step_meaning.specs.Conversions.{is_promoted}
use Rattle.step_meaning.specs.Settings.{Setting}
use Rattle.step_meaning.specs.ExpressionTypes.{type_of, type_of_place, pointer_to, is_void, is_shift, is_equality, is_register, is_null_constant, has_scalar_type, is_operation, may_answer, is_taken_by, is_allocated_type, is_addressed_at, has_this_type, are_arguments, called, parameter_types}
use Rattle.step_meaning.proofs.Ranges.{and_true, false_is_not_true}
use Rattle.step_meaning.proofs.SameTypes.{same_itself, same_type_equal, number_same}
use Rattle.typing_rules.specs.Declarations.{array_of}
use denote.Hole.Carrier.{hidden}

-- ---- tests

null_last : (p n : Bool) → (p || (true && (n || true))) ≡ true
null_last true n = refl
null_last false true = refl
null_last false false = refl

null_first : (p n : Bool) → (p || (true && (true || n))) ≡ true
null_first true n = refl
null_first false n = refl

or_true : (p : Bool) → (p || true) ≡ true
or_true true = refl
or_true false = refl

module _ (q : Core) (s : Setting) where
  -- ---- operators

  pub literal_typed : (k : IntKind) (n : ℕ) → is_promoted k ≡ true → is_in_range k (pos n) ≡ true → int_le (pos 0) (pos n) ≡ true → type_of q s (e.Literal k (pos n)) ≡ Some (type.Int k)
  literal_typed k n p r l = rw (p, r, l) refl

  pub unary_typed : (o : UnaryOp) (k : IntKind) (x : Expr) → is_promoted k ≡ true → type_of q s x ≡ Some (type.Int k) → type_of q s (e.Unary o k x) ≡ Some (type.Int k)
  unfolding shape-the_row-Expr-0 hidden-the_row-Expr-0 hidden
  unary_typed o k x p a = rw (p, a, same_itself (type.Int k)) refl

  pub binary_typed : (o : IntOp) (k : IntKind) (x y : Expr) → is_promoted k ≡ true → is_shift o ≡ false → type_of q s x ≡ Some (type.Int k) → type_of q s y ≡ Some (type.Int k)
      → type_of q s (e.Binary o k x y) ≡ Some (type.Int k)
  unfolding shape-the_row-Expr-0 hidden-the_row-Expr-0 hidden
  binary_typed o k x y p d a b = rw (p, d, a, b, same_itself (type.Int k)) refl

  pub shift_typed : (o : IntOp) (k l : IntKind) (x y : Expr) → is_promoted k ≡ true → is_promoted l ≡ true → is_shift o ≡ true → type_of q s x ≡ Some (type.Int k) → type_of q s y ≡ Some (type.Int l)
      → type_of q s (e.Binary o k x y) ≡ Some (type.Int k)
  unfolding shape-the_row-Expr-0 hidden-the_row-Expr-0 hidden
  shift_typed o k l x y p m d a b = rw (p, d, a, b, m, same_itself (type.Int k)) refl

  pub compared_integers_typed : (c : CompareOp) (k : IntKind) (x y : Expr) → is_promoted k ≡ true → type_of q s x ≡ Some (type.Int k) → type_of q s y ≡ Some (type.Int k) → type_of q s (e.Compare c x y) ≡ Some (type.Int kind.Int)
  unfolding shape-the_row-Expr-0 hidden-the_row-Expr-0 hidden
  compared_integers_typed c k x y p a b = rw (a, b, p, same_itself (type.Int k)) refl

  pub compared_pointers_typed : (c : CompareOp) (t : CType) (x y : Expr) → type_of q s x ≡ Some (pointer_to t) → type_of q s y ≡ Some (pointer_to t) → type_of q s (e.Compare c x y) ≡ Some (type.Int kind.Int)
  unfolding shape-the_row-Expr-0 hidden-the_row-Expr-0 hidden
  compared_pointers_typed c t x y a b = rw (a, b, same_itself t) refl

  pub compared_with_null_typed : (c : CompareOp) (t : CType) (x : Expr) → is_equality c ≡ true → type_of q s x ≡ Some (pointer_to t) → type_of q s (e.Compare c x e.Null) ≡ Some (type.Int kind.Int)
  unfolding shape-the_row-Expr-0 hidden-the_row-Expr-0 hidden
  compared_with_null_typed c t x i a = rw (a, i) (ap (λ b. where_true b (type.Int kind.Int)) (null_last (same_type t type.Void) (is_null_constant x && true)))

  pub compared_null_with_typed : (c : CompareOp) (t : CType) (x : Expr) → is_equality c ≡ true → type_of q s x ≡ Some (pointer_to t) → type_of q s (e.Compare c e.Null x) ≡ Some (type.Int kind.Int)
  unfolding shape-the_row-Expr-0 hidden-the_row-Expr-0 hidden
  compared_null_with_typed c t x i a = rw (a, i) (ap (λ b. where_true b (type.Int kind.Int)) (null_first (same_type type.Void t) (is_null_constant x && true)))

  pub difference_typed : (t : CType) (x y : Expr) → is_void t ≡ false → type_of q s x ≡ Some (pointer_to t) → type_of q s y ≡ Some (pointer_to t) → type_of q s (e.Difference x y (cells s.layouts t)) ≡ Some (type.Int kind.Long)
  unfolding shape-the_row-Expr-0 hidden-the_row-Expr-0 hidden
  difference_typed t x y v a b = rw (a, b, v, number_same (cells s.layouts t), same_itself t) refl

  pub moved_typed : (t : CType) (k : IntKind) (x y : Expr) → is_void t ≡ false → type_of q s x ≡ Some (pointer_to t) → type_of q s y ≡ Some (type.Int k) → type_of q s (e.Move x y (cells s.layouts t) PointerFirst) ≡ Some (pointer_to t)
  unfolding shape-the_row-Expr-0 hidden-the_row-Expr-0 hidden
  moved_typed t k x y v a b = rw (a, b, v, number_same (cells s.layouts t)) refl

  pub moved_last_typed : (t : CType) (k : IntKind) (x y : Expr) → is_void t ≡ false → type_of q s x ≡ Some (type.Int k) → type_of q s y ≡ Some (pointer_to t) → type_of q s (e.Move x y (cells s.layouts t) PointerLast) ≡ Some (pointer_to t)
  unfolding shape-the_row-Expr-0 hidden-the_row-Expr-0 hidden
  moved_last_typed t k x y v a b = rw (a, b, v, number_same (cells s.layouts t)) refl

  pub moved_back_typed : (t : CType) (k : IntKind) (x y : Expr) → is_void t ≡ false → type_of q s x ≡ Some (pointer_to t) → type_of q s y ≡ Some (type.Int k) → type_of q s (e.Move x y (cells s.layouts t) Minus) ≡ Some (pointer_to t)
  unfolding shape-the_row-Expr-0 hidden-the_row-Expr-0 hidden
  moved_back_typed t k x y v a b = rw (a, b, v, number_same (cells s.layouts t)) refl

  pub not_typed : (t : CType) (x : Expr) → is_scalar t ≡ true → type_of q s x ≡ Some t → type_of q s (e.Not x) ≡ Some (type.Int kind.Int)
  unfolding shape-the_row-Expr-0 hidden-the_row-Expr-0 hidden
  not_typed t x i a = rw (a, i) refl

  pub both_typed : (t u : CType) (x y : Expr) → is_scalar t ≡ true → is_scalar u ≡ true → type_of q s x ≡ Some t → type_of q s y ≡ Some u → type_of q s (e.Both x y) ≡ Some (type.Int kind.Int)
  unfolding shape-the_row-Expr-0 hidden-the_row-Expr-0 hidden
  both_typed t u x y i j a b = rw (a, b, i, j) refl

  pub either_typed : (t u : CType) (x y : Expr) → is_scalar t ≡ true → is_scalar u ≡ true → type_of q s x ≡ Some t → type_of q s y ≡ Some u → type_of q s (e.Either x y) ≡ Some (type.Int kind.Int)
  unfolding shape-the_row-Expr-0 hidden-the_row-Expr-0 hidden
  either_typed t u x y i j a b = rw (a, b, i, j) refl

  pub discarded_typed : (t : CType) (x : Expr) → type_of q s x ≡ Some t → type_of q s (e.Discard x) ≡ Some type.Void
  unfolding shape-the_row-Expr-0 hidden-the_row-Expr-0 hidden
  discarded_typed t x a = rw a refl

  -- ---- `? :`

  module _ (c : Expr) (condition : has_scalar_type (type_of q s c) ≡ true) where
    pub chosen_integers_typed : (k : IntKind) (x y : Expr) → is_promoted k ≡ true → type_of q s x ≡ Some (type.Int k) → type_of q s y ≡ Some (type.Int k) → type_of q s (e.Choose c x y) ≡ Some (type.Int k)
    unfolding shape-the_row-Expr-0 hidden-the_row-Expr-0 hidden
    chosen_integers_typed k x y p a b = rw (condition, a, b, p, same_itself (type.Int k)) refl

    pub chosen_pointers_typed : (t : CType) (x y : Expr) → type_of q s x ≡ Some (pointer_to t) → type_of q s y ≡ Some (pointer_to t) → type_of q s (e.Choose c x y) ≡ Some (pointer_to t)
    unfolding shape-the_row-Expr-0 hidden-the_row-Expr-0 hidden
    chosen_pointers_typed t x y a b = rw (condition, a, b, same_itself t) refl

    pub chosen_void_typed : (x y : Expr) → type_of q s x ≡ Some type.Void → type_of q s y ≡ Some type.Void → type_of q s (e.Choose c x y) ≡ Some type.Void
    unfolding shape-the_row-Expr-0 hidden-the_row-Expr-0 hidden
    chosen_void_typed x y a b = rw (condition, a, b) refl

    pub chosen_null_last_typed : (t : CType) (x : Expr) → type_of q s x ≡ Some (pointer_to t) → type_of q s (e.Choose c x e.Null) ≡ Some (pointer_to t)
    unfolding shape-the_row-Expr-0 hidden-the_row-Expr-0 hidden
    chosen_null_last_typed t x a = rw (condition, a, or_true (same_type t type.Void)) refl

    null_is_void_pointer : (t : CType) (x : Expr) → is_null_constant x ≡ true → type_of q s x ≡ Some (pointer_to t) → same_type type.Void t ≡ true
    null_is_void_pointer t e.Null i a = sym (ap (has_this_type (pointer_to type.Void)) a)
    null_is_void_pointer t x i a = false_is_not_true i

    null_first_by : (t : CType) (x : Expr) (b n : Bool) → same_type type.Void t ≡ b → is_null_constant x ≡ n → type_of q s x ≡ Some (pointer_to t) → type_of q s (e.Choose c e.Null x) ≡ Some (pointer_to t)
    unfolding shape-the_row-Expr-0 hidden-the_row-Expr-0 hidden
    null_first_by t x true n v i a = rw (condition, a, v) (ap (λ u. Some (pointer_to u)) (same_type_equal type.Void t v))
    null_first_by t x false false v i a = rw (condition, a, v, i) refl
    null_first_by t x false true v i a = false_is_not_true (sym v ∙ null_is_void_pointer t x i a)

    pub chosen_null_first_typed : (t : CType) (x : Expr) → type_of q s x ≡ Some (pointer_to t) → type_of q s (e.Choose c e.Null x) ≡ Some (pointer_to t)
    chosen_null_first_typed t x a = null_first_by t x (same_type type.Void t) (is_null_constant x) refl refl a

  -- ---- lvalues

  pub pointee_typed : (t : CType) (x : Expr) → is_void t ≡ false → type_of q s x ≡ Some (pointer_to t) → type_of_place q s (e.Deref x) ≡ Some t
  unfolding shape-the_row-Expr-0 hidden-the_row-Expr-0 hidden
  pointee_typed t x v a = rw (a, v) refl

  pub element_typed : (t : CType) (n : ℕ) (k : IntKind) (p : Place_) (i : Expr) → type_of_place q s p ≡ Some (array_of t n) → type_of q s i ≡ Some (type.Int k) → type_of_place q s (e.Index p i (cells s.layouts t)) ≡ Some t
  unfolding shape-the_row-Expr-0 hidden-the_row-Expr-0 shape-the_row-Place_-2 hidden-the_row-Place_-2 hidden
  element_typed t n k p i a b = rw (a, b, number_same (cells s.layouts t)) refl

  pub member_typed : (n o : ℕ) (t : CType) (p : Place_) → type_of_place q s p ≡ Some (type.Struct n) → member_type s.layouts (type.Struct n) o ≡ Some t → type_of_place q s (e.Member p o) ≡ Some t
  unfolding shape-the_row-Expr-0 hidden-the_row-Expr-0 shape-the_row-Place_-2 hidden-the_row-Place_-2 hidden
  member_typed n o t p a m = rw a m

  addressed : (t : CType) → is_addressed_at t (Some t) ≡ true
  addressed type.Void = refl
  addressed (type.Int k) = same_itself (type.Int k)
  addressed (type.Pointer' b (more_of-CType t end_of-CType)) = same_itself t
  addressed (type.Array' b (more_of-CType t end_of-CType) n) = rw (same_itself (array_of t n)) (or_true (same_type (array_of t n) t))
  addressed (type.Struct n) = same_itself (type.Struct n)

  pub loaded_typed : (t : CType) (p : Place_) → is_scalar t ≡ true → type_of_place q s p ≡ Some t → type_of q s (e.Load p t) ≡ Some t
  loaded_typed t p i a = rw (a, i, same_itself t) refl

  pub address_typed : (t : CType) (p : Place_) → is_register p ≡ false → type_of_place q s p ≡ Some t → type_of q s (e.Address p t) ≡ Some (pointer_to t)
  address_typed t p r a = rw (a, r, addressed t) refl

  pub array_address_typed : (t : CType) (n : ℕ) (p : Place_) → is_register p ≡ false → type_of_place q s p ≡ Some (array_of t n) → type_of q s (e.Address p t) ≡ Some (pointer_to t)
  array_address_typed t n p r a = rw (a, r, same_itself t) refl

  -- ---- assignments

  pub taken_itself : (t : CType) (x : Expr) → is_scalar t ≡ true → type_of q s x ≡ Some t → is_taken_by t x (type_of q s x) ≡ true
  taken_itself t x i a = rw (a, i, same_itself t) refl

  pub taken_null : (t : CType) → is_taken_by (pointer_to t) e.Null (type_of q s e.Null) ≡ true
  taken_null t = or_true (same_type t type.Void)

  pub assigned_typed : (t : CType) (p : Place_) (x : Expr) → type_of_place q s p ≡ Some t → is_taken_by t x (type_of q s x) ≡ true → type_of q s (e.Assign p t x) ≡ Some t
  unfolding shape-the_row-Expr-0 hidden-the_row-Expr-0 hidden
  assigned_typed t p x a i = rw (a, same_itself t, i) refl

  pub updated_typed : (t : CType) (p : Place_) (u : UpdateOp) (x : Expr) (w : Answer) → type_of_place q s p ≡ Some t → is_operation s.layouts t u (type_of q s x) ≡ true → may_answer t u x w ≡ true
      → type_of q s (e.Update p t u x w) ≡ Some t
  unfolding shape-the_row-Expr-0 hidden-the_row-Expr-0 hidden
  updated_typed t p u x w a o m = rw (a, same_itself t, o, m) refl

  -- ---- calls

  pub put_typed : (x : Expr) → type_of q s x ≡ Some (type.Int kind.Int) → type_of q s (e.PutChar x) ≡ Some (type.Int kind.Int)
  unfolding shape-the_row-Expr-0 hidden-the_row-Expr-0 hidden
  put_typed x a = rw a refl

  pub malloc_typed : (t : CType) (x : Expr) → type_of q s x ≡ Some (type.Int kind.ULong) → is_allocated_type s.layouts t ≡ true → type_of q s (e.Malloc x t) ≡ Some (pointer_to t)
  unfolding shape-the_row-Expr-0 hidden-the_row-Expr-0 hidden
  malloc_typed t x a i = rw (a, i) refl

  pub free_typed : (t : CType) (x : Expr) → type_of q s x ≡ Some (pointer_to t) → type_of q s (e.Free x) ≡ Some type.Void
  unfolding shape-the_row-Expr-0 hidden-the_row-Expr-0 hidden
  free_typed t x a = rw a refl

  -- the parameters of these types take the arguments, one each
  abbrev pub ArgumentsFit : List Expr → List CType → Type 0
  ArgumentsFit [] [] = Unit {0}
  ArgumentsFit (x ∷ xs) (t ∷ ts) = (is_taken_by t x (type_of q s x) ≡ true) × ArgumentsFit xs ts
  ArgumentsFit _ _ = ⊥

  row_arguments : (xs : List Expr) (ts : List CType) → ArgumentsFit xs ts → are_arguments q s (hidden-the_row-Expr-1 xs) ts ≡ true
  unfolding shape-the_row-Expr-1 hidden-the_row-Expr-1 hidden
  row_arguments [] [] h = refl
  row_arguments (x ∷ xs) (t ∷ ts) h = and_true h.0 (row_arguments xs ts h.1)
  row_arguments [] (t ∷ ts) h = absurd h
  row_arguments (x ∷ xs) [] h = absurd h

  pub invoked_typed : (n : ℕ) (f : Function) (xs : List Expr) → called q n ≡ Some f → ArgumentsFit xs (parameter_types f) → type_of q s (e.Invoke n xs) ≡ Some f.result
  unfolding shape-the_row-Expr-1 hidden-the_row-Expr-1 hidden
  invoked_typed n f xs c h = rw (c, row_arguments xs (parameter_types f) h) refl
