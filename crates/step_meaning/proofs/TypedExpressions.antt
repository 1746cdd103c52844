-- Type preservation: an expression of a type gives a value of that type, an lvalue of a type designates a register or an object at an address, and the cells and registers keep values of their types.
use Rattle.std.proofs.Common.{◌≡◌, ℕ, Bool, true, false, cond, ◌&&◌, not, List, [], ◌∷◌, map, Option, Some, None, refl, sym, subst, arith}
use Rattle.std.specs.Prelude.{pos, int_le, slice_get, option_map, is_some}
use Rattle.step_meaning.specs.declared.value.IntKind.TheVariants as kind
use Rattle.step_meaning.specs.declared.value.CType.{CType, end_of-CType, more_of-CType}
use Rattle.step_meaning.specs.declared.value.CType.TheVariants as type
use Rattle.step_meaning.specs.declared.value.NameKind.{NameKind}
use Rattle.step_meaning.specs.declared.value.NameKind.TheVariants as names
use Rattle.step_meaning.specs.declared.value.Value.{Value}
use Rattle.step_meaning.specs.declared.value.Value.TheVariants as value
use Rattle.step_meaning.specs.declared.value.Action.TheVariants as act
use Rattle.step_meaning.specs.declared.expr.CompareOp.{CompareOp}
use Rattle.step_meaning.specs.declared.expr.Expr.{Expr, Row_of-Expr, end_of-Expr, more_of-Expr}
use Rattle.step_meaning.specs.declared.expr.Expr.TheVariants.{Literal, Null, Load, Address, Convert', Unary', Binary', Compare', Move', Difference', Not', Both', Either', Choose', Assign', Update', Invoke', GetChar, PutChar', Malloc', Free', Discard', Own, Deref', Member', Index'}
use Rattle.step_meaning.specs.declared.expr.Place_.{Place_, end_of-Place_, more_of-Place_}
use Rattle.step_meaning.specs.declared.program.Function.{Function}
use Rattle.step_meaning.specs.declared.program.Core.{Core}
use Rattle.step_meaning.specs.Numbers.{is_in_range}
use Rattle.step_meaning.specs.Names.{truth}
use Rattle.step_meaning.specs.State.{Here, Lvalue, InRegister, designated}
use Rattle.step_meaning.specs.Flow.{direct, Direct, DirectCall}
use Rattle.step_meaning.specs.Expressions as ex
use Rattle.step_meaning.specs.Settings.{Setting, variable_type, code_setting}
use Rattle.step_meaning.specs.Conversions.{is_promoted}
use Rattle.step_meaning.specs.TypeRules.{is_scalar}
use Rattle.step_meaning.specs.ExpressionTypes.{has_this_type, has_kind, has_scalar_type, is_null_constant, are_of_one_kind, are_of_one_pointer, is_pointer_beside_null, is_equality, are_comparable, choice_type, is_taken_by, may_answer, is_register, parameter_types, called, call_type, pointer_to}
use Rattle.step_meaning.specs.ExpressionTypes as typing
use Rattle.step_meaning.proofs.Ranges.{false_is_not_true, left_of_and, right_of_and}
use Rattle.step_meaning.proofs.TypedMemory.{WhereSome, InCell, Shape}
use Rattle.step_meaning.proofs.StepsFit.{IsAddress, InCells}
use Rattle.step_meaning.proofs.TypedAccesses.{address_of_type, type_of_address, keeps_get_char, keeps_put_char}
use Rattle.step_meaning.proofs.TypedAllocation.{keeps_allocate, keeps_release}
use Rattle.step_meaning.proofs.TypedOperators.{OfType, where_true_fits, either_true, Typed, kind_keeps, some_keeps, scalar_is_some, keeps_convert, keeps_unary, keeps_binary, keeps_compare, keeps_not, keeps_both, keeps_either, keeps_move, keeps_difference}
use Rattle.step_meaning.proofs.TypedPlaces.{Designates, all_some, NullKeeps, PlaceTyped, keeps_choice, taken_keeps, keeps_read, keeps_assign, keeps_update, keeps_address, keeps_deref, keeps_member, keeps_element}
use Rattle.step_meaning.proofs.Kept.{CallKeeps, Keeps, keeps_pure, keeps_bind, keeps_weaker, keeps_emit, keeps_through}

null_is : (e : Expr) → is_null_constant e ≡ true → e ≡ Null
null_is Null h = refl
null_is e h = false_is_not_true h

some_of_one_kind : (a b : Option CType) → are_of_one_kind a b ≡ true → (is_some a ≡ true) × (is_some b ≡ true)
some_of_one_kind (Some (type.Int k)) (Some t) e = (refl, refl)
some_of_one_kind (Some (type.Int k)) None e = (refl, right_of_and _ _ e)
some_of_one_kind _ b e = false_is_not_true e

some_of_one_pointer : (a b : Option CType) → are_of_one_pointer a b ≡ true → (is_some a ≡ true) × (is_some b ≡ true)
some_of_one_pointer (Some (type.Pointer' p t)) (Some u) e = (refl, refl)
some_of_one_pointer (Some (type.Pointer' p t)) None e = (refl, e)
some_of_one_pointer _ b e = false_is_not_true e

some_beside_null : (e : Expr) (b : Option CType) → is_pointer_beside_null e b ≡ true → is_some b ≡ true
some_beside_null e (Some t) h = refl
some_beside_null e None h = right_of_and (is_null_constant e) _ h

module _ (q : Core) (f : Function) (frames : List Shape) (here : Here) (call : ℕ → List Value → DirectCall) where
  abbrev pub register_types : List CType
  register_types = map (λ d. d.ctype) f.registers

  abbrev pub own : Setting
  own = code_setting q f

  abbrev pub K : {A : Type 0} → (A → Type 0) → Direct A → Type 0
  K P d = Keeps q frames register_types P d

  abbrev pub eval : Expr → Direct Value
  eval e = ex.eval direct q.layouts call here e

  abbrev pub place : Place_ → Direct Lvalue
  place p = ex.place direct q.layouts call here p

  -- registers are scalars
  abbrev pub ScalarRegisters : Type 0
  ScalarRegisters = (i : ℕ) → WhereSome (λ t. is_scalar t ≡ true) (option_map (λ d. d.ctype) (slice_get f.registers i))

  -- calls of functions that may be called keep types
  abbrev pub CallsKeep : Type 0
  CallsKeep = (g : ℕ) → WhereSome (λ fn. (vs : List Value) → InCells (parameter_types fn) vs → CallKeeps q frames (OfType fn.result) (call g vs)) (called q g)

  pub null_keeps : (e : Expr) → NullKeeps q frames register_types here e (eval e)
  null_keeps e h p t = subst (λ e. K (InCell (type.Pointer' p t)) (eval e)) (sym (null_is e h)) (keeps_pure value.Null (tt, tt))

  null_is_some : (e : Expr) → is_null_constant e ≡ true → is_some (typing.type_of q own e) ≡ true
  null_is_some e h = subst (λ e. is_some (typing.type_of q own e) ≡ true) (sym (null_is e h)) refl

  comparable_is_some : (c : CompareOp) (e g : Expr) → are_comparable c e (typing.type_of q own e) g (typing.type_of q own g) ≡ true → (is_some (typing.type_of q own e) ≡ true) × (is_some (typing.type_of q own g) ≡ true)
  comparable_is_some c e g h =
      either_true _ _ h (some_of_one_kind (typing.type_of q own e) (typing.type_of q own g)) (λ h.
      either_true _ _ h (some_of_one_pointer (typing.type_of q own e) (typing.type_of q own g)) (λ h.
      either_true _ _ (right_of_and (is_equality c) _ h)
      (λ h. (null_is_some e (left_of_and _ _ h), some_beside_null e (typing.type_of q own g) h))
      (λ h. (some_beside_null g (typing.type_of q own e) h, null_is_some g (left_of_and _ _ h)))))

  keeps_own : ScalarRegisters → (k : NameKind) (i : ℕ) → PlaceTyped q frames register_types here (is_register (Own (record { kind = k; index = i }))) (variable_type own (record { kind = k; index = i })) (direct.pure (designated here.activation (record { kind = k; index = i }) 0))
  keeps_own scalars names.Global i = all_some _ (variable_type own (record { kind = names.Global; index = i })) (λ t. keeps_pure _ (omega arith, refl))
  keeps_own scalars names.Local i = all_some _ (variable_type own (record { kind = names.Local; index = i })) (λ t. keeps_pure _ (omega arith, refl))
  keeps_own scalars names.Register i = by (option_map (λ d. d.ctype) (slice_get f.registers i)) (scalars i)
    where
      by : (o : Option CType) → WhereSome (λ t. is_scalar t ≡ true) o → WhereSome (λ t. K (Designates true t) (direct.pure (InRegister i))) o
      by None h = tt
      by (Some t) h = keeps_pure (InRegister i) (refl, h)
  keeps_own scalars names.Heap i = tt
  keeps_own scalars names.GhostGlobal i = tt
  keeps_own scalars names.GhostLocal i = tt

  keeps_call : (g : ℕ) (fit : List CType → Bool) (o : Option Function) (d : Direct (List Value)) → WhereSome (λ fn. (vs : List Value) → InCells (parameter_types fn) vs → CallKeeps q frames (OfType fn.result) (call g vs)) o → ((ts : List CType) → fit ts ≡ true → K (InCells ts) d) → Typed q frames register_types (call_type o fit) (direct.bind d (λ vs. direct.bind (direct.emit here (act.Call g)) (λ u. direct.through (call g vs))))
  keeps_call g fit None d h k = tt
  keeps_call g fit (Some fn) d h k = where_true_fits _ (fit (parameter_types fn)) fn.result (λ e. keeps_bind (k (parameter_types fn) e) (λ vs a. keeps_bind (keeps_emit here (act.Call g) (λ fs. tt)) (λ u b. keeps_through (h vs a))))

  keeps_chosen : (c : Bool) (e g h : Expr) → has_scalar_type (typing.type_of q own e) ≡ c → Typed q frames register_types (typing.type_of q own e) (eval e) → Typed q frames register_types (typing.type_of q own g) (eval g) → Typed q frames register_types (typing.type_of q own h) (eval h) → Typed q frames register_types (cond c (choice_type g (typing.type_of q own g) h (typing.type_of q own h)) None) (direct.bind (eval e) (λ v. cond (truth v) (eval g) (eval h)))
  keeps_chosen true e g h s i j k = keeps_choice q frames register_types here g h (typing.type_of q own g) (typing.type_of q own h) (eval e) (eval g) (eval h) (some_keeps q frames register_types here (typing.type_of q own e) (eval e) (scalar_is_some q frames register_types here (typing.type_of q own e) s) i) j k (null_keeps g) (null_keeps h)
  keeps_chosen false e g h s i j k = tt

  keeps_pointer : (o : Option CType) (d : Direct Value) → typing.has_pointer_type o ≡ true → Typed q frames register_types o d → K IsAddress d
  keeps_pointer (Some (type.Pointer' b t)) d e h = keeps_weaker (λ v k. address_of_type b t v k) h
  keeps_pointer _ d e h = false_is_not_true e

  module _ (scalars : ScalarRegisters) (calls : CallsKeep) where
    mutual
      pub keeps_eval : (e : Expr) → Typed q frames register_types (typing.type_of q own e) (eval e)
      keeps_eval (Literal k z) = where_true_fits _ (is_promoted k && (is_in_range k z && int_le (pos 0) z)) (type.Int k) (λ h. keeps_pure (value.Int z) (left_of_and _ _ (right_of_and _ _ h), tt))
      keeps_eval Null = keeps_pure value.Null (tt, tt)
      keeps_eval (Load p t) = where_true_fits _ (is_scalar t && has_this_type t (typing.type_of_place q own p)) t (λ h. keeps_read q frames register_types here (is_register p) t (typing.type_of_place q own p) (place p) h (keeps_place p))
      keeps_eval (Address p t) = where_true_fits _ (not (is_register p) && typing.is_addressed_at t (typing.type_of_place q own p)) (pointer_to t) (λ h. keeps_address q frames register_types here (is_register p) t (typing.type_of_place q own p) (place p) h (keeps_place p))
      keeps_eval (Convert' k b (more_of-Expr e end_of-Expr)) = keeps_convert q frames register_types here k (typing.type_of q own e) (eval e) (keeps_eval e)
      keeps_eval (Unary' o k b (more_of-Expr e end_of-Expr)) = where_true_fits _ (is_promoted k && has_kind k (typing.type_of q own e)) (type.Int k) (λ h. keeps_unary q frames register_types here o k (typing.type_of q own e) (eval e) h (keeps_eval e))
      keeps_eval (Binary' o k b (more_of-Expr e end_of-Expr) c (more_of-Expr g end_of-Expr)) = keeps_binary q frames register_types here o k (typing.type_of q own e) (typing.type_of q own g) (eval e) (eval g) (keeps_eval e) (keeps_eval g)
      keeps_eval (Compare' o b (more_of-Expr e end_of-Expr) c (more_of-Expr g end_of-Expr)) =
          where_true_fits _ (are_comparable o e (typing.type_of q own e) g (typing.type_of q own g)) (type.Int kind.Int) (λ h.
          keeps_compare q frames register_types here o (eval e) (eval g) (some_keeps q frames register_types here (typing.type_of q own e) (eval e) (comparable_is_some o e g h).0 (keeps_eval e)) (some_keeps q frames register_types here (typing.type_of q own g) (eval g) (comparable_is_some o e g h).1 (keeps_eval g)))
      keeps_eval (Move' b (more_of-Expr e end_of-Expr) c (more_of-Expr g end_of-Expr) size side) = keeps_move q frames register_types here own.layouts size side (typing.type_of q own e) (typing.type_of q own g) (eval e) (eval g) (keeps_eval e) (keeps_eval g)
      keeps_eval (Difference' b (more_of-Expr e end_of-Expr) c (more_of-Expr g end_of-Expr) unit) = keeps_difference q frames register_types here own.layouts unit (typing.type_of q own e) (typing.type_of q own g) (eval e) (eval g) (keeps_eval e) (keeps_eval g)
      keeps_eval (Not' b (more_of-Expr e end_of-Expr)) = where_true_fits _ (has_scalar_type (typing.type_of q own e)) (type.Int kind.Int) (λ h. keeps_not q frames register_types here (eval e) (some_keeps q frames register_types here (typing.type_of q own e) (eval e) (scalar_is_some q frames register_types here (typing.type_of q own e) h) (keeps_eval e)))
      keeps_eval (Both' b (more_of-Expr e end_of-Expr) c (more_of-Expr g end_of-Expr)) =
          where_true_fits _ (has_scalar_type (typing.type_of q own e) && has_scalar_type (typing.type_of q own g)) (type.Int kind.Int) (λ h.
          keeps_both q frames register_types here (eval e) (eval g) (some_keeps q frames register_types here (typing.type_of q own e) (eval e) (scalar_is_some q frames register_types here (typing.type_of q own e) (left_of_and _ _ h)) (keeps_eval e)) (some_keeps q frames register_types here (typing.type_of q own g) (eval g) (scalar_is_some q frames register_types here (typing.type_of q own g) (right_of_and _ _ h)) (keeps_eval g)))
      keeps_eval (Either' b (more_of-Expr e end_of-Expr) c (more_of-Expr g end_of-Expr)) =
          where_true_fits _ (has_scalar_type (typing.type_of q own e) && has_scalar_type (typing.type_of q own g)) (type.Int kind.Int) (λ h.
          keeps_either q frames register_types here (eval e) (eval g) (some_keeps q frames register_types here (typing.type_of q own e) (eval e) (scalar_is_some q frames register_types here (typing.type_of q own e) (left_of_and _ _ h)) (keeps_eval e)) (some_keeps q frames register_types here (typing.type_of q own g) (eval g) (scalar_is_some q frames register_types here (typing.type_of q own g) (right_of_and _ _ h)) (keeps_eval g)))
      keeps_eval (Choose' b (more_of-Expr e end_of-Expr) c (more_of-Expr g end_of-Expr) d (more_of-Expr h end_of-Expr)) =
          keeps_chosen (has_scalar_type (typing.type_of q own e)) e g h refl (keeps_eval e) (keeps_eval g) (keeps_eval h)
      keeps_eval (Assign' p t b (more_of-Expr e end_of-Expr)) = where_true_fits _ (has_this_type t (typing.type_of_place q own p) && is_taken_by t e (typing.type_of q own e)) t (λ h. keeps_assign q frames register_types here (is_register p) t e (typing.type_of_place q own p) (typing.type_of q own e) (place p) (eval e) h (keeps_place p) (keeps_eval e) (null_keeps e))
      keeps_eval (Update' p t u b (more_of-Expr e end_of-Expr) w) = where_true_fits _ (has_this_type t (typing.type_of_place q own p) && (typing.is_operation own.layouts t u (typing.type_of q own e) && may_answer t u e w)) t (λ h. keeps_update q frames register_types here own.layouts (is_register p) t u w (may_answer t u e w) (typing.type_of_place q own p) (typing.type_of q own e) (place p) (eval e) h (keeps_place p) (keeps_eval e))
      keeps_eval (Invoke' g b es) = keeps_call g (typing.are_arguments q own es) (called q g) (ex.all direct q.layouts call here es) (calls g) (keeps_all es)
      keeps_eval GetChar = keeps_get_char here
      keeps_eval (PutChar' b (more_of-Expr e end_of-Expr)) = where_true_fits _ (has_kind kind.Int (typing.type_of q own e)) (type.Int kind.Int) (λ h. keeps_bind (kind_keeps q frames register_types here kind.Int (typing.type_of q own e) (eval e) h (keeps_eval e)) (λ v k. keeps_put_char here v))
      keeps_eval (Malloc' b (more_of-Expr e end_of-Expr) t) =
          where_true_fits _ (has_kind kind.ULong (typing.type_of q own e) && typing.is_allocated_type own.layouts t) (pointer_to t) (λ h.
          keeps_bind (kind_keeps q frames register_types here kind.ULong (typing.type_of q own e) (eval e) (left_of_and _ _ h) (keeps_eval e)) (λ v k.
          keeps_weaker (λ p a. type_of_address tt (more_of-CType t end_of-CType) p a) (keeps_allocate here q.layouts t v)))
      keeps_eval (Free' b (more_of-Expr e end_of-Expr)) =
          where_true_fits _ (typing.has_pointer_type (typing.type_of q own e)) type.Void (λ h.
          keeps_bind (keeps_pointer (typing.type_of q own e) (eval e) h (keeps_eval e)) (λ p a. keeps_release here p a))
      keeps_eval (Discard' b (more_of-Expr e end_of-Expr)) = where_true_fits _ (is_some (typing.type_of q own e)) type.Void (λ h. keeps_bind (some_keeps q frames register_types here (typing.type_of q own e) (eval e) h (keeps_eval e)) (λ v k. keeps_pure (value.Int (pos 0)) tt))

      pub keeps_place : (p : Place_) → PlaceTyped q frames register_types here (is_register p) (typing.type_of_place q own p) (place p)
      keeps_place (Own v) = keeps_own scalars v.kind v.index
      keeps_place (Deref' b (more_of-Expr e end_of-Expr)) = keeps_deref q frames register_types here (typing.type_of q own e) (eval e) (keeps_eval e)
      keeps_place (Member' b (more_of-Place_ p end_of-Place_) o) = keeps_member q frames register_types here own.layouts (is_register p) o (typing.type_of_place q own p) (place p) (keeps_place p)
      keeps_place (Index' b (more_of-Place_ p end_of-Place_) c (more_of-Expr e end_of-Expr) size) = keeps_element q frames register_types here own.layouts (is_register p) size (typing.type_of_place q own p) (typing.type_of q own e) (place p) (eval e) (keeps_place p) (keeps_eval e)

      pub keeps_all : {n : _} (es : Row_of-Expr n) (ts : List CType) → typing.are_arguments q own es ts ≡ true → K (InCells ts) (ex.all direct q.layouts call here es)
      keeps_all end_of-Expr [] h = keeps_pure [] tt
      keeps_all end_of-Expr (t ∷ ts) h = false_is_not_true h
      keeps_all (more_of-Expr e more) [] h = false_is_not_true h
      keeps_all (more_of-Expr e more) (t ∷ ts) h = keeps_bind (taken_keeps q frames register_types here t e (typing.type_of q own e) (eval e) (left_of_and _ _ h) (keeps_eval e) (null_keeps e)) (λ v k. keeps_bind (keeps_all more ts (right_of_and _ _ h)) (λ vs l. keeps_pure (v ∷ vs) (k, l)))
