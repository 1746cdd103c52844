-- An expression that has a type where there are neither registers nor ghost variables names variables of file scope and locals alone.
use Rattle.std.proofs.Common.{◌≡◌, ℕ, zero, suc, true, ◌&&◌, not, List, [], ◌∷◌, Option, Some, None, refl, sym, subst, ◌∙◌}
use Rattle.std.specs.Prelude.{pos, int_le, slice_get, option_map}
use Rattle.step_meaning.specs.declared.value.IntKind.TheVariants as kind
use Rattle.step_meaning.specs.declared.value.CType.{CType}
use Rattle.step_meaning.specs.declared.value.CType.TheVariants as type
use Rattle.step_meaning.specs.declared.value.NameKind.{NameKind}
use Rattle.step_meaning.specs.declared.value.NameKind.TheVariants as names
use Rattle.step_meaning.specs.declared.expr.Expr.{Expr, Row_of-Expr, end_of-Expr, more_of-Expr}
use Rattle.step_meaning.specs.declared.expr.Expr.TheVariants.{Literal, Null, Load, Address, Convert', Unary', Binary', Compare', Move', Difference', Not', Both', Either', Choose', Assign', Update', Invoke', GetChar, PutChar', Malloc', Free', Discard', Own, Deref', Member', Index'}
use Rattle.step_meaning.specs.declared.expr.Place_.{Place_, end_of-Place_, more_of-Place_}
use Rattle.step_meaning.specs.declared.program.Core.{Core}
use Rattle.step_meaning.specs.declared.program.Declared.{Declared}
use Rattle.step_meaning.specs.Settings.{Setting, variables}
use Rattle.step_meaning.specs.TypeRules.{is_scalar}
use Rattle.step_meaning.specs.ExpressionTypes.{type_of, type_of_place, are_arguments, has_this_type, has_kind, has_scalar_type, has_pointer_type, is_null_constant, are_comparable, choice_type, is_taken_by, is_operation, may_answer, is_register, is_addressed_at, is_allocated_type, called, pointer_to}
use Rattle.step_meaning.proofs.Ranges.{false_is_not_true, left_of_and, right_of_and}
use Rattle.normal_laws.specs.SourceCode.{IsSourceKind, IsSourceExpression, AreSourceExpressions, IsSourcePlace}
use Rattle.normal_laws.proofs.TypesOfParts.{none_is_not, where_true_is, this_type, scalar_type, pointer_type, some_type, addressed, pointed, member_of, element_in, converted_from, operand_kind, operand_kinds, NullPoints, comparable_types, moved_operands, pointers_apart, choice_is, chosen_types, choice_condition, taken_type, operated, call_is}

-- `Null` alone is a null pointer constant
pub null_constant_is : (e : Expr) → is_null_constant e ≡ true → e ≡ Null
null_constant_is Null h = refl
null_constant_is _ h = false_is_not_true h

nothing : (ds : List Declared) (i : ℕ) → ds ≡ [] → option_map (λ d. d.ctype) (slice_get ds i) ≡ None
nothing [] zero e = refl
nothing [] (suc i) e = refl
nothing (d ∷ ds) i e = absurd (no e)
  where
    no : d ∷ ds ≡ [] → ⊥
    no e = cc

module _ (q : Core) (g : Setting) where
  abbrev T : Expr → Option CType
  T = type_of q g

  abbrev P : Place_ → Option CType
  P = type_of_place q g

  pub null_points : (e : Expr) → NullPoints e (T e)
  null_points e h = subst (λ e. T e ≡ Some (pointer_to type.Void)) (sym (null_constant_is e h)) refl

  module _ (no_registers : g.registers ≡ []) (no_file_ghosts : g.file_ghosts ≡ []) (no_ghosts : g.ghosts ≡ []) where
    none_there : {A : Type 0} (k : NameKind) (i : ℕ) (t : CType) → variables g k ≡ [] → option_map (λ d. d.ctype) (slice_get (variables g k) i) ≡ Some t → A
    none_there k i t e h = none_is_not (sym (nothing (variables g k) i e) ∙ h)

    source_variable : (k : NameKind) (i : ℕ) (t : CType) → option_map (λ d. d.ctype) (slice_get (variables g k) i) ≡ Some t → IsSourceKind k
    source_variable names.Global i t h = tt
    source_variable names.Local i t h = tt
    source_variable names.Heap i t h = none_there names.Heap i t refl h
    source_variable names.Register i t h = none_there names.Register i t no_registers h
    source_variable names.GhostGlobal i t h = none_there names.GhostGlobal i t no_file_ghosts h
    source_variable names.GhostLocal i t h = none_there names.GhostLocal i t no_ghosts h

    mutual
      pub source_expression : (e : Expr) (t : CType) → T e ≡ Some t → IsSourceExpression e
      source_expression (Literal k z) t h = tt
      source_expression Null t h = tt
      source_expression (Load p u) t h = let i = where_true_is (is_scalar u && has_this_type u (P p)) u t h in source_place p u (this_type u (P p) (right_of_and _ _ i.0))
      source_expression (Address p u) t h =
          let i = where_true_is (not (is_register p) && is_addressed_at u (P p)) (pointer_to u) t h in
          let a = addressed u (P p) (right_of_and _ _ i.0) in
          source_place p a.0 a.1
      source_expression (Convert' k b (more_of-Expr e end_of-Expr)) t h = let c = converted_from k (T e) t h in source_expression e (type.Int c.0) c.1
      source_expression (Unary' o k b (more_of-Expr e end_of-Expr)) t h = source_expression e (type.Int k) (operand_kind k (T e) t h).0
      source_expression (Binary' o k b (more_of-Expr e end_of-Expr) c (more_of-Expr f end_of-Expr)) t h =
          let x = operand_kinds o k (T e) (T f) t h in (source_expression e (type.Int k) x.1, source_expression f (type.Int x.0) x.2)
      source_expression (Compare' o b (more_of-Expr e end_of-Expr) c (more_of-Expr f end_of-Expr)) t h =
          let i = where_true_is (are_comparable o e (T e) f (T f)) (type.Int kind.Int) t h in
          let x = comparable_types o e f (T e) (T f) (null_points e) (null_points f) i.0 in
          (source_expression e x.0 x.2, source_expression f x.1 x.3)
      source_expression (Move' b (more_of-Expr e end_of-Expr) c (more_of-Expr f end_of-Expr) size side) t h =
          let x = moved_operands g.layouts size side (T e) (T f) t h in (source_expression e x.0 x.2, source_expression f x.1 x.3)
      source_expression (Difference' b (more_of-Expr e end_of-Expr) c (more_of-Expr f end_of-Expr) unit) t h =
          let x = (pointers_apart g.layouts unit (T e) (T f) t h).0 in (source_expression e x.0 x.2, source_expression f x.1 x.3)
      source_expression (Not' b (more_of-Expr e end_of-Expr)) t h =
          let i = where_true_is (has_scalar_type (T e)) (type.Int kind.Int) t h in let x = scalar_type (T e) i.0 in source_expression e x.0 x.1
      source_expression (Both' b (more_of-Expr e end_of-Expr) c (more_of-Expr f end_of-Expr)) t h =
          let i = where_true_is (has_scalar_type (T e) && has_scalar_type (T f)) (type.Int kind.Int) t h in
          let x = scalar_type (T e) (left_of_and _ _ i.0) in
          let y = scalar_type (T f) (right_of_and _ _ i.0) in
          (source_expression e x.0 x.1, source_expression f y.0 y.1)
      source_expression (Either' b (more_of-Expr e end_of-Expr) c (more_of-Expr f end_of-Expr)) t h =
          let i = where_true_is (has_scalar_type (T e) && has_scalar_type (T f)) (type.Int kind.Int) t h in
          let x = scalar_type (T e) (left_of_and _ _ i.0) in
          let y = scalar_type (T f) (right_of_and _ _ i.0) in
          (source_expression e x.0 x.1, source_expression f y.0 y.1)
      source_expression (Choose' b (more_of-Expr e end_of-Expr) c (more_of-Expr f end_of-Expr) d (more_of-Expr j end_of-Expr)) t h =
          let i = choice_condition (has_scalar_type (T e)) (choice_type f (T f) j (T j)) t h in
          let x = scalar_type (T e) i.0 in
          let y = chosen_types f (T f) j (T j) t (null_points f) (null_points j) (choice_is f (T f) j (T j) t i.1) in
          (source_expression e x.0 x.1, source_expression f y.0 y.2, source_expression j y.1 y.3)
      source_expression (Assign' p u b (more_of-Expr e end_of-Expr)) t h =
          let i = where_true_is (has_this_type u (P p) && is_taken_by u e (T e)) u t h in
          let x = taken_type u e (T e) (null_points e) (right_of_and _ _ i.0) in
          (source_place p u (this_type u (P p) (left_of_and _ _ i.0)), source_expression e x.0 x.1)
      source_expression (Update' p u o b (more_of-Expr e end_of-Expr) w) t h =
          let i = where_true_is (has_this_type u (P p) && (is_operation g.layouts u o (T e) && may_answer u o e w)) u t h in
          let x = operated g.layouts u o (T e) (left_of_and _ _ (right_of_and _ _ i.0)) in
          (source_place p u (this_type u (P p) (left_of_and _ _ i.0)), source_expression e (type.Int x.0) x.1)
      source_expression (Invoke' f b es) t h = let c = call_is (called q f) (are_arguments q g es) t h in source_arguments es _ c.2
      source_expression GetChar t h = tt
      source_expression (PutChar' b (more_of-Expr e end_of-Expr)) t h =
          let i = where_true_is (has_kind kind.Int (T e)) (type.Int kind.Int) t h in source_expression e (type.Int kind.Int) (this_type (type.Int kind.Int) (T e) i.0)
      source_expression (Malloc' b (more_of-Expr e end_of-Expr) u) t h =
          let i = where_true_is (has_kind kind.ULong (T e) && is_allocated_type g.layouts u) (pointer_to u) t h in
          source_expression e (type.Int kind.ULong) (this_type (type.Int kind.ULong) (T e) (left_of_and _ _ i.0))
      source_expression (Free' b (more_of-Expr e end_of-Expr)) t h =
          let i = where_true_is (has_pointer_type (T e)) type.Void t h in let x = pointer_type (T e) i.0 in source_expression e x.0 x.1
      source_expression (Discard' b (more_of-Expr e end_of-Expr)) t h =
          let i = where_true_is (Rattle.std.specs.Prelude.is_some (T e)) type.Void t h in let x = some_type (T e) i.0 in source_expression e x.0 x.1

      pub source_arguments : {n : _} (es : Row_of-Expr n) (ts : List CType) → are_arguments q g es ts ≡ true → AreSourceExpressions es
      source_arguments end_of-Expr ts h = tt
      source_arguments (more_of-Expr e es) [] h = false_is_not_true h
      source_arguments (more_of-Expr e es) (t ∷ ts) h =
          let x = taken_type t e (T e) (null_points e) (left_of_and _ _ h) in
          (source_expression e x.0 x.1, source_arguments es ts (right_of_and _ _ h))

      pub source_place : (p : Place_) (t : CType) → P p ≡ Some t → IsSourcePlace p
      source_place (Own v) t h = source_variable v.kind v.index t h
      source_place (Deref' b (more_of-Expr e end_of-Expr)) t h = let x = pointed (T e) t h in source_expression e _ x.1
      source_place (Member' b (more_of-Place_ p end_of-Place_) o) t h = let x = member_of g.layouts o (P p) t h in source_place p x.0 x.1
      source_place (Index' b (more_of-Place_ p end_of-Place_) c (more_of-Expr e end_of-Expr) size) t h =
          let x = element_in g.layouts size (P p) (T e) t h in (source_place p x.0 x.2, source_expression e (type.Int x.1) x.3)
