-- The operands and targets of code: their types, and their sizes.
use Rattle.std.proofs.Common.{◌≡◌, ℕ, ◌≤◌, Bool, true, false, ◌&&◌, not, List, Option, Some, refl, sym, ap, subst, ◌∙◌, arith}
use Rattle.step_meaning.specs.declared.value.CType.{CType, end_of-CType, more_of-CType}
use Rattle.step_meaning.specs.declared.value.CType.TheVariants as type
use Rattle.step_meaning.specs.declared.value.NameKind.TheVariants as names
use Rattle.step_meaning.specs.declared.expr.Expr.{Expr}
use Rattle.step_meaning.specs.declared.expr.Expr.TheVariants.{Literal, Load, Own}
use Rattle.step_meaning.specs.declared.expr.Place_.{Place_}
use Rattle.step_meaning.specs.declared.program.Core.{Core}
use Rattle.step_meaning.specs.declared.program.Declared.{Declared}
use Rattle.step_meaning.specs.Types.{where_true}
use Rattle.step_meaning.specs.TypeRules.{is_scalar}
use Rattle.step_meaning.specs.Settings.{Setting, variable_type}
use Rattle.step_meaning.specs.ExpressionTypes.{type_of, type_of_place, pointer_to, pointed_to, is_void, has_this_type, is_null_constant, is_taken_by, is_register}
use Rattle.step_meaning.specs.Normal.{is_operand, is_plain_place, is_silent, is_silent_place}
use Rattle.step_meaning.specs.Sizes.{nodes, place_nodes, depth, place_depth}
use Rattle.step_meaning.proofs.Ranges.{false_is_not_true, and_true}
use Rattle.step_meaning.proofs.SameTypes.{same_itself}
use Rattle.normal_laws.specs.NormalForm.{Operand, Number, Nil, Held, Absent, Target, Named, Pointed, register, expression_of, operand_type, pointed_type, place_of}
use Rattle.normal_laws.proofs.TypesOfParts.{taken}
use Rattle.normal_shapes.proofs.GoodTypes.{IsObject, IsValue, object_not_void, pointed_object, right_of_or, left_of_or}

-- ---- forms and sizes

pub operand_is : (a : Operand) → is_operand (expression_of a) ≡ true
operand_is (Number k z) = refl
operand_is Nil = refl
operand_is (Held i t) = refl
operand_is Absent = refl

pub operand_silent : (a : Operand) → is_silent (expression_of a) ≡ true
operand_silent (Number k z) = refl
operand_silent Nil = refl
operand_silent (Held i t) = refl
operand_silent Absent = refl

pub record IsSmallOperand (a : Operand) : Type 0 where
  pub nodes : nodes (expression_of a) ≤ 2
  pub depth : depth (expression_of a) ≤ 2

pub operand_small : (a : Operand) → IsSmallOperand a
operand_small (Number k z) = record { nodes = omega arith; depth = omega arith }
operand_small Nil = record { nodes = omega arith; depth = omega arith }
operand_small (Held i t) = record { nodes = omega arith; depth = omega arith }
operand_small Absent = record { nodes = omega arith; depth = omega arith }

pub record IsSmallTarget (u : Target) : Type 0 where
  pub nodes : place_nodes (place_of u) ≤ 3
  pub depth : place_depth (place_of u) ≤ 3

pub target_small : (u : Target) → IsSmallTarget u
target_small (Named v) = record { nodes = omega arith; depth = omega arith }
target_small (Pointed a) = let s = operand_small a in let n = s.nodes in let d = s.depth in record { nodes = omega arith; depth = omega arith }

pub target_silent : (u : Target) → is_silent_place (place_of u) ≡ true
target_silent (Named v) = refl
target_silent (Pointed a) = operand_silent a

-- ---- types

-- in a core with these layouts, a function that sees these variables, and registers
module _ (q : Core) (g : Setting) (ds : List Declared) where
  abbrev pub own : Setting
  own = record g { registers = ds }

  abbrev pub T : Expr → Option CType
  T = type_of q own

  abbrev pub P : Place_ → Option CType
  P = type_of_place q own

  -- the register is declared with this type
  abbrev pub IsDeclared : ℕ → CType → Type 0
  IsDeclared i t = variable_type own (record { kind = names.Register; index = i }) ≡ Some t

  -- the operand for an expression of this type
  abbrev pub OperandFits : CType → Operand → Type 0
  OperandFits t (Number k z) = (t ≡ type.Int k) × (T (Literal k z) ≡ Some t)
  OperandFits t Nil = t ≡ pointer_to type.Void
  OperandFits t (Held i u) = (t ≡ u) × IsDeclared i u × IsValue g.layouts u
  OperandFits t Absent = t ≡ type.Void

  -- the target for an lvalue of this type
  abbrev pub TargetFits : CType → Target → Type 0
  TargetFits t (Named v) = (variable_type own v ≡ Some t) × (is_register (Own v) ≡ false) × IsObject g.layouts t
  TargetFits t (Pointed (Held i (type.Pointer' b (more_of-CType u end_of-CType)))) = (t ≡ u) × IsDeclared i (type.Pointer' b (more_of-CType u end_of-CType)) × IsValue g.layouts (type.Pointer' b (more_of-CType u end_of-CType))
  TargetFits t (Pointed a) = ⊥

  where_both : (t : CType) (b c : Bool) → b ≡ true → c ≡ true → where_true (b && c) t ≡ Some t
  where_both t b c x y = ap (λ b. where_true b t) (and_true x y)

  has_itself : (t : CType) (o : Option CType) → o ≡ Some t → has_this_type t o ≡ true
  has_itself t o e = ap (has_this_type t) e ∙ same_itself t

  register_typed : (i : ℕ) (t : CType) → IsDeclared i t → IsValue g.layouts t → T (Load (register i) t) ≡ Some t
  register_typed i t d v = where_both t (is_scalar t) (has_this_type t (variable_type own (record { kind = names.Register; index = i }))) v.scalar (has_itself t _ d)

  -- an operand has the type of its expression, where this has a value
  pub operand_typed : (t : CType) (a : Operand) → OperandFits t a → is_void t ≡ false → T (expression_of a) ≡ Some t
  operand_typed t (Number k z) h n = h.1
  operand_typed t Nil h n = ap Some (sym h)
  operand_typed t (Held i u) h n = register_typed i u h.1 h.2 ∙ ap Some (sym h.0)
  operand_typed t Absent h n = false_is_not_true (sym n ∙ ap is_void h)

  pub scalar_not_void : (t : CType) → is_scalar t ≡ true → is_void t ≡ false
  scalar_not_void type.Void e = false_is_not_true e
  scalar_not_void (type.Int k) e = refl
  scalar_not_void (type.Pointer' b t) e = refl
  scalar_not_void (type.Array' b t n) e = refl
  scalar_not_void (type.Struct n) e = refl

  pub operand_type_is : (t : CType) (a : Operand) → OperandFits t a → operand_type a ≡ t
  operand_type_is t (Number k z) h = sym h.0
  operand_type_is t Nil h = sym h
  operand_type_is t (Held i u) h = sym h.0
  operand_type_is t Absent h = sym h

  -- a type with a value that a register may hold, or the literal of a number
  pub operand_value : (t : CType) (a : Operand) → OperandFits t a → (a ≡ Nil → ⊥) → is_void t ≡ false → IsValue g.layouts t
  operand_value t (Number k z) h n v = subst (IsValue g.layouts) (sym h.0) (record { scalar = refl; keeps = refl; depth = omega arith })
  operand_value t Nil h n v = absurd (n refl)
  operand_value t (Held i u) h n v = subst (IsValue g.layouts) (sym h.0) h.2
  operand_value t Absent h n v = false_is_not_true (sym v ∙ ap is_void h)

  -- ---- targets

  pub target_typed : (t : CType) (u : Target) → TargetFits t u → P (place_of u) ≡ Some t
  target_typed t (Named v) h = h.0
  target_typed t (Pointed (Held i (type.Pointer' b (more_of-CType u end_of-CType)))) h =
      ap pointed_to (register_typed i (type.Pointer' b (more_of-CType u end_of-CType)) h.1 h.2) ∙ ap (λ b. where_true (not b) u) (no_void u (pointed_object g.layouts b u h.2)) ∙ ap Some (sym h.0)
    where
      no_void : (u : CType) → IsObject g.layouts u → is_void u ≡ false
      no_void type.Void h = object_not_void g.layouts h
      no_void (type.Int k) h = refl
      no_void (type.Pointer' b t) h = refl
      no_void (type.Array' b t n) h = refl
      no_void (type.Struct n) h = refl
  target_typed t (Pointed _) h = absurd h

  pub target_object : (t : CType) (u : Target) → TargetFits t u → IsObject g.layouts t
  target_object t (Named v) h = h.2
  target_object t (Pointed (Held i (type.Pointer' b (more_of-CType u end_of-CType)))) h = subst (IsObject g.layouts) (sym h.0) (pointed_object g.layouts b u h.2)
  target_object t (Pointed _) h = absurd h

  pub target_plain : (t : CType) (u : Target) → TargetFits t u → is_plain_place (place_of u) ≡ true
  target_plain t (Named v) h = ap not h.1
  target_plain t (Pointed (Held i (type.Pointer' b (more_of-CType u end_of-CType)))) h = refl
  target_plain t (Pointed _) h = absurd h

  pub target_no_register : (u : Target) (t : CType) → TargetFits t u → is_register (place_of u) ≡ false
  target_no_register (Named v) t h = h.1
  target_no_register (Pointed a) t h = refl

  -- what a pointer designates
  pub pointed_target : (b : Unit {0}) (u : CType) (a : Operand) → is_void u ≡ false → OperandFits (type.Pointer' b (more_of-CType u end_of-CType)) a → TargetFits u (Pointed a) × (pointed_type (operand_type a) ≡ u)
  pointed_target b u (Number k z) v h = absurd (no h.0)
    where
      no : type.Pointer' b (more_of-CType u end_of-CType) ≡ type.Int k → ⊥
      no e = absurd cc
  pointed_target b u Nil v h = false_is_not_true (sym v ∙ ap (λ t. is_void (pointed_type t)) h)
  pointed_target b u (Held i t) v h =
      subst (λ t. IsDeclared i t → IsValue g.layouts t → TargetFits u (Pointed (Held i t)) × (pointed_type t ≡ u)) h.0 (λ d w. ((refl, d, w), refl)) h.1 h.2
  pointed_target b u Absent v h = absurd (no h)
    where
      no : type.Pointer' b (more_of-CType u end_of-CType) ≡ type.Void → ⊥
      no e = absurd cc

  -- ---- what a place takes

  -- an operand is taken where its expression was
  pub operand_taken : (t : CType) (e : Expr) (o : Option CType) (a : Operand) → is_taken_by t e o ≡ true → (is_null_constant e ≡ true → a ≡ Nil) → ((u : CType) → o ≡ Some u → OperandFits u a) → is_taken_by t (expression_of a) (T (expression_of a)) ≡ true
  operand_taken t e o a h null fits =
      taken t e o h
      (λ i s. and_true s (left_of_or (has_this_type t (T (expression_of a))) _ (has_itself t _ (operand_typed t a (fits t i) (scalar_not_void t s)))))
      (λ c p s. subst (λ a. is_taken_by t (expression_of a) (T (expression_of a)) ≡ true) (sym (null c)) (and_true s (right_of_or _ _ p)))
