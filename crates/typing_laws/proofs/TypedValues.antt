-- What is kept of operands and values: their cores have the types that they say, which are those of objects and of values in the program.
use Rattle.std.proofs.Common.{◌≡◌, ℕ, Bool, true, false, Some, refl, sym}
use Rattle.c_lexer.specs.declared.token.Place.{Place}
use Rattle.step_meaning.specs.declared.value.CType.{CType, end_of-CType, more_of-CType}
use Rattle.step_meaning.specs.declared.value.CType.TheVariants as type
use Rattle.step_meaning.specs.declared.expr.Expr.{Expr}
use Rattle.step_meaning.specs.declared.expr.Place_.{Place_}
use Rattle.step_meaning.specs.declared.program.Core.{Core}
use Rattle.step_meaning.specs.Settings.{Setting}
use Rattle.step_meaning.specs.TypeRules.{is_scalar}
use Rattle.step_meaning.specs.ExpressionTypes.{type_of, type_of_place, pointer_to, is_void, is_register, has_scalar_type}
use Rattle.step_meaning.specs.Library.{void_pointer}
use Rattle.step_meaning.proofs.Ranges.{false_is_not_true}
use Rattle.typing_rules.specs.declared.judgement.Shape.{Shape}
use Rattle.typing_rules.specs.declared.judgement.Shape.TheVariants as is
use Rattle.typing_rules.specs.declared.operand.Operand.{Operand}
use Rattle.typing_rules.specs.declared.operand.Value.{Value}
use Rattle.typing_rules.specs.declared.operand.What.{What}
use Rattle.typing_rules.specs.declared.operand.What.TheVariants.{At, Made}
use Rattle.typing_rules.specs.Judgements.{shape, is_scalar_shape, is_pointer}
use Rattle.typing_rules.specs.Declarations.{is_complete}
use Rattle.typing_rules.specs.Operands.{loaded, value_of, value, condition}
use Rattle.typing_laws.specs.SmallTypes.{WhereOk}
use Rattle.typing_laws.proofs.CheckedValues.{if_holds}
use Rattle.typing_laws.proofs.TypedCores.{loaded_typed, array_address_typed}

-- ---- types

-- the types that a value has, where so many structs are complete: `void`, an integer, or a pointer to an object or to `void`
abbrev pub is_value_type : ℕ → CType → Bool
is_value_type c type.Void = true
is_value_type c (type.Int k) = true
is_value_type c (type.Pointer' b (more_of-CType type.Void end_of-CType)) = true
is_value_type c (type.Pointer' b (more_of-CType t end_of-CType)) = is_complete c c t
is_value_type c _ = false

-- what a shape says of a type
abbrev pub OfShape : CType → Shape → Type 0
OfShape t is.NoValue = t ≡ type.Void
OfShape t (is.Integer k) = t ≡ type.Int k
OfShape t is.ToObject = (u : CType) × (t ≡ pointer_to u) × (is_void u ≡ false)
OfShape t is.ToVoid = t ≡ void_pointer
OfShape t is.Aggregate = is_scalar t ≡ false

pub of_shape : (t : CType) → OfShape t (shape t)
unfolding shape
of_shape type.Void = refl
of_shape (type.Int k) = refl
of_shape (type.Pointer' b (more_of-CType type.Void end_of-CType)) = refl
of_shape (type.Pointer' b (more_of-CType (type.Int k) end_of-CType)) = (type.Int k, refl, refl)
of_shape (type.Pointer' b (more_of-CType (type.Pointer' c t) end_of-CType)) = (type.Pointer' c t, refl, refl)
of_shape (type.Pointer' b (more_of-CType (type.Array' c t n) end_of-CType)) = (type.Array' c t n, refl, refl)
of_shape (type.Pointer' b (more_of-CType (type.Struct n) end_of-CType)) = (type.Struct n, refl, refl)
of_shape (type.Array' b t n) = refl
of_shape (type.Struct n) = refl

pub pointer_of_shape : (t : CType) (sh : Shape) → OfShape t sh → is_pointer sh ≡ true → (u : CType) × (t ≡ pointer_to u)
pointer_of_shape t is.ToObject h e = (h.0, h.1)
pointer_of_shape t is.ToVoid h e = (type.Void, h)
pointer_of_shape t _ h e = false_is_not_true e

pub scalar_of_shape : (t : CType) (sh : Shape) → OfShape t sh → is_scalar_shape sh ≡ true → is_scalar t ≡ true
scalar_of_shape t (is.Integer k) h e = rw h refl
scalar_of_shape t is.ToObject h e = rw h.1 refl
scalar_of_shape t is.ToVoid h e = rw h refl
scalar_of_shape t _ h e = false_is_not_true e

pub pointer_valued : (c : ℕ) (t : CType) → is_complete c c t ≡ true → is_value_type c (pointer_to t) ≡ true
pointer_valued c type.Void e = refl
pointer_valued c (type.Int k) e = e
pointer_valued c (type.Pointer' b t) e = e
pointer_valued c (type.Array' b t n) e = e
pointer_valued c (type.Struct n) e = e

pub pointee_complete : (c : ℕ) (t : CType) → is_void t ≡ false → is_value_type c (pointer_to t) ≡ true → is_complete c c t ≡ true
pointee_complete c type.Void v e = false_is_not_true (sym v)
pointee_complete c (type.Int k) v e = e
pointee_complete c (type.Pointer' b t) v e = e
pointee_complete c (type.Array' b t n) v e = e
pointee_complete c (type.Struct n) v e = e

-- a scalar object's type is that of a value
pub scalar_valued : (c : ℕ) (t : CType) → is_scalar t ≡ true → is_complete c c t ≡ true → is_value_type c t ≡ true
unfolding is_complete
scalar_valued c (type.Int k) i e = refl
scalar_valued c (type.Pointer' b (more_of-CType type.Void end_of-CType)) i e = refl
scalar_valued c (type.Pointer' b (more_of-CType (type.Int k) end_of-CType)) i e = e
scalar_valued c (type.Pointer' b (more_of-CType (type.Pointer' d t) end_of-CType)) i e = e
scalar_valued c (type.Pointer' b (more_of-CType (type.Array' d t n) end_of-CType)) i e = e
scalar_valued c (type.Pointer' b (more_of-CType (type.Struct n) end_of-CType)) i e = e
scalar_valued c type.Void i e = false_is_not_true i
scalar_valued c (type.Array' b t n) i e = false_is_not_true i
scalar_valued c (type.Struct n) i e = false_is_not_true i

-- ---- cores

pub record Typed (q : Core) (s : Setting) (c : ℕ) (x : Expr) (t : CType) : Type 0 where
  pub typed : type_of q s x ≡ Some t
  pub valued : is_value_type c t ≡ true

pub record Placed (q : Core) (s : Setting) (c : ℕ) (p : Place_) (t : CType) : Type 0 where
  pub typed : type_of_place q s p ≡ Some t
  pub complete : is_complete c c t ≡ true
  pub memory : is_register p ≡ false

module _ (q : Core) (s : Setting) (c : ℕ) where
  abbrev pub ValueFits : Value → Type 0
  ValueFits v = Typed q s c v.expr v.ctype

  abbrev pub WhatFits : What → Type 0
  WhatFits (At p t) = Placed q s c p t
  WhatFits (Made o x t) = Typed q s c x t

  abbrev pub OperandFits : Operand → Type 0
  OperandFits a = WhatFits a.what

  pub loaded_fits : (first : Place) (p : Place_) (t : CType) → Placed q s c p t → WhereOk ValueFits (loaded first p t)
  unfolding loaded is_complete
  loaded_fits first p (type.Struct n) h = tt
  loaded_fits first p (type.Array' b (more_of-CType t end_of-CType) n) h = record { typed = array_address_typed q s t n p h.memory h.typed; valued = pointer_valued c t h.complete }
  loaded_fits first p type.Void h = false_is_not_true h.complete
  loaded_fits first p (type.Int k) h = record { typed = loaded_typed q s (type.Int k) p refl h.typed; valued = refl }
  loaded_fits first p (type.Pointer' b t) h = record { typed = loaded_typed q s (type.Pointer' b t) p refl h.typed; valued = scalar_valued c (type.Pointer' b t) refl h.complete }

  value_of_fits : (first : Place) (w : What) → WhatFits w → WhereOk ValueFits (value_of first w)
  value_of_fits first (At p t) h = loaded_fits first p t h
  value_of_fits first (Made o x t) h = h

  pub value_fits : (a : Operand) → OperandFits a → WhereOk ValueFits (value a)
  unfolding value
  value_fits a h = value_of_fits a.first a.what h

  -- a condition is an integer or a pointer
  abbrev pub IsCondition : Expr → Type 0
  IsCondition x = has_scalar_type (type_of q s x) ≡ true

  pub condition_fits : (v : Value) → ValueFits v → WhereOk IsCondition (condition v)
  unfolding condition
  condition_fits v h = if_holds (WhereOk IsCondition) (is_scalar_shape (shape v.ctype)) _ _ (λ e. rw h.typed (scalar_of_shape v.ctype (shape v.ctype) (of_shape v.ctype) e)) (λ e. tt)
