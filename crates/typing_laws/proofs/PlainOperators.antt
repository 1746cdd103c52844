-- What operators make of values with short calls and shallow types.
use Rattle.std.proofs.Common.{◌≡◌, ℕ, suc, ◌+◌, ◌≤◌, max, Bool, false, ◌&&◌, List, Option, Some, None, refl, sym, subst, ◌∙◌, arith}
use Rattle.c_lexer.specs.declared.token.Place.{Place}
use Rattle.step_meaning.specs.declared.value.IntKind.{IntKind}
use Rattle.step_meaning.specs.declared.value.CType.{CType, end_of-CType, more_of-CType}
use Rattle.step_meaning.specs.declared.value.CType.TheVariants as type
use Rattle.step_meaning.specs.declared.expr.IntOp.{IntOp}
use Rattle.step_meaning.specs.declared.expr.IntOp.TheVariants as op
use Rattle.step_meaning.specs.declared.expr.CompareOp.{CompareOp}
use Rattle.step_meaning.specs.declared.expr.UnaryOp.{UnaryOp}
use Rattle.step_meaning.specs.declared.expr.Expr.{Expr}
use Rattle.step_meaning.specs.declared.expr.Expr.TheVariants as e
use Rattle.step_meaning.specs.declared.expr.Expr.TheBlock.{shape-the_row-Expr-0, hidden-the_row-Expr-0}
use Rattle.step_meaning.specs.declared.program.Layout.{Layout}
use Rattle.step_meaning.specs.Types.{same_type}
use Rattle.step_meaning.specs.Conversions.{promoted, common}
use Rattle.step_meaning.specs.TermSizes.{type_depth}
use Rattle.step_meaning.specs.ExpressionTypes.{is_register, is_void, is_equality, is_shift}
use Rattle.step_meaning.specs.Sources.{has_short_calls, in_branch, branching}
use Rattle.step_meaning.proofs.Ranges.{and_true}
use Rattle.step_meaning.proofs.TypedMemory.{WhereSome}
use Rattle.typing_rules.specs.declared.fault.TypeFault.TheVariants.{Mismatch}
use Rattle.typing_rules.specs.declared.judgement.Shape.{Shape}
use Rattle.typing_rules.specs.declared.judgement.Shape.TheVariants as is
use Rattle.typing_rules.specs.declared.judgement.Operator.{Operator}
use Rattle.typing_rules.specs.declared.judgement.Operator.TheVariants as operator
use Rattle.typing_rules.specs.declared.judgement.Operation.{Operation}
use Rattle.typing_rules.specs.declared.judgement.Operation.TheVariants.{Arithmetic, Shift, PointerDifference, LogicalAnd, LogicalOr}
use Rattle.typing_rules.specs.declared.judgement.Selection.{Selection}
use Rattle.typing_rules.specs.declared.judgement.Selection.TheVariants.{OfIntegers, OfOneType, NullLast, NullFirst}
use Rattle.typing_rules.specs.declared.judgement.CastConversion.{CastConversion}
use Rattle.typing_rules.specs.declared.judgement.CastConversion.TheVariants as cast_is
use Rattle.typing_rules.specs.declared.judgement.Conversion.{Conversion}
use Rattle.typing_rules.specs.declared.judgement.Conversion.TheVariants as conversion_is
use Rattle.typing_rules.specs.declared.operand.Operand.{Operand}
use Rattle.typing_rules.specs.declared.operand.Value.{Value}
use Rattle.typing_rules.specs.declared.operand.What.{What}
use Rattle.typing_rules.specs.declared.operand.What.TheVariants.{At, Made}
use Rattle.typing_rules.specs.Checked.{kept}
use Rattle.typing_rules.specs.Judgements.{shape, is_scalar_shape, is_null, on_integers, on_pointers, arithmetic, relation_of_pointers, relation, operation, conversion, selection, cast_conversion, is_pointer}
use Rattle.typing_rules.specs.Operands.{brought, converted_by, fitted}
use Rattle.typing_rules.specs.Operators.{computed, combined, selected, choice_of, cast_by, cast, promoted_value, promoting, negation, address_at, address, pointee, dereferenced}
use Rattle.typing_laws.specs.SmallTypes.{WhereOk}
use Rattle.typing_laws.proofs.CheckedValues.{then_holds, then_known, kept_holds, if_holds}
use Rattle.typing_laws.proofs.PlainCores.{PlainCore, PlainPlace, PlainMade, PlainWhat, PlainOperand, PlainValue, core_weaker, one_part, place_part, null_plain, brought_plain, shallow_integer, is_logical, right_turns, computed_plain, and_plain, or_plain}
use denote.Hole.Carrier.{hidden}

-- ---- binary operators

module _ (ls : List Layout) (n m : ℕ) (positive : 1 ≤ m) where
  abbrev V : ℕ → Value → Type 0
  V k v = PlainValue n k v

  abbrev O : Operand → Type 0
  O a = PlainOperand n m a

  abbrev NotLogical : Operation → Type 0
  NotLogical how = is_logical how ≡ false

  on_integers_computes : (o : IntOp) (k l : IntKind) → NotLogical (on_integers o k l)
  on_integers_computes o k l = if_holds NotLogical (is_shift o) (Shift o (promoted k) (promoted l)) (Arithmetic o (common k l)) (λ e. refl) (λ e. refl)

  pointers_compute : (o : IntOp) (st su : Shape) (same : Bool) → WhereSome NotLogical (on_pointers o st su same)
  unfolding on_pointers
  pointers_compute op.Add is.ToObject (is.Integer l) same = refl
  pointers_compute op.Add (is.Integer k) is.ToObject same = refl
  pointers_compute op.Sub is.ToObject (is.Integer l) same = refl
  pointers_compute op.Sub is.ToObject is.ToObject same = if_holds (WhereSome NotLogical) same (Some PointerDifference) None (λ e. refl) (λ e. tt)
  pointers_compute o st su same = tt

  arithmetic_computes : (o : IntOp) (st su : Shape) (same : Bool) → WhereSome NotLogical (arithmetic o st su same)
  unfolding arithmetic
  arithmetic_computes o (is.Integer k) (is.Integer l) same = on_integers_computes o k l
  arithmetic_computes o st su same = pointers_compute o st su same

  pointers_relate : (c : CompareOp) (st su : Shape) (k l same : Bool) → WhereSome NotLogical (relation_of_pointers c st k su l same)
  pointers_relate c st su k l same =
      if_holds (WhereSome NotLogical) (is_pointer st && same) _ _ (λ e. refl) (λ e.
      if_holds (WhereSome NotLogical) (is_equality c && (is_pointer st && l)) _ _ (λ e. refl) (λ e.
      if_holds (WhereSome NotLogical) (is_equality c && (k && is_pointer su)) _ _ (λ e. refl) (λ e. tt)))

  relation_relates : (c : CompareOp) (st su : Shape) (k l same : Bool) → WhereSome NotLogical (relation c st k su l same)
  unfolding relation
  relation_relates c (is.Integer i) (is.Integer j) k l same = refl
  relation_relates c st su k l same = pointers_relate c st su k l same

  some_weaker : (P Q : Operation → Type 0) (o : Option Operation) → ((how : Operation) → P how → Q how) → WhereSome P o → WhereSome Q o
  some_weaker P Q None k h = tt
  some_weaker P Q (Some how) k h = k how h

  module _ (first : Place) (a b : Value) (h : V m a) where
    abbrev Makes : Operation → Type 0
    Makes how = O (computed ls first how a b)

    operation_plain : (o : Operator) (k : ℕ) → V k b → right_turns o k ≤ m → (st su : Shape) (u v same : Bool) → WhereSome Makes (operation o st u su v same)
    unfolding operation
    operation_plain (operator.Compute o) k j l st su u v same = some_weaker NotLogical Makes (arithmetic o st su same) (λ how i. computed_plain ls n m positive first a b h (record { core = core_weaker k m b.expr l j.core; depth = j.depth }) how i) (arithmetic_computes o st su same)
    operation_plain (operator.Relate c) k j l st su u v same = some_weaker NotLogical Makes (relation c st u su v same) (λ how i. computed_plain ls n m positive first a b h (record { core = core_weaker k m b.expr l j.core; depth = j.depth }) how i) (relation_relates c st su u v same)
    operation_plain operator.Both k j l st su u v same = if_holds (WhereSome Makes) (is_scalar_shape st && is_scalar_shape su) (Some LogicalAnd) None (λ e. and_plain ls n m positive first a b h k l j.core) (λ e. tt)
    operation_plain operator.Either k j l st su u v same = if_holds (WhereSome Makes) (is_scalar_shape st && is_scalar_shape su) (Some LogicalOr) None (λ e. or_plain ls n m positive first a b h k l j.core) (λ e. tt)

  pub combined_plain : (at : Place) (o : Operator) (a b : Value) (k : ℕ) → V m a → V k b → right_turns o k ≤ m → WhereOk O (combined ls at o a b)
  unfolding combined
  combined_plain at o a b k h j l =
      then_holds (Makes a.first a b h) O (kept (Mismatch at) (operation o (shape a.ctype) (is_null a.origin) (shape b.ctype) (is_null b.origin) (same_type a.ctype b.ctype))) _
      (kept_holds (Makes a.first a b h) _ (operation o (shape a.ctype) (is_null a.origin) (shape b.ctype) (is_null b.origin) (same_type a.ctype b.ctype))
      (operation_plain a.first a b h o k j l (shape a.ctype) (shape b.ctype) (is_null a.origin) (is_null b.origin) (same_type a.ctype b.ctype)))
      (λ how i. i)

  -- ---- `? :`

  -- the parts, which stand in branches
  chosen_core : (k : ℕ) → in_branch k ≤ m → (test x y z : Expr) → PlainCore m test → PlainCore k x → PlainCore k y → has_short_calls z ≡ (has_short_calls test && (has_short_calls x && has_short_calls y)) → branching z ≡ max (branching test) (in_branch (max (branching x) (branching y))) → PlainCore m z
  chosen_core k l test x y z t h j s b = record {
    short = s ∙ and_true t.short (and_true h.short j.short);
    turns = subst (λ k. k ≤ m) (sym b) (within (branching test) (branching x) (branching y) k m t.turns h.turns j.turns l);
  }
    where
      within : (t x y k m : ℕ) → t ≤ m → x ≤ k → y ≤ k → in_branch k ≤ m → max t (in_branch (max x y)) ≤ m
      within t x y k m h i j l = omega arith

  selected_plain : (k : ℕ) → 1 ≤ k → in_branch k ≤ m → (first : Place) (how : Selection) (test : Expr) (a b : Value) → PlainCore m test → V k a → V k b → O (selected first how test a b)
  unfolding selected shape-the_row-Expr-0 hidden-the_row-Expr-0 hidden
  selected_plain k p l first (OfIntegers i) test a b t h j = record { core = chosen_core k l test (brought i a) (brought i b) (e.Choose test (brought i a) (brought i b)) t (brought_plain k i a h.core) (brought_plain k i b j.core) refl refl; depth = shallow_integer n }
  selected_plain k p l first OfOneType test a b t h j = record { core = chosen_core k l test a.expr b.expr (e.Choose test a.expr b.expr) t h.core j.core refl refl; depth = h.depth }
  selected_plain k p l first NullLast test a b t h j = record { core = chosen_core k l test a.expr e.Null (e.Choose test a.expr e.Null) t h.core (null_plain k p) refl refl; depth = h.depth }
  selected_plain k p l first NullFirst test a b t h j = record { core = chosen_core k l test e.Null b.expr (e.Choose test e.Null b.expr) t (null_plain k p) j.core refl refl; depth = j.depth }

  pub choice_plain : (at first : Place) (test : Expr) (a b : Value) (k : ℕ) → 1 ≤ k → in_branch k ≤ m → PlainCore m test → V k a → V k b → WhereOk O (choice_of at first test a b)
  unfolding choice_of
  choice_plain at first test a b k p l t h j =
      then_known O (kept (Mismatch at) (selection (shape a.ctype) (is_null a.origin) (shape b.ctype) (is_null b.origin) (same_type a.ctype b.ctype))) _ (λ how i. selected_plain k p l first how test a b t h j)

  -- ---- casts and unary operators

  cast_by_plain : (first : Place) (how : CastConversion) (v : Value) → V m v → O (cast_by first how v)
  unfolding cast_by shape-the_row-Expr-0 hidden-the_row-Expr-0 hidden
  cast_by_plain first (cast_is.ToKind k) v h = record { core = brought_plain m k v h.core; depth = shallow_integer n }
  cast_by_plain first cast_is.ToVoid v h = record { core = one_part m v.expr (e.Discard v.expr) refl refl h.core; depth = shallow_integer n }
  cast_by_plain first cast_is.ToNull v h = record { core = null_plain m positive; depth = omega arith }
  cast_by_plain first cast_is.Unchanged v h = h

  pub cast_plain : (at : Place) (t : CType) (v : Value) → V m v → WhereOk O (cast at t v)
  unfolding cast
  cast_plain at t v h = then_known O (kept (Mismatch at) (cast_conversion (shape t) (shape v.ctype) v.origin (same_type t v.ctype))) _ (λ how i. cast_by_plain at how v h)

  -- what an operator makes of an operand
  abbrev pub KeepsPlain : (IntKind → Expr → Expr) → Type 0
  KeepsPlain f = (k : IntKind) (x : Expr) → PlainCore m x → PlainCore m (f k x)

  promoted_plain : (at : Place) (f : IntKind → Expr → Expr) (v : Value) (t : CType) → KeepsPlain f → V m v → WhereOk O (promoted_value at f v t)
  promoted_plain at f v (type.Int k) keeps h = record { core = keeps _ (brought _ v) (brought_plain m _ v h.core); depth = shallow_integer n }
  promoted_plain at f v t keeps h = tt

  pub promoting_plain : (at : Place) (f : IntKind → Expr → Expr) (v : Value) → KeepsPlain f → V m v → WhereOk O (promoting at f v)
  unfolding promoting
  promoting_plain at f v keeps h = promoted_plain at f v v.ctype keeps h

  pub unary_plain : (o : UnaryOp) → KeepsPlain (e.Unary o)
  unfolding shape-the_row-Expr-0 hidden-the_row-Expr-0 hidden
  unary_plain o k x h = one_part m x (e.Unary o k x) refl refl h

  pub negation_plain : (at : Place) (v : Value) → V m v → WhereOk O (negation at v)
  unfolding negation shape-the_row-Expr-0 hidden-the_row-Expr-0 hidden
  negation_plain at v h = if_holds (WhereOk O) (is_scalar_shape (shape v.ctype)) _ _ (λ i. record { core = one_part m v.expr (e.Not v.expr) refl refl h.core; depth = shallow_integer n }) (λ i. tt)

  address_at_plain : (at : Place) (w : What) → PlainWhat n m w → WhereOk O (address_at at w)
  address_at_plain at (At p t) h = if_holds (WhereOk O) (is_register p) _ _ (λ i. tt) (λ i. record { core = place_part m p (e.Address p t) refl refl h.core; depth = pointer (type_depth t) n h.depth })
    where
      pointer : (d n : ℕ) → d + d ≤ 130 + n → suc d + suc d ≤ 132 + n
      pointer d n l = omega arith
  address_at_plain at (Made o x t) h = tt

  pub address_plain : (at : Place) (a : Operand) → O a → WhereOk O (address at a)
  unfolding address
  address_plain at a h = address_at_plain at a.what h

  pub pointee_shallow : (d n : ℕ) → suc d + suc d ≤ 132 + n → d + d ≤ 130 + n
  pointee_shallow d n l = omega arith

  pub deref_plain : (x : Expr) → PlainCore m x → PlainPlace m (e.Deref x)
  unfolding shape-the_row-Expr-0 hidden-the_row-Expr-0 hidden
  deref_plain x h = record { short = h.short; turns = h.turns }

  pointee_plain : (at first : Place) (x : Expr) (t : CType) → PlainMade n m x t → WhereOk O (pointee at first x t)
  pointee_plain at first x (type.Pointer' b (more_of-CType t end_of-CType)) h =
      if_holds (WhereOk O) (is_void t) _ _ (λ i. tt) (λ i. record { core = deref_plain x h.core; depth = pointee_shallow (type_depth t) n h.depth })
  pointee_plain at first x t h = tt

  pub dereferenced_plain : (at : Place) (v : Value) → V m v → WhereOk O (dereferenced at v)
  unfolding dereferenced
  dereferenced_plain at v h = pointee_plain at at v.expr v.ctype h

  -- ---- conversions, as an assignment makes them

  converted_plain : (how : Conversion) (v : Value) → PlainCore m v.expr → PlainCore m (converted_by how v)
  converted_plain (conversion_is.ToKind k) v h = brought_plain m k v h
  converted_plain conversion_is.ToNull v h = null_plain m positive
  converted_plain conversion_is.Unchanged v h = h

  pub fitted_plain : (at : Place) (t : CType) (v : Value) → PlainCore m v.expr → WhereOk (PlainCore m) (fitted at t v)
  unfolding fitted
  fitted_plain at t v h = then_known (PlainCore m) (kept (Mismatch at) (conversion (shape t) (shape v.ctype) (is_null v.origin) (same_type t v.ctype))) _ (λ how i. converted_plain how v h)
