-- Cores with short calls and shallow types, whose statements nest little: what rules make of parts that are so.
use Rattle.std.proofs.Common.{◌≡◌, ℕ, suc, ◌+◌, ◌≤◌, max, Bool, true, false, ◌&&◌, List, refl, sym, subst, ◌∙◌, arith}
use Rattle.std.specs.Prelude.{if◌then◌else◌}
use Rattle.c_lexer.specs.declared.token.Place.{Place}
use Rattle.step_meaning.specs.declared.value.IntKind.{IntKind}
use Rattle.step_meaning.specs.declared.value.IntKind.TheVariants as kind
use Rattle.step_meaning.specs.declared.value.CType.{CType, end_of-CType, more_of-CType}
use Rattle.step_meaning.specs.declared.value.CType.TheVariants as type
use Rattle.step_meaning.specs.declared.expr.Side.TheVariants.{PointerFirst, PointerLast, Minus}
use Rattle.step_meaning.specs.declared.expr.Expr.{Expr}
use Rattle.step_meaning.specs.declared.expr.Expr.TheVariants as e
use Rattle.step_meaning.specs.declared.expr.Expr.TheBlock.{shape-the_row-Expr-0, hidden-the_row-Expr-0}
use Rattle.step_meaning.specs.declared.expr.Place_.{Place_}
use Rattle.step_meaning.specs.declared.program.Layout.{Layout}
use Rattle.step_meaning.specs.Conversions.{same_int_kind}
use Rattle.step_meaning.specs.TermSizes.{type_depth}
use Rattle.step_meaning.specs.Sources.{has_short_calls, place_has_short_calls, in_branch, branching, place_branching}
use Rattle.step_meaning.proofs.Ranges.{and_true, false_is_not_true}
use Rattle.typing_rules.specs.declared.judgement.Operator.{Operator}
use Rattle.typing_rules.specs.declared.judgement.Operator.TheVariants as operator
use Rattle.typing_rules.specs.declared.judgement.Operation.{Operation}
use Rattle.typing_rules.specs.declared.judgement.Operation.TheVariants.{Arithmetic, Shift, MovePointer, PointerDifference, CompareIntegers, ComparePointers, CompareWithNull, CompareNullWith, LogicalAnd, LogicalOr}
use Rattle.typing_rules.specs.declared.operand.Operand.{Operand}
use Rattle.typing_rules.specs.declared.operand.Value.{Value}
use Rattle.typing_rules.specs.declared.operand.What.{What}
use Rattle.typing_rules.specs.declared.operand.What.TheVariants.{At, Made}
use Rattle.typing_rules.specs.Judgements.{shape, is_scalar_shape}
use Rattle.typing_rules.specs.Operands.{loaded, value_of, value, condition, brought}
use Rattle.typing_rules.specs.Operators.{computed}
use Rattle.typing_laws.specs.SmallTypes.{WhereOk}
use Rattle.typing_laws.proofs.CheckedValues.{if_holds}
use denote.Hole.Carrier.{hidden}

-- ---- numbers

at_left : (a b : ℕ) → a ≤ max a b
at_left a b = omega arith

at_right : (a b : ℕ) → b ≤ max a b
at_right a b = omega arith

pub both_below : (a b m : ℕ) → a ≤ m → b ≤ m → max a b ≤ m
both_below a b m h k = omega arith

branch_below : (a b : ℕ) → a ≤ b → in_branch a ≤ in_branch b
branch_below a b h = omega arith

-- ---- values and lvalues

-- no call is long, and the statements that compute it nest at most m deep
pub record PlainCore (m : ℕ) (x : Expr) : Type 0 where
  pub short : has_short_calls x ≡ true
  pub turns : branching x ≤ m

pub record PlainPlace (m : ℕ) (p : Place_) : Type 0 where
  pub short : place_has_short_calls p ≡ true
  pub turns : place_branching p ≤ m

-- the type of a value that nests n deep in the text
abbrev pub ShallowValue : ℕ → CType → Type 0
ShallowValue n t = type_depth t + type_depth t ≤ 132 + n

-- that of an object is one less deep
abbrev pub ShallowObject : ℕ → CType → Type 0
ShallowObject n t = type_depth t + type_depth t ≤ 130 + n

module _ (n m : ℕ) where
  pub record PlainMade (x : Expr) (t : CType) : Type 0 where
    pub core : PlainCore m x
    pub depth : ShallowValue n t

  pub record PlainAt (p : Place_) (t : CType) : Type 0 where
    pub core : PlainPlace m p
    pub depth : ShallowObject n t

  abbrev pub PlainWhat : What → Type 0
  PlainWhat (At p t) = PlainAt p t
  PlainWhat (Made o x t) = PlainMade x t

  abbrev pub PlainOperand : Operand → Type 0
  PlainOperand a = PlainWhat a.what

  abbrev pub PlainValue : Value → Type 0
  PlainValue v = PlainMade v.expr v.ctype

-- more may be allowed
pub core_weaker : (m m' : ℕ) (x : Expr) → m ≤ m' → PlainCore m x → PlainCore m' x
core_weaker m m' x l h = record { short = h.short; turns = let t : branching x ≤ m = h.turns in omega arith }

pub made_weaker : (n n' m m' : ℕ) (x : Expr) (t : CType) → n ≤ n' → m ≤ m' → PlainMade n m x t → PlainMade n' m' x t
made_weaker n n' m m' x t k l h = record { core = core_weaker m m' x l h.core; depth = let d : ShallowValue n t = h.depth in omega arith }

pub what_weaker : (n n' m m' : ℕ) (w : What) → n ≤ n' → m ≤ m' → PlainWhat n m w → PlainWhat n' m' w
what_weaker n n' m m' (At p t) k l h = record { core = record { short = h.core.short; turns = let t : place_branching p ≤ m = h.core.turns in omega arith }; depth = let d : ShallowObject n t = h.depth in omega arith }
what_weaker n n' m m' (Made o x t) k l h = made_weaker n n' m m' x t k l h

-- ---- cores

module _ (m : ℕ) where
  pub one_part : (x y : Expr) → has_short_calls y ≡ has_short_calls x → branching y ≡ branching x → PlainCore m x → PlainCore m y
  one_part x y s b h = record { short = s ∙ h.short; turns = subst (λ k. k ≤ m) (sym b) h.turns }

  pub two_parts : (x y z : Expr) → has_short_calls z ≡ (has_short_calls x && has_short_calls y) → branching z ≡ max (branching x) (branching y) → PlainCore m x → PlainCore m y → PlainCore m z
  two_parts x y z s b h k = record { short = s ∙ and_true h.short k.short; turns = subst (λ k. k ≤ m) (sym b) (both_below (branching x) (branching y) m h.turns k.turns) }

  pub place_part : (p : Place_) (y : Expr) → has_short_calls y ≡ place_has_short_calls p → branching y ≡ place_branching p → PlainPlace m p → PlainCore m y
  place_part p y s b h = record { short = s ∙ h.short; turns = subst (λ k. k ≤ m) (sym b) h.turns }

  pub place_and_part : (p : Place_) (x y : Expr) → has_short_calls y ≡ (place_has_short_calls p && has_short_calls x) → branching y ≡ max (place_branching p) (branching x) → PlainPlace m p → PlainCore m x → PlainCore m y
  place_and_part p x y s b h k = record { short = s ∙ and_true h.short k.short; turns = subst (λ k. k ≤ m) (sym b) (both_below (place_branching p) (branching x) m h.turns k.turns) }

  pub null_plain : 1 ≤ m → PlainCore m e.Null
  null_plain l = record { short = refl; turns = l }

  brought_if : (b : Bool) (k : IntKind) (x : Expr) → PlainCore m x → PlainCore m (if b then x else e.Convert k x)
  unfolding shape-the_row-Expr-0 hidden-the_row-Expr-0 hidden
  brought_if true k x h = h
  brought_if false k x h = one_part x (e.Convert k x) refl refl h

  brought_from : (k : IntKind) (x : Expr) (first : Place) (o : _) (t : CType) → PlainCore m x → PlainCore m (brought k (record { first = first; expr = x; ctype = t; origin = o }))
  unfolding brought
  brought_from k x first o (type.Int l) h = brought_if (same_int_kind k l) k x h
  brought_from k x first o type.Void h = h
  brought_from k x first o (type.Pointer' b t) h = h
  brought_from k x first o (type.Array' b t n) h = h
  brought_from k x first o (type.Struct n) h = h

  pub brought_plain : (k : IntKind) (v : Value) → PlainCore m v.expr → PlainCore m (brought k v)
  brought_plain k v h = brought_from k v.expr v.first v.origin v.ctype h

-- ---- values

pub shallow_integer : (n : ℕ) → 2 ≤ 132 + n
shallow_integer n = omega arith

pub loaded_plain : (n m : ℕ) (first : Place) (p : Place_) (t : CType) → PlainAt n m p t → WhereOk (PlainValue n m) (loaded first p t)
unfolding loaded
loaded_plain n m first p (type.Struct k) h = tt
loaded_plain n m first p (type.Array' b (more_of-CType t end_of-CType) k) h = record { core = place_part m p (e.Address p t) refl refl h.core; depth = more (type_depth t) n h.depth }
  where
    more : (d n : ℕ) → suc d + suc d ≤ 130 + n → suc d + suc d ≤ 132 + n
    more d n l = omega arith
loaded_plain n m first p t h = record { core = place_part m p (e.Load p t) refl refl h.core; depth = more (type_depth t) n h.depth }
  where
    more : (d n : ℕ) → d + d ≤ 130 + n → d + d ≤ 132 + n
    more d n l = omega arith

value_of_plain : (n m : ℕ) (first : Place) (w : What) → PlainWhat n m w → WhereOk (PlainValue n m) (value_of first w)
value_of_plain n m first (At p t) h = loaded_plain n m first p t h
value_of_plain n m first (Made o x t) h = h

pub value_plain : (n m : ℕ) (a : Operand) → PlainOperand n m a → WhereOk (PlainValue n m) (value a)
unfolding value
value_plain n m a h = value_of_plain n m a.first a.what h

pub condition_plain : (n m : ℕ) (v : Value) → PlainValue n m v → WhereOk (PlainCore m) (condition v)
unfolding condition
condition_plain n m v h = if_holds (WhereOk (PlainCore m)) (is_scalar_shape (shape v.ctype)) _ _ (λ i. h.core) (λ i. tt)

-- ---- binary operators

abbrev pub is_logical : Operation → Bool
is_logical LogicalAnd = true
is_logical LogicalOr = true
is_logical _ = false

-- how deep the right operand of the operator stands
abbrev pub right_turns : Operator → ℕ → ℕ
right_turns operator.Both m = in_branch m
right_turns operator.Either m = in_branch m
right_turns _ m = m

module _ (ls : List Layout) (n m : ℕ) (positive : 1 ≤ m) (first : Place) (a b : Value) (h : PlainValue n m a) where
  abbrev Makes : Operation → Type 0
  Makes how = PlainOperand n m (computed ls first how a b)

  abbrev Integer : Expr → Type 0
  Integer x = PlainCore m x

  pub computed_plain : PlainValue n m b → (how : Operation) → is_logical how ≡ false → Makes how
  unfolding computed shape-the_row-Expr-0 hidden-the_row-Expr-0 hidden
  computed_plain j (Arithmetic o k) i = record { core = two_parts m (brought k a) (brought k b) (e.Binary o k (brought k a) (brought k b)) refl refl (brought_plain m k a h.core) (brought_plain m k b j.core); depth = shallow_integer n }
  computed_plain j (Shift o k l) i = record { core = two_parts m (brought k a) (brought l b) (e.Binary o k (brought k a) (brought l b)) refl refl (brought_plain m k a h.core) (brought_plain m l b j.core); depth = shallow_integer n }
  computed_plain j (MovePointer PointerFirst) i = record { core = two_parts m a.expr b.expr _ refl refl h.core j.core; depth = h.depth }
  computed_plain j (MovePointer PointerLast) i = record { core = two_parts m a.expr b.expr _ refl refl h.core j.core; depth = j.depth }
  computed_plain j (MovePointer Minus) i = record { core = two_parts m a.expr b.expr _ refl refl h.core j.core; depth = h.depth }
  computed_plain j PointerDifference i = record { core = two_parts m a.expr b.expr _ refl refl h.core j.core; depth = shallow_integer n }
  computed_plain j (CompareIntegers c k) i = record { core = two_parts m (brought k a) (brought k b) (e.Compare c (brought k a) (brought k b)) refl refl (brought_plain m k a h.core) (brought_plain m k b j.core); depth = shallow_integer n }
  computed_plain j (ComparePointers c) i = record { core = two_parts m a.expr b.expr (e.Compare c a.expr b.expr) refl refl h.core j.core; depth = shallow_integer n }
  computed_plain j (CompareWithNull c) i = record { core = two_parts m a.expr e.Null (e.Compare c a.expr e.Null) refl refl h.core (null_plain m positive); depth = shallow_integer n }
  computed_plain j (CompareNullWith c) i = record { core = two_parts m e.Null b.expr (e.Compare c e.Null b.expr) refl refl (null_plain m positive) j.core; depth = shallow_integer n }
  computed_plain j LogicalAnd i = false_is_not_true (sym i)
  computed_plain j LogicalOr i = false_is_not_true (sym i)

  -- the right operand of `&&` and `||` stands in a branch
  logical_core : (k : ℕ) → in_branch k ≤ m → PlainCore k b.expr → (z : Expr) → has_short_calls z ≡ (has_short_calls a.expr && has_short_calls b.expr) → branching z ≡ max (branching a.expr) (in_branch (branching b.expr)) → PlainMade n m z (type.Int kind.Int)
  logical_core k l j z s t = record {
    core = record { short = s ∙ and_true h.core.short j.short; turns = subst (λ k. k ≤ m) (sym t) (within (branching a.expr) (branching b.expr) k m h.core.turns j.turns l) };
    depth = shallow_integer n;
  }
    where
      within : (x y k m : ℕ) → x ≤ m → y ≤ k → in_branch k ≤ m → max x (in_branch y) ≤ m
      within x y k m h j l = omega arith

  pub and_plain : (k : ℕ) → in_branch k ≤ m → PlainCore k b.expr → Makes LogicalAnd
  unfolding computed shape-the_row-Expr-0 hidden-the_row-Expr-0 hidden
  and_plain k l j = logical_core k l j (e.Both a.expr b.expr) refl refl

  pub or_plain : (k : ℕ) → in_branch k ≤ m → PlainCore k b.expr → Makes LogicalOr
  unfolding computed shape-the_row-Expr-0 hidden-the_row-Expr-0 hidden
  or_plain k l j = logical_core k l j (e.Either a.expr b.expr) refl refl
