-- What each rule makes of operands of small types has a small type.
use Rattle.std.proofs.Common.{ℕ, ◌≤◌, Bool, true, false, List, take, sum_by, Ok, refl, arith}
use Rattle.std.specs.Prelude.{pos, slice_get, position, if◌then◌else◌}
use Rattle.std.specs.Str.{bytes_eq}
use Rattle.std.proofs.lemmas.List.Sums.{sum_by-take-le}
use Rattle.c_lexer.specs.declared.token.Place.{Place}
use Rattle.step_meaning.specs.declared.value.IntKind.{IntKind}
use Rattle.step_meaning.specs.declared.value.IntKind.TheVariants as kind
use Rattle.step_meaning.specs.declared.value.CType.{CType, end_of-CType, more_of-CType}
use Rattle.step_meaning.specs.declared.value.CType.TheVariants as type
use Rattle.step_meaning.specs.declared.expr.IntOp.{IntOp}
use Rattle.step_meaning.specs.declared.expr.Answer.{Answer}
use Rattle.step_meaning.specs.declared.expr.Answer.TheVariants.{After}
use Rattle.step_meaning.specs.declared.expr.Side.TheVariants.{PointerFirst, PointerLast, Minus}
use Rattle.step_meaning.specs.declared.expr.Expr.{Expr}
use Rattle.step_meaning.specs.declared.expr.Expr.TheVariants as ex
use Rattle.step_meaning.specs.declared.expr.Place_.{Place_}
use Rattle.step_meaning.specs.declared.program.Declared.{Declared}
use Rattle.step_meaning.specs.declared.program.Layout.{Layout}
use Rattle.step_meaning.specs.TypeRules.{cells, most_cells}
use Rattle.step_meaning.specs.ExpressionTypes.{is_register, is_void}
use Rattle.step_meaning.proofs.Ranges.{left_of_and}
use Rattle.step_meaning.proofs.TypedMemory.{WhereSome, get_fits}
use Rattle.typing_rules.specs.declared.judgement.Operator.{Operator}
use Rattle.typing_rules.specs.declared.judgement.Operation.{Operation}
use Rattle.typing_rules.specs.declared.judgement.Operation.TheVariants.{Arithmetic, Shift, MovePointer, PointerDifference, CompareIntegers, ComparePointers, CompareWithNull, CompareNullWith, LogicalAnd, LogicalOr}
use Rattle.typing_rules.specs.declared.judgement.Selection.{Selection}
use Rattle.typing_rules.specs.declared.judgement.Selection.TheVariants.{OfIntegers, OfOneType, NullLast, NullFirst}
use Rattle.typing_rules.specs.declared.judgement.CastConversion.{CastConversion}
use Rattle.typing_rules.specs.declared.judgement.CastConversion.TheVariants.{ToKind, ToVoid, ToNull, Unchanged}
use Rattle.typing_rules.specs.declared.judgement.CompoundOperation.{CompoundOperation}
use Rattle.typing_rules.specs.declared.judgement.CompoundOperation.TheVariants.{OnIntegers, Forward, Backward}
use Rattle.typing_rules.specs.declared.operand.Operand.{Operand}
use Rattle.typing_rules.specs.declared.operand.Value.{Value}
use Rattle.typing_rules.specs.declared.operand.What.{What}
use Rattle.typing_rules.specs.declared.operand.What.TheVariants.{At, Made}
use Rattle.typing_rules.specs.declared.fault.TypeFault.TheVariants.{Mismatch, Unknown}
use Rattle.typing_rules.specs.Checked.{Checked, kept}
use Rattle.typing_rules.specs.Judgements.{shape, is_scalar_shape, is_integer_shape, compound_operation}
use Rattle.typing_rules.specs.Declarations.{is_within_limit}
use Rattle.typing_rules.specs.Allocation.{type_of_object}
use Rattle.typing_rules.specs.Operands.{int, plain_value, loaded, value_of, value, fitted}
use Rattle.typing_rules.specs.Operators.{computed, combined, selected, choice_of, cast_by, cast, promoted_value, promoting, negation, address_at, address, pointee, dereferenced}
use Rattle.typing_rules.specs.Assignments.{Target, target_of, type_of_what, target, assigned, updated, compound, stepped}
use Rattle.typing_rules.specs.Subobjects.{Base, InArray, BehindPointer, before_index, base_of_what, base_of, behind, element_of, indexed, Member, member_at, member_among, member_of, of_struct, dot_of, dot, arrow_of, arrow}
use Rattle.typing_objects.specs.Parts.{OffsetsFit}
use Rattle.typing_laws.specs.SmallTypes.{WhereOk, IsSmallType, IsSmallOperand, IsSmallValue, StructsAreSmall, HasSmallMembers, member_cells}
use Rattle.typing_laws.proofs.CheckedValues.{then_holds, then_known, kept_holds, if_holds, some_then, some_mapped, some_known, where_some}

abbrev IsSmallTarget : List Layout → Target → Type 0
IsSmallTarget ls to = IsSmallType ls to.ctype

abbrev IsSmallMember : List Layout → Member → Type 0
IsSmallMember ls m = IsSmallType ls m.ctype

abbrev HasSmallOffset : Member → Type 0
HasSmallOffset m = m.offset ≤ most_cells

module _ (ls : List Layout) where
  -- ---- values

  pub loaded_small : (first : Place) (p : Place_) (t : CType) → IsSmallType ls t → WhereOk (IsSmallValue ls) (loaded first p t)
  unfolding loaded is_within_limit
  loaded_small first p (type.Struct n) h = tt
  loaded_small first p (type.Array' b (more_of-CType t end_of-CType) n) h = left_of_and _ _ h
  loaded_small first p t h = h

  value_of_small : (first : Place) (w : What) → IsSmallType ls (type_of_object w) → WhereOk (IsSmallValue ls) (value_of first w)
  value_of_small first (At p t) h = loaded_small first p t h
  value_of_small first (Made o x t) h = h

  pub value_small : (a : Operand) → IsSmallOperand ls a → WhereOk (IsSmallValue ls) (value a)
  unfolding value
  value_small a h = value_of_small a.first a.what h

  -- ---- operators

  computed_small : (first : Place) (how : Operation) (a b : Value) → IsSmallValue ls a → IsSmallValue ls b → IsSmallOperand ls (computed ls first how a b)
  unfolding computed is_within_limit
  computed_small first (Arithmetic o k) a b h j = refl
  computed_small first (Shift o k l) a b h j = refl
  computed_small first (MovePointer PointerFirst) a b h j = h
  computed_small first (MovePointer PointerLast) a b h j = j
  computed_small first (MovePointer Minus) a b h j = h
  computed_small first PointerDifference a b h j = refl
  computed_small first (CompareIntegers c k) a b h j = refl
  computed_small first (ComparePointers c) a b h j = refl
  computed_small first (CompareWithNull c) a b h j = refl
  computed_small first (CompareNullWith c) a b h j = refl
  computed_small first LogicalAnd a b h j = refl
  computed_small first LogicalOr a b h j = refl

  pub combined_small : (at : Place) (o : Operator) (a b : Value) → IsSmallValue ls a → IsSmallValue ls b → WhereOk (IsSmallOperand ls) (combined ls at o a b)
  unfolding combined
  combined_small at o a b h j = then_known (IsSmallOperand ls) _ (λ how. Ok (computed ls a.first how a b)) (λ how e. computed_small a.first how a b h j)

  selected_small : (first : Place) (how : Selection) (test : Expr) (a b : Value) → IsSmallValue ls a → IsSmallValue ls b → IsSmallOperand ls (selected first how test a b)
  unfolding selected is_within_limit
  selected_small first (OfIntegers k) test a b h j = refl
  selected_small first OfOneType test a b h j = h
  selected_small first NullLast test a b h j = h
  selected_small first NullFirst test a b h j = j

  pub choice_small : (at first : Place) (test : Expr) (a b : Value) → IsSmallValue ls a → IsSmallValue ls b → WhereOk (IsSmallOperand ls) (choice_of at first test a b)
  unfolding choice_of
  choice_small at first test a b h j = then_known (IsSmallOperand ls) _ (λ how. Ok (selected first how test a b)) (λ how e. selected_small first how test a b h j)

  cast_by_small : (first : Place) (how : CastConversion) (v : Value) → IsSmallValue ls v → IsSmallOperand ls (cast_by first how v)
  unfolding cast_by is_within_limit
  cast_by_small first (ToKind k) v h = refl
  cast_by_small first ToVoid v h = refl
  cast_by_small first ToNull v h = refl
  cast_by_small first Unchanged v h = h

  pub cast_small : (at : Place) (t : CType) (v : Value) → IsSmallValue ls v → WhereOk (IsSmallOperand ls) (cast at t v)
  unfolding cast
  cast_small at t v h = then_known (IsSmallOperand ls) _ (λ how. Ok (cast_by at how v)) (λ how e. cast_by_small at how v h)

  promoted_small : (at : Place) (f : IntKind → Expr → Expr) (v : Value) (t : CType) → WhereOk (IsSmallOperand ls) (promoted_value at f v t)
  unfolding is_within_limit
  promoted_small at f v (type.Int k) = refl
  promoted_small at f v t = tt

  pub promoting_small : (at : Place) (f : IntKind → Expr → Expr) (v : Value) → WhereOk (IsSmallOperand ls) (promoting at f v)
  unfolding promoting
  promoting_small at f v = promoted_small at f v v.ctype

  -- a rule that a test decides
  decided : (b : Bool) (c d : Checked Operand) → WhereOk (IsSmallOperand ls) c → WhereOk (IsSmallOperand ls) d → WhereOk (IsSmallOperand ls) (if b then c else d)
  decided true c d h j = h
  decided false c d h j = j

  pub negation_small : (at : Place) (v : Value) → WhereOk (IsSmallOperand ls) (negation at v)
  unfolding negation is_within_limit
  negation_small at v = decided (is_scalar_shape (shape v.ctype)) _ _ refl tt

  address_at_small : (at : Place) (w : What) → IsSmallType ls (type_of_object w) → WhereOk (IsSmallOperand ls) (address_at at w)
  unfolding is_within_limit
  address_at_small at (At p t) h = decided (is_register p) _ _ tt h
  address_at_small at (Made o x t) h = tt

  pub address_small : (at : Place) (a : Operand) → IsSmallOperand ls a → WhereOk (IsSmallOperand ls) (address at a)
  unfolding address
  address_small at a h = address_at_small at a.what h

  pointee_small : (at first : Place) (x : Expr) (t : CType) → IsSmallType ls t → WhereOk (IsSmallOperand ls) (pointee at first x t)
  unfolding is_within_limit
  pointee_small at first x (type.Pointer' b (more_of-CType t end_of-CType)) h = decided (is_void t) _ _ tt h
  pointee_small at first x t h = tt

  pub dereferenced_small : (at : Place) (v : Value) → IsSmallValue ls v → WhereOk (IsSmallOperand ls) (dereferenced at v)
  unfolding dereferenced
  dereferenced_small at v h = pointee_small at at v.expr v.ctype h

  -- ---- assignments

  target_of_small : (w : What) → IsSmallType ls (type_of_object w) → WhereSome (IsSmallTarget ls) (target_of w)
  target_of_small (At p t) h = if_holds (WhereSome (IsSmallTarget ls)) (is_scalar_shape (shape t)) _ _ (λ e. h) (λ e. tt)
  target_of_small (Made o x t) h = tt

  target_small : (at : Place) (a : Operand) → IsSmallOperand ls a → WhereOk (IsSmallTarget ls) (target at a)
  target_small at a h = kept_holds (IsSmallTarget ls) _ (target_of a.what) (target_of_small a.what h)

  pub assigned_small : (at : Place) (a : Operand) (v : Value) → IsSmallOperand ls a → WhereOk (IsSmallOperand ls) (assigned at a v)
  unfolding assigned
  assigned_small at a v h = then_holds (IsSmallTarget ls) (IsSmallOperand ls) (target at a) _ (target_small at a h) (λ to k. then_known (IsSmallOperand ls) (fitted at to.ctype v) _ (λ x e. k))

  updated_small : (first : Place) (how : CompoundOperation) (to : Target) (v : Value) (answer : Answer) → IsSmallType ls to.ctype → IsSmallOperand ls (updated ls first how to v answer)
  unfolding updated
  updated_small first (OnIntegers o k l) to v answer h = h
  updated_small first Forward to v answer h = h
  updated_small first Backward to v answer h = h

  pub compound_small : (at : Place) (o : IntOp) (a : Operand) (v : Value) → IsSmallOperand ls a → WhereOk (IsSmallOperand ls) (compound ls at o a v)
  unfolding compound
  compound_small at o a v h =
      then_known (IsSmallOperand ls) (kept (Mismatch at) (compound_operation o (shape (type_of_what a.what)) (shape v.ctype))) _ (λ how e.
      then_holds (IsSmallTarget ls) (IsSmallOperand ls) (target at a) _ (target_small at a h) (λ to k. updated_small a.first how to v After k))

  pub stepped_small : (at first : Place) (o : IntOp) (a : Operand) (answer : Answer) → IsSmallOperand ls a → WhereOk (IsSmallOperand ls) (stepped ls at first o a answer)
  unfolding stepped
  stepped_small at first o a answer h =
      then_holds (IsSmallTarget ls) (IsSmallOperand ls) (target at a) _ (target_small at a h) (λ to k.
      then_known (IsSmallOperand ls) (kept (Mismatch at) (compound_operation o (shape to.ctype) (shape int))) _ (λ how e. updated_small first how to (plain_value first (ex.Literal kind.Int (pos 1)) int) answer k))

  -- ---- elements

  -- what stands before `[ ]`
  abbrev pub IsSmallBase : Base → Type 0
  IsSmallBase (InArray p t) = IsSmallType ls t
  IsSmallBase (BehindPointer v) = IsSmallValue ls v

  before_index_small : (first : Place) (p : Place_) (t : CType) → IsSmallType ls t → WhereOk IsSmallBase (before_index ls first p t)
  unfolding is_within_limit
  before_index_small first p (type.Array' b (more_of-CType t end_of-CType) n) h = left_of_and _ _ h
  before_index_small first p t h = then_holds (IsSmallValue ls) IsSmallBase (loaded first p t) (λ v. Ok (BehindPointer v)) (loaded_small first p t h) (λ v k. k)

  base_of_what_small : (a : Operand) (w : What) → IsSmallOperand ls a → IsSmallType ls (type_of_object w) → WhereOk IsSmallBase (base_of_what ls a w)
  base_of_what_small a (At p t) h j = before_index_small a.first p t j
  base_of_what_small a (Made o x t) h j = then_holds (IsSmallValue ls) IsSmallBase (value a) (λ v. Ok (BehindPointer v)) (value_small a h) (λ v k. k)

  pub base_small : (a : Operand) → IsSmallOperand ls a → WhereOk IsSmallBase (base_of ls a)
  unfolding base_of
  base_small a h = base_of_what_small a a.what h h

  behind_small : (at : Place) (v : Value) (t : CType) (i : Value) → IsSmallType ls t → WhereOk (IsSmallOperand ls) (behind ls at v t i)
  unfolding is_within_limit
  behind_small at v (type.Pointer' b (more_of-CType t end_of-CType)) i h = decided (is_void t) _ _ tt h
  behind_small at v t i h = tt

  element_small : (at first : Place) (a : Base) (i : Value) → IsSmallBase a → WhereOk (IsSmallOperand ls) (element_of ls at first a i)
  element_small at first (InArray p t) i h = h
  element_small at first (BehindPointer v) i h = behind_small at v v.ctype i h

  pub indexed_small : (at first : Place) (a : Base) (i : Value) → IsSmallBase a → WhereOk (IsSmallOperand ls) (indexed ls at first a i)
  unfolding indexed
  indexed_small at first a i h = decided (is_integer_shape (shape i.ctype)) _ _ (element_small at first a i h) tt

  -- ---- members

  pub member_among_small : (name : List ℕ) (l : Layout) → HasSmallMembers ls l → WhereSome (IsSmallMember ls) (member_among ls name l.members)
  member_among_small name l h =
      some_then (λ (i : ℕ). Unit {0}) (IsSmallMember ls) (member_at ls l.members) (position (λ d. bytes_eq name d.name) l.members) (some_known (λ (i : ℕ). Unit {0}) _ (λ i e. tt)) (λ i u.
      some_mapped (λ (d : Declared). IsSmallType ls d.ctype) (IsSmallMember ls) _ (slice_get l.members i) (get_fits (λ d. IsSmallType ls d.ctype) l.members i h) (λ d k. k))

  member_of_small : StructsAreSmall ls → (n : ℕ) (name : List ℕ) → WhereSome (IsSmallMember ls) (member_of ls n name)
  member_of_small s n name = some_then (HasSmallMembers ls) (IsSmallMember ls) _ (slice_get ls n) (get_fits (HasSmallMembers ls) ls n s.types) (member_among_small name)

  of_struct_small : StructsAreSmall ls → (at first at_name : Place) (name : List ℕ) (p : Place_) (t : CType) → WhereOk (IsSmallOperand ls) (of_struct ls at first at_name name p t)
  of_struct_small s at first at_name name p (type.Struct n) =
      then_holds (IsSmallMember ls) (IsSmallOperand ls) (kept (Unknown at_name) (member_of ls n name)) _ (kept_holds (IsSmallMember ls) _ (member_of ls n name) (member_of_small s n name)) (λ m k. k)
  of_struct_small s at first at_name name p t = tt

  dot_of_small : StructsAreSmall ls → (at first at_name : Place) (name : List ℕ) (w : What) → WhereOk (IsSmallOperand ls) (dot_of ls at first at_name name w)
  dot_of_small s at first at_name name (At p t) = of_struct_small s at first at_name name p t
  dot_of_small s at first at_name name (Made o x t) = tt

  pub dot_small : StructsAreSmall ls → (at at_name : Place) (name : List ℕ) (a : Operand) → WhereOk (IsSmallOperand ls) (dot ls at at_name name a)
  unfolding dot
  dot_small s at at_name name a = dot_of_small s at a.first at_name name a.what

  arrow_of_small : StructsAreSmall ls → (at at_name : Place) (name : List ℕ) (v : Value) (t : CType) → WhereOk (IsSmallOperand ls) (arrow_of ls at at_name name v t)
  arrow_of_small s at at_name name v (type.Pointer' b (more_of-CType t end_of-CType)) = of_struct_small s at v.first at_name name (ex.Deref v.expr) t
  arrow_of_small s at at_name name v t = tt

  pub arrow_small : StructsAreSmall ls → (at at_name : Place) (name : List ℕ) (v : Value) → WhereOk (IsSmallOperand ls) (arrow ls at at_name name v)
  unfolding arrow
  arrow_small s at at_name name v = arrow_of_small s at at_name name v v.ctype

  -- ---- offsets

  offset_among : (name : List ℕ) (l : Layout) → member_cells ls l ≤ most_cells → WhereSome HasSmallOffset (member_among ls name l.members)
  offset_among name l h =
      some_then (λ (i : ℕ). Unit {0}) HasSmallOffset (member_at ls l.members) (position (λ d. bytes_eq name d.name) l.members) (some_known (λ (i : ℕ). Unit {0}) _ (λ i e. tt)) (λ i u.
      some_mapped (λ (d : Declared). Unit {0}) HasSmallOffset _ (slice_get l.members i) (some_known (λ (d : Declared). Unit {0}) _ (λ d e. tt)) (λ d k.
      let part : sum_by (λ d. cells ls d.ctype) (take i l.members) ≤ sum_by (λ d. cells ls d.ctype) l.members = sum_by-take-le (λ d. cells ls d.ctype) l.members i in
      omega arith))

  offset_of : StructsAreSmall ls → (n : ℕ) (name : List ℕ) → WhereSome HasSmallOffset (member_of ls n name)
  offset_of s n name = some_then (λ l. member_cells ls l ≤ most_cells) HasSmallOffset _ (slice_get ls n) (get_fits (λ l. member_cells ls l ≤ most_cells) ls n s.members) (offset_among name)

  pub offsets_fit : StructsAreSmall ls → OffsetsFit ls
  offsets_fit s n name m e = let small : m.offset ≤ most_cells = where_some HasSmallOffset (member_of ls n name) m e (offset_of s n name) in omega arith
