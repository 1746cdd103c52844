-- What rules on objects make of operands with short calls and shallow types.
use Rattle.std.proofs.Common.{ℕ, suc, ◌+◌, ◌≤◌, List, Ok, refl, arith}
use Rattle.std.specs.Prelude.{pos, slice_get, position}
use Rattle.std.specs.Str.{bytes_eq}
use Rattle.std.specs.List.{AllByRecursion}
use Rattle.c_lexer.specs.declared.token.Place.{Place}
use Rattle.step_meaning.specs.declared.value.IntKind.TheVariants as kind
use Rattle.step_meaning.specs.declared.value.CType.{CType, end_of-CType, more_of-CType}
use Rattle.step_meaning.specs.declared.value.CType.TheVariants as type
use Rattle.step_meaning.specs.declared.expr.IntOp.{IntOp}
use Rattle.step_meaning.specs.declared.expr.UpdateOp.{UpdateOp}
use Rattle.step_meaning.specs.declared.expr.Answer.{Answer}
use Rattle.step_meaning.specs.declared.expr.Answer.TheVariants.{After}
use Rattle.step_meaning.specs.declared.expr.Side.TheVariants.{PointerFirst}
use Rattle.step_meaning.specs.declared.expr.Expr.{Expr}
use Rattle.step_meaning.specs.declared.expr.Expr.TheVariants as e
use Rattle.step_meaning.specs.declared.expr.Expr.TheBlock.{shape-the_row-Expr-0, hidden-the_row-Expr-0, shape-the_row-Place_-2, hidden-the_row-Place_-2}
use Rattle.step_meaning.specs.declared.expr.Place_.{Place_}
use Rattle.step_meaning.specs.declared.program.Declared.{Declared}
use Rattle.step_meaning.specs.declared.program.Layout.{Layout}
use Rattle.step_meaning.specs.TypeRules.{cells}
use Rattle.step_meaning.specs.TermSizes.{type_depth}
use Rattle.step_meaning.specs.ExpressionTypes.{is_void}
use Rattle.step_meaning.specs.Sources.{branching, place_branching}
use Rattle.step_meaning.proofs.Ranges.{and_true}
use Rattle.step_meaning.proofs.TypedMemory.{WhereSome, get_fits}
use Rattle.typing_rules.specs.declared.fault.TypeFault.TheVariants.{Mismatch, Unknown}
use Rattle.typing_rules.specs.declared.judgement.CompoundOperation.{CompoundOperation}
use Rattle.typing_rules.specs.declared.judgement.CompoundOperation.TheVariants.{OnIntegers, Forward, Backward}
use Rattle.typing_rules.specs.declared.operand.Operand.{Operand}
use Rattle.typing_rules.specs.declared.operand.Value.{Value}
use Rattle.typing_rules.specs.declared.operand.What.{What}
use Rattle.typing_rules.specs.declared.operand.What.TheVariants.{At, Made}
use Rattle.typing_rules.specs.Checked.{kept}
use Rattle.typing_rules.specs.Judgements.{shape, is_scalar_shape, is_integer_shape, compound_operation}
use Rattle.typing_rules.specs.Operands.{int, plain_value, loaded, value, brought, fitted}
use Rattle.typing_rules.specs.Assignments.{Target, target_of, type_of_what, target, assigned, updated, compound, stepped}
use Rattle.typing_rules.specs.Subobjects.{Base, InArray, BehindPointer, before_index, base_of_what, base_of, behind, element_of, indexed, Member, member_at, member_of, of_struct, dot_of, dot, arrow_of, arrow}
use Rattle.typing_laws.specs.SmallTypes.{WhereOk}
use Rattle.typing_laws.proofs.CheckedValues.{then_holds, then_known, kept_holds, if_holds, some_then, some_mapped, some_known}
use Rattle.typing_laws.proofs.PlainCores.{both_below, PlainCore, PlainPlace, PlainMade, PlainAt, PlainWhat, PlainOperand, PlainValue, place_and_part, loaded_plain, value_plain, two_parts, brought_plain}
use Rattle.typing_laws.proofs.PlainOperators.{deref_plain, pointee_shallow, fitted_plain}
use denote.Hole.Carrier.{hidden}

-- the types of members are shallow, and so are those of what names stand for
abbrev pub IsShallowType : ℕ → CType → Type 0
IsShallowType d t = type_depth t ≤ d

abbrev pub ShallowMembers : List Layout → Type 0
ShallowMembers ls = AllByRecursion (λ l. AllByRecursion (λ d. IsShallowType 65 d.ctype) l.members) ls

pub object_shallow : (d n : ℕ) → d ≤ 65 → d + d ≤ 130 + n
object_shallow d n l = omega arith

module _ (ls : List Layout) (n m : ℕ) (positive : 1 ≤ m) where
  abbrev V : Value → Type 0
  V v = PlainValue n m v

  abbrev O : Operand → Type 0
  O a = PlainOperand n m a

  -- ---- assignments

  abbrev PlainTarget : Target → Type 0
  PlainTarget to = PlainAt n m to.place to.ctype

  target_of_plain : (w : What) → PlainWhat n m w → WhereSome PlainTarget (target_of w)
  target_of_plain (At p t) h = if_holds (WhereSome PlainTarget) (is_scalar_shape (shape t)) _ _ (λ i. h) (λ i. tt)
  target_of_plain (Made o x t) h = tt

  target_plain : (at : Place) (a : Operand) → O a → WhereOk PlainTarget (target at a)
  target_plain at a h = kept_holds PlainTarget _ (target_of a.what) (target_of_plain a.what h)

  value_shallow : (d n : ℕ) → d + d ≤ 130 + n → d + d ≤ 132 + n
  value_shallow d n l = omega arith

  assign_core : (p : Place_) (t : CType) (x : Expr) → PlainPlace m p → PlainCore m x → PlainCore m (e.Assign p t x)
  unfolding shape-the_row-Expr-0 hidden-the_row-Expr-0 hidden
  assign_core p t x h j = place_and_part m p x (e.Assign p t x) refl refl h j

  update_core : (p : Place_) (t : CType) (u : UpdateOp) (x : Expr) (w : Answer) → PlainPlace m p → PlainCore m x → PlainCore m (e.Update p t u x w)
  unfolding shape-the_row-Expr-0 hidden-the_row-Expr-0 hidden
  update_core p t u x w h j = place_and_part m p x (e.Update p t u x w) refl refl h j

  pub assigned_plain : (at : Place) (a : Operand) (v : Value) → O a → V v → WhereOk O (assigned at a v)
  unfolding assigned
  assigned_plain at a v h j =
      then_holds PlainTarget O (target at a) _ (target_plain at a h) (λ to k.
      then_holds (PlainCore m) O (fitted at to.ctype v) _ (fitted_plain ls n m positive at to.ctype v j.core) (λ x i.
      record { core = assign_core to.place to.ctype x k.core i; depth = value_shallow (type_depth to.ctype) n k.depth }))

  updated_plain : (first : Place) (how : CompoundOperation) (to : Target) (v : Value) (answer : Answer) → PlainTarget to → PlainCore m v.expr → O (updated ls first how to v answer)
  unfolding updated
  updated_plain first (OnIntegers o k l) to v answer h j = record { core = update_core to.place to.ctype _ (brought l v) answer h.core (brought_plain m l v j); depth = value_shallow (type_depth to.ctype) n h.depth }
  updated_plain first Forward to v answer h j = record { core = update_core to.place to.ctype _ v.expr answer h.core j; depth = value_shallow (type_depth to.ctype) n h.depth }
  updated_plain first Backward to v answer h j = record { core = update_core to.place to.ctype _ v.expr answer h.core j; depth = value_shallow (type_depth to.ctype) n h.depth }

  pub compound_plain : (at : Place) (o : IntOp) (a : Operand) (v : Value) → O a → V v → WhereOk O (compound ls at o a v)
  unfolding compound
  compound_plain at o a v h j =
      then_known O (kept (Mismatch at) (compound_operation o (shape (type_of_what a.what)) (shape v.ctype))) _ (λ how i.
      then_holds PlainTarget O (target at a) _ (target_plain at a h) (λ to k. updated_plain a.first how to v After k j.core))

  pub stepped_plain : (at first : Place) (o : IntOp) (a : Operand) (answer : Answer) → O a → WhereOk O (stepped ls at first o a answer)
  unfolding stepped
  stepped_plain at first o a answer h =
      then_holds PlainTarget O (target at a) _ (target_plain at a h) (λ to k.
      then_known O (kept (Mismatch at) (compound_operation o (shape to.ctype) (shape int))) _ (λ how i.
      updated_plain first how to (plain_value first (e.Literal kind.Int (pos 1)) int) answer k (record { short = refl; turns = positive })))

  -- ---- elements

  abbrev pub PlainBase : Base → Type 0
  PlainBase (InArray p t) = PlainAt n m p t
  PlainBase (BehindPointer v) = V v

  before_index_plain : (first : Place) (p : Place_) (t : CType) → PlainAt n m p t → WhereOk PlainBase (before_index ls first p t)
  before_index_plain first p (type.Array' b (more_of-CType t end_of-CType) k) h = record { core = h.core; depth = less (type_depth t) n h.depth }
    where
      less : (d n : ℕ) → suc d + suc d ≤ 130 + n → d + d ≤ 130 + n
      less d n l = omega arith
  before_index_plain first p t h = then_holds V PlainBase (loaded first p t) (λ v. Ok (BehindPointer v)) (loaded_plain n m first p t h) (λ v k. k)

  base_of_what_plain : (a : Operand) (w : What) → O a → PlainWhat n m w → WhereOk PlainBase (base_of_what ls a w)
  base_of_what_plain a (At p t) h j = before_index_plain a.first p t j
  base_of_what_plain a (Made o x t) h j = then_holds V PlainBase (value a) (λ v. Ok (BehindPointer v)) (value_plain n m a h) (λ v k. k)

  pub base_plain : (a : Operand) → O a → WhereOk PlainBase (base_of ls a)
  unfolding base_of
  base_plain a h = base_of_what_plain a a.what h h

  move_core : (x y : Expr) (size : ℕ) → PlainCore m x → PlainCore m y → PlainCore m (e.Move x y size PointerFirst)
  unfolding shape-the_row-Expr-0 hidden-the_row-Expr-0 hidden
  move_core x y size h j = two_parts m x y (e.Move x y size PointerFirst) refl refl h j

  behind_plain : (at : Place) (v : Value) (t : CType) (i : Value) → PlainMade n m v.expr t → V i → WhereOk O (behind ls at v t i)
  behind_plain at v (type.Pointer' b (more_of-CType t end_of-CType)) i h j =
      if_holds (WhereOk O) (is_void t) _ _ (λ d. tt) (λ d.
      record { core = deref_plain ls n m positive (e.Move v.expr i.expr (cells ls t) PointerFirst) (move_core v.expr i.expr (cells ls t) h.core j.core); depth = pointee_shallow ls n m positive (type_depth t) n h.depth })
  behind_plain at v t i h j = tt

  index_core : (p : Place_) (x : Expr) (size : ℕ) → PlainPlace m p → PlainCore m x → PlainPlace m (e.Index p x size)
  unfolding shape-the_row-Expr-0 hidden-the_row-Expr-0 shape-the_row-Place_-2 hidden-the_row-Place_-2 hidden
  index_core p x size h j = record { short = and_true h.short j.short; turns = both_below (place_branching p) (branching x) m h.turns j.turns }

  element_plain : (at first : Place) (a : Base) (i : Value) → PlainBase a → V i → WhereOk O (element_of ls at first a i)
  element_plain at first (InArray p t) i h j = record { core = index_core p i.expr (cells ls t) h.core j.core; depth = h.depth }
  element_plain at first (BehindPointer v) i h j = behind_plain at v v.ctype i h j

  pub indexed_plain : (at first : Place) (a : Base) (i : Value) → PlainBase a → V i → WhereOk O (indexed ls at first a i)
  unfolding indexed
  indexed_plain at first a i h j = if_holds (WhereOk O) (is_integer_shape (shape i.ctype)) _ _ (λ d. element_plain at first a i h j) (λ d. tt)

  -- ---- members

  module _ (shallow : ShallowMembers ls) where
    member_shallow : (k : ℕ) (name : List ℕ) → WhereSome (λ x. IsShallowType 65 x.ctype) (member_of ls k name)
    member_shallow k name =
        some_then (λ l. AllByRecursion (λ d. IsShallowType 65 d.ctype) l.members) (λ (x : Member). IsShallowType 65 x.ctype) _ (slice_get ls k) (get_fits (λ l. AllByRecursion (λ d. IsShallowType 65 d.ctype) l.members) ls k shallow) (λ l h.
        some_then (λ (i : ℕ). Unit {0}) (λ (x : Member). IsShallowType 65 x.ctype) (member_at ls l.members) (position (λ d. bytes_eq name d.name) l.members) (some_known (λ (i : ℕ). Unit {0}) _ (λ i e. tt)) (λ i u.
        some_mapped (λ (d : Declared). IsShallowType 65 d.ctype) (λ (x : Member). IsShallowType 65 x.ctype) _ (slice_get l.members i) (get_fits (λ d. IsShallowType 65 d.ctype) l.members i h) (λ d k. k)))

    member_core : (p : Place_) (o : ℕ) → PlainPlace m p → PlainPlace m (e.Member p o)
    unfolding shape-the_row-Place_-2 hidden-the_row-Place_-2 hidden
    member_core p o h = record { short = h.short; turns = h.turns }

    of_struct_plain : (at first at_name : Place) (name : List ℕ) (p : Place_) (t : CType) → PlainPlace m p → WhereOk O (of_struct ls at first at_name name p t)
    of_struct_plain at first at_name name p (type.Struct k) h =
        then_holds (λ (x : Member). IsShallowType 65 x.ctype) O (kept (Unknown at_name) (member_of ls k name)) _ (kept_holds (λ (x : Member). IsShallowType 65 x.ctype) _ (member_of ls k name) (member_shallow k name))
        (λ x d. record { core = member_core p x.offset h; depth = object_shallow (type_depth x.ctype) n d })
    of_struct_plain at first at_name name p t h = tt

    dot_of_plain : (at first at_name : Place) (name : List ℕ) (w : What) → PlainWhat n m w → WhereOk O (dot_of ls at first at_name name w)
    dot_of_plain at first at_name name (At p t) h = of_struct_plain at first at_name name p t h.core
    dot_of_plain at first at_name name (Made o x t) h = tt

    pub dot_plain : (at at_name : Place) (name : List ℕ) (a : Operand) → O a → WhereOk O (dot ls at at_name name a)
    unfolding dot
    dot_plain at at_name name a h = dot_of_plain at a.first at_name name a.what h

    arrow_of_plain : (at at_name : Place) (name : List ℕ) (v : Value) (t : CType) → PlainCore m v.expr → WhereOk O (arrow_of ls at at_name name v t)
    arrow_of_plain at at_name name v (type.Pointer' b (more_of-CType t end_of-CType)) h = of_struct_plain at v.first at_name name (e.Deref v.expr) t (deref_plain ls n m positive v.expr h)
    arrow_of_plain at at_name name v t h = tt

    pub arrow_plain : (at at_name : Place) (name : List ℕ) (v : Value) → V v → WhereOk O (arrow ls at at_name name v)
    unfolding arrow
    arrow_plain at at_name name v h = arrow_of_plain at at_name name v v.ctype h.core
