-- Elements of arrays and members of structs (C11 6.5.2.1, 6.5.2.3).
use Rattle.std.specs.Prelude.{ℕ, if◌then◌else◌, List, take, sum_by, position, slice_get, Option, option_and_then, option_map, Ok, Err}
use Rattle.std.specs.Str.{bytes_eq}
use Rattle.c_lexer.specs.declared.token.Place.{Place}
use Rattle.step_meaning.specs.declared.value.CType.{CType, end_of-CType, more_of-CType}
use Rattle.step_meaning.specs.declared.value.CType.TheVariants as type
use Rattle.step_meaning.specs.declared.expr.Side.TheVariants.{PointerFirst}
use Rattle.step_meaning.specs.declared.expr.Expr.TheVariants as e
use Rattle.step_meaning.specs.declared.expr.Place_.{Place_}
use Rattle.step_meaning.specs.declared.program.Declared.{Declared}
use Rattle.step_meaning.specs.declared.program.Layout.{Layout}
use Rattle.step_meaning.specs.TypeRules.{cells}
use Rattle.step_meaning.specs.ExpressionTypes.{is_void}
use Rattle.typing_rules.specs.declared.fault.TypeFault.TheVariants.{Unknown, Mismatch}
use Rattle.typing_rules.specs.declared.operand.What.{What}
use Rattle.typing_rules.specs.declared.operand.What.TheVariants.{At}
use Rattle.typing_rules.specs.declared.operand.Operand.{Operand}
use Rattle.typing_rules.specs.declared.operand.Value.{Value}
use Rattle.typing_rules.specs.Checked.{Checked, ◌>>=◌, kept}
use Rattle.typing_rules.specs.Judgements.{shape, is_integer_shape}
use Rattle.typing_rules.specs.Operands.{at_place, value, loaded}

-- what stands before `[ ]`: the lvalue of an array whose elements have this type, or a value
pub data Base : Type 0 where
  InArray : Place_ → CType → Base
  BehindPointer : Value → Base

-- a member: its offset in cells, and its type
pub record Member : Type 0 where
  pub offset : ℕ
  pub ctype : CType

module _ (layouts : List Layout) where
  -- ---- elements

  abbrev pub before_index : Place → Place_ → CType → Checked Base
  before_index first p (type.Array' b (more_of-CType t end_of-CType) n) = Ok (InArray p t)
  before_index first p t = do
    v ← loaded first p t
    Ok (BehindPointer v)

  abbrev pub base_of_what : Operand → What → Checked Base
  base_of_what a (At p t) = before_index a.first p t
  base_of_what a w = do
    v ← value a
    Ok (BehindPointer v)

  unfoldable pub base_of : Operand → Checked Base
  base_of a = base_of_what a a.what

  -- `p[i]` is `*(p + i)` (C11 6.5.2.1, 2)
  abbrev pub behind : Place → Value → CType → Value → Checked Operand
  behind at v (type.Pointer' b (more_of-CType t end_of-CType)) i = if is_void t then Err (Mismatch at) else Ok (at_place v.first (e.Deref (e.Move v.expr i.expr (cells layouts t) PointerFirst)) t)
  behind at v t i = Err (Mismatch at)

  abbrev pub element_of : Place → Place → Base → Value → Checked Operand
  element_of at first (InArray p t) i = Ok (at_place first (e.Index p i.expr (cells layouts t)) t)
  element_of at first (BehindPointer v) i = behind at v v.ctype i

  -- a[i], with the `[` at this place and the first token of a at `first`: an array or pointer on the left, and an integer inside
  unfoldable pub indexed : Place → Place → Base → Value → Checked Operand
  indexed at first a i = if is_integer_shape (shape i.ctype) then element_of at first a i else Err (Mismatch at)

  -- ---- members

  -- the member with this number, after the cells of those before it (C11 6.7.2.1, 15)
  abbrev pub member_at : List Declared → ℕ → Option Member
  member_at ds i = option_map (λ d. record { offset = sum_by (λ d. cells layouts d.ctype) (take i ds); ctype = d.ctype }) (slice_get ds i)

  abbrev pub member_among : List ℕ → List Declared → Option Member
  member_among name ds = option_and_then (member_at ds) (position (λ d. bytes_eq name d.name) ds)

  -- the member with the name of the struct with the number
  abbrev pub member_of : ℕ → List ℕ → Option Member
  member_of n name = option_and_then (λ l. member_among name l.members) (slice_get layouts n)

  abbrev pub of_struct : Place → Place → Place → List ℕ → Place_ → CType → Checked Operand
  of_struct at first at_name name p (type.Struct n) = do
    m ← kept (Unknown at_name) (member_of n name)
    Ok (at_place first (e.Member p m.offset) m.ctype)
  of_struct at first at_name name p t = Err (Mismatch at)

  abbrev pub dot_of : Place → Place → Place → List ℕ → What → Checked Operand
  dot_of at first at_name name (At p t) = of_struct at first at_name name p t
  dot_of at first at_name name w = Err (Mismatch at)

  -- a.name, with the operator and the name at these places: the lvalue of a struct on the left
  unfoldable pub dot : Place → Place → List ℕ → Operand → Checked Operand
  dot at at_name name a = dot_of at a.first at_name name a.what

  abbrev pub arrow_of : Place → Place → List ℕ → Value → CType → Checked Operand
  arrow_of at at_name name v (type.Pointer' b (more_of-CType t end_of-CType)) = of_struct at v.first at_name name (e.Deref v.expr) t
  arrow_of at at_name name v t = Err (Mismatch at)

  -- a->name: a pointer to a struct on the left
  unfoldable pub arrow : Place → Place → List ℕ → Value → Checked Operand
  arrow at at_name name v = arrow_of at at_name name v v.ctype
