-- Operands and their values (C11 6.3.2.1), and conversions as an assignment makes them (C11 6.5.16.1).
use Rattle.std.specs.Prelude.{pos, if◌then◌else◌, Ok, Err}
use Rattle.c_lexer.specs.declared.token.Place.{Place}
use Rattle.step_meaning.specs.declared.value.IntKind.{IntKind}
use Rattle.step_meaning.specs.declared.value.IntKind.TheVariants as kind
use Rattle.step_meaning.specs.declared.value.CType.{CType, end_of-CType, more_of-CType}
use Rattle.step_meaning.specs.declared.value.CType.TheVariants as type
use Rattle.step_meaning.specs.declared.expr.Expr.{Expr}
use Rattle.step_meaning.specs.declared.expr.Expr.TheVariants as e
use Rattle.step_meaning.specs.declared.expr.Place_.{Place_}
use Rattle.step_meaning.specs.Types.{same_type}
use Rattle.step_meaning.specs.Conversions.{same_int_kind}
use Rattle.step_meaning.specs.ExpressionTypes.{pointer_to}
pub use Rattle.step_meaning.specs.Library.{int}
use Rattle.typing_rules.specs.declared.fault.TypeFault.TheVariants.{Mismatch, StructValue}
use Rattle.typing_rules.specs.declared.operand.Origin.{Origin}
use Rattle.typing_rules.specs.declared.operand.Origin.TheVariants.{ZeroLiteral, Other}
use Rattle.typing_rules.specs.declared.operand.What.{What}
use Rattle.typing_rules.specs.declared.operand.What.TheVariants.{At, Made}
use Rattle.typing_rules.specs.declared.operand.Operand.{Operand}
use Rattle.typing_rules.specs.declared.operand.Value.{Value}
use Rattle.typing_rules.specs.declared.judgement.Conversion.{Conversion}
use Rattle.typing_rules.specs.declared.judgement.Conversion.TheVariants.{ToKind, ToNull, Unchanged}
use Rattle.typing_rules.specs.Checked.{Checked, ◌>>=◌, kept}
use Rattle.typing_rules.specs.Judgements.{shape, is_scalar_shape, is_null, conversion}

-- ---- operands

-- a value that no rule asks the origin of
abbrev pub made : Place → Expr → CType → Operand
made first x t = record { first = first; what = Made Other x t }

abbrev pub made_from : Origin → Place → Expr → CType → Operand
made_from o first x t = record { first = first; what = Made o x t }

abbrev pub at_place : Place → Place_ → CType → Operand
at_place first p t = record { first = first; what = At p t }

-- the literal `0`
abbrev pub zero_literal : Place → Operand
zero_literal first = made_from ZeroLiteral first (e.Literal kind.Int (pos 0)) int

-- ---- values

abbrev pub plain_value : Place → Expr → CType → Value
plain_value first x t = record { first = first; expr = x; ctype = t; origin = Other }

-- the value of an object: a struct is none, and an array is the address of its first element (C11 6.3.2.1, 2 and 3)
unfoldable pub loaded : Place → Place_ → CType → Checked Value
loaded first p (type.Struct n) = Err (StructValue first)
loaded first p (type.Array' b (more_of-CType t end_of-CType) n) = Ok (plain_value first (e.Address p t) (pointer_to t))
loaded first p t = Ok (plain_value first (e.Load p t) t)

abbrev pub value_of : Place → What → Checked Value
value_of first (At p t) = loaded first p t
value_of first (Made o x t) = Ok (record { first = first; expr = x; ctype = t; origin = o })

unfoldable pub value : Operand → Checked Value
value a = value_of a.first a.what

-- an integer or a pointer, as a condition (C11 6.8.4.1, 1; 6.8.5, 2; 6.5.15, 2)
unfoldable pub condition : Value → Checked Expr
condition v = if is_scalar_shape (shape v.ctype) then Ok v.expr else Err (Mismatch v.first)

-- ---- conversions

-- an integer brought to a kind; to its own it stays as it is
abbrev pub brought_from : IntKind → CType → Expr → Expr
brought_from k (type.Int l) x = if same_int_kind k l then x else e.Convert k x
brought_from k t x = x

unfoldable pub brought : IntKind → Value → Expr
brought k v = brought_from k v.ctype v.expr

abbrev pub converted_by : Conversion → Value → Expr
converted_by (ToKind k) v = brought k v
converted_by ToNull v = e.Null
converted_by Unchanged v = v.expr

-- a value brought to a type; the fault stands at this place
unfoldable pub fitted : Place → CType → Value → Checked Expr
fitted at t v = do
  how ← kept (Mismatch at) (conversion (shape t) (shape v.ctype) (is_null v.origin) (same_type t v.ctype))
  Ok (converted_by how v)
