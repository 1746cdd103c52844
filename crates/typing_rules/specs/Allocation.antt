-- Calls of `malloc` and `free` (C11 7.22.3.4, 7.22.3.3), and the types that `sizeof` names (C11 6.5.3.4). Sizes are no numbers here: `malloc` takes a count of objects of a type.
use Rattle.std.specs.Prelude.{pos, Bool, ◌&&◌, if◌then◌else◌, length, Option, Some, None, Ok, Err}
use Rattle.c_lexer.specs.declared.token.Place.{Place}
use Rattle.step_meaning.specs.declared.value.IntKind.TheVariants as kind
use Rattle.step_meaning.specs.declared.value.CType.{CType}
use Rattle.step_meaning.specs.declared.value.CType.TheVariants as type
use Rattle.step_meaning.specs.declared.expr.Expr.{Expr}
use Rattle.step_meaning.specs.declared.expr.Expr.TheVariants as e
use Rattle.step_meaning.specs.TypeRules.{is_spelled, is_object_type}
use Rattle.step_meaning.specs.ExpressionTypes.{pointer_to}
use Rattle.typing_rules.specs.declared.fault.TypeFault.TheVariants.{Mismatch}
use Rattle.typing_rules.specs.declared.operand.Origin.TheVariants.{Allocation}
use Rattle.typing_rules.specs.declared.operand.What.{What}
use Rattle.typing_rules.specs.declared.operand.What.TheVariants.{At, Made}
use Rattle.typing_rules.specs.declared.operand.Operand.{Operand}
use Rattle.typing_rules.specs.declared.operand.Value.{Value}
use Rattle.typing_rules.specs.Checked.{Checked, ◌>>=◌}
use Rattle.typing_rules.specs.Environment.{Environment}
use Rattle.typing_rules.specs.Judgements.{shape, is_integer_shape, is_pointer, is_null}
use Rattle.typing_rules.specs.Operands.{made, made_from, brought}

-- what `malloc` is asked for: so many objects of the type
pub record Request : Type 0 where
  pub count : Expr
  pub ctype : CType

-- the type of an operand that isn't evaluated: an array stays one (C11 6.3.2.1, 3)
abbrev pub type_of_object : What → CType
type_of_object (At p t) = t
type_of_object (Made o x t) = t

-- the type that a `sizeof` of this operand names
abbrev pub operand_type : Operand → CType
operand_type a = type_of_object a.what

-- `sizeof` by itself: one object
abbrev pub one_object : CType → Request
one_object t = record { count = e.Literal kind.ULong (pos 1); ctype = t }

-- an integer times a `sizeof`, with the `*` at this place: the integer is the count, as an `unsigned long` (C11 6.5.5, 2)
unfoldable pub objects : Place → Value → CType → Checked Request
objects at v t = if is_integer_shape (shape v.ctype) then Ok (record { count = brought kind.ULong v; ctype = t }) else Err (Mismatch at)

-- the argument of `malloc` is E * S, where S is the last operand of the chain and E is the chain before it, or S * E with two operands, of which the second is no `sizeof`.
-- Each operand is given as the type that it names, where it is a `sizeof`, and as its value; their rules come from left to right
unfoldable pub product : Place → Option (Checked CType) → Checked Value → Option (Checked CType) → Checked Value → Option (Checked Request)
product at s x (Some t) y = Some (do
  v ← x
  c ← t
  objects at v c)
product at (Some s) x None y = Some (do
  c ← s
  v ← y
  objects at v c)
product at None x None y = None

-- the objects of a block have a complete type that a type name spells, which `void` is not; a struct is complete after its members
abbrev pub is_allocated : Environment → CType → Bool
is_allocated g t = is_spelled t && is_object_type g.layouts (length g.tags) t

-- a call of `malloc`, with the name at this place, is a pointer to the objects
unfoldable pub allocated : Environment → Place → Request → Checked Operand
allocated g at q = if is_allocated g q.ctype then Ok (made_from Allocation at (e.Malloc q.count q.ctype) (pointer_to q.ctype)) else Err (Mismatch at)

-- a call of `free`, with the name at this place, takes a pointer of any type, or a null pointer constant
unfoldable pub freed : Place → Value → Checked Operand
freed at v =
    if is_null v.origin then Ok (made at (e.Free e.Null) type.Void)
    else (if is_pointer (shape v.ctype) then Ok (made at (e.Free v.expr) type.Void) else Err (Mismatch at))
