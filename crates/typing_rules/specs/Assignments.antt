-- Assignments: `=`, compound assignment, `++` and `--` (C11 6.5.16, 6.5.2.4, 6.5.3.1).
use Rattle.std.specs.Prelude.{pos, if◌then◌else◌, List, Option, Some, None, Ok}
use Rattle.c_lexer.specs.declared.token.Place.{Place}
use Rattle.step_meaning.specs.declared.value.IntKind.TheVariants as kind
use Rattle.step_meaning.specs.declared.value.CType.{CType, end_of-CType, more_of-CType}
use Rattle.step_meaning.specs.declared.value.CType.TheVariants as type
use Rattle.step_meaning.specs.declared.expr.IntOp.{IntOp}
use Rattle.step_meaning.specs.declared.expr.Answer.{Answer}
use Rattle.step_meaning.specs.declared.expr.Answer.TheVariants.{After}
use Rattle.step_meaning.specs.declared.expr.UpdateOp.TheVariants as update
use Rattle.step_meaning.specs.declared.expr.Expr.TheVariants as e
use Rattle.step_meaning.specs.declared.expr.Place_.{Place_}
use Rattle.step_meaning.specs.declared.program.Layout.{Layout}
use Rattle.step_meaning.specs.ExpressionTypes.{pointer_to}
use Rattle.step_meaning.specs.Library.{int}
use Rattle.typing_rules.specs.declared.fault.TypeFault.TheVariants.{Mismatch, NotPlace}
use Rattle.typing_rules.specs.declared.operand.What.{What}
use Rattle.typing_rules.specs.declared.operand.What.TheVariants.{At, Made}
use Rattle.typing_rules.specs.declared.operand.Operand.{Operand}
use Rattle.typing_rules.specs.declared.operand.Value.{Value}
use Rattle.typing_rules.specs.declared.judgement.CompoundOperation.{CompoundOperation}
use Rattle.typing_rules.specs.declared.judgement.CompoundOperation.TheVariants.{OnIntegers, Forward, Backward}
use Rattle.typing_rules.specs.Checked.{Checked, ◌>>=◌, kept}
use Rattle.typing_rules.specs.Judgements.{shape, is_scalar_shape, compound_operation}
use Rattle.typing_rules.specs.Operands.{made, plain_value, brought, fitted}
use Rattle.typing_rules.specs.Operators.{unit}

-- an lvalue of integer or pointer type, which alone is assigned to (C11 6.3.2.1, 1; 6.5.16, 2)
pub record Target : Type 0 where
  pub place : Place_
  pub ctype : CType

abbrev pub target_of : What → Option Target
target_of (At p t) = if is_scalar_shape (shape t) then Some (record { place = p; ctype = t }) else None
target_of w = None

abbrev pub target : Place → Operand → Checked Target
target at a = kept (NotPlace at) (target_of a.what)

-- a = b, with the operator at this place. Where the left side is no target there is no type that the right side is brought to
unfoldable pub assigned : Place → Operand → Value → Checked Operand
assigned at a v = do
  to ← target at a
  x ← fitted at to.ctype v
  Ok (made a.first (e.Assign to.place to.ctype x) to.ctype)

-- the type of an operand in a sum: an array stands as a pointer (C11 6.3.2.1, 3)
abbrev pub decayed : CType → CType
decayed (type.Array' b (more_of-CType t end_of-CType) n) = pointer_to t
decayed t = t

abbrev pub type_of_what : What → CType
type_of_what (At p t) = decayed t
type_of_what (Made o x t) = t

module _ (layouts : List Layout) where
  unfoldable pub updated : Place → CompoundOperation → Target → Value → Answer → Operand
  updated first (OnIntegers o k l) to v answer = made first (e.Update to.place to.ctype (update.Integer o k) (brought l v) answer) to.ctype
  updated first Forward to v answer = made first (e.Update to.place to.ctype (update.Forward (unit layouts to.ctype)) v.expr answer) to.ctype
  updated first Backward to v answer = made first (e.Update to.place to.ctype (update.Backward (unit layouts to.ctype)) v.expr answer) to.ctype

  -- a o= b: where neither the types nor the target are right, the types count
  unfoldable pub compound : Place → IntOp → Operand → Value → Checked Operand
  compound at o a v = do
    how ← kept (Mismatch at) (compound_operation o (shape (type_of_what a.what)) (shape v.ctype))
    to ← target at a
    Ok (updated a.first how to v After)

  -- `++` and `--`, at `at`, whose expression begins at `first`: the `int` 1 is added or subtracted
  unfoldable pub stepped : Place → Place → IntOp → Operand → Answer → Checked Operand
  stepped at first o a answer = do
    to ← target at a
    how ← kept (Mismatch at) (compound_operation o (shape to.ctype) (shape int))
    Ok (updated first how to (plain_value first (e.Literal kind.Int (pos 1)) int) answer)
