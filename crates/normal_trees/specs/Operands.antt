-- What operands and targets in code stand for in the definition of the normal form.
use Rattle.std.specs.Prelude.{Option, Some, None}
use Rattle.std.specs.Borrow.{Bor}
use Rattle.step_meaning.specs.declared.value.CType.{CType}
use Rattle.step_meaning.specs.declared.value.CType.TheVariants as type
use Rattle.normal_laws.specs.NormalForm as form
use Rattle.normal_trees.specs.declared.operands.RegisterType.{RegisterType}
use Rattle.normal_trees.specs.declared.operands.RegisterType.TheVariants as registers
use Rattle.normal_trees.specs.declared.operands.Operand.{Operand}
use Rattle.normal_trees.specs.declared.operands.Operand.TheVariants as operands
use Rattle.normal_trees.specs.declared.operands.Target.{Target}
use Rattle.normal_trees.specs.declared.operands.Target.TheVariants as targets

-- the type of an object that a reference stands for; `void` where there is none
abbrev pub object_of : Option (Bor CType) → CType
object_of None = type.Void
object_of (Some t) = t.now

abbrev pub register_type : RegisterType → CType
register_type registers.Void = type.Void
register_type (registers.Int k) = type.Int k
register_type (registers.Of t) = t.now
register_type (registers.To t) = form.pointer_to (object_of t)

abbrev pub operand_of : Operand → form.Operand
operand_of (operands.Number k z) = form.Number k z
operand_of operands.Null = form.Nil
operand_of (operands.Held i t) = form.Held i (register_type t)
operand_of operands.Absent = form.Absent

abbrev pub target_of : Target → form.Target
target_of (targets.Named v) = form.Named v
target_of (targets.Pointed a) = form.Pointed (operand_of a)

abbrev pub operand_if_any : Option Operand → Option form.Operand
operand_if_any None = None
operand_if_any (Some a) = Some (operand_of a)
