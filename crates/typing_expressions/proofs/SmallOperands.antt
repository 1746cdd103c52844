-- Each operand that code gives is small, by the law on operands.
use Rattle.std.proofs.Common.{Ok, Err, IfOk}
use Rattle.typing_rules.specs.declared.operand.Operand.{Operand}
use Rattle.typing_rules.specs.Checked.{Checked, Gives}
use Rattle.typing_rules.specs.Syntax.{Expression}
use Rattle.typing_rules.specs.Environment.{Environment}
use Rattle.typing_rules.specs.Expressions.{operand}
use Rattle.typing_laws.specs.SmallTypes.{IsSmall, IsSmallOperand}
use Rattle.typing_laws.proofs.SmallOperands.{operands_small}

pub small_of : (g : Environment) → IsSmall g → (x : Expression) (r : Checked Operand) → Gives (operand g x) r → IfOk r (λ a. IsSmallOperand g.layouts a)
small_of g s x (Ok a) h = operands_small g s x a h
small_of g s x (Err e) h = tt
