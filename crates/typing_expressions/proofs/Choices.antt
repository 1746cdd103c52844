-- `? :`, part by part (C11 6.5.15).
use Rattle.std.proofs.Common.{◌≡◌, Ok, Err, refl}
use Rattle.c_words.specs.declared.word.Leaf.{Leaf}
use Rattle.step_meaning.specs.declared.expr.Expr.{Expr}
use Rattle.typing_rules.specs.declared.fault.TypeFault.{TypeFault}
use Rattle.typing_rules.specs.declared.operand.Operand.{Operand}
use Rattle.typing_rules.specs.declared.operand.Value.{Value}
use Rattle.typing_rules.specs.Syntax.{Expression, Choose}
use Rattle.typing_rules.specs.Environment.{Environment}
use Rattle.typing_rules.specs.Operands.{value, condition}
use Rattle.typing_rules.specs.Expressions.{operand}

module _ (g : Environment) (x : Expression) (t : Leaf) (y z : Expression) (e : TypeFault) (a : Operand) (v : Value) (test : Expr)
    (h : operand g x ≡ Ok a) (k : value a ≡ Ok v) (l : condition v ≡ Ok test) where
  pub second_failed : operand g y ≡ Err e → operand g (Choose x t y z) ≡ Err e
  unfolding operand
  second_failed i = rw (h, k, l, i) refl

  pub third_failed : (b : Operand) (w : Value) → operand g y ≡ Ok b → value b ≡ Ok w → operand g z ≡ Err e → operand g (Choose x t y z) ≡ Err e
  unfolding operand
  third_failed b w i j m = rw (h, k, l, i, j, m) refl
