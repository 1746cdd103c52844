-- A chain of operators, from the left: how the operand that was found before a link goes on (C11 6.5.5 to 6.5.14).
use Rattle.std.specs.Prelude.{List, [], ◌∷◌, Ok}
use Rattle.c_words.specs.declared.chain.Link.{Link}
use Rattle.c_words.specs.declared.word.Leaf.{Leaf}
use Rattle.typing_rules.specs.declared.operand.Operand.{Operand}
use Rattle.typing_rules.specs.declared.operand.Value.{Value}
use Rattle.typing_rules.specs.Checked.{Checked, ◌>>=◌}
use Rattle.typing_rules.specs.Syntax.{Expression}
use Rattle.typing_rules.specs.Judgements.{operator_of}
use Rattle.typing_rules.specs.Operands.{value}
use Rattle.typing_rules.specs.Operators.{combined}
use Rattle.typing_rules.specs.Environment.{Environment, place_of}
use Rattle.typing_rules.specs.Expressions.{operand}

module _ (g : Environment) where
  unfoldable pub joined : Leaf → Value → Operand → Checked Operand
  joined t v b = do
    w ← value b
    combined g.layouts (place_of t) (operator_of t.word) v w

  module _ {A : Type 0} (f : A → Expression) where
    unfoldable pub linked : Operand → List (Link A) → Checked Operand
    linked a [] = Ok a
    linked a (l ∷ ls) = do
      v ← value a
      b ← operand g (f l.operand)
      c ← joined l.operator v b
      linked c ls
