-- A flat list of operands, with the operators of all ten levels between them, grouped by the levels (C11 6.5).
use Rattle.std.specs.Prelude.{Bool, if◌then◌else◌, List, [], ◌∷◌, ◌++◌, Option, Some, None}
use Rattle.c_words.specs.declared.word.Word.{Word}
use Rattle.c_words.specs.declared.word.Word.TheVariants as w
use Rattle.c_words.specs.declared.word.Leaf.{Leaf}
use Rattle.c_words.specs.declared.chain.Chain.{Chain}
use Rattle.c_words.specs.declared.chain.Link.{Link}
use Rattle.c_grammar.specs.declared.expression.Or.{Or, roll-Or}
use Rattle.c_grammar.specs.declared.expression.And.{And, roll-And}
use Rattle.c_grammar.specs.declared.expression.BitOr.{BitOr, roll-BitOr}
use Rattle.c_grammar.specs.declared.expression.BitXor.{BitXor, roll-BitXor}
use Rattle.c_grammar.specs.declared.expression.BitAnd.{BitAnd, roll-BitAnd}
use Rattle.c_grammar.specs.declared.expression.Equal.{Equal, roll-Equal}
use Rattle.c_grammar.specs.declared.expression.Relation.{Relation, roll-Relation}
use Rattle.c_grammar.specs.declared.expression.Shift.{Shift, roll-Shift}
use Rattle.c_grammar.specs.declared.expression.Sum.{Sum, roll-Sum}
use Rattle.c_grammar.specs.declared.expression.Product.{Product, roll-Product}
use Rattle.c_grammar.specs.declared.expression.Unary.{Unary}
use Rattle.c_words.specs.Words.{same}
use Rattle.c_words.specs.OperatorWords.{is_sum_operator, is_shift_operator, is_relation_operator, is_equal_operator}

-- the runs that are closed, with the operator after them, and one more
abbrev pub close : {B : Type 0} → Option (Chain B × Leaf) → B → Chain B
close None b = record { first = b; rest = [] }
close (Some p) b = record { first = p.0.first; rest = p.0.rest ++ record { operator = p.1; operand = b } ∷ [] }

-- one level: each run of operands between its operators makes one operand
module _ {A B : Type 0} (is_operator : Word → Bool) (make : Chain A → B) where
  unfoldable pub group_from : Option (Chain B × Leaf) → Chain A → List (Link A) → Chain B
  group_from closed current [] = close closed (make current)
  group_from closed current (l ∷ ls) =
      if is_operator l.operator.word then group_from (Some (close closed (make current), l.operator)) (record { first = l.operand; rest = [] }) ls
      else group_from closed (record { first = current.first; rest = current.rest ++ l ∷ [] }) ls

  unfoldable pub group : Chain A → Chain B
  group c = group_from None (record { first = c.first; rest = [] }) c.rest

unfoldable pub product_of : Chain Unary → Product
product_of c = roll-Product (record { 0 = c })

unfoldable pub sum_of : Chain Unary → Sum
sum_of c = roll-Sum (record { 0 = group is_sum_operator product_of c })

unfoldable pub shift_of : Chain Unary → Shift
shift_of c = roll-Shift (record { 0 = group is_shift_operator sum_of c })

unfoldable pub relation_of : Chain Unary → Relation
relation_of c = roll-Relation (record { 0 = group is_relation_operator shift_of c })

unfoldable pub equal_of : Chain Unary → Equal
equal_of c = roll-Equal (record { 0 = group is_equal_operator relation_of c })

unfoldable pub bit_and_of : Chain Unary → BitAnd
bit_and_of c = roll-BitAnd (record { 0 = group (same w.Ampersand) equal_of c })

unfoldable pub bit_xor_of : Chain Unary → BitXor
bit_xor_of c = roll-BitXor (record { 0 = group (same w.Caret) bit_and_of c })

unfoldable pub bit_or_of : Chain Unary → BitOr
bit_or_of c = roll-BitOr (record { 0 = group (same w.Bar) bit_xor_of c })

unfoldable pub and_of : Chain Unary → And
and_of c = roll-And (record { 0 = group (same w.AndAnd) bit_or_of c })

unfoldable pub or_of : Chain Unary → Or
or_of c = roll-Or (record { 0 = group (same w.OrOr) and_of c })
