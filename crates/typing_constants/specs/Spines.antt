-- Expressions by their first operands: a chain of operators is a list of nodes, each the first operand of that before it.
use Rattle.std.specs.Prelude.{ℤ, Bool, true, false, ◌&&◌, List, [], ◌∷◌, Option, Some, None}
use Rattle.step_meaning.specs.declared.expr.Expr.{Expr, end_of-Expr, more_of-Expr}
use Rattle.step_meaning.specs.declared.expr.Expr.TheVariants.{Literal, Convert', Unary', Binary', Compare', Not', Both', Either', Choose'}
use Rattle.typing_rules.specs.ConstantExpressions.{is_constant, value_of}
use Rattle.typing_constants.specs.Values.{converted_value, unary_value, binary_value, compared_value, negated_value, both_value, either_value, chosen_value}

-- the first operand of an operator of constant expressions
unfoldable pub first_operand : Expr → Option Expr
first_operand (Convert' k b (more_of-Expr e end_of-Expr)) = Some e
first_operand (Unary' o k b (more_of-Expr e end_of-Expr)) = Some e
first_operand (Binary' o k b (more_of-Expr e end_of-Expr) c (more_of-Expr f end_of-Expr)) = Some e
first_operand (Compare' o b (more_of-Expr e end_of-Expr) c (more_of-Expr f end_of-Expr)) = Some e
first_operand (Not' b (more_of-Expr e end_of-Expr)) = Some e
first_operand (Both' b (more_of-Expr e end_of-Expr) c (more_of-Expr f end_of-Expr)) = Some e
first_operand (Either' b (more_of-Expr e end_of-Expr) c (more_of-Expr f end_of-Expr)) = Some e
first_operand (Choose' b (more_of-Expr e end_of-Expr) c (more_of-Expr f end_of-Expr) d (more_of-Expr g end_of-Expr)) = Some e
first_operand _ = None

-- whether it is an operator of constant expressions with such operands after the first, or a literal
unfoldable pub others_constant : Expr → Bool
others_constant (Literal k z) = true
others_constant (Convert' k b (more_of-Expr e end_of-Expr)) = true
others_constant (Unary' o k b (more_of-Expr e end_of-Expr)) = true
others_constant (Binary' o k b (more_of-Expr e end_of-Expr) c (more_of-Expr f end_of-Expr)) = is_constant f
others_constant (Compare' o b (more_of-Expr e end_of-Expr) c (more_of-Expr f end_of-Expr)) = is_constant f
others_constant (Not' b (more_of-Expr e end_of-Expr)) = true
others_constant (Both' b (more_of-Expr e end_of-Expr) c (more_of-Expr f end_of-Expr)) = is_constant f
others_constant (Either' b (more_of-Expr e end_of-Expr) c (more_of-Expr f end_of-Expr)) = is_constant f
others_constant (Choose' b (more_of-Expr e end_of-Expr) c (more_of-Expr f end_of-Expr) d (more_of-Expr g end_of-Expr)) = is_constant f && is_constant g
others_constant _ = false

-- the value, from that of the first operand
unfoldable pub value_after : Expr → Option ℤ → Option ℤ
value_after (Literal k z) a = Some z
value_after (Convert' k b (more_of-Expr e end_of-Expr)) a = converted_value k a
value_after (Unary' o k b (more_of-Expr e end_of-Expr)) a = unary_value o k a
value_after (Binary' o k b (more_of-Expr e end_of-Expr) c (more_of-Expr f end_of-Expr)) a = binary_value o k a (value_of f)
value_after (Compare' o b (more_of-Expr e end_of-Expr) c (more_of-Expr f end_of-Expr)) a = compared_value o a (value_of f)
value_after (Not' b (more_of-Expr e end_of-Expr)) a = negated_value a
value_after (Both' b (more_of-Expr e end_of-Expr) c (more_of-Expr f end_of-Expr)) a = both_value a (value_of f)
value_after (Either' b (more_of-Expr e end_of-Expr) c (more_of-Expr f end_of-Expr)) a = either_value a (value_of f)
value_after (Choose' b (more_of-Expr e end_of-Expr) c (more_of-Expr f end_of-Expr) d (more_of-Expr g end_of-Expr)) a = chosen_value a (value_of f) (value_of g)
value_after _ a = None

-- the value of the first of these nodes, where that of the last one's first operand is given
abbrev pub climbed : List Expr → Option ℤ → Option ℤ
climbed [] a = a
climbed (x ∷ xs) a = value_after x (climbed xs a)
