-- What an operator makes of values of which each may be none, for a fault that its expression makes (C11 6.5, 6.6).
use Rattle.std.specs.Prelude.{ℤ, pos, if◌then◌else◌, Option, Some, option_and_then, option_map}
use Rattle.step_meaning.specs.declared.value.IntKind.{IntKind}
use Rattle.step_meaning.specs.declared.expr.IntOp.{IntOp}
use Rattle.step_meaning.specs.declared.expr.UnaryOp.{UnaryOp}
use Rattle.step_meaning.specs.declared.expr.CompareOp.{CompareOp}
use Rattle.step_meaning.specs.Numbers.{converted, unary_of, binary_of, compared_integers, is_zero}
use Rattle.typing_rules.specs.ConstantExpressions.{without_fault, truth}

unfoldable pub converted_value : IntKind → Option ℤ → Option ℤ
converted_value k a = option_map (converted k) a

unfoldable pub unary_value : UnaryOp → IntKind → Option ℤ → Option ℤ
unary_value o k a = option_and_then (λ x. without_fault (unary_of o k x)) a

unfoldable pub binary_value : IntOp → IntKind → Option ℤ → Option ℤ → Option ℤ
binary_value o k a b = option_and_then (λ x. option_and_then (λ y. without_fault (binary_of o k x y)) b) a

unfoldable pub compared_value : CompareOp → Option ℤ → Option ℤ → Option ℤ
compared_value o a b = option_and_then (λ x. option_and_then (λ y. Some (truth (compared_integers o x y))) b) a

unfoldable pub negated_value : Option ℤ → Option ℤ
negated_value a = option_map (λ x. truth (is_zero x)) a

-- 1 of each value but 0
unfoldable pub logical_value : Option ℤ → Option ℤ
logical_value a = option_map (λ x. if is_zero x then pos 0 else pos 1) a

-- what isn't needed may make a fault (C11 6.5.13, 4; 6.5.14, 4; 6.5.15, 4)
unfoldable pub both_value : Option ℤ → Option ℤ → Option ℤ
both_value a b = option_and_then (λ x. if is_zero x then Some (pos 0) else logical_value b) a

unfoldable pub either_value : Option ℤ → Option ℤ → Option ℤ
either_value a b = option_and_then (λ x. if is_zero x then logical_value b else Some (pos 1)) a

unfoldable pub chosen_value : Option ℤ → Option ℤ → Option ℤ → Option ℤ
chosen_value a b c = option_and_then (λ x. if is_zero x then c else b) a
