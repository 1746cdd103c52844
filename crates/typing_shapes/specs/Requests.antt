-- The forms of an argument of `malloc`, by syntax alone (C11 7.22.3.4, 6.5.3.4).
use Rattle.std.specs.Prelude.{Bool, true, false, ◌&&◌, ◌||◌}
use Rattle.typing_rules.specs.Syntax.{Expression, Paren, SizeOf, SizeOfType, Binary}
use Rattle.typing_rules.specs.Expressions.{is_star}

-- a `sizeof`, in any parentheses
unfoldable pub is_sized : Expression → Bool
is_sized (Paren t x) = is_sized x
is_sized (SizeOf t x) = true
is_sized (SizeOfType t u) = true
is_sized _ = false

-- a `sizeof`, or a product with one as its last operand, or as the first of two, in any parentheses
unfoldable pub is_request : Expression → Bool
is_request (Paren t x) = is_request x
is_request (SizeOf t x) = true
is_request (SizeOfType t u) = true
is_request (Binary x t y) = is_star t && (is_sized y || is_sized x)
is_request _ = false
