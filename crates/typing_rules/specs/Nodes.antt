-- How large an expression is, and where it begins.
use Rattle.std.specs.Prelude.{ℕ, suc, ◌+◌}
use Rattle.c_lexer.specs.declared.token.Place.{Place}
use Rattle.typing_rules.specs.Environment.{place_of}
use Rattle.typing_rules.specs.Syntax.{Expression, Expressions, Name, Number, Character, Paren, Call, Index, Member, Arrow, Increment, Decrement, Prefix, Cast, SizeOf, SizeOfType, Binary, Choose, Assign, NoMore, Then}

-- each name, literal, operator, call, index, member and cast is a node. The name of a member and that of a called function count with their node, and the name of a type has none
abbrev mutual
  pub nodes : Expression → ℕ
  nodes (Name t) = 1
  nodes (Number t) = 1
  nodes (Character t) = 1
  nodes (Paren t x) = nodes x
  nodes (Call t xs) = suc (all_nodes xs)
  nodes (Index x t i) = suc (nodes x + nodes i)
  nodes (Member x t m) = suc (nodes x)
  nodes (Arrow x t m) = suc (nodes x)
  nodes (Increment x t) = suc (nodes x)
  nodes (Decrement x t) = suc (nodes x)
  nodes (Prefix t x) = suc (nodes x)
  nodes (Cast t s x) = suc (nodes x)
  nodes (SizeOf t x) = suc (nodes x)
  nodes (SizeOfType t s) = 1
  nodes (Binary x t y) = suc (nodes x + nodes y)
  nodes (Choose x t y z) = suc (nodes x + (nodes y + nodes z))
  nodes (Assign x t y) = suc (nodes x + nodes y)

  pub all_nodes : Expressions → ℕ
  all_nodes NoMore = 0
  all_nodes (Then x xs) = nodes x + all_nodes xs

-- the place of the first token
unfoldable pub first_place : Expression → Place
first_place (Name t) = place_of t
first_place (Number t) = place_of t
first_place (Character t) = place_of t
first_place (Paren t x) = place_of t
first_place (Call t xs) = place_of t
first_place (Index x t i) = first_place x
first_place (Member x t m) = first_place x
first_place (Arrow x t m) = first_place x
first_place (Increment x t) = first_place x
first_place (Decrement x t) = first_place x
first_place (Prefix t x) = place_of t
first_place (Cast t s x) = place_of t
first_place (SizeOf t x) = place_of t
first_place (SizeOfType t s) = place_of t
first_place (Binary x t y) = first_place x
first_place (Choose x t y z) = first_place x
first_place (Assign x t y) = first_place x
