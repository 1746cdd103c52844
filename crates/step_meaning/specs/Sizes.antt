-- How large the parts of a program are. The nodes of an expression are its subexpressions and lvalues, itself included; its depth is the greatest number of them that stand within one another. A statement nests as deep as the greatest number of statements within one another.
use Rattle.std.specs.Prelude.{ℕ, ◌+◌, max}
use Rattle.step_meaning.specs.declared.expr.Expr.{Expr, Row_of-Expr, end_of-Expr, more_of-Expr}
use Rattle.step_meaning.specs.declared.expr.Expr.TheVariants.{Literal, Null, Load, Address, Convert', Unary', Binary', Compare', Move', Difference', Not', Both', Either', Choose', Assign', Update', Invoke', GetChar, PutChar', Malloc', Free', Discard', Own, Deref', Member', Index'}
use Rattle.step_meaning.specs.declared.expr.Place_.{Place_, end_of-Place_, more_of-Place_}
use Rattle.step_meaning.specs.declared.stmt.Stmt.{Stmt, Row_of-Stmt, end_of-Stmt, more_of-Stmt}
use Rattle.step_meaning.specs.declared.stmt.Stmt.TheVariants.{Block', If', While', Do', For'}

-- ---- expressions

abbrev mutual
  -- those of an expression
  pub nodes : Expr → ℕ
  nodes (Literal k z) = 1
  nodes Null = 1
  nodes (Load p t) = 1 + place_nodes p
  nodes (Address p t) = 1 + place_nodes p
  nodes (Convert' k b (more_of-Expr e end_of-Expr)) = 1 + nodes e
  nodes (Unary' o k b (more_of-Expr e end_of-Expr)) = 1 + nodes e
  nodes (Binary' o k b (more_of-Expr e end_of-Expr) c (more_of-Expr f end_of-Expr)) = 1 + (nodes e + nodes f)
  nodes (Compare' o b (more_of-Expr e end_of-Expr) c (more_of-Expr f end_of-Expr)) = 1 + (nodes e + nodes f)
  nodes (Move' b (more_of-Expr e end_of-Expr) c (more_of-Expr f end_of-Expr) size side) = 1 + (nodes e + nodes f)
  nodes (Difference' b (more_of-Expr e end_of-Expr) c (more_of-Expr f end_of-Expr) unit) = 1 + (nodes e + nodes f)
  nodes (Not' b (more_of-Expr e end_of-Expr)) = 1 + nodes e
  nodes (Both' b (more_of-Expr e end_of-Expr) c (more_of-Expr f end_of-Expr)) = 1 + (nodes e + nodes f)
  nodes (Either' b (more_of-Expr e end_of-Expr) c (more_of-Expr f end_of-Expr)) = 1 + (nodes e + nodes f)
  nodes (Choose' b (more_of-Expr e end_of-Expr) c (more_of-Expr f end_of-Expr) d (more_of-Expr g end_of-Expr)) = 1 + (nodes e + (nodes f + nodes g))
  nodes (Assign' p t b (more_of-Expr e end_of-Expr)) = 1 + (place_nodes p + nodes e)
  nodes (Update' p t u b (more_of-Expr e end_of-Expr) w) = 1 + (place_nodes p + nodes e)
  nodes (Invoke' f b es) = 1 + row_nodes es
  nodes GetChar = 1
  nodes (PutChar' b (more_of-Expr e end_of-Expr)) = 1 + nodes e
  nodes (Malloc' b (more_of-Expr e end_of-Expr) t) = 1 + nodes e
  nodes (Free' b (more_of-Expr e end_of-Expr)) = 1 + nodes e
  nodes (Discard' b (more_of-Expr e end_of-Expr)) = 1 + nodes e

  -- of an lvalue
  pub place_nodes : Place_ → ℕ
  place_nodes (Own v) = 1
  place_nodes (Deref' b (more_of-Expr e end_of-Expr)) = 1 + nodes e
  place_nodes (Member' b (more_of-Place_ p end_of-Place_) o) = 1 + place_nodes p
  place_nodes (Index' b (more_of-Place_ p end_of-Place_) c (more_of-Expr e end_of-Expr) size) = 1 + (place_nodes p + nodes e)

  -- and of all arguments of a call
  pub row_nodes : {n : _} → Row_of-Expr n → ℕ
  row_nodes end_of-Expr = 0
  row_nodes (more_of-Expr e more) = nodes e + row_nodes more

abbrev mutual
  -- that of an expression
  pub depth : Expr → ℕ
  depth (Literal k z) = 1
  depth Null = 1
  depth (Load p t) = 1 + place_depth p
  depth (Address p t) = 1 + place_depth p
  depth (Convert' k b (more_of-Expr e end_of-Expr)) = 1 + depth e
  depth (Unary' o k b (more_of-Expr e end_of-Expr)) = 1 + depth e
  depth (Binary' o k b (more_of-Expr e end_of-Expr) c (more_of-Expr f end_of-Expr)) = 1 + max (depth e) (depth f)
  depth (Compare' o b (more_of-Expr e end_of-Expr) c (more_of-Expr f end_of-Expr)) = 1 + max (depth e) (depth f)
  depth (Move' b (more_of-Expr e end_of-Expr) c (more_of-Expr f end_of-Expr) size side) = 1 + max (depth e) (depth f)
  depth (Difference' b (more_of-Expr e end_of-Expr) c (more_of-Expr f end_of-Expr) unit) = 1 + max (depth e) (depth f)
  depth (Not' b (more_of-Expr e end_of-Expr)) = 1 + depth e
  depth (Both' b (more_of-Expr e end_of-Expr) c (more_of-Expr f end_of-Expr)) = 1 + max (depth e) (depth f)
  depth (Either' b (more_of-Expr e end_of-Expr) c (more_of-Expr f end_of-Expr)) = 1 + max (depth e) (depth f)
  depth (Choose' b (more_of-Expr e end_of-Expr) c (more_of-Expr f end_of-Expr) d (more_of-Expr g end_of-Expr)) = 1 + max (depth e) (max (depth f) (depth g))
  depth (Assign' p t b (more_of-Expr e end_of-Expr)) = 1 + max (place_depth p) (depth e)
  depth (Update' p t u b (more_of-Expr e end_of-Expr) w) = 1 + max (place_depth p) (depth e)
  depth (Invoke' f b es) = 1 + row_depth es
  depth GetChar = 1
  depth (PutChar' b (more_of-Expr e end_of-Expr)) = 1 + depth e
  depth (Malloc' b (more_of-Expr e end_of-Expr) t) = 1 + depth e
  depth (Free' b (more_of-Expr e end_of-Expr)) = 1 + depth e
  depth (Discard' b (more_of-Expr e end_of-Expr)) = 1 + depth e

  pub place_depth : Place_ → ℕ
  place_depth (Own v) = 1
  place_depth (Deref' b (more_of-Expr e end_of-Expr)) = 1 + depth e
  place_depth (Member' b (more_of-Place_ p end_of-Place_) o) = 1 + place_depth p
  place_depth (Index' b (more_of-Place_ p end_of-Place_) c (more_of-Expr e end_of-Expr) size) = 1 + max (place_depth p) (depth e)

  -- the depth of the deepest argument
  pub row_depth : {n : _} → Row_of-Expr n → ℕ
  row_depth end_of-Expr = 0
  row_depth (more_of-Expr e more) = max (depth e) (row_depth more)

-- ---- statements

abbrev mutual
  pub nesting : Stmt → ℕ
  nesting (Block' b ss) = 1 + row_nesting ss
  nesting (If' e b (more_of-Stmt s end_of-Stmt) c (more_of-Stmt u end_of-Stmt)) = 1 + max (nesting s) (nesting u)
  nesting (While' e b (more_of-Stmt s end_of-Stmt)) = 1 + nesting s
  nesting (Do' b (more_of-Stmt s end_of-Stmt) e) = 1 + nesting s
  nesting (For' test step b (more_of-Stmt s end_of-Stmt)) = 1 + nesting s
  nesting _ = 1

  -- the nesting of the deepest statement of a block
  pub row_nesting : {n : _} → Row_of-Stmt n → ℕ
  row_nesting end_of-Stmt = 0
  row_nesting (more_of-Stmt s more) = max (nesting s) (row_nesting more)
