-- Parts of expressions, as code makes them.
use Rattle.std.specs.Prelude.{ℕ, List, Some, Ok, take}
use Rattle.c_words.specs.declared.chain.Chain.{Chain}
use Rattle.c_grammar.specs.declared.expression.Assign.{Assign}
use Rattle.c_grammar.specs.declared.expression.Product.{Product, out-Product}
use Rattle.step_meaning.specs.declared.value.CType.{CType}
use Rattle.typing_rules.specs.Allocation.{operand_type}
use Rattle.typing_rules.specs.Checked.{Checked, ◌>>=◌}
use Rattle.typing_rules.specs.Environment.{Environment, spelled_type}
use Rattle.typing_rules.specs.Expressions.{operand, fitted_argument}
use Rattle.typing_rules.specs.Operands.{value}
use Rattle.step_meaning.specs.declared.expr.Expr.{Expr}
use Rattle.typing_rules.specs.declared.operand.Operand.{Operand}
use Rattle.typing_rules.specs.Syntax.{Expression, Expressions}
use Rattle.typing_rules.specs.TreesOfExpressions as trees
use Rattle.typing_shapes.specs.declared.request.Measured.{Measured}
use Rattle.typing_shapes.specs.declared.request.Measured.TheVariants as measured

-- the arguments between the parentheses of a call
abbrev pub arguments_of : Chain Assign → Expressions
arguments_of list = trees.listed trees.assign (Some list)

-- the first operand of a product with so many links behind it
unfoldable pub product_part : Product → ℕ → Expression
product_part p count = trees.links trees.unary (trees.unary (out-Product p).0.first) (take count (out-Product p).0.rest)

-- the type that a `sizeof` names
abbrev pub measure : Environment → Measured → Checked CType
measure g (measured.Operand x) = operand g (trees.unary x.now) >>= (λ a. Ok (operand_type a))
measure g (measured.Named name) = spelled_type g (trees.spelled name.now)

-- the operand as an argument, brought to the type of the first of these parameters where there is one
abbrev pub argument_of : Environment → List CType → Operand → Checked Expr
argument_of g ts a = value a >>= fitted_argument g ts
