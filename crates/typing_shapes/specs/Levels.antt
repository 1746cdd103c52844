-- Expressions that are one product of operands, as an argument of `malloc` may be.
use Rattle.std.specs.Prelude.{◌≡◌, false}
use Rattle.c_grammar.specs.declared.expression.Or.{Or, out-Or}
use Rattle.c_grammar.specs.declared.expression.And.{out-And}
use Rattle.c_grammar.specs.declared.expression.BitOr.{out-BitOr}
use Rattle.c_grammar.specs.declared.expression.BitXor.{out-BitXor}
use Rattle.c_grammar.specs.declared.expression.BitAnd.{out-BitAnd}
use Rattle.c_grammar.specs.declared.expression.Equal.{out-Equal}
use Rattle.c_grammar.specs.declared.expression.Relation.{out-Relation}
use Rattle.c_grammar.specs.declared.expression.Shift.{out-Shift}
use Rattle.c_grammar.specs.declared.expression.Sum.{out-Sum}
use Rattle.c_grammar.specs.declared.expression.Product.{Product}
use Rattle.typing_rules.specs.Syntax.{Expression}
use Rattle.typing_rules.specs.TreesOfExpressions.{or, product}
use Rattle.typing_shapes.specs.declared.request.Level.{Level}
use Rattle.typing_shapes.specs.declared.request.Level.TheVariants.{Alone, Other, Unlevelled}
use Rattle.typing_shapes.specs.Requests.{is_sized, is_request}

-- the first product of an expression
abbrev pub product_in : Or → Product
product_in x = (out-Sum (out-Shift (out-Relation (out-Equal (out-BitAnd (out-BitXor (out-BitOr (out-And (out-Or x).0.first).0.first).0.first).0.first).0.first).0.first).0.first).0.first).0.first

-- what is known of an expression: that it is this one, or that it is no `sizeof` and, but for a `*` of another level, nothing that `malloc` is asked for
abbrev pub IsLevel : Expression → Expression → Level → Type 0
IsLevel x y Alone = x ≡ y
IsLevel x y Other = (is_sized x ≡ false) × (is_request x ≡ false)
IsLevel x y Unlevelled = is_sized x ≡ false

abbrev pub IsSole : Or → Level → Type 0
IsSole x l = IsLevel (or x) (product (product_in x)) l
