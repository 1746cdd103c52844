-- What a level of operators comes to, by its first operand and its links.
use Rattle.std.proofs.Common.{◌≡◌, ap, ◌∙◌}
use Rattle.typing_rules.specs.Checked.{◌>>=◌}
use Rattle.typing_rules.specs.Environment.{Environment}
use Rattle.typing_rules.specs.Expressions.{operand}
use Rattle.typing_rules.specs.Chains.{linked}
use Rattle.typing_rules.specs.TreesOfExpressions as trees
use Rattle.typing_rules.proofs.ChainLaws.{chain-linked}
use Rattle.c_grammar.specs.declared.expression.Product.{Product, out-Product}
use Rattle.typing_rules.proofs.ExpressionAlternatives.{product-is}
use Rattle.c_grammar.specs.declared.expression.Sum.{Sum, out-Sum}
use Rattle.typing_rules.proofs.ExpressionAlternatives.{sum-is}
use Rattle.c_grammar.specs.declared.expression.Shift.{Shift, out-Shift}
use Rattle.typing_rules.proofs.ExpressionAlternatives.{shift-is}
use Rattle.c_grammar.specs.declared.expression.Relation.{Relation, out-Relation}
use Rattle.typing_rules.proofs.ExpressionAlternatives.{relation-is}
use Rattle.c_grammar.specs.declared.expression.Equal.{Equal, out-Equal}
use Rattle.typing_rules.proofs.ExpressionAlternatives.{equal-is}
use Rattle.c_grammar.specs.declared.expression.BitAnd.{BitAnd, out-BitAnd}
use Rattle.typing_rules.proofs.ExpressionAlternatives.{bit_and-is}
use Rattle.c_grammar.specs.declared.expression.BitXor.{BitXor, out-BitXor}
use Rattle.typing_rules.proofs.ExpressionAlternatives.{bit_xor-is}
use Rattle.c_grammar.specs.declared.expression.BitOr.{BitOr, out-BitOr}
use Rattle.typing_rules.proofs.ExpressionAlternatives.{bit_or-is}
use Rattle.c_grammar.specs.declared.expression.And.{And, out-And}
use Rattle.typing_rules.proofs.ExpressionAlternatives.{and-is}
use Rattle.c_grammar.specs.declared.expression.Or.{Or, out-Or}
use Rattle.typing_rules.proofs.ExpressionAlternatives.{or-is}

pub level_product : (g : Environment) (x : Product) → operand g (trees.product x) ≡ (operand g (trees.unary (out-Product x).0.first) >>= (λ a. linked g trees.unary a (out-Product x).0.rest))
level_product g x = ap (operand g) (product-is x) ∙ chain-linked g trees.unary (out-Product x).0

pub level_sum : (g : Environment) (x : Sum) → operand g (trees.sum x) ≡ (operand g (trees.product (out-Sum x).0.first) >>= (λ a. linked g trees.product a (out-Sum x).0.rest))
level_sum g x = ap (operand g) (sum-is x) ∙ chain-linked g trees.product (out-Sum x).0

pub level_shift : (g : Environment) (x : Shift) → operand g (trees.shift x) ≡ (operand g (trees.sum (out-Shift x).0.first) >>= (λ a. linked g trees.sum a (out-Shift x).0.rest))
level_shift g x = ap (operand g) (shift-is x) ∙ chain-linked g trees.sum (out-Shift x).0

pub level_relation : (g : Environment) (x : Relation) → operand g (trees.relation x) ≡ (operand g (trees.shift (out-Relation x).0.first) >>= (λ a. linked g trees.shift a (out-Relation x).0.rest))
level_relation g x = ap (operand g) (relation-is x) ∙ chain-linked g trees.shift (out-Relation x).0

pub level_equal : (g : Environment) (x : Equal) → operand g (trees.equal x) ≡ (operand g (trees.relation (out-Equal x).0.first) >>= (λ a. linked g trees.relation a (out-Equal x).0.rest))
level_equal g x = ap (operand g) (equal-is x) ∙ chain-linked g trees.relation (out-Equal x).0

pub level_bit_and : (g : Environment) (x : BitAnd) → operand g (trees.bit_and x) ≡ (operand g (trees.equal (out-BitAnd x).0.first) >>= (λ a. linked g trees.equal a (out-BitAnd x).0.rest))
level_bit_and g x = ap (operand g) (bit_and-is x) ∙ chain-linked g trees.equal (out-BitAnd x).0

pub level_bit_xor : (g : Environment) (x : BitXor) → operand g (trees.bit_xor x) ≡ (operand g (trees.bit_and (out-BitXor x).0.first) >>= (λ a. linked g trees.bit_and a (out-BitXor x).0.rest))
level_bit_xor g x = ap (operand g) (bit_xor-is x) ∙ chain-linked g trees.bit_and (out-BitXor x).0

pub level_bit_or : (g : Environment) (x : BitOr) → operand g (trees.bit_or x) ≡ (operand g (trees.bit_xor (out-BitOr x).0.first) >>= (λ a. linked g trees.bit_xor a (out-BitOr x).0.rest))
level_bit_or g x = ap (operand g) (bit_or-is x) ∙ chain-linked g trees.bit_xor (out-BitOr x).0

pub level_and : (g : Environment) (x : And) → operand g (trees.and x) ≡ (operand g (trees.bit_or (out-And x).0.first) >>= (λ a. linked g trees.bit_or a (out-And x).0.rest))
level_and g x = ap (operand g) (and-is x) ∙ chain-linked g trees.bit_or (out-And x).0

pub level_or : (g : Environment) (x : Or) → operand g (trees.or x) ≡ (operand g (trees.and (out-Or x).0.first) >>= (λ a. linked g trees.and a (out-Or x).0.rest))
level_or g x = ap (operand g) (or-is x) ∙ chain-linked g trees.and (out-Or x).0
