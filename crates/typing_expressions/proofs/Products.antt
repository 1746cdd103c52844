-- The operands of a product.
use Rattle.std.proofs.Common.{◌≡◌, ℕ, length, take, sym, ap, ◌∙◌, arith, take_all}
use Rattle.c_grammar.specs.declared.expression.Product.{Product, out-Product}
use Rattle.typing_rules.specs.Checked.{◌>>=◌}
use Rattle.typing_rules.specs.TreesOfExpressions as trees
use Rattle.typing_rules.specs.TreesOfExpressions.{links, chain}
use Rattle.typing_rules.specs.Environment.{Environment}
use Rattle.typing_rules.specs.Expressions.{operand}
use Rattle.typing_expressions.specs.Parts.{product_part}
use Rattle.typing_rules.specs.Chains.{linked}
use Rattle.typing_rules.proofs.ChainLaws.{links-linked}
use Rattle.typing_rules.proofs.ExpressionAlternatives.{product-is}

-- the first operand of a product with so many links behind it, link by link
pub part_linked : (g : Environment) (p : Product) (n : ℕ) → operand g (product_part p n) ≡ (operand g (trees.unary (out-Product p).0.first) >>= (λ a. linked g trees.unary a (take n (out-Product p).0.rest)))
unfolding product_part
part_linked g p n = links-linked g trees.unary (trees.unary (out-Product p).0.first) (take n (out-Product p).0.rest)

-- the whole product, by all its links
pub whole_product : (p : Product) (n : ℕ) → n ≡ length (out-Product p).0.rest → product_part p n ≡ trees.product p
unfolding product_part chain
whole_product p n h =
    let rest = (out-Product p).0.rest in
    let all : take n rest ≡ rest = ap (λ k. take k rest) h ∙ take_all (length rest) rest (omega arith) in
    ap (links trees.unary (trees.unary (out-Product p).0.first)) all ∙ sym (product-is p)
