use Rattle.std.proofs.Common.{arith}
use Rattle.typing_shapes.proofs.Depths.{product_deeper}
use Rattle.typing_shapes.specs.Levels.{product_in}
use Rattle.typing_shapes.proofs.indices.first_unary.Goals as goal

pub returns-clause-within : goal.returns-clause-within
returns-clause-within c =
    let outer = c.first_product.ensures.within in
    let inner = product_deeper c.first_product.result.now in
    omega arith
