use Rattle.typing_shapes.proofs.Depths.{product_deeper_in}
use Rattle.typing_shapes.proofs.request.first_product.Goals as goal

pub returns-clause-within : goal.returns-clause-within
returns-clause-within c = product_deeper_in c.args.e.now
