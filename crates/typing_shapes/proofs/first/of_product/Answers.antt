use Rattle.std.proofs.Common.{sym, ◌∙◌}
use Rattle.typing_shapes.proofs.FirstTokens.{first_product}
use Rattle.typing_shapes.proofs.first.of_product.Goals as goal

pub returns : goal.returns
returns c = c.of_unary.ensures ∙ sym (first_product c.args.e.now)
