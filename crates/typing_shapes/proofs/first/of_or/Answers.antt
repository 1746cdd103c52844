use Rattle.std.proofs.Common.{sym, ◌∙◌}
use Rattle.typing_shapes.proofs.FirstTokens.{first_or}
use Rattle.typing_shapes.proofs.first.of_or.Goals as goal

pub returns : goal.returns
returns c = c.of_product.ensures ∙ sym (first_or c.args.e.now)
