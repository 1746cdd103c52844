use Rattle.std.proofs.Common.{sym, ◌∙◌}
use Rattle.typing_shapes.proofs.FirstTokens.{first_postfix}
use Rattle.typing_shapes.proofs.first.of_postfix.Goals as goal

pub returns : goal.returns
returns c = c.of_primary.ensures ∙ sym (first_postfix c.args.e.now)
