use Rattle.std.proofs.Common.{true, cond, sym, ap, ◌∙◌}
use Rattle.typing_rules.specs.ConstantExpressions.{is_variable}
use Rattle.typing_constants.proofs.address.is_addressed.Goals as goal

pub returns-else-same_type : goal.returns-else-same_type
returns-else-same_type c = λ ls gs. c.is_variable.ensures ls gs ∙ ap (λ b. cond b true (is_variable ls gs c.args.place.now)) (sym (sym c.same_type.ensures ∙ c.if-same_type.false))
