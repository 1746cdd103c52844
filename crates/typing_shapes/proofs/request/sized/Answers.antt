use Rattle.typing_rules.specs.TreesOfExpressions as trees
use Rattle.typing_shapes.proofs.BareForms.{product_not_sized}
use Rattle.typing_shapes.proofs.request.sized.Goals as goal

pub returns-in-Product-clause-form : goal.returns-in-Product-clause-form
returns-in-Product-clause-form c = product_not_sized (trees.unary c.args.e.now) c.in-Product.field-0.now c.in-Product.ensures.form.0 c.in-Product.ensures.form.1
