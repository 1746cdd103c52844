use Rattle.step_meaning.specs.declared.expr.UnaryOp.TheVariants as unary
use Rattle.step_meaning.specs.declared.expr.Expr.TheVariants as e
use Rattle.typing_rules.specs.Operators.{dereferenced, promoting, negation}
use Rattle.typing_laws.specs.SmallTypes.{IsSmallOperand}
use Rattle.typing_laws.proofs.SmallRules.{dereferenced_small, promoting_small, negation_small}
use Rattle.typing_steps.proofs.Smallness.{small_result}
use Rattle.typing_steps.proofs.rule.prefixed_value.Goals as goal

pub returns-in-Star-clause-small : goal.returns-in-Star-clause-small
returns-in-Star-clause-small c =
    let ls = c.args._known.now.layouts in
    let at = c.args.operator.now.token.place in
    small_result (IsSmallOperand ls) (dereferenced at c.args.v) c.dereferenced.result c.dereferenced.ensures (dereferenced_small ls at c.args.v c.requires)

pub returns-in-Plus-clause-small : goal.returns-in-Plus-clause-small
returns-in-Plus-clause-small c =
    let ls = c.args._known.now.layouts in
    let at = c.args.operator.now.token.place in
    small_result (IsSmallOperand ls) (promoting at (λ k x. x) c.args.v) c.plus.result c.plus.ensures (promoting_small ls at (λ k x. x) c.args.v)

pub returns-in-Minus-clause-small : goal.returns-in-Minus-clause-small
returns-in-Minus-clause-small c =
    let ls = c.args._known.now.layouts in
    let at = c.args.operator.now.token.place in
    small_result (IsSmallOperand ls) (promoting at (e.Unary unary.Neg) c.args.v) c.promoting.result c.promoting.ensures (promoting_small ls at (e.Unary unary.Neg) c.args.v)

pub returns-in-Tilde-clause-small : goal.returns-in-Tilde-clause-small
returns-in-Tilde-clause-small c =
    let ls = c.args._known.now.layouts in
    let at = c.args.operator.now.token.place in
    small_result (IsSmallOperand ls) (promoting at (e.Unary unary.Invert) c.args.v) c.promoting-in-Tilde.result c.promoting-in-Tilde.ensures (promoting_small ls at (e.Unary unary.Invert) c.args.v)

pub returns-in_default-clause-small : goal.returns-in_default-clause-small
returns-in_default-clause-small c =
    let ls = c.args._known.now.layouts in
    let at = c.args.operator.now.token.place in
    small_result (IsSmallOperand ls) (negation at c.args.v) c.negation.result c.negation.ensures (negation_small ls at c.args.v)
