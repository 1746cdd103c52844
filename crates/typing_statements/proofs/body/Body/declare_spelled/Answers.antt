use Rattle.std.proofs.Common.{sym, ap, subst, ◌∙◌}
use Rattle.std.proofs.lemmas.Result.{err_from_is_err_and}
use Rattle.step_meaning.specs.declared.value.CType.{CType}
use Rattle.typing_rules.specs.Environment.{specified}
use Rattle.typing_rules.specs.Statements as rules
use Rattle.typing_scopes.specs.Known.{known}
use Rattle.typing_statements.specs.Locals.{declared_in}
use Rattle.typing_statements.specs.Making.{MakesMore}
use Rattle.typing_statements.specs.Points.{outside, around, frame_at}
use Rattle.typing_statements.proofs.Steps.{makes_after}
use Rattle.typing_statements.proofs.Loops.{declare_is, declare_wrong, base_specified}
use Rattle.typing_statements.proofs.body.Body.declare_spelled.Goals as goal

pub returns-in_err-base-clause-makes : goal.returns-in_err-base-clause-makes
returns-in_err-base-clause-makes c =
    let r = err_from_is_err_and c.from_residual.result c.from_residual.ensures.1 in
    rw (r.1, r.2) (λ q. declare_wrong c.args.known.now c.args.self.returns.now c.args.specifier.now c.args.trees.now c.in_err-base.field-0.0 (c.in_err-base.ensures q))

pub declare_all-requires-clause-base : goal.declare_all-requires-clause-base
declare_all-requires-clause-base c = base_specified (known c.args.known.now) c.args.specifier.now c.in_ok-base.base c.get.result.now c.in_ok-base.ensures c.get.ensures

pub returns-clause-makes : goal.returns-clause-makes
returns-clause-makes c =
    let k = c.args.known.now in
    let all = λ (b : CType). rules.declare_all (around (outside k)) c.args.self.returns.now b (declared_in c.args.trees.now) (frame_at k) in
    subst (λ m. MakesMore m c.args.all.now c.declare_all.new.all c.declare_all.result (frame_at c.declare_all.new.known)) (sym (declare_is k c.args.self.returns.now c.args.specifier.now c.args.trees.now))
    (makes_after (specified (known k) c.args.specifier.now) all c.in_ok-base.base c.args.all.now c.declare_all.new.all c.declare_all.result (frame_at c.declare_all.new.known) c.in_ok-base.ensures
    (subst (λ b. MakesMore (all b) c.args.all.now c.declare_all.new.all c.declare_all.result (frame_at c.declare_all.new.known)) c.get.ensures c.declare_all.ensures.makes))
