use Rattle.std.proofs.lemmas.Result.{err_from_is_err_and}
use Rattle.typing_rules.specs.TreesOfDeclarations as trees
use Rattle.typing_statements.specs.Points.{outside, around, frame_at}
use Rattle.typing_statements.proofs.Steps.{declared_by, declared_wrong}
use Rattle.typing_statements.proofs.body.Body.declare_one.Goals as goal

pub returns-in_err-t-clause-makes : goal.returns-in_err-t-clause-makes
returns-in_err-t-clause-makes c =
    let r = err_from_is_err_and c.from_residual.result c.from_residual.ensures.1 in
    rw (r.1, r.2) (λ q. declared_wrong (around (outside c.args.known.now)) c.args.self.returns.now c.args.base.now (trees.declared c.args.tree.now) (frame_at c.args.known.now) c.in_err-t.field-0.0 (c.in_err-t.ensures.gives q))

pub returns-clause-makes : goal.returns-clause-makes
returns-clause-makes c =
    declared_by (around (outside c.args.known.now)) c.args.self.returns.now c.args.base.now (trees.declared c.args.tree.now) (frame_at c.args.known.now) (frame_at c.declare_as.new.known) c.in_ok-t.t c.args.all.now c.declare_as.new.all c.declare_as.result
    c.in_ok-t.ensures.gives c.declare_as.ensures.makes
