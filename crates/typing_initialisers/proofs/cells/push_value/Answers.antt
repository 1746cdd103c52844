use Rattle.std.proofs.Common.{sym, ◌∙◌}
use Rattle.std.proofs.lemmas.Result.{err_from_is_err_and}
use Rattle.typing_rules.specs.TreesOfExpressions.{assign}
use Rattle.typing_scopes.specs.Known.{known as seen}
use Rattle.typing_declarators.proofs.LayerLaws.{adds_by}
use Rattle.typing_initialisers.proofs.CellLaws.{value_broken, value_of_aggregate, value_given, value_not_given}
use Rattle.typing_initialisers.proofs.cells.push_value.Goals as goal

pub returns-in_err-v : goal.returns-in_err-v
returns-in_err-v g c =
    let give = g.K.Filling.given c.args.kind.now in
    let fill = g.K.Filling.filled c.args.kind.now in
    let r = err_from_is_err_and c.from_residual.result c.from_residual.ensures.1 in
    rw (r.1, r.2) (λ q. value_broken (seen c.args.known.now) g.row.T.Denot give fill c.args.t.now (assign c.args.x.now) c.in_err-v.field-0.0 (c.in_err-v.ensures.gives q))

pub returns-then-not-is_scalar : goal.returns-then-not-is_scalar
returns-then-not-is_scalar g c = λ q.
    let give = g.K.Filling.given c.args.kind.now in
    let fill = g.K.Filling.filled c.args.kind.now in
    value_of_aggregate (seen c.args.known.now) g.row.T.Denot give fill c.args.t.now (assign c.args.x.now) c.in_ok-v.v c.in_ok-v.ensures.gives (sym c.is_scalar.ensures ∙ c.if-not-is_scalar.true)

pub returns-in_err-cell : goal.returns-in_err-cell
returns-in_err-cell g c =
    let give = g.K.Filling.given c.args.kind.now in
    let fill = g.K.Filling.filled c.args.kind.now in
    let r = err_from_is_err_and c.from_residual-in_err-cell.result c.from_residual-in_err-cell.ensures.1 in
    rw (r.1, r.2) (λ q. value_not_given (seen c.args.known.now) g.row.T.Denot give fill c.args.t.now (assign c.args.x.now) c.in_ok-v.v c.in_err-cell.field-0.0 c.in_ok-v.ensures.gives (sym c.is_scalar.ensures ∙ c.if-not-is_scalar.false) (c.in_err-cell.ensures q))

pub returns : goal.returns
returns g c =
    let give = g.K.Filling.given c.args.kind.now in
    let fill = g.K.Filling.filled c.args.kind.now in
    adds_by _ _ c.args.cells.now.items c.push_cell.new.cells.items c.push_cell.result
    (value_given (seen c.args.known.now) g.row.T.Denot give fill c.args.t.now (assign c.args.x.now) c.in_ok-v.v c.in_ok-cell.cell c.in_ok-v.ensures.gives (sym c.is_scalar.ensures ∙ c.if-not-is_scalar.false) c.in_ok-cell.ensures)
    c.push_cell.ensures
