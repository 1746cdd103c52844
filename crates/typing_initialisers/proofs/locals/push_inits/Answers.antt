use Rattle.std.proofs.lemmas.Result.{err_from_is_err_and}
use Rattle.typing_rules.specs.TreesOfDeclarations.{init}
use Rattle.typing_scopes.specs.Known.{known as seen}
use Rattle.typing_declarators.proofs.LayerLaws.{adds_by}
use Rattle.typing_initialisers.proofs.LocalLaws.{inits_of, broken_inits}
use Rattle.typing_initialisers.proofs.locals.push_inits.Goals as goal

pub returns-in_err-cells : goal.returns-in_err-cells
returns-in_err-cells c =
    let e = err_from_is_err_and c.from_residual.result c.from_residual.ensures.1 in
    rw (e.1, e.2) (λ r q. broken_inits (seen c.args.known.now) r c.args.index c.args.t.now (init c.args.init.now) c.in_err-cells.field-0.0 (c.in_err-cells.ensures q))

pub returns : goal.returns
returns c =
    let g = seen c.args.known.now in
    λ r. adds_by _ _ c.args.all.now c.push_statements.new.all c.push_statements.result (inits_of g r c.args.index c.args.t.now (init c.args.init.now) c.in_ok-cells.cells.items c.in_ok-cells.ensures) (c.push_statements.ensures g r)
