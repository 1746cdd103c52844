use Rattle.std.proofs.Common.{ap, sym, subst}
use Rattle.std.proofs.lemmas.Result.{err_from_is_err_and}
use Rattle.typing_rules.specs.Checked.{◌>>=◌, Gives}
use Rattle.typing_rules.specs.TreesOfExpressions.{assign}
use Rattle.typing_initialisers.specs.Initialisers.{given_cell}
use Rattle.typing_initialisers.proofs.cells.given.Goals as goal

pub returns-in_err-x : goal.returns-in_err-x
unfolding given_cell
returns-in_err-x g c =
    let give = g.K.Filling.given c.args.kind.now (assign c.args.source.now) c.args.v.first c.args.t.now in
    let r = err_from_is_err_and c.from_residual.result c.from_residual.ensures.1 in
    rw (r.1, r.2) (λ q. ap (λ o. o >>= give) (c.in_err-x.ensures q))

pub returns : goal.returns
unfolding given_cell
returns g c =
    let give = g.K.Filling.given c.args.kind.now (assign c.args.source.now) c.args.v.first c.args.t.now in
    subst (λ o. Gives (o >>= give) c.give.result) (sym c.in_ok-x.ensures) c.give.ensures
