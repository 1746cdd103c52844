use Rattle.std.proofs.Common.{Err, ap}
use Rattle.std.proofs.lemmas.Result.{err_from_is_err_and}
use Rattle.typing_rules.specs.declared.fault.TypeFault.TheVariants.{BadInitialiser}
use Rattle.typing_rules.specs.Checked.{◌>>=◌}
use Rattle.typing_rules.specs.Environment.{place_of}
use Rattle.typing_initialisers.specs.Initialisers.{refused}
use Rattle.typing_initialisers.proofs.cells.refused_braces.Goals as goal

pub returns-in_err-alone : goal.returns-in_err-alone
unfolding refused
returns-in_err-alone c =
    let r = err_from_is_err_and c.from_residual.result c.from_residual.ensures.1 in
    rw (r.1, r.2) (λ q. ap (λ o. o >>= (λ u. Err (BadInitialiser (place_of c.args.opening.now)))) (c.in_err-alone.ensures q))

pub returns : goal.returns
unfolding refused
returns c = λ q. ap (λ o. o >>= (λ u. Err (BadInitialiser (place_of c.args.opening.now)))) c.in_ok-alone.ensures
