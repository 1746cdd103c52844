use Rattle.std.proofs.Common.{Err, ap, sym, ◌∙◌}
use Rattle.std.proofs.lemmas.Result.{err_from_is_err_and}
use Rattle.typing_rules.specs.declared.fault.TypeFault.TheVariants.{BadInitialiser}
use Rattle.typing_rules.specs.Checked.{◌>>=◌}
use Rattle.typing_rules.specs.TreesOfDeclarations.{init}
use Rattle.typing_initialisers.specs.Initialisers.{first_of, superfluous}
use Rattle.typing_initialisers.proofs.alone.superfluous.Goals as goal

pub returns-in_err-alone : goal.returns-in_err-alone
unfolding superfluous
returns-in_err-alone c =
    let r = err_from_is_err_and c.from_residual.result c.from_residual.ensures.1 in
    rw (r.1, r.2) (λ q. ap (λ o. o >>= (λ u. Err (BadInitialiser (first_of (init c.args.init.now))))) (c.in_err-alone.ensures q))

pub returns : goal.returns
unfolding superfluous
returns c = λ q. ap (λ o. o >>= (λ u. Err (BadInitialiser (first_of (init c.args.init.now))))) c.in_ok-alone.ensures ∙ ap (λ p. Err (BadInitialiser p)) (sym c.first_of.ensures)
