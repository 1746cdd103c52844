use Rattle.std.proofs.Common.{Ok, ap, sym, ◌∙◌}
use Rattle.typing_rules.specs.FileScope.{first_values}
use Rattle.typing_rules.specs.Initialisers.{initial_values, uninitialised}
use Rattle.typing_rules.specs.TreesOfDeclarations.{declared, init}
use Rattle.typing_scopes.specs.Known.{program}
use Rattle.typing_files.proofs.Outcomes.{gives_by}
use Rattle.typing_files.proofs.Points.{sees, small_at, addresses_at}
use Rattle.typing_files.proofs.variable.first_values.Goals as goal

pub initial_values-requires-clause-small : goal.initial_values-requires-clause-small
initial_values-requires-clause-small c = small_at c.args.known.now c.requires

pub initial_values-requires-clause-addresses : goal.initial_values-requires-clause-addresses
initial_values-requires-clause-addresses c = addresses_at c.args.known.now c.requires

pub returns-in-Plain : goal.returns-in-Plain
unfolding declared
returns-in-Plain c =
    let k = c.args.known.now in
    let t = c.args.t.now in
    gives_by _ _ c.uninitialised.result (ap (λ g. Ok (uninitialised g t)) (sees k c.requires) ∙ ap (λ d. first_values (program k) t (declared d).initialiser) (sym c.in-Plain.is)) c.uninitialised.ensures

pub returns-in-Initialised : goal.returns-in-Initialised
unfolding declared
returns-in-Initialised c =
    let k = c.args.known.now in
    let t = c.args.t.now in
    gives_by _ _ c.initial_values.result (ap (λ g. initial_values g k.globals t (init c.in-Initialised.init)) (sees k c.requires) ∙ ap (λ d. first_values (program k) t (declared d).initialiser) (sym c.in-Initialised.is)) c.initial_values.ensures
