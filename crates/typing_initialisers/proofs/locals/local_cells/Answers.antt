use Rattle.std.proofs.Common.{sym, ap, ◌∙◌}
use Rattle.typing_rules.specs.Initialisers.{local_cells}
use Rattle.typing_rules.specs.TreesOfDeclarations.{init}
use Rattle.typing_scopes.specs.Known.{known as seen}
use Rattle.typing_declarators.specs.Adding.{extended}
use Rattle.typing_initialisers.proofs.CellLaws.{outcome_from_empty}
use Rattle.typing_initialisers.proofs.locals.local_cells.Goals as goal

pub returns : goal.returns
returns c =
    let found = local_cells (seen c.args.known.now) c.args.t.now (init c.args.init.now) in
    outcome_from_empty found c.push_cells.new.cells.items (ap (λ xs. extended xs found) (sym c.new-cells.ensures.items) ∙ c.in_ok-push_cells.ensures)
