use Rattle.typing_initialisers.proofs.Filled.{one_cell}
use Rattle.typing_initialisers.proofs.zeros.push_cell.Goals as goal

pub returns : goal.returns
returns g c = one_cell c.args.cells.now.items c.push.new.list.items c.args.cell c.in_ok-push.ensures
