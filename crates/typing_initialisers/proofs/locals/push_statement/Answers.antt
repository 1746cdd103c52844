use Rattle.typing_initialisers.proofs.Filled.{one_cell}
use Rattle.typing_initialisers.proofs.locals.push_statement.Goals as goal

pub returns : goal.returns
returns c = one_cell c.args.all.now c.push.new.self c.args.statement c.in_ok-push.ensures
