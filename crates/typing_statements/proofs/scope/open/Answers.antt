use Rattle.typing_statements.proofs.Points.{opened_ready, outside_after, frame_opened}
use Rattle.typing_statements.proofs.Steps.{on_ok}
use Rattle.typing_statements.proofs.scope.open.Goals as goal

pub returns-clause-frame : goal.returns-clause-frame
returns-clause-frame c = on_ok c.open_block.result (frame_opened c.args.known.now c.open_block.new.self) c.open_block.ensures.added

pub returns-clause-same : goal.returns-clause-same
returns-clause-same c = on_ok c.open_block.result (outside_after c.args.known.now c.open_block.new.self _) c.open_block.ensures.added

pub returns-clause-ready : goal.returns-clause-ready
returns-clause-ready c = on_ok c.open_block.result (opened_ready c.args.known.now c.open_block.new.self c.requires) c.open_block.ensures.added
