use Rattle.typing_statements.proofs.Points.{closed_ready, outside_after, frame_closed}
use Rattle.typing_statements.proofs.scope.close.Goals as goal

pub returns-clause-frame : goal.returns-clause-frame
returns-clause-frame c = frame_closed c.args.known.now c.close_block.new.self c.close_block.ensures

pub returns-clause-same : goal.returns-clause-same
returns-clause-same c = outside_after c.args.known.now c.close_block.new.self _ c.close_block.ensures

pub returns-clause-ready : goal.returns-clause-ready
returns-clause-ready c = closed_ready c.args.known.now c.close_block.new.self c.requires c.close_block.ensures
