use Rattle.std.proofs.Common.{arith}
use Rattle.c_statements.proofs.Levels.{block_deeper}
use Rattle.c_statements.proofs.statement.block.Goals as goal

pub returns : goal.returns
returns c = rw (block_deeper c.args.depth (omega arith) c.args.tokens.now) c.block.ensures
