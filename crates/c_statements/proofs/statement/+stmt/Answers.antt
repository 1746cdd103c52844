use Rattle.std.proofs.Common.{arith}
use Rattle.c_statements.proofs.Levels.{stmt_deeper}
use Rattle.c_statements.proofs.statement.+stmt.Goals as goal

pub returns : goal.returns
returns t c = rw (stmt_deeper c.args.depth (omega arith) c.args.tokens.now) c.stmt.ensures
