use Rattle.std.proofs.Common.{◌≡◌, [], length, ◌-◌}
use Rattle.c_words.specs.Parsing.{run_from}
use Rattle.c_statements.specs.StatementReading as spec
use Rattle.c_statements.specs.StatementReading.{at_level, begins_part}
use Rattle.c_statements.proofs.statement.Statements.parts.Given as goal

abbrev pub invariant-loop-turn : goal.invariant-loop-turn
invariant-loop-turn g l =
    run_from begins_part (at_level spec.block_part l.self.here l.self.inside) (length l.fn.tokens) [] l.fn.tokens
    ≡ run_from begins_part (at_level spec.block_part l.self.here l.self.inside) (l._turn-end - l._turn) l.found l.tokens
