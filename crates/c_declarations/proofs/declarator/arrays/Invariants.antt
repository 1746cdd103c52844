use Rattle.std.proofs.Common.{◌≡◌, ◌-◌}
use Rattle.c_expressions.specs.ExpressionReading.{inner_at}
use Rattle.c_declarations.specs.DeclaratorReading.{arrays_from}
use Rattle.c_declarations.proofs.declarator.arrays.Given as goal

abbrev pub invariant-loop-turn : goal.invariant-loop-turn
invariant-loop-turn l = arrays_from l.inside (inner_at l.inside).choice l.inside l.fn.found l.fn.tokens ≡ arrays_from l.inside (inner_at l.inside).choice (l.inside - l._turn) l.found l.tokens
