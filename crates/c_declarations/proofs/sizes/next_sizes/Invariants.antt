use Rattle.std.proofs.Common.{◌≡◌, ◌-◌}
use Rattle.c_declarations.specs.ParameterReading.{sizes_from}
use Rattle.c_declarations.proofs.sizes.next_sizes.Given as goal

abbrev pub invariant-loop-turn : goal.invariant-loop-turn
invariant-loop-turn l = sizes_from l.inside l.inside l.fn.found l.fn.tokens ≡ sizes_from l.inside (l.inside - l._turn) l.found l.tokens
