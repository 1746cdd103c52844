use Rattle.std.proofs.Common.{◌≡◌, [], ◌-◌}
use Rattle.c_type_names.specs.TypeReading.{stars_from}
use Rattle.c_type_names.proofs.types.stars.Given as goal

abbrev pub invariant-loop-turn : goal.invariant-loop-turn
invariant-loop-turn l = stars_from l.limit [] l.fn.tokens ≡ stars_from (l.limit - l._turn) l.found l.tokens
