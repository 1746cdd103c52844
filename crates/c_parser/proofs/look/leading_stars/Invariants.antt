use Rattle.std.proofs.Common.{◌≡◌, length, ◌+◌, ◌-◌, ◌≤◌}
use Rattle.c_parser.specs.ItemReading.{leading_stars}
use Rattle.c_parser.proofs.look.leading_stars.Given as goal

abbrev pub invariant-loop-turn : goal.invariant-loop-turn
invariant-loop-turn l = (leading_stars l.fn.tokens ≡ l.stars + leading_stars l.ahead) × ((length l.ahead ≤ l._turn-end - l._turn) × (l.stars ≤ l._turn))
