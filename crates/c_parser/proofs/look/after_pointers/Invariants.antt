use Rattle.std.proofs.Common.{◌≡◌, length, ◌-◌, ◌≤◌}
use Rattle.c_parser.specs.ItemReading.{skip, is_pointer}
use Rattle.c_parser.proofs.look.after_pointers.Given as goal

abbrev pub invariant-loop-turn : goal.invariant-loop-turn
invariant-loop-turn l = (skip is_pointer l.fn.tokens ≡ skip is_pointer l.ahead) × (length l.ahead ≤ l._turn-end - l._turn)
