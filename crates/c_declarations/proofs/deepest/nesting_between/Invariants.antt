use Rattle.std.proofs.Common.{◌-◌, ◌<◌, ◌≤◌}
use Rattle.c_grammar.specs.Expressions.{choice}
use Rattle.c_declarations.proofs.deepest.nesting_between.Given as goal

abbrev pub invariant-loop-high : goal.invariant-loop-high
invariant-loop-high l = (l.low ≤ (choice l.fn.size).nesting) × ((choice l.fn.size).nesting < l.high)

abbrev pub decreases-loop-high : goal.decreases-loop-high
decreases-loop-high l = l.high - l.low
