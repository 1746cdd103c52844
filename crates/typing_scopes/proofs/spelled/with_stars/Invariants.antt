use Rattle.std.proofs.Common.{◌≡◌}
use Rattle.typing_rules.specs.Environment.{with_stars}
use Rattle.typing_scopes.proofs.spelled.with_stars.Given as goal

abbrev pub invariant-loop-left : goal.invariant-loop-left
invariant-loop-left l = with_stars l.left l.found ≡ with_stars l.stars l.fn.t

abbrev pub decreases-loop-left : goal.decreases-loop-left
decreases-loop-left l = l.left
