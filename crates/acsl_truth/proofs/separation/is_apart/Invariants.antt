use Rattle.std.proofs.Common.{◌≡◌, List, Some, All, map, drop}
use Rattle.step_meaning.specs.Bounded.{LocationBounded}
use Rattle.step_meaning.specs.Predicates.{Denoted, denoted}
use Rattle.acsl_truth.specs.Ranges.{IsRangeOf, is_apart_from_all}
use Rattle.acsl_truth.proofs.separation.is_apart.Given as goal

abbrev pub invariant-loop-other : goal.invariant-loop-other
invariant-loop-other g l =
    let s = g.V.View.sight l.view in
    (cs : List Denoted) → IsRangeOf l.range cs → All (LocationBounded s) l.others
    → is_apart_from_all (Some cs) (map (denoted s) l.others) ≡ is_apart_from_all (Some cs) (map (denoted s) (drop l.other-index l.others))
