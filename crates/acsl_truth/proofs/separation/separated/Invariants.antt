use Rattle.std.proofs.Common.{◌≡◌, All, map, drop}
use Rattle.step_meaning.specs.Bounded.{LocationBounded}
use Rattle.step_meaning.specs.Predicates.{denoted, when_defined, are_disjoint_in_pairs, all_defined}
use Rattle.acsl_truth.proofs.separation.separated.Given as goal

abbrev pub invariant-loop-index : goal.invariant-loop-index
invariant-loop-index g l =
    let s = g.V.View.sight l.view in
    All (LocationBounded s) l.locations
    → when_defined are_disjoint_in_pairs (all_defined (map (denoted s) l.locations)) ≡ when_defined are_disjoint_in_pairs (all_defined (map (denoted s) (drop l.index l.locations)))
