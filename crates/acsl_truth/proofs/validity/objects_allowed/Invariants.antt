use Rattle.std.proofs.Common.{◌≡◌, ℕ, ◌+◌, pos}
use Rattle.step_meaning.specs.Predicates.{denoted_types, may_access_all, objects_at}
use Rattle.acsl_truth.proofs.validity.objects_allowed.Given as goal

abbrev pub invariant-loop : goal.invariant-loop
invariant-loop g l =
    let s = g.V.View.sight l.view in
    (left : ℕ) → l.counter + left ≡ l.count
    → may_access_all s (objects_at l.name (pos l.first) (denoted_types s.layouts l.ctype) l.count) ≡ may_access_all s (objects_at l.name (pos l.at) (denoted_types s.layouts l.ctype) left)
