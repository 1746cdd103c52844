-- Each location is disjoint from the range, up to the one that isn't.
use Rattle.std.proofs.Common.{sym, ◌∙◌}
use Rattle.step_meaning.specs.Bounded.{LocationBounded}
use Rattle.step_meaning.specs.Predicates.{denoted}
use Rattle.acsl_truth.proofs.LocationLaws.{next_apart, bounded_here, and_false, and_true}
use Rattle.acsl_truth.proofs.separation.is_apart.Goals as goal

pub returns-then-not-is_disjoint : goal.returns-then-not-is_disjoint
returns-then-not-is_disjoint g c = λ cs h bounded.
    let s = g.V.View.sight c.args.view.now in
    let ls = c.args.others.now in
    let i = c.loop-other.other-index in
    let l = c.other-item.result in
    let here = bounded_here (denoted s) ls i l c.loop-other-test.true c.other-item.is (LocationBounded s) bounded in
    sym (c.loop-other.invariant cs h bounded ∙ next_apart (denoted s) ls i l c.loop-other-test.true c.other-item.is cs
    ∙ and_false _ _ (sym (c.if-not-is_disjoint.ensures cs (denoted s l) h (c.range_of.ensures here))))

pub loop-other-preserved : goal.loop-other-preserved
loop-other-preserved g c = λ cs h bounded.
    let s = g.V.View.sight c.args.view.now in
    let ls = c.args.others.now in
    let i = c.loop-other.other-index in
    let l = c.other-item.result in
    let here = bounded_here (denoted s) ls i l c.loop-other-test.true c.other-item.is (LocationBounded s) bounded in
    c.loop-other.invariant cs h bounded ∙ next_apart (denoted s) ls i l c.loop-other-test.true c.other-item.is cs
    ∙ and_true _ _ (sym (c.is_disjoint.ensures cs (denoted s l) h (c.range_of.ensures here)) ∙ c.if-not-is_disjoint.false)
