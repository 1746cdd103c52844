-- Each location is apart from those after it, up to the one that isn't.
use Rattle.std.proofs.Common.{sym, ◌∙◌}
use Rattle.step_meaning.specs.Bounded.{LocationBounded}
use Rattle.step_meaning.specs.Predicates.{denoted}
use Rattle.acsl_truth.proofs.LocationLaws.{next_separated, bounded_here, of_others, and_false, and_true}
use Rattle.acsl_truth.proofs.separation.separated.Goals as goal

pub returns-then-not-is_apart_if_any : goal.returns-then-not-is_apart_if_any
returns-then-not-is_apart_if_any g c = λ bounded.
    let s = g.V.View.sight c.args.view.now in
    let ls = c.args.locations.now in
    let i = c.loop-index.index in
    let l = c.index-locations-index.result in
    let here = bounded_here (denoted s) ls i l c.loop-index-test.true c.index-locations-index.is (LocationBounded s) bounded in
    let rest = of_others (denoted s) ls i l c.loop-index-test.true c.index-locations-index.is (LocationBounded s) bounded c.is_apart_if_any.result (c.is_apart_if_any.ensures (denoted s l) (c.range_of-range.ensures here)) in
    sym (c.loop-index.invariant bounded ∙ next_separated (denoted s) ls i l c.loop-index-test.true c.index-locations-index.is ∙ and_false _ _ (sym rest ∙ c.if-not-is_apart_if_any.true))

pub loop-index-preserved : goal.loop-index-preserved
loop-index-preserved g c = λ bounded.
    let s = g.V.View.sight c.args.view.now in
    let ls = c.args.locations.now in
    let i = c.loop-index.index in
    let l = c.index-locations-index.result in
    let here = bounded_here (denoted s) ls i l c.loop-index-test.true c.index-locations-index.is (LocationBounded s) bounded in
    let rest = of_others (denoted s) ls i l c.loop-index-test.true c.index-locations-index.is (LocationBounded s) bounded c.is_apart_if_any.result (c.is_apart_if_any.ensures (denoted s l) (c.range_of-range.ensures here)) in
    c.loop-index.invariant bounded ∙ next_separated (denoted s) ls i l c.loop-index-test.true c.index-locations-index.is ∙ and_true _ _ (sym rest ∙ c.if-not-is_apart_if_any.false)
