use Rattle.std.proofs.Common.{subst}
use Rattle.step_meaning.specs.Predicates.{denoted_size}
use Rattle.acsl_truth.specs.Ranges.{IsCapped}
use Rattle.acsl_truth.proofs.LocationLaws.{span_denotes}
use Rattle.acsl_truth.proofs.separation.range_of.Goals as goal

pub returns-in-Some : goal.returns-in-Some
returns-in-Some g c =
    span_denotes (g.V.View.sight c.args.view.now) c.args.location.now c.in-Some.first c.in-Some.last _ _ _ _ c.object_size-size.result c.in-Some.is
    c.value_at-base.ensures c.value_at.ensures c.value_at-in-Some.ensures
    (subst (λ ls. IsCapped (denoted_size ls c.args.location.now.ctype) c.object_size-size.result) c.layouts.ensures c.object_size-size.ensures)
    c.objects_within-in-Some.ensures
