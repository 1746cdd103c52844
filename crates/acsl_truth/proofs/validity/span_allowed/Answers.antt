use Rattle.std.proofs.Common.{◌≡◌, ◌+ℤ◌, ◌*ℤ◌, pos, length, subst, sym, ap, ◌∙◌, rules}
use Rattle.std.proofs.lemmas.Int.{to_z-of_z}
use mir.Syntax.{w128}
use mir.Val.{SFits}
use Rattle.step_meaning.specs.Predicates.{denoted_size, denoted_types, may_access_all, objects_at}
use Rattle.acsl_truth.specs.Ranges.{IsCapped}
use Rattle.acsl_truth.proofs.validity.span_allowed.Goals as goal

pub returns-in-Some : goal.returns-in-Some
returns-in-Some g c = λ a b p f.
    let s = g.V.View.sight c.args.view.now in
    let us = denoted_types s.layouts c.args.ctype.now in
    let fit_a = c.ranges.a in
    let fit_b = c.ranges.b in
    let fit_offset = c.ranges.offset in
    let fit_first : SFits w128 c.in-Some.first = search rules in
    let capped = subst (λ ls. IsCapped (denoted_size ls c.args.ctype.now) c.object_size-size.result) c.layouts.ensures c.object_size-size.ensures in
    let moved = simp to_z-of_z at c.moved_by.ensures in
    let counted = simp to_z-of_z at c.count_between.ensures in
    let allowed = simp to_z-of_z at c.run_allowed.ensures in
    let first : c.in-Some.first ≡ (c.args.offset +ℤ (c.args.a *ℤ pos (length us))) = cc (sym c.in-Some.is ∙ moved (length us) capped p f) in
    allowed capped
    ∙ ap (λ z. may_access_all s (objects_at c.args.name.now z us c.count_between.result)) first
    ∙ ap (λ k. may_access_all s (objects_at c.args.name.now (c.args.offset +ℤ (c.args.a *ℤ pos (length us))) us k)) (counted a b)
