-- Each object may be accessed, up to the one that may not, or to one without cells.
use Rattle.std.proofs.Common.{◌-◌, suc, Some, sym, ap, ◌∙◌, arith}
use Rattle.step_meaning.specs.Predicates.{denoted_types}
use Rattle.acsl_truth.proofs.AccessLaws.{objects_left, objects_stopped, objects_on, objects_without_cells}
use Rattle.acsl_truth.proofs.validity.objects_allowed.Goals as goal

pub returns-in_default : goal.returns-in_default
returns-in_default g c =
    let s = g.V.View.sight c.args.view.now in
    let us = denoted_types s.layouts c.args.ctype.now in
    sym (objects_stopped s c.args.name.now c.args.first c.loop.at c.args.count c.loop.counter us c.loop-test.true c.loop.invariant (sym c.in_default.is ∙ c.past_denoted.ensures))

pub returns-then-next-at : goal.returns-then-next-at
returns-then-next-at g c =
    let s = g.V.View.sight c.args.view.now in
    let us = denoted_types s.layouts c.args.ctype.now in
    sym (objects_left s c.args.name.now c.args.first c.loop.at c.args.count c.loop.counter us c.loop-test.true c.loop.invariant
    ∙ objects_without_cells s c.args.name.now c.loop.at (c.args.count - c.loop.counter) us (ap Some (sym c.if-next-at.true) ∙ sym c.in-Some.is ∙ c.past_denoted.ensures))

pub loop-preserved : goal.loop-preserved
loop-preserved g c = λ left e.
    let s = g.V.View.sight c.args.view.now in
    let us = denoted_types s.layouts c.args.ctype.now in
    c.loop.invariant (suc left) (omega arith) ∙ objects_on s c.args.name.now c.loop.at us left c.in-Some.next (sym c.in-Some.is ∙ c.past_denoted.ensures)

pub returns : goal.returns
returns g c = sym (c.loop.invariant 0 (omega arith))
