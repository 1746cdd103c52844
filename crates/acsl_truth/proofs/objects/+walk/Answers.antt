-- How far accesses go through an object is made of how far they go through its parts.
use Rattle.std.proofs.Common.{◌-◌, suc, take, Some, sym, ap, ◌∙◌, arith}
use Rattle.std.specs.Prelude.{flat_map}
use Rattle.step_meaning.specs.Types.{object_cells, times}
use Rattle.acsl_truth.specs.Accesses.{past}
use Rattle.acsl_truth.proofs.AccessLaws.{past_none, past_on, elements_left, elements_without_cells, elements_ended, members_on, members_ended}
use Rattle.acsl_truth.proofs.StructMembers.{array_elements, struct_members, no_members}
use Rattle.acsl_truth.proofs.objects.+walk.Goals as goal

-- ---- arrays

pub past_object-returns-in-Array : goal.past_object-returns-in-Array
past_object-returns-in-Array g t c =
    let s = g.V.View.sight c.args.view.now in
    let ls = c.args.layouts.now in
    let cells = ap (object_cells ls) c.in-Array.is ∙ array_elements ls c.in-Array.of c.in-Array.count ∙ ap (λ u. times c.in-Array.count (object_cells ls u)) (sym c.get.ensures) in
    c.past_elements.ensures ∙ ap (past s c.args.name.now c.args.at) (sym cells)

pub past_elements-returns-in_default : goal.past_elements-returns-in_default
past_elements-returns-in_default g t c =
    let s = g.V.View.sight c.args.view.now in
    let us = object_cells c.args.layouts.now c.args.of.now in
    sym (elements_ended s c.args.name.now c.args.at c.loop.at c.args.count c.loop.counter us c.loop-test.true c.loop.invariant (sym c.in_default.is ∙ c.past_object.ensures))

pub past_elements-returns-then-next-at : goal.past_elements-returns-then-next-at
past_elements-returns-then-next-at g t c =
    let s = g.V.View.sight c.args.view.now in
    let us = object_cells c.args.layouts.now c.args.of.now in
    sym (elements_left s c.args.name.now c.args.at c.loop.at c.args.count c.loop.counter us c.loop-test.true c.loop.invariant
    ∙ elements_without_cells s c.args.name.now c.loop.at (c.args.count - c.loop.counter) us (ap Some (sym c.if-next-at.true) ∙ sym c.in-Some.is ∙ c.past_object.ensures))

pub past_elements-loop-preserved : goal.past_elements-loop-preserved
past_elements-loop-preserved g t c = λ left e.
    let s = g.V.View.sight c.args.view.now in
    let us = object_cells c.args.layouts.now c.args.of.now in
    c.loop.invariant (suc left) (omega arith) ∙ past_on s c.args.name.now c.loop.at us (times left us) c.in-Some.next (sym c.in-Some.is ∙ c.past_object.ensures)

pub past_elements-returns : goal.past_elements-returns
past_elements-returns g t c =
    let s = g.V.View.sight c.args.view.now in
    sym (c.loop.invariant 0 (omega arith) ∙ past_none s c.args.name.now c.loop.at)

-- ---- structs

pub past_struct-returns-then-number-layouts : goal.past_struct-returns-then-number-layouts
past_struct-returns-then-number-layouts g t c =
    let s = g.V.View.sight c.args.view.now in
    let ls = c.args.layouts.now in
    let n = c.args.number in
    let l = c.index-layouts-number.result in
    let cells = struct_members ls n l c.if-number-layouts.true ∙ ap (flat_map (λ d. object_cells (take n ls) d.ctype)) (sym c.as_slice.ensures) in
    c.past_members.ensures ∙ ap (past s c.args.name.now c.args.at) (sym cells)

pub past_struct-returns-else-number-layouts : goal.past_struct-returns-else-number-layouts
past_struct-returns-else-number-layouts g t c =
    let s = g.V.View.sight c.args.view.now in
    sym (ap (past s c.args.name.now c.args.at) (no_members c.args.layouts.now c.args.number c.if-number-layouts.false) ∙ past_none s c.args.name.now c.args.at)

pub past_members-returns-in_default : goal.past_members-returns-in_default
past_members-returns-in_default g t c =
    let s = g.V.View.sight c.args.view.now in
    let i = c.loop-index.index in
    sym (c.loop-index.invariant
    ∙ members_ended s c.args.name.now (λ d. object_cells c.args.before.now d.ctype) c.loop-index.at c.args.members.now i c.index-members-index.result c.loop-index-test.true (sym c.in_default.is ∙ c.past_object.ensures))

pub past_members-loop-index-preserved : goal.past_members-loop-index-preserved
past_members-loop-index-preserved g t c =
    let s = g.V.View.sight c.args.view.now in
    let i = c.loop-index.index in
    c.loop-index.invariant
    ∙ members_on s c.args.name.now (λ d. object_cells c.args.before.now d.ctype) c.loop-index.at c.args.members.now i c.index-members-index.result c.loop-index-test.true c.in-Some.next (sym c.in-Some.is ∙ c.past_object.ensures)
