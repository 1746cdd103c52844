-- Cells are filled up part by part.
use Rattle.std.proofs.Common.{map, take, Ok, sym, ap, ◌∙◌}
use Rattle.std.specs.Prelude.{flat_map}
use Rattle.step_meaning.specs.Types.{object_cells, times}
use Rattle.typing_declarators.specs.Adding.{extended}
use Rattle.typing_declarators.proofs.Lists.{nothing_more}
use Rattle.typing_declarators.proofs.LayerLaws.{adds_by}
use Rattle.typing_initialisers.proofs.Filled.{one_element_more, one_member_more, struct_there, no_struct, array_there}
use Rattle.typing_initialisers.proofs.zeros.+zeros.Goals as goal

-- ---- scalars and arrays

pub push_zeros-returns-in-Void : goal.push_zeros-returns-in-Void
push_zeros-returns-in-Void g t c =
    let fill = g.K.Filling.filled c.args.kind.now in
    let old = c.args.cells.now.items in
    ap (λ u. extended old (Ok (map fill (object_cells c.args.layouts.now u)))) c.in-Void.is ∙ nothing_more old

pub push_zeros-returns-in-Array : goal.push_zeros-returns-in-Array
push_zeros-returns-in-Array g t c =
    let ls = c.args.layouts.now in
    let fill = g.K.Filling.filled c.args.kind.now in
    let of = ap (λ u. times c.in-Array.count (object_cells ls u)) (sym c.get.ensures) in
    adds_by _ _ c.args.cells.now.items c.push_elements.new.cells.items c.push_elements.result
    (ap (λ xs. Ok (map fill xs)) (ap (object_cells ls) c.in-Array.is ∙ array_there ls c.in-Array.of c.in-Array.count ∙ of))
    c.push_elements.ensures

pub push_elements-loop-init : goal.push_elements-loop-init
push_elements-loop-init g t c = nothing_more c.args.cells.now.items

pub push_elements-loop-preserved : goal.push_elements-loop-preserved
push_elements-loop-preserved g t c = one_element_more (g.K.Filling.filled c.args.kind.now) (object_cells c.args.layouts.now c.args.of.now) c.loop.counter c.args.cells.now.items c.loop.cells.items c.push_zeros.new.cells.items c.loop.invariant c.in_ok-push_zeros.ensures

-- ---- structs

pub push_struct-returns-then-number-layouts : goal.push_struct-returns-then-number-layouts
push_struct-returns-then-number-layouts g t c =
    let ls = c.args.layouts.now in
    let n = c.args.number in
    let l = c.index-layouts-number.result in
    let fill = g.K.Filling.filled c.args.kind.now in
    let there = struct_there ls n l c.if-number-layouts.true in
    adds_by _ _ c.args.cells.now.items c.push_members.new.cells.items c.push_members.result
    (ap (λ xs. Ok (map fill xs)) (there ∙ ap (flat_map (λ m. object_cells (take n ls) m.ctype)) (sym c.as_slice.ensures)))
    c.push_members.ensures

pub push_struct-returns-else-number-layouts : goal.push_struct-returns-else-number-layouts
push_struct-returns-else-number-layouts g t c =
    let fill = g.K.Filling.filled c.args.kind.now in
    let old = c.args.cells.now.items in
    ap (λ xs. extended old (Ok (map fill xs))) (no_struct c.args.layouts.now c.args.number c.if-number-layouts.false) ∙ nothing_more old

pub push_members-loop-index-init : goal.push_members-loop-index-init
push_members-loop-index-init g t c = nothing_more c.args.cells.now.items

pub push_members-loop-index-preserved : goal.push_members-loop-index-preserved
push_members-loop-index-preserved g t c =
    let before = c.args.before.now in
    let fill = g.K.Filling.filled c.args.kind.now in
    let d = c.index-members-index.result in
    one_member_more fill (λ d. object_cells before d.ctype) c.args.members.now c.loop-index.index d c.args.cells.now.items c.loop-index.cells.items c.push_zeros.new.cells.items c.loop-index-test.true c.loop-index.invariant c.in_ok-push_zeros.ensures
