use Rattle.std.proofs.Common.{sym, ◌∙◌, ap, arith, ◌≡◌, ◌<◌, get_or, length, Some}
use Rattle.std.proofs.lemmas.List.{get_or_read}
use Rattle.cell_pool.specs.Inside.{place_of}
use Rattle.cell_pool.proofs.Blocks.{has_cell, has_no_cell}
use Rattle.cell_pool.proofs.Changes.{within_block, place_below, slot_below}
use Rattle.cell_pool.proofs.pool.Pool.get.Goals as goal

pub find-requires-clause-within : goal.find-requires-clause-within
find-requires-clause-within g c =
    rw (c.deref.ensures.value, c.deref-2.ensures.value) (λ i l m. within_block c.self.inside.next.items c.self.inside.sizes.items c.self.inside.names.items (length c.self.inside.cells.items) c.self.inside.head c.self.inside.free c.args.slot c.args.offset i c.self.invariant m l)

pub index-requires : goal.index-requires
index-requires g c =
    let f = rw (c.deref.ensures.value, c.deref-2.ensures.value, c.deref-3.ensures.value) at c.in-Some.ensures.found in
    let b : place_of c.self.inside.next.items c.args.slot c.args.offset < length c.self.inside.cells.items = place_below c.self.inside.next.items c.self.inside.sizes.items c.self.inside.names.items (length c.self.inside.cells.items) c.self.inside.head c.self.inside.free c.args.slot c.args.offset c.self.invariant f.1.is_below in
    let e : c.in-Some.place ≡ place_of c.self.inside.next.items c.args.slot c.args.offset = f.0 in
    omega (arith, c.self.inside.cells.ok)

pub returns-in-None : goal.returns-in-None
returns-in-None g c =
    let f = rw (c.deref-2.ensures.value, c.deref-3.ensures.value) at c.in-None.ensures.found in
    rw (← c.self.view_is) (sym (has_no_cell c.self.inside.blank c.self.inside.cells.items c.self.inside.next.items c.self.inside.sizes.items c.self.inside.names.items c.args.slot c.args.name c.args.offset f))

pub returns-in-Some : goal.returns-in-Some
returns-in-Some g c =
    let f = rw (c.deref.ensures.value, c.deref-2.ensures.value, c.deref-3.ensures.value) at c.in-Some.ensures.found in
    let b : place_of c.self.inside.next.items c.args.slot c.args.offset < length c.self.inside.cells.items = place_below c.self.inside.next.items c.self.inside.sizes.items c.self.inside.names.items (length c.self.inside.cells.items) c.self.inside.head c.self.inside.free c.args.slot c.args.offset c.self.invariant f.1.is_below in
    let e : c.in-Some.place ≡ place_of c.self.inside.next.items c.args.slot c.args.offset = f.0 in
    let l : c.in-Some.place < length c.self.inside.cells.items = omega arith in
    rw (← c.self.view_is)
    (ap Some (get_or_read c.self.inside.cells.items c.in-Some.place c.index.result.now l c.index.ensures c.self.inside.blank ∙ ap (λ t. get_or c.self.inside.cells.items t c.self.inside.blank) e)
    ∙ sym (has_cell c.self.inside.blank c.self.inside.cells.items c.self.inside.next.items c.self.inside.sizes.items c.self.inside.names.items c.args.slot c.args.name c.args.offset f.1 (slot_below c.self.inside.sizes.items c.args.slot c.args.offset f.1.is_below)))
