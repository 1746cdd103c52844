use Rattle.std.proofs.Common.{sym, ap, arith, ◌≡◌, ◌<◌, length}
use Rattle.std.specs.Option.{is_some}
use Rattle.cell_pool.specs.Inside.{place_of}
use Rattle.cell_pool.proofs.Blocks.{has_cell, has_no_cell}
use Rattle.cell_pool.proofs.Changes.{within_block, place_below, slot_below, put_cell, put_none}
use Rattle.cell_pool.proofs.pool.Pool.put.Goals as goal

pub find-requires-clause-within : goal.find-requires-clause-within
find-requires-clause-within g c =
    rw (c.deref.ensures.value, c.deref-2.ensures.value) (λ i l m. within_block c.self.inside.next.items c.self.inside.sizes.items c.self.inside.names.items (length c.self.inside.cells.items) c.self.inside.head c.self.inside.free c.args.slot c.args.offset i c.self.invariant m l)

pub index_mut-requires : goal.index_mut-requires
index_mut-requires g c =
    let f = rw (c.deref.ensures.value, c.deref-2.ensures.value, c.deref-3.ensures.value) at c.in-Some.ensures.found in
    let b : place_of c.self.inside.next.items c.args.slot c.args.offset < length c.self.inside.cells.items = place_below c.self.inside.next.items c.self.inside.sizes.items c.self.inside.names.items (length c.self.inside.cells.items) c.self.inside.head c.self.inside.free c.args.slot c.args.offset c.self.invariant f.1.is_below in
    let e : c.in-Some.place ≡ place_of c.self.inside.next.items c.args.slot c.args.offset = f.0 in
    omega (arith, c.self.inside.cells.ok)

pub returns-in-None-clause-found : goal.returns-in-None-clause-found
returns-in-None-clause-found g c =
    let f = rw (c.deref-2.ensures.value, c.deref-3.ensures.value) at c.in-None.ensures.found in
    rw (← c.self.view_is) (sym (ap is_some (has_no_cell c.self.inside.blank c.self.inside.cells.items c.self.inside.next.items c.self.inside.sizes.items c.self.inside.names.items c.args.slot c.args.name c.args.offset f)))

pub returns-in-None-clause-written : goal.returns-in-None-clause-written
returns-in-None-clause-written g c =
    let f = rw (c.deref-2.ensures.value, c.deref-3.ensures.value) at c.in-None.ensures.found in
    rw (← c.self.view_is) (put_none c.self.inside.blank c.self.inside.cells.items c.self.inside.next.items c.self.inside.sizes.items c.self.inside.names.items c.args.slot c.args.name c.args.offset c.args.value f)

pub returns-in-Some-clause-found : goal.returns-in-Some-clause-found
returns-in-Some-clause-found g c =
    let f = rw (c.deref.ensures.value, c.deref-2.ensures.value, c.deref-3.ensures.value) at c.in-Some.ensures.found in
    rw (← c.self.view_is) (sym (ap is_some (has_cell c.self.inside.blank c.self.inside.cells.items c.self.inside.next.items c.self.inside.sizes.items c.self.inside.names.items c.args.slot c.args.name c.args.offset f.1 (slot_below c.self.inside.sizes.items c.args.slot c.args.offset f.1.is_below))))

pub returns-in-Some-clause-written : goal.returns-in-Some-clause-written
returns-in-Some-clause-written g c =
    let f = rw (c.deref.ensures.value, c.deref-2.ensures.value, c.deref-3.ensures.value) at c.in-Some.ensures.found in
    let e : c.in-Some.place ≡ place_of c.self.inside.next.items c.args.slot c.args.offset = f.0 in
    rw (← c.self.view_is, e) (put_cell c.self.inside.blank c.self.inside.cells.items c.self.inside.next.items c.self.inside.sizes.items c.self.inside.names.items c.self.inside.head c.self.inside.free c.args.slot c.args.name c.args.offset c.args.value c.self.invariant f.1)
