use Rattle.std.proofs.Common.{sym, ◌∙◌, ap, arith, length, Some}
use Rattle.std.specs.Prelude.{option_map}
use Rattle.std.proofs.lemmas.List.{get_or_read}
use Rattle.cell_pool.proofs.Blocks.{block_size, no_block}
use Rattle.cell_pool.proofs.Changes.{within_block, slot_below}
use Rattle.cell_pool.proofs.pool.Pool.cells_in.Goals as goal

pub find-requires-clause-within : goal.find-requires-clause-within
find-requires-clause-within g c =
    rw (c.deref.ensures.value, c.deref-2.ensures.value) (λ i l m. within_block c.self.inside.next.items c.self.inside.sizes.items c.self.inside.names.items (length c.self.inside.cells.items) c.self.inside.head c.self.inside.free c.args.slot 0 i c.self.invariant m l)

pub index-requires : goal.index-requires
index-requires g c =
    let f = rw (c.deref.ensures.value, c.deref-2.ensures.value, c.deref-3.ensures.value) at c.in-Some.ensures.found in
    let l = slot_below c.self.inside.sizes.items c.args.slot 0 f.1.is_below in
    omega (arith, l, c.self.inside.sizes.ok)

pub returns-in-None : goal.returns-in-None
returns-in-None g c =
    let f = rw (c.deref-2.ensures.value, c.deref-3.ensures.value) at c.in-None.ensures.found in
    rw (← c.self.view_is) (sym (ap (option_map (λ block. length block.cells)) (no_block c.self.inside.blank c.self.inside.cells.items c.self.inside.next.items c.self.inside.sizes.items c.self.inside.names.items c.args.slot c.args.name (λ l e p. f (record { is_named = e; is_below = p })))))

pub returns-in-Some : goal.returns-in-Some
returns-in-Some g c =
    let f = rw (c.deref.ensures.value, c.deref-2.ensures.value, c.deref-3.ensures.value) at c.in-Some.ensures.found in
    let l = slot_below c.self.inside.sizes.items c.args.slot 0 f.1.is_below in
    rw (← c.self.view_is)
    (ap Some (get_or_read c.self.inside.sizes.items c.args.slot c.index.result.now l c.index.ensures 0)
    ∙ sym (block_size c.self.inside.blank c.self.inside.cells.items c.self.inside.next.items c.self.inside.sizes.items c.self.inside.names.items c.args.slot c.args.name l f.1.is_named f.1.is_below))
