use Rattle.std.proofs.Common.{◌∙◌, ap, sym}
use Rattle.std.specs.Prelude.{option_map}
use Rattle.cell_pool.specs.Region.{block_of}
use Rattle.run_memory.proofs.StoreReads.{names_rise, numbers_rise, room_found, room_missing}
use Rattle.run_memory.proofs.store.Store.room.Goals as goal

pub find_slot-requires-clause-names_rise : goal.find_slot-requires-clause-names_rise
find_slot-requires-clause-names_rise c = names_rise c.self.inside.pool c.self.inside.globals.0 c.self.inside.named.0 c.self.inside.locals.0 c.self.inside.activations.0 c.self.inside.starts.0 c.self.inside.numbers.0 c.self.inside.heap.0 c.self.invariant.store

pub find_slot-requires-clause-numbers_rise : goal.find_slot-requires-clause-numbers_rise
find_slot-requires-clause-numbers_rise c = numbers_rise c.self.inside.pool c.self.inside.globals.0 c.self.inside.named.0 c.self.inside.locals.0 c.self.inside.activations.0 c.self.inside.starts.0 c.self.inside.numbers.0 c.self.inside.heap.0 c.self.invariant.store

pub returns-in-None : goal.returns-in-None
returns-in-None c = rw (← c.self.view_is, c.in-Pointer.is) (sym (room_missing c.self.inside.pool c.self.inside.globals.0 c.self.inside.named.0 c.self.inside.locals.0 c.self.inside.activations.0 c.self.inside.starts.0 c.self.inside.numbers.0 c.self.inside.heap.0 c.self.invariant.store c.in-Pointer.name c.in-Pointer.field-1 c.in-None.ensures))

pub returns-in-Some : goal.returns-in-Some
returns-in-Some c =
    rw (← c.self.view_is, c.in-Pointer.is)
    (c.cells_in.ensures
    ∙ ap (λ m. option_map (λ b. Rattle.std.specs.Prelude.length b.cells) (block_of c.self.inside.pool c.in-Some.slot m)) c.number.ensures
    ∙ sym (room_found c.self.inside.pool c.self.inside.globals.0 c.self.inside.named.0 c.self.inside.locals.0 c.self.inside.activations.0 c.self.inside.starts.0 c.self.inside.numbers.0 c.self.inside.heap.0 c.self.invariant.store c.in-Pointer.name c.in-Pointer.field-1 c.in-Some.slot c.in-Some.ensures))
