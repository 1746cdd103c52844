use Rattle.std.proofs.Common.{◌∙◌, ap, sym}
use Rattle.std.specs.Prelude.{option_map}
use Rattle.step_meaning.specs.Memory.{typed}
use Rattle.cell_pool.specs.Region.{cell_of}
use Rattle.run_memory.specs.Cells.{slot_of}
use Rattle.run_memory.proofs.StoreReads.{names_rise, numbers_rise, read_cell, read_missing}
use Rattle.run_memory.proofs.store.Store.read.Goals as goal

pub find_slot-requires-clause-names_rise : goal.find_slot-requires-clause-names_rise
find_slot-requires-clause-names_rise c = names_rise c.self.inside.pool c.self.inside.globals.0 c.self.inside.named.0 c.self.inside.locals.0 c.self.inside.activations.0 c.self.inside.starts.0 c.self.inside.numbers.0 c.self.inside.heap.0 c.self.invariant.store

pub find_slot-requires-clause-numbers_rise : goal.find_slot-requires-clause-numbers_rise
find_slot-requires-clause-numbers_rise c = numbers_rise c.self.inside.pool c.self.inside.globals.0 c.self.inside.named.0 c.self.inside.locals.0 c.self.inside.activations.0 c.self.inside.starts.0 c.self.inside.numbers.0 c.self.inside.heap.0 c.self.invariant.store

pub returns-in-None : goal.returns-in-None
returns-in-None c = rw (← c.self.view_is, c.in-Pointer.is) (sym (read_missing c.self.inside.pool c.self.inside.globals.0 c.self.inside.named.0 c.self.inside.locals.0 c.self.inside.activations.0 c.self.inside.starts.0 c.self.inside.numbers.0 c.self.inside.heap.0 c.self.invariant.store c.in-Pointer.name c.in-Pointer.offset c.args.accessed.now c.in-None.ensures))

pub returns-in-Some : goal.returns-in-Some
returns-in-Some c =
    rw (← c.self.view_is, c.in-Pointer.is)
    (c.typed_cell.ensures
    ∙ ap (λ x. typed (option_map slot_of x) c.args.accessed.now) (c.get.ensures ∙ ap (λ m. cell_of c.self.inside.pool c.in-Some.slot m c.in-Pointer.offset) c.number.ensures)
    ∙ sym (read_cell c.self.inside.pool c.self.inside.globals.0 c.self.inside.named.0 c.self.inside.locals.0 c.self.inside.activations.0 c.self.inside.starts.0 c.self.inside.numbers.0 c.self.inside.heap.0 c.self.invariant.store c.in-Pointer.name c.in-Pointer.offset c.in-Some.slot c.args.accessed.now c.in-Some.ensures))
