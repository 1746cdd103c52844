use Rattle.std.proofs.Common.{◌≡◌, ◌∙◌, ap, sym, refl, arith, false, cond}
use Rattle.std.specs.Option.{is_some}
use Rattle.step_meaning.specs.declared.value.Cell.TheVariants.{Holds}
use Rattle.step_meaning.specs.declared.value.Value.TheVariants as value
use Rattle.step_meaning.specs.Memory.{typed, stored}
use Rattle.cell_pool.specs.Region.{cell_of}
use Rattle.run_memory.specs.Cells.{seen, cell_of as seen_cell}
use Rattle.run_memory.specs.View.{memory_of}
use Rattle.run_memory.specs.Filling.{with_held}
use Rattle.run_memory.proofs.StoreReads.{names_rise, numbers_rise, read_found, read_missing, write_law, storage_written}
use Rattle.run_memory.proofs.Keeping.{still_kept}
use Rattle.run_memory.proofs.store.Store.write.Goals as goal

pub find_slot-requires-clause-names_rise : goal.find_slot-requires-clause-names_rise
find_slot-requires-clause-names_rise c = names_rise c.self.inside.pool c.self.inside.globals.0 c.self.inside.named.0 c.self.inside.locals.0 c.self.inside.activations.0 c.self.inside.starts.0 c.self.inside.numbers.0 c.self.inside.heap.0 c.self.invariant.store

pub find_slot-requires-clause-numbers_rise : goal.find_slot-requires-clause-numbers_rise
find_slot-requires-clause-numbers_rise c = numbers_rise c.self.inside.pool c.self.inside.globals.0 c.self.inside.named.0 c.self.inside.locals.0 c.self.inside.activations.0 c.self.inside.starts.0 c.self.inside.numbers.0 c.self.inside.heap.0 c.self.invariant.store

pub target_of-target-requires-clause-names_rise : goal.target_of-target-requires-clause-names_rise
target_of-target-requires-clause-names_rise c = names_rise c.self.inside.pool c.self.inside.globals.0 c.self.inside.named.0 c.self.inside.locals.0 c.self.inside.activations.0 c.self.inside.starts.0 c.self.inside.numbers.0 c.self.inside.heap.0 c.self.invariant.store

pub target_of-target-requires-clause-numbers_rise : goal.target_of-target-requires-clause-numbers_rise
target_of-target-requires-clause-numbers_rise c = numbers_rise c.self.inside.pool c.self.inside.globals.0 c.self.inside.named.0 c.self.inside.locals.0 c.self.inside.activations.0 c.self.inside.starts.0 c.self.inside.numbers.0 c.self.inside.heap.0 c.self.invariant.store

pub returns-in_default-find_slot-clause-allowed : goal.returns-in_default-find_slot-clause-allowed
returns-in_default-find_slot-clause-allowed c =
    rw (← c.self.view_is, c.in-Pointer.is) (sym (ap is_some (read_missing c.self.inside.pool c.self.inside.globals.0 c.self.inside.named.0 c.self.inside.locals.0 c.self.inside.activations.0 c.self.inside.starts.0 c.self.inside.numbers.0 c.self.inside.heap.0 c.self.invariant.store c.in-Pointer.name c.in-Pointer.offset c.args.accessed.now c.in_default-find_slot.ensures)))

pub invariant_of-self : goal.invariant_of-self
invariant_of-self c =
    let law = write_law c.self.inside.pool c.self.inside.globals.0 c.self.inside.named.0 c.self.inside.locals.0 c.self.inside.activations.0 c.self.inside.starts.0 c.self.inside.numbers.0 c.self.inside.heap.0 c.self.invariant.store c.write_cell.new.pool c.write_cell.result c.in-Pointer.name c.in-Pointer.offset c.in-Some.slot (seen_cell c.held_of.result) c.in-Some.ensures
    (c.write_cell.ensures.written ∙ ap (λ m. cond c.write_cell.result (with_held (seen c.self.inside.pool) c.in-Some.slot m c.in-Pointer.offset (seen_cell c.held_of.result)) (seen c.self.inside.pool)) c.number.ensures) in
    still_kept c.self.inside.pool c.write_cell.new.pool c.self.inside.globals.0 c.self.inside.named.0 c.self.inside.locals.0 c.self.inside.activations.0 c.self.inside.starts.0 c.self.inside.numbers.0 c.self.inside.heap.0 c.self.inside.named.0 c.self.inside.locals.0 c.self.inside.activations.0 c.self.inside.starts.0 c.self.inside.numbers.0 c.self.inside.heap.0 c.self.inside.activations.1 c.self.inside.named.1 c.self.inside.locals.1 c.self.inside.activations.1 c.self.inside.starts.1 c.self.inside.numbers.1 c.self.inside.heap.1 c.self.invariant law.1 law.2

pub returns-clause-allowed : goal.returns-clause-allowed
returns-clause-allowed c =
    rw (← c.self.view_is, c.in-Pointer.is)
    (c.write_cell.ensures.allowed
    ∙ ap (λ m. is_some (typed (cell_of (seen c.self.inside.pool) c.in-Some.slot m c.in-Pointer.offset) c.args.accessed.now)) c.number.ensures
    ∙ sym (ap is_some (read_found c.self.inside.pool c.self.inside.globals.0 c.self.inside.named.0 c.self.inside.locals.0 c.self.inside.activations.0 c.self.inside.starts.0 c.self.inside.numbers.0 c.self.inside.heap.0 c.self.invariant.store c.in-Pointer.name c.in-Pointer.offset c.in-Some.slot c.args.accessed.now c.in-Some.ensures)))

pub returns-clause-written : goal.returns-clause-written
returns-clause-written c =
    let law = write_law c.self.inside.pool c.self.inside.globals.0 c.self.inside.named.0 c.self.inside.locals.0 c.self.inside.activations.0 c.self.inside.starts.0 c.self.inside.numbers.0 c.self.inside.heap.0 c.self.invariant.store c.write_cell.new.pool c.write_cell.result c.in-Pointer.name c.in-Pointer.offset c.in-Some.slot (Holds c.args.value) c.in-Some.ensures
    (c.write_cell.ensures.written ∙ ap (λ m. cond c.write_cell.result (with_held (seen c.self.inside.pool) c.in-Some.slot m c.in-Pointer.offset (seen_cell c.held_of.result)) (seen c.self.inside.pool)) c.number.ensures
    ∙ ap (λ h. cond c.write_cell.result (with_held (seen c.self.inside.pool) c.in-Some.slot (Rattle.run_memory.specs.Numbering.name_number c.in-Pointer.name.kind c.in-Pointer.name.activation c.in-Pointer.name.index) c.in-Pointer.offset h) (seen c.self.inside.pool)) c.held_of.ensures) in
    rw (← c.self.view_is, c.in-Pointer.is)
    (storage_written c.write_cell.result
    (memory_of (seen c.write_cell.new.pool) c.self.inside.globals.0 c.self.inside.locals.0 c.self.inside.activations.0 c.self.inside.starts.0 c.self.inside.numbers.0 c.self.inside.heap.0)
    (stored (memory_of (seen c.self.inside.pool) c.self.inside.globals.0 c.self.inside.locals.0 c.self.inside.activations.0 c.self.inside.starts.0 c.self.inside.numbers.0 c.self.inside.heap.0) (value.Pointer c.in-Pointer.name c.in-Pointer.offset) (Holds c.args.value))
    (memory_of (seen c.self.inside.pool) c.self.inside.globals.0 c.self.inside.locals.0 c.self.inside.activations.0 c.self.inside.starts.0 c.self.inside.numbers.0 c.self.inside.heap.0)
    (Rattle.std.proofs.Common.length c.write_cell.new.pool.blocks) (Rattle.std.proofs.Common.length c.self.inside.pool.blocks) c.self.inside.activations.1 law.0 law.2)
