use Rattle.std.proofs.Common.{◌≡◌, ◌∙◌, ap, sym, length, get_or, None}
use Rattle.std.specs.List.{remove}
use Rattle.std.specs.Option.{is_some}
use Rattle.std.proofs.lemmas.List.{get_or_read}
use Rattle.run_memory.specs.Cells.{seen}
use Rattle.run_memory.specs.View.{memory_of}
use Rattle.run_memory.specs.Storage.{or_same}
use Rattle.run_memory.proofs.Keeping.{still_kept}
use Rattle.run_memory.proofs.StoreReads.{numbers_rise}
use Rattle.run_memory.proofs.FreeLaws.{free_none, free_some, freed_law}
use Rattle.run_memory.proofs.store.Store.free.Goals as goal

pub begins_at-requires : goal.begins_at-requires
begins_at-requires c = record { rise = numbers_rise c.self.inside.pool c.self.inside.globals.0 c.self.inside.named.0 c.self.inside.locals.0 c.self.inside.activations.0 c.self.inside.starts.0 c.self.inside.numbers.0 c.self.inside.heap.0 c.self.invariant.store }

pub returns-in_default-begins_at-clause-allowed : goal.returns-in_default-begins_at-clause-allowed
returns-in_default-begins_at-clause-allowed c =
    rw (← c.self.view_is, c.in-Pointer.is) (sym (ap is_some (free_none (seen c.self.inside.pool) c.self.inside.globals.0 c.self.inside.named.0 c.self.inside.locals.0 c.self.inside.activations.0 c.self.inside.starts.0 c.self.inside.numbers.0 c.self.inside.heap.0 c.self.invariant.store c.in-Pointer.name c.in-Pointer.offset c.in_default-begins_at.ensures)))

pub returns-in_default-begins_at-clause-ended : goal.returns-in_default-begins_at-clause-ended
returns-in_default-begins_at-clause-ended c =
    rw (← c.self.view_is, c.in-Pointer.is) (sym (ap (λ m. record { memory = or_same m (memory_of (seen c.self.inside.pool) c.self.inside.globals.0 c.self.inside.locals.0 c.self.inside.activations.0 c.self.inside.starts.0 c.self.inside.numbers.0 c.self.inside.heap.0); chunk_limit = length c.self.inside.pool.blocks; call_limit = c.self.inside.activations.1 }) (free_none (seen c.self.inside.pool) c.self.inside.globals.0 c.self.inside.named.0 c.self.inside.locals.0 c.self.inside.activations.0 c.self.inside.starts.0 c.self.inside.numbers.0 c.self.inside.heap.0 c.self.invariant.store c.in-Pointer.name c.in-Pointer.offset c.in_default-begins_at.ensures)))

pub invariant_of-self : goal.invariant_of-self
invariant_of-self c =
    let law = freed_law c.self.inside.pool c.self.inside.globals.0 c.self.inside.named.0 c.self.inside.locals.0 c.self.inside.activations.0 c.self.inside.starts.0 c.self.inside.numbers.0 c.self.inside.heap.0 c.self.invariant.store c.in-Pointer.name c.in-Pointer.offset c.in-Some.place (get_or c.as_slice.result.now c.in-Some.place 0) c.in-Some.ensures (ap (λ x. get_or x c.in-Some.place 0) (sym c.as_slice.ensures)) c.give.new.self c.give.ensures in
    rw (c.remove.ensures, c.remove-2.ensures)
    (still_kept c.self.inside.pool c.give.new.self c.self.inside.globals.0 c.self.inside.named.0 c.self.inside.locals.0 c.self.inside.activations.0 c.self.inside.starts.0 c.self.inside.numbers.0 c.self.inside.heap.0 c.self.inside.named.0 c.self.inside.locals.0 c.self.inside.activations.0 c.self.inside.starts.0 (remove c.self.inside.numbers.0 c.in-Some.place) (remove c.self.inside.heap.0 c.in-Some.place) c.self.inside.activations.1 c.self.inside.named.1 c.self.inside.locals.1 c.self.inside.activations.1 c.self.inside.starts.1 c.self.inside.numbers.1 c.self.inside.heap.1 c.self.invariant law.1
    (ap (λ q. length q.blocks) c.give.ensures ∙ Rattle.std.proofs.lemmas.List.length-set c.self.inside.pool.blocks (get_or c.as_slice.result.now c.in-Some.place 0) None))

pub returns-clause-allowed : goal.returns-clause-allowed
returns-clause-allowed c = rw (← c.self.view_is, c.in-Pointer.is) (sym (ap is_some (free_some (seen c.self.inside.pool) c.self.inside.globals.0 c.self.inside.named.0 c.self.inside.locals.0 c.self.inside.activations.0 c.self.inside.starts.0 c.self.inside.numbers.0 c.self.inside.heap.0 c.self.invariant.store c.in-Pointer.name c.in-Pointer.offset c.in-Some.place c.in-Some.ensures)))

pub returns-clause-ended : goal.returns-clause-ended
returns-clause-ended c =
    let law = freed_law c.self.inside.pool c.self.inside.globals.0 c.self.inside.named.0 c.self.inside.locals.0 c.self.inside.activations.0 c.self.inside.starts.0 c.self.inside.numbers.0 c.self.inside.heap.0 c.self.invariant.store c.in-Pointer.name c.in-Pointer.offset c.in-Some.place (get_or c.as_slice.result.now c.in-Some.place 0) c.in-Some.ensures (ap (λ x. get_or x c.in-Some.place 0) (sym c.as_slice.ensures)) c.give.new.self c.give.ensures in
    let n : length c.give.new.self.blocks ≡ length c.self.inside.pool.blocks = ap (λ q. length q.blocks) c.give.ensures ∙ Rattle.std.proofs.lemmas.List.length-set c.self.inside.pool.blocks (get_or c.as_slice.result.now c.in-Some.place 0) None in
    rw (← c.self.view_is, c.in-Pointer.is, c.remove.ensures, c.remove-2.ensures, n)
    (ap (λ m. record { memory = m; chunk_limit = length c.self.inside.pool.blocks; call_limit = c.self.inside.activations.1 }) law.0
    ∙ sym (ap (λ m. record { memory = or_same m (memory_of (seen c.self.inside.pool) c.self.inside.globals.0 c.self.inside.locals.0 c.self.inside.activations.0 c.self.inside.starts.0 c.self.inside.numbers.0 c.self.inside.heap.0); chunk_limit = length c.self.inside.pool.blocks; call_limit = c.self.inside.activations.1 }) (free_some (seen c.self.inside.pool) c.self.inside.globals.0 c.self.inside.named.0 c.self.inside.locals.0 c.self.inside.activations.0 c.self.inside.starts.0 c.self.inside.numbers.0 c.self.inside.heap.0 c.self.invariant.store c.in-Pointer.name c.in-Pointer.offset c.in-Some.place c.in-Some.ensures)))
