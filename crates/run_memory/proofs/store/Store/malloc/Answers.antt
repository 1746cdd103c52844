use Rattle.std.proofs.Common.{◌<◌, ◌∙◌, ◌++◌, ◌∷◌, [], ap, arith, length, Some}
use Rattle.run_memory.specs.Cells.{seen}
use Rattle.run_memory.specs.View.{memory_of}
use Rattle.run_memory.proofs.Keeping.{still_kept}
use Rattle.step_meaning.specs.Memory.{unset_cells}
use Rattle.step_meaning.specs.Types.{times, object_cells}
use Rattle.run_memory.proofs.StoreSteps.{room_is, few_blocks, same_blocks}
use Rattle.run_memory.proofs.HeapSteps.{taken_memory, taken_store}
use Rattle.run_memory.proofs.Seeing.{seen_length}
use Rattle.run_memory.proofs.store.Store.malloc.Goals as goal

pub take_block-slot-requires-clause-room : goal.take_block-slot-requires-clause-room
take_block-slot-requires-clause-room c =
    let h = rw (← c.self.view_is) at c.requires.room in
    let r = room_is c.self.inside.pool c.self.inside.globals.0 c.self.inside.named.0 c.self.inside.locals.0 c.self.inside.activations.0 c.self.inside.starts.0 c.self.inside.numbers.0 c.self.inside.heap.0 c.self.invariant.store in
    omega (arith, h, r)

pub push-requires : goal.push-requires
push-requires c =
    let h = rw (← c.self.view_is) at c.requires.room in
    let r = room_is c.self.inside.pool c.self.inside.globals.0 c.self.inside.named.0 c.self.inside.locals.0 c.self.inside.activations.0 c.self.inside.starts.0 c.self.inside.numbers.0 c.self.inside.heap.0 c.self.invariant.store in
    let f = few_blocks c.self.inside.pool c.self.inside.globals.0 c.self.inside.named.0 c.self.inside.locals.0 c.self.inside.activations.0 c.self.inside.starts.0 c.self.inside.numbers.0 c.self.inside.heap.0 c.self.invariant.store in
    omega (arith, h, r, f, c.self.invariant.store.as_many_numbers, c.self.invariant.number_fits)

pub push-requires-2 : goal.push-requires-2
push-requires-2 c =
    let h = rw (← c.self.view_is) at c.requires.room in
    let r = room_is c.self.inside.pool c.self.inside.globals.0 c.self.inside.named.0 c.self.inside.locals.0 c.self.inside.activations.0 c.self.inside.starts.0 c.self.inside.numbers.0 c.self.inside.heap.0 c.self.invariant.store in
    let f = few_blocks c.self.inside.pool c.self.inside.globals.0 c.self.inside.named.0 c.self.inside.locals.0 c.self.inside.activations.0 c.self.inside.starts.0 c.self.inside.numbers.0 c.self.inside.heap.0 c.self.invariant.store in
    omega (arith, h, r, f, c.self.invariant.heap_fits)

pub invariant_of-self : goal.invariant_of-self
invariant_of-self c =
    let x = unset_cells (times c.args.count (object_cells c.args.layouts.now c.args.of.now)) in
    let w : c.take_block-slot.result < length (seen c.self.inside.pool).blocks = let l = seen_length c.self.inside.pool in omega (arith, c.take_block-slot.ensures.slot) in
    let s = taken_store (seen c.self.inside.pool) c.self.inside.globals.0 c.self.inside.named.0 c.self.inside.locals.0 c.self.inside.activations.0 c.self.inside.starts.0 c.self.inside.numbers.0 c.self.inside.heap.0 c.self.invariant.store c.take_block-slot.result c.number-name.result c.args.block x c.take_block-slot.ensures.clear w c.number-name.ensures c.requires.small (rw (← c.self.view_is) at c.requires.newer) in
    rw (c.push.ensures, c.push-2.ensures)
    (still_kept c.self.inside.pool c.take_block-slot.new.pool c.self.inside.globals.0 c.self.inside.named.0 c.self.inside.locals.0 c.self.inside.activations.0 c.self.inside.starts.0 c.self.inside.numbers.0 c.self.inside.heap.0 c.self.inside.named.0 c.self.inside.locals.0 c.self.inside.activations.0 c.self.inside.starts.0 (c.self.inside.numbers.0 ++ c.args.block ∷ []) (c.self.inside.heap.0 ++ c.take_block-slot.result ∷ []) c.self.inside.activations.1 c.self.inside.named.1 c.self.inside.locals.1 c.self.inside.activations.1 c.self.inside.starts.1 c.self.inside.numbers.1 c.self.inside.heap.1 c.self.invariant
    (rw c.take_block-slot.ensures.taken s)
    (same_blocks c.self.inside.pool c.take_block-slot.new.pool c.take_block-slot.result (Some (record { name = c.number-name.result; cells = x })) c.take_block-slot.ensures.taken))

pub returns : goal.returns
returns c =
    let x = unset_cells (times c.args.count (object_cells c.args.layouts.now c.args.of.now)) in
    let w : c.take_block-slot.result < length (seen c.self.inside.pool).blocks = let l = seen_length c.self.inside.pool in omega (arith, c.take_block-slot.ensures.slot) in
    let m = taken_memory (seen c.self.inside.pool) c.self.inside.globals.0 c.self.inside.named.0 c.self.inside.locals.0 c.self.inside.activations.0 c.self.inside.starts.0 c.self.inside.numbers.0 c.self.inside.heap.0 c.self.invariant.store c.take_block-slot.result c.number-name.result c.args.block x c.take_block-slot.ensures.clear w c.number-name.ensures in
    let n = same_blocks c.self.inside.pool c.take_block-slot.new.pool c.take_block-slot.result (Some (record { name = c.number-name.result; cells = x })) c.take_block-slot.ensures.taken in
    rw (← c.self.view_is, c.push.ensures, c.push-2.ensures, n)
    (ap (λ q. record { memory = memory_of q c.self.inside.globals.0 c.self.inside.locals.0 c.self.inside.activations.0 c.self.inside.starts.0 (c.self.inside.numbers.0 ++ c.args.block ∷ []) (c.self.inside.heap.0 ++ c.take_block-slot.result ∷ []); chunk_limit = length c.self.inside.pool.blocks; call_limit = c.self.inside.activations.1 }) c.take_block-slot.ensures.taken
    ∙ ap (λ q. record { memory = q; chunk_limit = length c.self.inside.pool.blocks; call_limit = c.self.inside.activations.1 }) m)
