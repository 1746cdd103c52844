use Rattle.std.proofs.Common.{◌≡◌, ◌<◌, ◌-◌, ◌∙◌, ◌++◌, ◌∷◌, [], ap, sym, arith, length, get_or, reverse, take, Some}
use Rattle.std.specs.Prelude.{option_map}
use Rattle.run_memory.specs.Cells.{seen}
use Rattle.run_memory.specs.View.{memory_of}
use Rattle.run_memory.proofs.Keeping.{still_kept}
use Rattle.step_meaning.specs.Memory.{unset_cells}
use Rattle.step_meaning.specs.Types.{object_cells}
use Rattle.run_memory.specs.Storage.{first_local, with_local}
use Rattle.run_memory.specs.Filling.{first_cells}
use Rattle.run_memory.proofs.StoreReads.{names_rise, numbers_rise}
use Rattle.run_memory.proofs.StoreSteps.{counts, top, room_is, few_blocks, same_blocks, local_numbered}
use Rattle.run_memory.proofs.LocalSteps.{pushed_frames, pushed_store}
use Rattle.run_memory.proofs.Seeing.{seen_length}
use Rattle.run_memory.proofs.Taking.{first_is}
use Rattle.run_memory.proofs.store.Store.push_local.Goals as goal

pub argument_of-held-requires-clause-names_rise : goal.argument_of-held-requires-clause-names_rise
argument_of-held-requires-clause-names_rise c = names_rise c.self.inside.pool c.self.inside.globals.0 c.self.inside.named.0 c.self.inside.locals.0 c.self.inside.activations.0 c.self.inside.starts.0 c.self.inside.numbers.0 c.self.inside.heap.0 c.self.invariant.store

pub argument_of-held-requires-clause-numbers_rise : goal.argument_of-held-requires-clause-numbers_rise
argument_of-held-requires-clause-numbers_rise c = numbers_rise c.self.inside.pool c.self.inside.globals.0 c.self.inside.named.0 c.self.inside.locals.0 c.self.inside.activations.0 c.self.inside.starts.0 c.self.inside.numbers.0 c.self.inside.heap.0 c.self.invariant.store

pub bounds-as_slice-top-2 : goal.bounds-as_slice-top-2
bounds-as_slice-top-2 c =
    let n = counts (seen c.self.inside.pool) c.self.inside.globals.0 c.self.inside.named.0 c.self.inside.locals.0 c.self.inside.activations.0 c.self.inside.starts.0 c.self.inside.numbers.0 c.self.inside.heap.0 c.self.invariant.store in
    let h = rw (← c.self.view_is) at c.requires.inside in
    let l = ap length c.as_slice-2.ensures in
    omega (arith, n.0, n.1, h, l)

pub overflow_sub-len : goal.overflow_sub-len
overflow_sub-len c =
    let n = counts (seen c.self.inside.pool) c.self.inside.globals.0 c.self.inside.named.0 c.self.inside.locals.0 c.self.inside.activations.0 c.self.inside.starts.0 c.self.inside.numbers.0 c.self.inside.heap.0 c.self.invariant.store in
    let h = rw (← c.self.view_is) at c.requires.inside in
    let t = top (seen c.self.inside.pool) c.self.inside.globals.0 c.self.inside.named.0 c.self.inside.locals.0 c.self.inside.activations.0 c.self.inside.starts.0 c.self.inside.numbers.0 c.self.inside.heap.0 c.self.invariant.store (omega (arith, n.1, h)) in
    rw (c.as_slice-2.ensures, c.len-top.ensures, c.len.ensures) t.within

pub number-name-requires : goal.number-name-requires
number-name-requires c =
    let n = counts (seen c.self.inside.pool) c.self.inside.globals.0 c.self.inside.named.0 c.self.inside.locals.0 c.self.inside.activations.0 c.self.inside.starts.0 c.self.inside.numbers.0 c.self.inside.heap.0 c.self.invariant.store in
    let h = rw (← c.self.view_is) at c.requires.inside in
    let t = top (seen c.self.inside.pool) c.self.inside.globals.0 c.self.inside.named.0 c.self.inside.locals.0 c.self.inside.activations.0 c.self.inside.starts.0 c.self.inside.numbers.0 c.self.inside.heap.0 c.self.invariant.store (omega (arith, n.1, h)) in
    let m = rw (← c.self.view_is) at c.requires.room in
    let r = room_is c.self.inside.pool c.self.inside.globals.0 c.self.inside.named.0 c.self.inside.locals.0 c.self.inside.activations.0 c.self.inside.starts.0 c.self.inside.numbers.0 c.self.inside.heap.0 c.self.invariant.store in
    let f = few_blocks c.self.inside.pool c.self.inside.globals.0 c.self.inside.named.0 c.self.inside.locals.0 c.self.inside.activations.0 c.self.inside.starts.0 c.self.inside.numbers.0 c.self.inside.heap.0 c.self.invariant.store in
    rw (c.as_slice.ensures, c.as_slice-2.ensures, c.len-top.ensures, c.len.ensures)
    (local_numbered (get_or c.self.inside.activations.0 (length c.self.inside.activations.0 - 1) 0) (get_or c.self.inside.starts.0 (length c.self.inside.activations.0 - 1) 0) (length c.self.inside.locals.0) t.below (omega (arith, m, r, f, c.self.invariant.chunks_fit)))

pub start_block-slot-requires-clause-room : goal.start_block-slot-requires-clause-room
start_block-slot-requires-clause-room c =
    let m = rw (← c.self.view_is) at c.requires.room in
    let r = room_is c.self.inside.pool c.self.inside.globals.0 c.self.inside.named.0 c.self.inside.locals.0 c.self.inside.activations.0 c.self.inside.starts.0 c.self.inside.numbers.0 c.self.inside.heap.0 c.self.invariant.store in
    omega (arith, m, r)

pub push-requires : goal.push-requires
push-requires c =
    let m = rw (← c.self.view_is) at c.requires.room in
    let r = room_is c.self.inside.pool c.self.inside.globals.0 c.self.inside.named.0 c.self.inside.locals.0 c.self.inside.activations.0 c.self.inside.starts.0 c.self.inside.numbers.0 c.self.inside.heap.0 c.self.invariant.store in
    let f = few_blocks c.self.inside.pool c.self.inside.globals.0 c.self.inside.named.0 c.self.inside.locals.0 c.self.inside.activations.0 c.self.inside.starts.0 c.self.inside.numbers.0 c.self.inside.heap.0 c.self.invariant.store in
    omega (arith, m, r, f, c.self.invariant.store.as_many_names, c.self.invariant.name_fits)

pub push-requires-2 : goal.push-requires-2
push-requires-2 c =
    let m = rw (← c.self.view_is) at c.requires.room in
    let r = room_is c.self.inside.pool c.self.inside.globals.0 c.self.inside.named.0 c.self.inside.locals.0 c.self.inside.activations.0 c.self.inside.starts.0 c.self.inside.numbers.0 c.self.inside.heap.0 c.self.invariant.store in
    let f = few_blocks c.self.inside.pool c.self.inside.globals.0 c.self.inside.named.0 c.self.inside.locals.0 c.self.inside.activations.0 c.self.inside.starts.0 c.self.inside.numbers.0 c.self.inside.heap.0 c.self.invariant.store in
    omega (arith, m, r, f, c.self.invariant.local_fits)

pub invariant_of-self : goal.invariant_of-self
invariant_of-self c =
    let n = counts (seen c.self.inside.pool) c.self.inside.globals.0 c.self.inside.named.0 c.self.inside.locals.0 c.self.inside.activations.0 c.self.inside.starts.0 c.self.inside.numbers.0 c.self.inside.heap.0 c.self.invariant.store in
    let h = rw (← c.self.view_is) at c.requires.inside in
    let t = top (seen c.self.inside.pool) c.self.inside.globals.0 c.self.inside.named.0 c.self.inside.locals.0 c.self.inside.activations.0 c.self.inside.starts.0 c.self.inside.numbers.0 c.self.inside.heap.0 c.self.invariant.store (omega (arith, n.1, h)) in
    let m = rw (← c.self.view_is) at c.requires.room in
    let r = room_is c.self.inside.pool c.self.inside.globals.0 c.self.inside.named.0 c.self.inside.locals.0 c.self.inside.activations.0 c.self.inside.starts.0 c.self.inside.numbers.0 c.self.inside.heap.0 c.self.invariant.store in
    let f = few_blocks c.self.inside.pool c.self.inside.globals.0 c.self.inside.named.0 c.self.inside.locals.0 c.self.inside.activations.0 c.self.inside.starts.0 c.self.inside.numbers.0 c.self.inside.heap.0 c.self.invariant.store in
    let l = seen_length c.self.inside.pool in
    let w : c.start_block-slot.result < length (seen c.self.inside.pool).blocks = omega (arith, c.start_block-slot.ensures.slot, l) in
    let is = rw (c.as_slice.ensures, c.as_slice-2.ensures, c.len-top.ensures, c.len.ensures) at c.number-name.ensures in
    let x = first_cells (unset_cells (object_cells c.args.layouts.now c.args.ctype.now)) (option_map Rattle.run_memory.specs.Cells.cell_of c.argument_of-held.result) in
    let s = pushed_store (seen c.self.inside.pool) c.self.inside.globals.0 c.self.inside.named.0 c.self.inside.locals.0 c.self.inside.activations.0 c.self.inside.starts.0 c.self.inside.numbers.0 c.self.inside.heap.0 (get_or c.self.inside.activations.0 (length c.self.inside.activations.0 - 1) 0) (get_or c.self.inside.starts.0 (length c.self.inside.activations.0 - 1) 0) (reverse (take (length c.self.inside.activations.0 - 1) c.self.inside.activations.0)) (reverse (take (length c.self.inside.activations.0 - 1) c.self.inside.starts.0)) t.activations t.starts c.self.invariant.store c.start_block-slot.result c.number-name.result x c.start_block-slot.ensures.clear w is (omega (arith, m, r, f, c.self.invariant.chunks_fit)) in
    rw (c.push.ensures, c.push-2.ensures)
    (still_kept c.self.inside.pool c.start_block-slot.new.pool c.self.inside.globals.0 c.self.inside.named.0 c.self.inside.locals.0 c.self.inside.activations.0 c.self.inside.starts.0 c.self.inside.numbers.0 c.self.inside.heap.0 (c.self.inside.named.0 ++ c.number-name.result ∷ []) (c.self.inside.locals.0 ++ c.start_block-slot.result ∷ []) c.self.inside.activations.0 c.self.inside.starts.0 c.self.inside.numbers.0 c.self.inside.heap.0 c.self.inside.activations.1 c.self.inside.named.1 c.self.inside.locals.1 c.self.inside.activations.1 c.self.inside.starts.1 c.self.inside.numbers.1 c.self.inside.heap.1 c.self.invariant
    (rw c.start_block-slot.ensures.taken s)
    (same_blocks c.self.inside.pool c.start_block-slot.new.pool c.start_block-slot.result (Some (record { name = c.number-name.result; cells = x })) c.start_block-slot.ensures.taken))

pub returns : goal.returns
returns c =
    let n = counts (seen c.self.inside.pool) c.self.inside.globals.0 c.self.inside.named.0 c.self.inside.locals.0 c.self.inside.activations.0 c.self.inside.starts.0 c.self.inside.numbers.0 c.self.inside.heap.0 c.self.invariant.store in
    let h = rw (← c.self.view_is) at c.requires.inside in
    let t = top (seen c.self.inside.pool) c.self.inside.globals.0 c.self.inside.named.0 c.self.inside.locals.0 c.self.inside.activations.0 c.self.inside.starts.0 c.self.inside.numbers.0 c.self.inside.heap.0 c.self.invariant.store (omega (arith, n.1, h)) in
    let l = seen_length c.self.inside.pool in
    let w : c.start_block-slot.result < length (seen c.self.inside.pool).blocks = omega (arith, c.start_block-slot.ensures.slot, l) in
    let is = rw (c.as_slice.ensures, c.as_slice-2.ensures, c.len-top.ensures, c.len.ensures) at c.number-name.ensures in
    let x = first_cells (unset_cells (object_cells c.args.layouts.now c.args.ctype.now)) (option_map Rattle.run_memory.specs.Cells.cell_of c.argument_of-held.result) in
    let m = pushed_frames (seen c.self.inside.pool) c.self.inside.globals.0 c.self.inside.named.0 c.self.inside.locals.0 c.self.inside.activations.0 c.self.inside.starts.0 c.self.inside.numbers.0 c.self.inside.heap.0 (get_or c.self.inside.activations.0 (length c.self.inside.activations.0 - 1) 0) (get_or c.self.inside.starts.0 (length c.self.inside.activations.0 - 1) 0) (reverse (take (length c.self.inside.activations.0 - 1) c.self.inside.activations.0)) (reverse (take (length c.self.inside.activations.0 - 1) c.self.inside.starts.0)) t.activations t.starts c.self.invariant.store c.start_block-slot.result c.number-name.result x c.start_block-slot.ensures.clear w is in
    let k = same_blocks c.self.inside.pool c.start_block-slot.new.pool c.start_block-slot.result (Some (record { name = c.number-name.result; cells = x })) c.start_block-slot.ensures.taken in
    let y : x ≡ first_local c.args.layouts.now c.args.ctype.now c.args.argument = ap (first_cells (unset_cells (object_cells c.args.layouts.now c.args.ctype.now))) c.argument_of-held.ensures ∙ sym (first_is c.args.layouts.now c.args.ctype.now c.args.argument) in
    rw (← c.self.view_is, c.push-2.ensures, k)
    (ap (λ q. record { memory = memory_of q c.self.inside.globals.0 (c.self.inside.locals.0 ++ c.start_block-slot.result ∷ []) c.self.inside.activations.0 c.self.inside.starts.0 c.self.inside.numbers.0 c.self.inside.heap.0; chunk_limit = length c.self.inside.pool.blocks; call_limit = c.self.inside.activations.1 }) c.start_block-slot.ensures.taken
    ∙ ap (λ q. record { memory = q; chunk_limit = length c.self.inside.pool.blocks; call_limit = c.self.inside.activations.1 }) m
    ∙ ap (λ b. record { memory = with_local b (memory_of (seen c.self.inside.pool) c.self.inside.globals.0 c.self.inside.locals.0 c.self.inside.activations.0 c.self.inside.starts.0 c.self.inside.numbers.0 c.self.inside.heap.0); chunk_limit = length c.self.inside.pool.blocks; call_limit = c.self.inside.activations.1 }) y)
