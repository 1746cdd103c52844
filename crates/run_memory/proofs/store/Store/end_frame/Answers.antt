use Rattle.std.proofs.Common.{◌-◌, ap, refl, arith, length, take}
use Rattle.run_memory.specs.Cells.{seen}
use Rattle.run_memory.proofs.Keeping.{still_kept}
use Rattle.run_memory.proofs.StoreSteps.{counts}
use Rattle.run_memory.proofs.EndSteps.{end_law}
use Rattle.run_memory.proofs.store.Store.end_frame.Goals as goal

pub invariant_of-self : goal.invariant_of-self
invariant_of-self c =
    let n = counts (seen c.self.inside.pool) c.self.inside.globals.0 c.self.inside.named.0 c.self.inside.locals.0 c.self.inside.activations.0 c.self.inside.starts.0 c.self.inside.numbers.0 c.self.inside.heap.0 c.self.invariant.store in
    let h = rw (← c.self.view_is) at c.requires.inside in
    let z = rw (← c.self.view_is) at c.requires.none in
    let law = end_law (seen c.self.inside.pool) c.self.inside.globals.0 c.self.inside.named.0 c.self.inside.locals.0 c.self.inside.activations.0 c.self.inside.starts.0 c.self.inside.numbers.0 c.self.inside.heap.0 c.self.invariant.store (omega (arith, n.1, h)) z in
    rw (c.pop-activation.ensures.rest, c.pop-start.ensures.rest, c.pop-activation.ensures.room, c.pop-start.ensures.room)
    (still_kept c.self.inside.pool c.self.inside.pool c.self.inside.globals.0 c.self.inside.named.0 c.self.inside.locals.0 c.self.inside.activations.0 c.self.inside.starts.0 c.self.inside.numbers.0 c.self.inside.heap.0 c.self.inside.named.0 c.self.inside.locals.0 (take (length c.self.inside.activations.0 - 1) c.self.inside.activations.0) (take (length c.self.inside.starts.0 - 1) c.self.inside.starts.0) c.self.inside.numbers.0 c.self.inside.heap.0 c.self.inside.activations.1 c.self.inside.named.1 c.self.inside.locals.1 c.self.inside.activations.1 c.self.inside.starts.1 c.self.inside.numbers.1 c.self.inside.heap.1 c.self.invariant law.1 refl)

pub returns : goal.returns
returns c =
    let n = counts (seen c.self.inside.pool) c.self.inside.globals.0 c.self.inside.named.0 c.self.inside.locals.0 c.self.inside.activations.0 c.self.inside.starts.0 c.self.inside.numbers.0 c.self.inside.heap.0 c.self.invariant.store in
    let h = rw (← c.self.view_is) at c.requires.inside in
    let z = rw (← c.self.view_is) at c.requires.none in
    let law = end_law (seen c.self.inside.pool) c.self.inside.globals.0 c.self.inside.named.0 c.self.inside.locals.0 c.self.inside.activations.0 c.self.inside.starts.0 c.self.inside.numbers.0 c.self.inside.heap.0 c.self.invariant.store (omega (arith, n.1, h)) z in
    rw (← c.self.view_is, c.pop-activation.ensures.rest, c.pop-start.ensures.rest, c.pop-activation.ensures.room)
    (ap (λ m. record { memory = m; chunk_limit = length c.self.inside.pool.blocks; call_limit = c.self.inside.activations.1 }) law.0)
