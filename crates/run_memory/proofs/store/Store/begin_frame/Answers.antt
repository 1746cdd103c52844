use Rattle.std.proofs.Common.{◌++◌, ◌∷◌, [], refl, arith, length}
use Rattle.run_memory.specs.Cells.{seen}
use Rattle.run_memory.proofs.Keeping.{still_kept}
use Rattle.run_memory.proofs.StoreSteps.{counts}
use Rattle.run_memory.proofs.FrameSteps.{begun_store}
use Rattle.run_memory.proofs.store.Store.begin_frame.Goals as goal

pub push-requires : goal.push-requires
push-requires c =
    let n = counts (seen c.self.inside.pool) c.self.inside.globals.0 c.self.inside.named.0 c.self.inside.locals.0 c.self.inside.activations.0 c.self.inside.starts.0 c.self.inside.numbers.0 c.self.inside.heap.0 c.self.invariant.store in
    let h = rw (← c.self.view_is) at c.requires.calls in
    omega (arith, n.1, h)

pub push-requires-2 : goal.push-requires-2
push-requires-2 c =
    let n = counts (seen c.self.inside.pool) c.self.inside.globals.0 c.self.inside.named.0 c.self.inside.locals.0 c.self.inside.activations.0 c.self.inside.starts.0 c.self.inside.numbers.0 c.self.inside.heap.0 c.self.invariant.store in
    let h = rw (← c.self.view_is) at c.requires.calls in
    omega (arith, n.0, n.1, h, c.self.invariant.start_fits)

pub invariant_of-self : goal.invariant_of-self
invariant_of-self c =
    let s = begun_store (seen c.self.inside.pool) c.self.inside.globals.0 c.self.inside.named.0 c.self.inside.locals.0 c.self.inside.activations.0 c.self.inside.starts.0 c.self.inside.numbers.0 c.self.inside.heap.0 c.args.activation c.self.invariant.store (rw (← c.self.view_is) at c.requires.newer) c.requires.small in
    rw (c.push.ensures, c.push-2.ensures, c.len-start.ensures)
    (still_kept c.self.inside.pool c.self.inside.pool c.self.inside.globals.0 c.self.inside.named.0 c.self.inside.locals.0 c.self.inside.activations.0 c.self.inside.starts.0 c.self.inside.numbers.0 c.self.inside.heap.0 c.self.inside.named.0 c.self.inside.locals.0 (c.self.inside.activations.0 ++ c.args.activation ∷ []) (c.self.inside.starts.0 ++ length c.self.inside.locals.0 ∷ []) c.self.inside.numbers.0 c.self.inside.heap.0 c.self.inside.activations.1 c.self.inside.named.1 c.self.inside.locals.1 c.self.inside.activations.1 c.self.inside.starts.1 c.self.inside.numbers.1 c.self.inside.heap.1 c.self.invariant s refl)
