use Rattle.std.proofs.Common.{ap, sym, arith, length}
use Rattle.run_memory.specs.Cells.{seen}
use Rattle.run_memory.proofs.StoreSteps.{counts, top, top_count}
use Rattle.run_memory.proofs.store.Store.top_locals.Goals as goal

pub bounds-as_slice-top : goal.bounds-as_slice-top
bounds-as_slice-top c =
    let n = counts (seen c.self.inside.pool) c.self.inside.globals.0 c.self.inside.named.0 c.self.inside.locals.0 c.self.inside.activations.0 c.self.inside.starts.0 c.self.inside.numbers.0 c.self.inside.heap.0 c.self.invariant.store in
    let h = rw (← c.self.view_is) at c.requires.inside in
    let l = ap length c.as_slice.ensures in
    omega (arith, n.0, n.1, h, l)

pub offset_bounds-as_slice-top : goal.offset_bounds-as_slice-top
offset_bounds-as_slice-top c =
    let n = counts (seen c.self.inside.pool) c.self.inside.globals.0 c.self.inside.named.0 c.self.inside.locals.0 c.self.inside.activations.0 c.self.inside.starts.0 c.self.inside.numbers.0 c.self.inside.heap.0 c.self.invariant.store in
    let l = ap length c.as_slice.ensures in
    omega (arith, n.0, l)

pub overflow_sub-result : goal.overflow_sub-result
overflow_sub-result c =
    let n = counts (seen c.self.inside.pool) c.self.inside.globals.0 c.self.inside.named.0 c.self.inside.locals.0 c.self.inside.activations.0 c.self.inside.starts.0 c.self.inside.numbers.0 c.self.inside.heap.0 c.self.invariant.store in
    let h = rw (← c.self.view_is) at c.requires.inside in
    let t = top (seen c.self.inside.pool) c.self.inside.globals.0 c.self.inside.named.0 c.self.inside.locals.0 c.self.inside.activations.0 c.self.inside.starts.0 c.self.inside.numbers.0 c.self.inside.heap.0 c.self.invariant.store (omega (arith, n.1, h)) in
    rw (c.as_slice.ensures, c.len-top.ensures, c.len.ensures) t.within

pub returns : goal.returns
returns c =
    let n = counts (seen c.self.inside.pool) c.self.inside.globals.0 c.self.inside.named.0 c.self.inside.locals.0 c.self.inside.activations.0 c.self.inside.starts.0 c.self.inside.numbers.0 c.self.inside.heap.0 c.self.invariant.store in
    let h = rw (← c.self.view_is) at c.requires.inside in
    rw (c.as_slice.ensures, c.len-top.ensures, c.len.ensures, ← c.self.view_is) (sym (top_count (seen c.self.inside.pool) c.self.inside.globals.0 c.self.inside.named.0 c.self.inside.locals.0 c.self.inside.activations.0 c.self.inside.starts.0 c.self.inside.numbers.0 c.self.inside.heap.0 c.self.invariant.store (omega (arith, n.1, h))))
