use Rattle.std.proofs.Common.{◌≡◌, ◌∙◌, ap, arith, length, None}
use Rattle.run_memory.specs.Cells.{seen}
use Rattle.run_memory.proofs.Keeping.{still_kept}
use Rattle.run_memory.proofs.EndSteps.{no_locals, dropped_live, dropped_law}
use Rattle.run_memory.proofs.store.Store.drop_local.Goals as goal

pub unreachable-requires : goal.unreachable-requires
unreachable-requires c =
    let n = no_locals (seen c.self.inside.pool) c.self.inside.globals.0 c.self.inside.named.0 c.self.inside.locals.0 c.self.inside.activations.0 c.self.inside.starts.0 c.self.inside.numbers.0 c.self.inside.heap.0 c.self.invariant.store (rw (← c.self.view_is) at c.requires.some) in
    let e = ap length c.in_default.ensures.items.0 in
    omega (arith, n, e)

pub give-requires : goal.give-requires
give-requires c = dropped_live c.self.inside.pool c.self.inside.globals.0 c.self.inside.named.0 c.self.inside.locals.0 c.self.inside.activations.0 c.self.inside.starts.0 c.self.inside.numbers.0 c.self.inside.heap.0 c.pop-2.new.self.0 c.pop.new.self.0 c.in-Some.slot c.in-Some-pop.name c.self.invariant.store c.in-Some-pop.ensures.items c.in-Some.ensures.items (rw (← c.self.view_is) at c.requires.some)

pub invariant_of-self : goal.invariant_of-self
invariant_of-self c =
    let law = dropped_law c.self.inside.pool c.self.inside.globals.0 c.self.inside.named.0 c.self.inside.locals.0 c.self.inside.activations.0 c.self.inside.starts.0 c.self.inside.numbers.0 c.self.inside.heap.0 c.pop-2.new.self.0 c.pop.new.self.0 c.in-Some.slot c.in-Some-pop.name c.self.invariant.store c.in-Some-pop.ensures.items c.in-Some.ensures.items (rw (← c.self.view_is) at c.requires.some) c.give.new.self c.give.ensures in
    rw (c.pop.ensures.room, c.pop-2.ensures.room)
    (still_kept c.self.inside.pool c.give.new.self c.self.inside.globals.0 c.self.inside.named.0 c.self.inside.locals.0 c.self.inside.activations.0 c.self.inside.starts.0 c.self.inside.numbers.0 c.self.inside.heap.0 c.pop-2.new.self.0 c.pop.new.self.0 c.self.inside.activations.0 c.self.inside.starts.0 c.self.inside.numbers.0 c.self.inside.heap.0 c.self.inside.activations.1 c.self.inside.named.1 c.self.inside.locals.1 c.self.inside.activations.1 c.self.inside.starts.1 c.self.inside.numbers.1 c.self.inside.heap.1 c.self.invariant law.1
    (ap (λ q. length q.blocks) c.give.ensures ∙ Rattle.std.proofs.lemmas.List.length-set c.self.inside.pool.blocks c.in-Some.slot None))

pub returns : goal.returns
returns c =
    let law = dropped_law c.self.inside.pool c.self.inside.globals.0 c.self.inside.named.0 c.self.inside.locals.0 c.self.inside.activations.0 c.self.inside.starts.0 c.self.inside.numbers.0 c.self.inside.heap.0 c.pop-2.new.self.0 c.pop.new.self.0 c.in-Some.slot c.in-Some-pop.name c.self.invariant.store c.in-Some-pop.ensures.items c.in-Some.ensures.items (rw (← c.self.view_is) at c.requires.some) c.give.new.self c.give.ensures in
    let n : length c.give.new.self.blocks ≡ length c.self.inside.pool.blocks = ap (λ q. length q.blocks) c.give.ensures ∙ Rattle.std.proofs.lemmas.List.length-set c.self.inside.pool.blocks c.in-Some.slot None in
    rw (← c.self.view_is, n)
    (ap (λ q. record { memory = q; chunk_limit = length c.self.inside.pool.blocks; call_limit = c.self.inside.activations.1 }) law.0)
