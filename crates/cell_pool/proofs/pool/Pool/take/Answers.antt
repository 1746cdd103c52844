use Rattle.std.proofs.Common.{ap, arith, refl, ◌≡◌, ◌<◌, ◌+◌, ◌/◌, ◌%◌, min, length}
use Rattle.std.proofs.lemmas.List.{with_items_is}
use Rattle.cell_pool.specs.Chains.{held}
use Rattle.cell_pool.proofs.Blocks.{held_are}
use Rattle.cell_pool.proofs.Changes.{head_below, was_free, too_few, enough, taken_pool, taken_blocks}
use Rattle.cell_pool.proofs.pool.Pool.take.Goals as goal

pub returns-then-self-wanted-clause-full : goal.returns-then-self-wanted-clause-full
returns-then-self-wanted-clause-full g c =
    let wanted : c.div_ceil-wanted.result ≡ c.args.cells / 16 + min 1 (c.args.cells % 16) = c.div_ceil-wanted.ensures in
    rw (← c.self.view_is) ((λ e. too_few c.self.inside.blank c.self.inside.cells.items c.self.inside.next.items c.self.inside.sizes.items c.self.inside.names.items c.self.inside.head c.self.inside.free c.args.cells c.self.invariant c.requires.0 (omega arith)), (λ l. refl))

pub clear-self-inside-requires-clause-within : goal.clear-self-inside-requires-clause-within
clear-self-inside-requires-clause-within g c =
    rw c.deref.ensures.value (λ i l. c.self.invariant.chained.within 0 i (omega arith))

pub index_mut-requires : goal.index_mut-requires
index_mut-requires g c =
    let held_k = held_are c.args.cells c.requires.0 in
    let wanted : c.div_ceil-wanted.result ≡ c.args.cells / 16 + min 1 (c.args.cells % 16) = c.div_ceil-wanted.ensures in
    let whole : held c.args.cells ≡ c.div_ceil-wanted.result = omega arith in
    let some : 0 < c.div_ceil-wanted.result = omega arith in
    omega (arith, head_below c.self.inside.next.items c.self.inside.sizes.items c.self.inside.names.items (length c.self.inside.cells.items) c.self.inside.head c.self.inside.free c.self.invariant (omega arith), c.self.invariant.sized, c.self.inside.sizes.ok)

pub index_mut-requires-2 : goal.index_mut-requires-2
index_mut-requires-2 g c =
    let held_k = held_are c.args.cells c.requires.0 in
    let wanted : c.div_ceil-wanted.result ≡ c.args.cells / 16 + min 1 (c.args.cells % 16) = c.div_ceil-wanted.ensures in
    let whole : held c.args.cells ≡ c.div_ceil-wanted.result = omega arith in
    let some : 0 < c.div_ceil-wanted.result = omega arith in
    omega (arith, head_below c.self.inside.next.items c.self.inside.sizes.items c.self.inside.names.items (length c.self.inside.cells.items) c.self.inside.head c.self.inside.free c.self.invariant (omega arith), c.self.invariant.named, c.self.inside.names.ok)

pub invariant_of-self : goal.invariant_of-self
invariant_of-self g c =
    let held_k = held_are c.args.cells c.requires.0 in
    let wanted : c.div_ceil-wanted.result ≡ c.args.cells / 16 + min 1 (c.args.cells % 16) = c.div_ceil-wanted.ensures in
    let whole : held c.args.cells ≡ c.div_ceil-wanted.result = omega arith in
    let some : 0 < c.div_ceil-wanted.result = omega arith in
    let cleared = rw (c.deref_mut.ensures.value, c.deref.ensures.value) at c.clear-self-inside.ensures.cleared in
    let long : length c.clear-self-inside.new.cells ≡ length c.self.inside.cells.items = cleared.as_long in
    let kept = with_items_is c.self.inside.cells c.clear-self-inside.new.cells (omega (arith, c.self.inside.cells.ok)) in
    let after = rw c.deref.ensures.value at c.clear-self-inside.ensures.after in
    rw (kept, long, after) (taken_pool c.self.inside.next.items c.self.inside.sizes.items c.self.inside.names.items (length c.self.inside.cells.items) c.self.inside.head c.self.inside.free c.div_ceil-wanted.result c.args.cells c.args.name c.self.invariant whole some (omega arith))

pub returns-clause-full : goal.returns-clause-full
returns-clause-full g c =
    let wanted : c.div_ceil-wanted.result ≡ c.args.cells / 16 + min 1 (c.args.cells % 16) = c.div_ceil-wanted.ensures in
    rw (← c.self.view_is) ((λ e. cc), (λ l. absurd (omega (arith, enough c.self.inside.blank c.self.inside.cells.items c.self.inside.next.items c.self.inside.sizes.items c.self.inside.names.items c.self.inside.head c.self.inside.free c.args.cells c.self.invariant c.requires.0 (omega arith)))))

pub returns-clause-was_free : goal.returns-clause-was_free
returns-clause-was_free g c =
    let held_k = held_are c.args.cells c.requires.0 in
    let wanted : c.div_ceil-wanted.result ≡ c.args.cells / 16 + min 1 (c.args.cells % 16) = c.div_ceil-wanted.ensures in
    let whole : held c.args.cells ≡ c.div_ceil-wanted.result = omega arith in
    let some : 0 < c.div_ceil-wanted.result = omega arith in
    rw (← c.self.view_is) (was_free c.self.inside.blank c.self.inside.cells.items c.self.inside.next.items c.self.inside.sizes.items c.self.inside.names.items c.self.inside.head c.self.inside.free c.self.invariant (omega arith))

pub returns-clause-taken : goal.returns-clause-taken
returns-clause-taken g c =
    let held_k = held_are c.args.cells c.requires.0 in
    let wanted : c.div_ceil-wanted.result ≡ c.args.cells / 16 + min 1 (c.args.cells % 16) = c.div_ceil-wanted.ensures in
    let whole : held c.args.cells ≡ c.div_ceil-wanted.result = omega arith in
    let some : 0 < c.div_ceil-wanted.result = omega arith in
    let cleared = rw (c.deref_mut.ensures.value, c.deref.ensures.value) at c.clear-self-inside.ensures.cleared in
    let long : length c.clear-self-inside.new.cells ≡ length c.self.inside.cells.items = cleared.as_long in
    let kept = with_items_is c.self.inside.cells c.clear-self-inside.new.cells (omega (arith, c.self.inside.cells.ok)) in
    let blocks = taken_blocks c.self.inside.blank c.self.inside.cells.items c.clear-self-inside.new.cells c.self.inside.next.items c.self.inside.sizes.items c.self.inside.names.items c.self.inside.head c.self.inside.free c.div_ceil-wanted.result c.args.cells c.args.name c.self.invariant cleared whole some (omega arith) c.requires.0 in
    rw (← c.self.view_is, kept) (ap (λ held_blocks. record { blank = c.self.inside.blank; blocks = held_blocks }) blocks)
