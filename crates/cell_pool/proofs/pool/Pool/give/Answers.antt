use Rattle.std.proofs.Common.{ap, arith, suc, ◌≡◌, ◌<◌, ◌+◌, ◌-◌, ◌/◌, ◌%◌, min, get_or, length}
use Rattle.std.proofs.lemmas.List.{get_or_read}
use Rattle.cell_pool.specs.Chains.{chunk_after, held}
use Rattle.cell_pool.proofs.Blocks.{held_are, live_block}
use Rattle.cell_pool.proofs.Changes.{given_pool, given_blocks}
use Rattle.cell_pool.proofs.pool.Pool.give.Goals as goal

pub index-requires : goal.index-requires
index-requires g c =
    let live = live_block c.self.inside.blank c.self.inside.cells.items c.self.inside.next.items c.self.inside.sizes.items c.self.inside.names.items c.args.slot c.args.name (rw (← c.self.view_is) at c.requires) in
    omega (arith, live.0, c.self.inside.sizes.ok)

pub overflow_sub-count : goal.overflow_sub-count
overflow_sub-count g c =
    let live = live_block c.self.inside.blank c.self.inside.cells.items c.self.inside.next.items c.self.inside.sizes.items c.self.inside.names.items c.args.slot c.args.name (rw (← c.self.view_is) at c.requires) in
    let held_k = held_are (get_or c.self.inside.sizes.items c.args.slot 0) live.1 in
    let size : c.index.result.now ≡ get_or c.self.inside.sizes.items c.args.slot 0 = get_or_read c.self.inside.sizes.items c.args.slot c.index.result.now live.0 c.index.ensures 0 in
    let count : c.div_ceil-count.result ≡ c.index.result.now / 16 + min 1 (c.index.result.now % 16) = c.div_ceil-count.ensures in
    let chunks : c.div_ceil-count.result ≡ get_or c.self.inside.sizes.items c.args.slot 0 / 16 + min 1 (get_or c.self.inside.sizes.items c.args.slot 0 % 16) = rw size at count in
    let whole : held (get_or c.self.inside.sizes.items c.args.slot 0) ≡ suc (c.div_ceil-count.result - 1) = omega arith in
    omega arith

pub follow-last-requires : goal.follow-last-requires
follow-last-requires g c =
    let live = live_block c.self.inside.blank c.self.inside.cells.items c.self.inside.next.items c.self.inside.sizes.items c.self.inside.names.items c.args.slot c.args.name (rw (← c.self.view_is) at c.requires) in
    let held_k = held_are (get_or c.self.inside.sizes.items c.args.slot 0) live.1 in
    let size : c.index.result.now ≡ get_or c.self.inside.sizes.items c.args.slot 0 = get_or_read c.self.inside.sizes.items c.args.slot c.index.result.now live.0 c.index.ensures 0 in
    let count : c.div_ceil-count.result ≡ c.index.result.now / 16 + min 1 (c.index.result.now % 16) = c.div_ceil-count.ensures in
    let chunks : c.div_ceil-count.result ≡ get_or c.self.inside.sizes.items c.args.slot 0 / 16 + min 1 (get_or c.self.inside.sizes.items c.args.slot 0 % 16) = rw size at count in
    let whole : held (get_or c.self.inside.sizes.items c.args.slot 0) ≡ suc (c.div_ceil-count.result - 1) = omega arith in
    rw c.deref.ensures.value (λ i l. c.self.invariant.chained.within (suc c.args.slot) i (omega arith))

pub index_mut-requires : goal.index_mut-requires
index_mut-requires g c =
    let live = live_block c.self.inside.blank c.self.inside.cells.items c.self.inside.next.items c.self.inside.sizes.items c.self.inside.names.items c.args.slot c.args.name (rw (← c.self.view_is) at c.requires) in
    let held_k = held_are (get_or c.self.inside.sizes.items c.args.slot 0) live.1 in
    let size : c.index.result.now ≡ get_or c.self.inside.sizes.items c.args.slot 0 = get_or_read c.self.inside.sizes.items c.args.slot c.index.result.now live.0 c.index.ensures 0 in
    let count : c.div_ceil-count.result ≡ c.index.result.now / 16 + min 1 (c.index.result.now % 16) = c.div_ceil-count.ensures in
    let chunks : c.div_ceil-count.result ≡ get_or c.self.inside.sizes.items c.args.slot 0 / 16 + min 1 (get_or c.self.inside.sizes.items c.args.slot 0 % 16) = rw size at count in
    let whole : held (get_or c.self.inside.sizes.items c.args.slot 0) ≡ suc (c.div_ceil-count.result - 1) = omega arith in
    let last = rw c.deref.ensures.value at c.follow-last.ensures in
    let within : chunk_after c.self.inside.next.items c.args.slot (c.div_ceil-count.result - 1) < length c.self.inside.next.items = c.self.invariant.chained.within (suc c.args.slot) (c.div_ceil-count.result - 1) (omega arith) in
    omega (arith, c.self.inside.next.ok)

pub index_mut-requires-2 : goal.index_mut-requires-2
index_mut-requires-2 g c =
    let live = live_block c.self.inside.blank c.self.inside.cells.items c.self.inside.next.items c.self.inside.sizes.items c.self.inside.names.items c.args.slot c.args.name (rw (← c.self.view_is) at c.requires) in
    omega (arith, live.0, c.self.inside.sizes.ok)

pub invariant_of-self : goal.invariant_of-self
invariant_of-self g c =
    let live = live_block c.self.inside.blank c.self.inside.cells.items c.self.inside.next.items c.self.inside.sizes.items c.self.inside.names.items c.args.slot c.args.name (rw (← c.self.view_is) at c.requires) in
    let held_k = held_are (get_or c.self.inside.sizes.items c.args.slot 0) live.1 in
    let size : c.index.result.now ≡ get_or c.self.inside.sizes.items c.args.slot 0 = get_or_read c.self.inside.sizes.items c.args.slot c.index.result.now live.0 c.index.ensures 0 in
    let count : c.div_ceil-count.result ≡ c.index.result.now / 16 + min 1 (c.index.result.now % 16) = c.div_ceil-count.ensures in
    let chunks : c.div_ceil-count.result ≡ get_or c.self.inside.sizes.items c.args.slot 0 / 16 + min 1 (get_or c.self.inside.sizes.items c.args.slot 0 % 16) = rw size at count in
    let whole : held (get_or c.self.inside.sizes.items c.args.slot 0) ≡ suc (c.div_ceil-count.result - 1) = omega arith in
    let last = rw c.deref.ensures.value at c.follow-last.ensures in
    let same : suc (c.div_ceil-count.result - 1) ≡ c.div_ceil-count.result = omega arith in
    rw last (rw same at (given_pool c.self.inside.next.items c.self.inside.sizes.items c.self.inside.names.items (length c.self.inside.cells.items) c.self.inside.head c.self.inside.free (c.div_ceil-count.result - 1) c.args.slot c.self.invariant whole live.0))

pub returns : goal.returns
returns g c =
    let live = live_block c.self.inside.blank c.self.inside.cells.items c.self.inside.next.items c.self.inside.sizes.items c.self.inside.names.items c.args.slot c.args.name (rw (← c.self.view_is) at c.requires) in
    let held_k = held_are (get_or c.self.inside.sizes.items c.args.slot 0) live.1 in
    let size : c.index.result.now ≡ get_or c.self.inside.sizes.items c.args.slot 0 = get_or_read c.self.inside.sizes.items c.args.slot c.index.result.now live.0 c.index.ensures 0 in
    let count : c.div_ceil-count.result ≡ c.index.result.now / 16 + min 1 (c.index.result.now % 16) = c.div_ceil-count.ensures in
    let chunks : c.div_ceil-count.result ≡ get_or c.self.inside.sizes.items c.args.slot 0 / 16 + min 1 (get_or c.self.inside.sizes.items c.args.slot 0 % 16) = rw size at count in
    let whole : held (get_or c.self.inside.sizes.items c.args.slot 0) ≡ suc (c.div_ceil-count.result - 1) = omega arith in
    let last = rw c.deref.ensures.value at c.follow-last.ensures in
    rw (← c.self.view_is, last) (ap (λ held_blocks. record { blank = c.self.inside.blank; blocks = held_blocks }) (given_blocks c.self.inside.blank c.self.inside.cells.items c.self.inside.next.items c.self.inside.sizes.items c.self.inside.names.items c.self.inside.head c.self.inside.free (c.div_ceil-count.result - 1) c.args.slot c.self.invariant whole live.0))
