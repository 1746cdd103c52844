use Rattle.std.proofs.Common.{arith}
use Rattle.cell_pool.proofs.Blocks.{live_are}
use Rattle.cell_pool.proofs.pool.Pool.live_chunks.Goals as goal

pub returns : goal.returns
returns g c = rw (← c.self.view_is) (omega (arith, live_are c.self.inside.blank c.self.inside.cells.items c.self.inside.next.items c.self.inside.sizes.items c.self.inside.names.items, c.self.invariant.counted, c.self.inside.next.ok))
