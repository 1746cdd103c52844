use Rattle.std.proofs.Common.{arith}
use Rattle.cell_pool.proofs.Blocks.{length-blocks}
use Rattle.cell_pool.proofs.pool.Pool.chunks.Goals as goal

pub returns : goal.returns
returns g c = rw (← c.self.view_is) (omega (arith, length-blocks c.self.inside.blank c.self.inside.cells.items c.self.inside.next.items c.self.inside.sizes.items c.self.inside.names.items, c.self.invariant.sized, c.self.inside.next.ok))
