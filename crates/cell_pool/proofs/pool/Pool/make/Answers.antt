use Rattle.std.proofs.Common.{ap, arith, ◌*◌, length, replicate}
use Rattle.std.proofs.lemmas.List.{length-replicate}
use Rattle.std.specs.List.{range_with_len}
use Rattle.cell_pool.proofs.Making.{made, no_blocks}
use Rattle.cell_pool.proofs.pool.Pool.make.Goals as goal

pub invariant_of-result : goal.invariant_of-result
invariant_of-result g c =
    rw (c.in_ok-next.ensures, c.in_ok-sizes.ensures, c.in_ok-names.ensures, c.in_ok-cells.ensures)
    (made c.args.chunks (length (replicate (c.args.chunks * 16) c.args.blank)) (omega arith) (length-replicate (c.args.chunks * 16) c.args.blank))

pub returns : goal.returns
returns g c =
    rw (c.in_ok-next.ensures, c.in_ok-sizes.ensures, c.in_ok-names.ensures)
    (ap (λ held_blocks. record { blank = c.args.blank; blocks = held_blocks }) (no_blocks c.args.blank c.in_ok-cells.cells.items (range_with_len 1 c.args.chunks) c.args.chunks))
