use Rattle.std.proofs.Common.{rules, ◌-ℤ◌}
use Rattle.std.proofs.lemmas.Int.{to_z-of_z, wraps}
use Rattle.typing_constants.proofs.operator.difference.Goals as goal

pub returns : goal.returns
returns c =
    let fits_a = c.ranges.a in
    let fits_b = c.ranges.b in
    c.in_kind.ensures (c.args.a -ℤ c.args.b) (simp to_z-of_z at c.checked_sub.ensures) (search (rules, wraps))
