use Rattle.std.proofs.Common.{◌^◌, ◌-◌, ◌*ℤ◌, ap, ◌∙◌, arith, to_z, of_z}
use Rattle.std.proofs.lemmas.Int.{to_z-of_z, fits_signed_mul}
use mir.Syntax.{w128}
use Rattle.step_meaning.proofs.integers.multiplied.Goals as goal

pub returns : goal.returns
returns c =
    ap (λ x. to_z w128 (of_z w128 (x *ℤ to_z w128 (of_z w128 c.args.b)))) (to_z-of_z w128 c.args.a c.ranges.a)
    ∙ ap (λ y. to_z w128 (of_z w128 (c.args.a *ℤ y))) (to_z-of_z w128 c.args.b c.ranges.b)
    ∙ to_z-of_z w128 (c.args.a *ℤ c.args.b) (fits_signed_mul w128 c.args.a c.args.b (2 ^ 64 - 1) (2 ^ 63) c.requires.left c.requires.right (omega arith))
