use Rattle.std.proofs.Common.{rules, ◌∙◌}
use Rattle.std.specs.Prelude.{int_div, FitsSigned}
use Rattle.std.specs.Int.{w128}
use Rattle.std.proofs.lemmas.Int.{to_z-of_z}
use Rattle.typing_constants.proofs.Wholes.{whole_quotient, wrapped_quotient}
use Rattle.typing_constants.proofs.operator.quotient_by_nonzero.Goals as goal

pub returns : goal.returns
returns c =
    let fits_a = c.ranges.a in
    let fits_b = c.ranges.b in
    let fits : FitsSigned w128 c.wrapping_div.result = search rules in
    c.in_kind.ensures (int_div c.args.a c.args.b)
    (whole_quotient c.checked_div.result c.args.a c.args.b c.ranges.b c.requires (simp to_z-of_z at c.checked_div.ensures))
    (to_z-of_z w128 c.wrapping_div.result fits ∙ (simp to_z-of_z at c.wrapping_div.ensures) ∙ wrapped_quotient c.args.a c.args.b c.ranges.a)
