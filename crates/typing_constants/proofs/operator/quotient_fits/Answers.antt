use Rattle.std.proofs.Common.{sym, ◌∙◌}
use Rattle.std.specs.Prelude.{int_div}
use Rattle.std.proofs.lemmas.Int.{to_z-of_z}
use Rattle.step_meaning.specs.Numbers.{is_in_range}
use Rattle.typing_constants.proofs.Wholes.{whole_quotient, none_where, some_where}
use Rattle.typing_constants.proofs.operator.quotient_fits.Goals as goal

pub returns-in-None : goal.returns-in-None
returns-in-None c =
    let fits_a = c.ranges.a in
    let fits_b = c.ranges.b in
    let whole = whole_quotient c.checked_div.result c.args.a c.args.b c.ranges.b c.requires (simp to_z-of_z at c.checked_div.ensures) in
    none_where (is_in_range c.args.kind (int_div c.args.a c.args.b)) (int_div c.args.a c.args.b) (sym c.in-None.is ∙ c.fitting.ensures (int_div c.args.a c.args.b) whole)

pub returns-in-Some : goal.returns-in-Some
returns-in-Some c =
    let fits_a = c.ranges.a in
    let fits_b = c.ranges.b in
    let whole = whole_quotient c.checked_div.result c.args.a c.args.b c.ranges.b c.requires (simp to_z-of_z at c.checked_div.ensures) in
    some_where (is_in_range c.args.kind (int_div c.args.a c.args.b)) c.in-Some.field-0 (int_div c.args.a c.args.b) (sym c.in-Some.is ∙ c.fitting.ensures (int_div c.args.a c.args.b) whole)
