use Rattle.std.proofs.Common.{rules, Some, sym, ap, ◌∙◌}
use Rattle.std.specs.Prelude.{FitsSigned}
use Rattle.std.specs.Int.{w128}
use Rattle.std.proofs.lemmas.Int.{to_z-of_z}
use Rattle.step_meaning.specs.Numbers.{converted}
use Rattle.typing_constants.proofs.Wholes.{unsigned_in_kind}
use Rattle.typing_constants.proofs.operator.in_kind.Goals as goal

pub returns-else-is_signed : goal.returns-else-is_signed
returns-else-is_signed c = λ z whole low.
    let fits : FitsSigned w128 c.convert.result = search rules in
    ap Some (to_z-of_z w128 c.convert.result fits ∙ c.convert.ensures ∙ ap (converted c.args.kind) (to_z-of_z w128 c.args.low c.ranges.low))
    ∙ unsigned_in_kind c.args.kind c.args.low z (sym c.is_signed.ensures ∙ c.if-is_signed.false) low
