use Rattle.std.proofs.Common.{◌≡◌, ◌==◌, Some, true, false, sym, ap, ◌∙◌}
use Rattle.step_meaning.specs.TypeRules.{cells, element_type}
use Rattle.core_types.proofs.members.element_type.Goals as goal
use Rattle.core_types.proofs.MemberSteps.{element_is}

pub returns-then-is_at : goal.returns-then-is_at
returns-then-is_at c =
    let ls = c.args.layouts.now in
    let tested : (cells ls c.in-Array.of == c.args.size) ≡ true = ap (λ u. cells ls u == c.args.size) (sym c.get.ensures) ∙ (sym (c.is_at.ensures (cells ls c.get.result.now) c.cells.ensures) ∙ c.if-is_at.true) in
    ap Some c.get-then-is_at.ensures ∙ sym (ap (λ u. element_type ls u c.args.size) c.in-Array.is ∙ element_is ls c.in-Array.of c.in-Array.field-1 c.args.size true tested)

pub returns-else-is_at : goal.returns-else-is_at
returns-else-is_at c =
    let ls = c.args.layouts.now in
    let tested : (cells ls c.in-Array.of == c.args.size) ≡ false = ap (λ u. cells ls u == c.args.size) (sym c.get.ensures) ∙ (sym (c.is_at.ensures (cells ls c.get.result.now) c.cells.ensures) ∙ c.if-is_at.false) in
    sym (ap (λ u. element_type ls u c.args.size) c.in-Array.is ∙ element_is ls c.in-Array.of c.in-Array.field-1 c.args.size false tested)
