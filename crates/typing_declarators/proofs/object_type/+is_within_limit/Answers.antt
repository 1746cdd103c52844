use Rattle.std.proofs.Common.{sym, ap, ◌∙◌, ◌&&◌}
use Rattle.std.specs.Prelude.{nat_le}
use Rattle.step_meaning.specs.TypeRules.{cells, most_cells}
use Rattle.step_meaning.specs.declared.value.CType.TheVariants.{Array}
use Rattle.typing_rules.specs.Declarations.{is_within_limit}
use Rattle.typing_declarators.proofs.TypeForms.{limit-Array}
use Rattle.typing_declarators.proofs.object_type.+is_within_limit.Goals as goal

pub returns-then-is_within_limit : goal.returns-then-is_within_limit
returns-then-is_within_limit t c =
    let ls = c.args.layouts.now in
    let inner = ap (is_within_limit ls) (sym c.get-in-Array.ensures) ∙ sym c.is_within_limit-in-Array.ensures ∙ c.if-is_within_limit.true in
    c.is_small.ensures
    ∙ ap (λ u. nat_le (cells ls u) most_cells) c.in-Array.is
    ∙ sym (ap (is_within_limit ls) c.in-Array.is ∙ limit-Array ls c.in-Array.of c.in-Array.field-1 ∙ ap (λ b. b && nat_le (cells ls (Array c.in-Array.of c.in-Array.field-1)) most_cells) inner)
