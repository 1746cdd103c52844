use Rattle.std.proofs.Common.{◌≡◌, sym, ap, subst, ◌∙◌}
use Rattle.typing_rules.specs.Checked.{Gives}
use Rattle.typing_rules.specs.Subobjects.{before_index}
use Rattle.typing_objects.specs.Parts.{base_result}
use Rattle.typing_objects.proofs.Objects.{array_base, base-Array}
use Rattle.typing_objects.proofs.subobject.object_before_index.Goals as goal

pub returns-in-Array : goal.returns-in-Array
returns-in-Array c =
    let found : array_base c.args.place c.get-in-Array.result.now ≡ before_index c.args._layouts.now c.args.first c.args.place c.args.ctype =
    ap (array_base c.args.place) c.get-in-Array.ensures
    ∙ sym (ap (before_index c.args._layouts.now c.args.first c.args.place) (sym c.get.ensures ∙ c.in-Array.is) ∙ base-Array c.args._layouts.now c.args.first c.args.place c.in-Array.element c.in-Array.field-1) in
    subst (λ o. Gives o (base_result c.in_array.result)) found c.in_array.ensures
