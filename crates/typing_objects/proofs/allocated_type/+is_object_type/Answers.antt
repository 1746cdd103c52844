use Rattle.std.proofs.Common.{sym, ap, ◌∙◌}
use Rattle.step_meaning.specs.TypeRules.{is_object_type}
use Rattle.typing_objects.specs.Parts.{behind_pointer}
use Rattle.typing_objects.proofs.ObjectTypes.{object-Pointer}
use Rattle.typing_objects.proofs.allocated_type.+is_object_type.Goals as goal

pub returns-in-Pointer : goal.returns-in-Pointer
returns-in-Pointer t c =
    let ls = c.args.layouts.now in
    let k = c.args.declared in
    let to = c.in-Pointer.to in
    c.behind_pointer.ensures
    ∙ (ap (λ b. behind_pointer k b c.get-in-Pointer.result.now) (c.is_object_type-otherwise.ensures ∙ ap (is_object_type ls k) c.get.ensures)
    ∙ (ap (behind_pointer k (is_object_type ls k to)) c.get-in-Pointer.ensures
    ∙ sym (ap (is_object_type ls k) c.in-Pointer.is ∙ object-Pointer ls k to)))
