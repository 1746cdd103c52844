use Rattle.std.proofs.Common.{sym, ap, ◌∙◌}
use Rattle.step_meaning.specs.ExpressionTypes.{pointer_to}
use Rattle.typing_rules.specs.Assignments.{decayed}
use Rattle.typing_rules.specs.Judgements.{shape}
use Rattle.typing_objects.proofs.Objects.{decayed-Array}
use Rattle.typing_objects.proofs.assignment.decayed_shape.Goals as goal

pub returns-in-Array : goal.returns-in-Array
returns-in-Array c = c.shape_behind.ensures ∙ (ap (λ u. shape (pointer_to u)) c.get.ensures ∙ sym (ap (λ u. shape (decayed u)) c.in-Array.is ∙ ap shape (decayed-Array c.in-Array.element c.in-Array.field-1)))
