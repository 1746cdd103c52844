use Rattle.std.proofs.Common.{sym, ap, ◌∙◌}
use Rattle.normal_laws.specs.NormalForm as form
use Rattle.normal_trees.proofs.TypeParts.{element_Array}
use Rattle.normal_trees.proofs.types.element_by.Goals as goal

pub returns-in-Array : goal.returns-in-Array
returns-in-Array c = c.get.ensures ∙ sym (element_Array c.in-Array.inner c.in-Array.field-1) ∙ ap form.element_of (sym c.in-Array.is)
