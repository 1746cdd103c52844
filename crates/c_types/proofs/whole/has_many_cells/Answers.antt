use Rattle.std.proofs.Common.{◌-◌, sum_by, ap, ◌∙◌}
use Rattle.step_meaning.specs.TypeRules.{cells}
use Rattle.typing_rules.specs.Programs.{file_cells}
use Rattle.typing_scopes.specs.Known.{program}
use Rattle.c_types.proofs.EndLaws.{room_left}
use Rattle.c_types.proofs.whole.has_many_cells.Goals as goal

pub returns : goal.returns
returns c = room_left (file_cells (program c.args.known.now)) c.room_beside.result (c.room_beside.ensures ∙ ap (λ ls. 16777217 - sum_by (λ d. cells ls d.ctype) c.as_slice-2.result.now) c.as_slice.ensures ∙ ap (λ ds. 16777217 - sum_by (λ d. cells c.args.known.now.layouts d.ctype) ds) c.as_slice-2.ensures)
