use Rattle.std.proofs.Common.{sym}
use Rattle.typing_declarators.proofs.LayerLaws.{same_Ok}
use Rattle.typing_files.proofs.Outcomes.{on_ok}
use Rattle.typing_files.proofs.Variables.{variable_at}
use Rattle.typing_files.proofs.variable.add_variable.Goals as goal

pub returns-clause-at : goal.returns-clause-at
returns-clause-at c =
    on_ok c.add_global.result c.add_global.ensures.added (λ e.
    variable_at c.args.known.now c.add_global.new.self c.args.name.now c.bytes-bytes.result.now c.args.t.now c.in_ok-t.t e c.bytes-bytes.ensures (sym (same_Ok c.args.t.now c.in_ok-t.t c.in_ok-t.ensures)) c.requires.may c.requires.at)
