use Rattle.typing_files.proofs.Outcomes.{on_ok}
use Rattle.typing_files.proofs.Variables.{values_at}
use Rattle.typing_files.proofs.variable.add_values.Goals as goal

pub returns-clause-at : goal.returns-clause-at
returns-clause-at c = on_ok c.add_values.result c.add_values.ensures.added (λ e. values_at c.args.known.now c.add_values.new.self c.args.values e c.requires)
