use Rattle.step_meaning.proofs.Flows.{run_logged}
use Rattle.step_meaning.proofs.laws.flows_agree.Goals as goal

pub returns : goal.returns
returns c = run_logged
