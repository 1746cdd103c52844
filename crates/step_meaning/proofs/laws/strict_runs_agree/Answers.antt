use Rattle.step_meaning.proofs.StrictRuns.{strict_runs_agree}
use Rattle.step_meaning.proofs.laws.strict_runs_agree.Goals as goal

pub returns : goal.returns
returns c = strict_runs_agree
