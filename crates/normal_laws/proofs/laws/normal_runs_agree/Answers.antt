use Rattle.normal_laws.proofs.ProgramsAgree.{same_runs}
use Rattle.normal_laws.proofs.laws.normal_runs_agree.Goals as goal

pub returns : goal.returns
returns c = same_runs
