use Rattle.run_check.proofs.SourceLaws.{sources_run}
use Rattle.run_check.proofs.laws.sources_run.Goals as goal

pub returns : goal.returns
returns c = sources_run
