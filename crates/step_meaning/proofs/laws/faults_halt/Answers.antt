use Rattle.step_meaning.proofs.TypedRuns.{well_formed_faults_halt}
use Rattle.step_meaning.proofs.laws.faults_halt.Goals as goal

pub returns : goal.returns
returns c = well_formed_faults_halt
