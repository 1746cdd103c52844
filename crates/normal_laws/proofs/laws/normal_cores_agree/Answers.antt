use Rattle.normal_laws.proofs.ProgramsAgree.{normal_agrees}
use Rattle.normal_laws.proofs.laws.normal_cores_agree.Goals as goal

pub returns : goal.returns
returns c = normal_agrees
