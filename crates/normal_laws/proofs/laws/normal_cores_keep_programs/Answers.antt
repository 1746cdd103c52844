use Rattle.normal_laws.proofs.Shape.{normal_keeps}
use Rattle.normal_laws.proofs.laws.normal_cores_keep_programs.Goals as goal

pub returns : goal.returns
returns c = normal_keeps
