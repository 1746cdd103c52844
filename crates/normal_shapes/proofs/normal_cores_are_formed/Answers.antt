use Rattle.normal_shapes.proofs.GoodPrograms.{normal_formed}
use Rattle.normal_shapes.proofs.normal_cores_are_formed.Goals as goal

pub returns : goal.returns
returns c = normal_formed
