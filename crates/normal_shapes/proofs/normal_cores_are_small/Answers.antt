use Rattle.normal_shapes.proofs.SmallPrograms.{normal_small}
use Rattle.normal_shapes.proofs.normal_cores_are_small.Goals as goal

pub returns : goal.returns
returns c = normal_small
