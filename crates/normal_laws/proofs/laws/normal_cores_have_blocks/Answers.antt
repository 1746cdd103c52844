use Rattle.normal_laws.proofs.Shape.{normal_blocks}
use Rattle.normal_laws.proofs.laws.normal_cores_have_blocks.Goals as goal

pub returns : goal.returns
returns c = normal_blocks
