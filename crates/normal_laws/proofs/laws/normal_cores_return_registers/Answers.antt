use Rattle.normal_laws.proofs.Shape.{normal_returns}
use Rattle.normal_laws.proofs.laws.normal_cores_return_registers.Goals as goal

pub returns : goal.returns
returns c = normal_returns
