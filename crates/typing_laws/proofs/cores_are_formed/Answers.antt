use Rattle.typing_laws.proofs.FormedCores.{cores_formed}
use Rattle.typing_laws.proofs.cores_are_formed.Goals as goal

pub returns : goal.returns
returns c = cores_formed
