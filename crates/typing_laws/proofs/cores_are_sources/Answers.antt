use Rattle.typing_laws.proofs.SourceCores.{cores_are_sources}
use Rattle.typing_laws.proofs.cores_are_sources.Goals as goal

pub returns : goal.returns
returns c = cores_are_sources
