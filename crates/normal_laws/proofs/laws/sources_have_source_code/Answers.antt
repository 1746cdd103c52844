use Rattle.normal_laws.proofs.SourceCores.{source_core}
use Rattle.normal_laws.proofs.laws.sources_have_source_code.Goals as goal

pub returns : goal.returns
returns c = source_core
