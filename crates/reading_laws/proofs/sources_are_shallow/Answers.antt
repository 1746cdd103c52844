use Rattle.reading_laws.proofs.Trees.{sources_are_shallow as law}
use Rattle.reading_laws.proofs.sources_are_shallow.Goals as goal

pub returns : goal.returns
returns c = law
