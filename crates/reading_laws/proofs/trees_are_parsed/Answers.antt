use Rattle.reading_laws.proofs.Trees.{trees_are_parsed as law}
use Rattle.reading_laws.proofs.trees_are_parsed.Goals as goal

pub returns : goal.returns
returns c = law
