use Rattle.typing_laws.proofs.SmallPrograms.{programs_small}
use Rattle.typing_laws.proofs.programs_are_small.Goals as goal

pub returns : goal.returns
returns c = programs_small
