use Rattle.step_meaning.proofs.TracedSights.{traced_sights_typed}
use Rattle.step_meaning.proofs.laws.traced_sights_typed.Goals as goal

pub returns : goal.returns
returns c = traced_sights_typed
