use Rattle.step_meaning.proofs.FirstSteps.{same_first}
use Rattle.step_meaning.proofs.laws.same_first_steps.Goals as goal

pub returns : goal.returns
returns c = same_first
