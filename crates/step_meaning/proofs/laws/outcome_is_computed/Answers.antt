use Rattle.step_meaning.proofs.Outcomes.{outcome_computed}
use Rattle.step_meaning.proofs.laws.outcome_is_computed.Goals as goal

pub returns : goal.returns
returns c = outcome_computed
