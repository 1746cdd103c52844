use Rattle.step_meaning.proofs.TracedRuns.{well_formed_traced}
use Rattle.step_meaning.proofs.laws.runs_are_traced.Goals as goal

pub returns : goal.returns
returns c = well_formed_traced
