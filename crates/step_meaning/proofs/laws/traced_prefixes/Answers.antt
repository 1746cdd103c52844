use Rattle.step_meaning.proofs.TracedPrefixes.{traced_prefixes}
use Rattle.step_meaning.proofs.laws.traced_prefixes.Goals as goal

pub returns : goal.returns
returns c = traced_prefixes
