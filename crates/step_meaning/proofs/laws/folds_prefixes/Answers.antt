use Rattle.step_meaning.proofs.FoldPrefixes.{folds_prefixes}
use Rattle.step_meaning.proofs.laws.folds_prefixes.Goals as goal

pub returns : goal.returns
returns c = folds_prefixes
