use Rattle.weaver_laws.proofs.JoinedFormed.{woven_forms}
use Rattle.weaver_laws.proofs.woven_cores_are_formed.Goals as goal

pub returns : goal.returns
returns c = woven_forms
