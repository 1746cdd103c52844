use Rattle.weaver_laws.proofs.JoinedFormed.{woven_prints}
use Rattle.weaver_laws.proofs.woven_cores_are_printable.Goals as goal

pub returns : goal.returns
returns c = woven_prints
