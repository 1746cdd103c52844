use Rattle.weaver_laws.proofs.KeptDeclarations.{woven_keeps}
use Rattle.weaver_laws.proofs.woven_cores_keep_declarations.Goals as goal

pub returns : goal.returns
returns c = woven_keeps
