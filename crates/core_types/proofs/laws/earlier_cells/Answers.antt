use Rattle.core_types.proofs.laws.earlier_cells.Goals as goal
use Rattle.core_types.proofs.MemberLaws.{earlier}

pub returns : goal.returns
returns c = earlier
