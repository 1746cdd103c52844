use Rattle.core_types.proofs.laws.same_types.Goals as goal
use Rattle.core_types.proofs.MemberLaws.{same_types_equal}

pub returns : goal.returns
returns c = same_types_equal
