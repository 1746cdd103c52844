use Rattle.core_types.proofs.laws.member_types.Goals as goal
use Rattle.core_types.proofs.MemberLaws.{members}

pub returns : goal.returns
returns c = members
