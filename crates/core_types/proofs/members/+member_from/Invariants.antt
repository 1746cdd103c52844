use Rattle.std.proofs.Common.{length}
use Rattle.core_types.proofs.members.+member_from.Given as goal

abbrev pub decreases-member_from : goal.decreases-member_from
decreases-member_from l = length l.members.now
