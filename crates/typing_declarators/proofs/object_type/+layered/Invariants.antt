use Rattle.std.proofs.Common.{length}
use Rattle.typing_declarators.proofs.object_type.+layered.Given as goal

abbrev pub decreases-layered : goal.decreases-layered
decreases-layered l = length l.layers.now
