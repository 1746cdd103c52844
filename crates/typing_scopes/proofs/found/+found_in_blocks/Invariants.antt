use Rattle.std.proofs.Common.{length}
use Rattle.typing_scopes.proofs.found.+found_in_blocks.Given as goal

abbrev pub decreases-found_in_blocks : goal.decreases-found_in_blocks
decreases-found_in_blocks l = length l.blocks.now
