use Rattle.std.proofs.Common.{◌+◌, ◌*◌}
use Rattle.c_declarations.proofs.declarator.+declarator.Given as goal

abbrev pub decreases-measured : goal.decreases-measured
decreases-measured l = 4 * l.depth

abbrev pub decreases-direct : goal.decreases-direct
decreases-direct l = 4 * l.inside + 3

abbrev pub decreases-core : goal.decreases-core
decreases-core l = 4 * l.inside + 2

abbrev pub decreases-parenthesized : goal.decreases-parenthesized
decreases-parenthesized l = 4 * l.inside + 1
