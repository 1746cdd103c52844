use Rattle.std.proofs.Common.{◌+◌, ◌*◌}
use Rattle.step_meaning.specs.TermSizes.{type_depth}
use Rattle.core_types.specs.Counts.{depths, bulk}
use Rattle.core_types.proofs.sizes.+size.Given as goal

abbrev pub decreases-cells : goal.decreases-cells
decreases-cells l = 3 * (type_depth l.ctype.now + bulk l.layouts.now)

abbrev pub decreases-struct_size : goal.decreases-struct_size
decreases-struct_size l = 3 * bulk l.layouts.now + 2

abbrev pub decreases-members_size : goal.decreases-members_size
decreases-members_size l = 3 * (depths l.members.now + bulk l.before.now) + 1
