use Rattle.std.proofs.Common.{◌≡◌, ◌+◌, ◌*◌, map, take, Ok}
use Rattle.std.specs.Prelude.{flat_map}
use Rattle.step_meaning.specs.TermSizes.{type_depth}
use Rattle.step_meaning.specs.Types.{object_cells, times}
use Rattle.core_types.specs.Counts.{depths, bulk}
use Rattle.typing_declarators.specs.Adding.{extended}
use Rattle.typing_initialisers.proofs.zeros.+zeros.Given as goal

abbrev pub decreases-push_zeros : goal.decreases-push_zeros
decreases-push_zeros g l = 3 * (type_depth l.t.now + bulk l.layouts.now)

abbrev pub decreases-push_elements : goal.decreases-push_elements
decreases-push_elements g l = 3 * (type_depth l.of.now + bulk l.layouts.now) + 1

abbrev pub decreases-push_struct : goal.decreases-push_struct
decreases-push_struct g l = 3 * bulk l.layouts.now + 2

abbrev pub decreases-push_members : goal.decreases-push_members
decreases-push_members g l = 3 * (depths l.members.now + bulk l.before.now) + 1

abbrev pub invariant-push_elements-loop : goal.invariant-push_elements-loop
invariant-push_elements-loop g l = extended l.fn.cells.items (Ok (map (g.K.Filling.filled l.kind) (times l.counter (object_cells l.layouts l.of)))) ≡ Ok l.cells.items

abbrev pub invariant-push_members-loop-index : goal.invariant-push_members-loop-index
invariant-push_members-loop-index g l = extended l.fn.cells.items (Ok (map (g.K.Filling.filled l.kind) (flat_map (λ d. object_cells l.before d.ctype) (take l.index l.members)))) ≡ Ok l.cells.items
