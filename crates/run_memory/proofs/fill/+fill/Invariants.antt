use Rattle.std.proofs.Common.{◌≡◌, ◌+◌, ◌*◌, length, take}
use Rattle.std.specs.Prelude.{flat_map}
use Rattle.step_meaning.specs.TermSizes.{type_depth}
use Rattle.step_meaning.specs.Types.{object_cells, times}
use Rattle.step_meaning.specs.Memory.{unset_cells}
use Rattle.core_types.specs.Counts.{depths, bulk}
use Rattle.run_memory.specs.Cells.{seen}
use Rattle.run_memory.specs.Filling.{written_from}
use Rattle.run_memory.proofs.fill.+fill.Given as goal

abbrev pub decreases-fill_object : goal.decreases-fill_object
decreases-fill_object l = 4 * (type_depth l.ctype.now + bulk l.layouts.now)

abbrev pub decreases-fill_array : goal.decreases-fill_array
decreases-fill_array l = 4 * (type_depth l.of.now + bulk l.layouts.now) + 1

abbrev pub decreases-fill_struct : goal.decreases-fill_struct
decreases-fill_struct l = 4 * bulk l.layouts.now + 3

abbrev pub decreases-fill_members : goal.decreases-fill_members
decreases-fill_members l = 4 * (depths l.members.now + bulk l.before.now) + 2

abbrev pub invariant-fill_array-loop-i : goal.invariant-fill_array-loop-i
invariant-fill_array-loop-i l =
    (l.offset ≡ l.at.offset + l.i * length (object_cells l.layouts l.of))
    × (seen l.pool ≡ written_from (seen l.initial.pool) l.at.slot l.at.name l.at.offset (unset_cells (times l.i (object_cells l.layouts l.of))))

abbrev pub invariant-fill_members-loop-member : goal.invariant-fill_members-loop-member
invariant-fill_members-loop-member l =
    (l.offset ≡ l.at.offset + length (flat_map (λ d. object_cells l.before d.ctype) (take l.member-index l.members)))
    × (seen l.pool ≡ written_from (seen l.initial.pool) l.at.slot l.at.name l.at.offset (unset_cells (flat_map (λ d. object_cells l.before d.ctype) (take l.member-index l.members))))
