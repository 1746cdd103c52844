use Rattle.std.proofs.Common.{◌≡◌, ℕ, ◌+◌, ◌*◌, drop}
use Rattle.std.specs.Prelude.{flat_map}
use Rattle.step_meaning.specs.Types.{object_cells, times}
use Rattle.step_meaning.specs.TermSizes.{type_depth}
use Rattle.core_types.specs.Counts.{depths, bulk}
use Rattle.acsl_truth.specs.Accesses.{past}
use Rattle.acsl_truth.proofs.objects.+walk.Given as goal

abbrev pub decreases-past_object : goal.decreases-past_object
decreases-past_object g l = 3 * (type_depth l.ctype.now + bulk l.layouts.now)

abbrev pub decreases-past_elements : goal.decreases-past_elements
decreases-past_elements g l = 3 * (type_depth l.of.now + bulk l.layouts.now) + 1

abbrev pub decreases-past_struct : goal.decreases-past_struct
decreases-past_struct g l = 3 * bulk l.layouts.now + 2

abbrev pub decreases-past_members : goal.decreases-past_members
decreases-past_members g l = 3 * (depths l.members.now + bulk l.before.now) + 1

abbrev pub invariant-past_elements-loop : goal.invariant-past_elements-loop
invariant-past_elements-loop g l =
    let s = g.V.View.sight l.view in
    (left : ℕ) → l.counter + left ≡ l.count
    → past s l.name l.fn.at (times l.count (object_cells l.layouts l.of)) ≡ past s l.name l.at (times left (object_cells l.layouts l.of))

abbrev pub invariant-past_members-loop-index : goal.invariant-past_members-loop-index
invariant-past_members-loop-index g l =
    let s = g.V.View.sight l.view in
    past s l.name l.fn.at (flat_map (λ d. object_cells l.before d.ctype) l.members) ≡ past s l.name l.at (flat_map (λ d. object_cells l.before d.ctype) (drop l.index l.members))
