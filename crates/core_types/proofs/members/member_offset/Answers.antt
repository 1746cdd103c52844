use Rattle.std.proofs.Common.{subst, take}
use Rattle.std.proofs.lemmas.List.Concat.{length-flat_map}
use Rattle.step_meaning.specs.Types.{object_cells}
use Rattle.core_types.specs.Counts.{Counts}
use Rattle.core_types.proofs.members.member_offset.Goals as goal

pub returns : goal.returns
returns c = subst (λ n. Counts n c.members_size.result) (length-flat_map (λ d. object_cells c.args.layouts.now d.ctype) (take c.args.index c.args.members.now)) c.members_size.ensures
