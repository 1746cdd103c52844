use Rattle.std.proofs.Common.{[], ap}
use Rattle.typing_rules.specs.Structs.{all_members}
use Rattle.typing_files.proofs.Outcomes.{gives_by}
use Rattle.typing_structs.specs.Members.{members_in}
use Rattle.typing_structs.proofs.StructLaws.{sees_struct, small_within, cells_within}
use Rattle.typing_structs.proofs.structure.members_within.Goals as goal

pub all_members-requires-clause-small : goal.all_members-requires-clause-small
all_members-requires-clause-small c = small_within c.args.known.now c.args.tag.now c.requires

pub all_members-requires-clause-structs : goal.all_members-requires-clause-structs
all_members-requires-clause-structs c = cells_within c.args.known.now c.args.tag.now c.requires

pub returns : goal.returns
returns c = gives_by _ _ c.all_members.result (ap (λ g. all_members g [] (members_in c.args.trees.now)) (sees_struct c.args.known.now c.args.tag.now c.requires)) c.all_members.ensures
