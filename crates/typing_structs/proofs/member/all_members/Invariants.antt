use Rattle.std.proofs.Common.{◌≡◌, [], map, drop}
use Rattle.typing_rules.specs.Structs.{all_members}
use Rattle.typing_rules.specs.TreesOfDeclarations.{members}
use Rattle.typing_scopes.specs.Known.{known as seen}
use Rattle.typing_files.specs.Runs.{run}
use Rattle.typing_structs.specs.Members.{declaration, members_in}
use Rattle.typing_structs.proofs.member.all_members.Given as goal

abbrev pub invariant-loop-tree : goal.invariant-loop-tree
invariant-loop-tree l = all_members (seen l.fn.known) [] (members_in l.fn.trees) ≡ run (λ x ms. declaration (seen l.fn.known) ms x) (map members (drop l.tree-index l.fn.trees)) l.members
