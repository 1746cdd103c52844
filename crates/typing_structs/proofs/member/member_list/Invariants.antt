use Rattle.std.proofs.Common.{◌≡◌, map, drop}
use Rattle.typing_rules.specs.Structs.{member, member_list}
use Rattle.typing_rules.specs.TreesOfDeclarations.{declarator}
use Rattle.typing_scopes.specs.Known.{known as seen}
use Rattle.typing_files.specs.Runs.{run}
use Rattle.typing_structs.specs.Members.{declarators_in}
use Rattle.typing_structs.proofs.member.member_list.Given as goal

abbrev pub invariant-loop-link : goal.invariant-loop-link
invariant-loop-link l = member_list (seen l.fn.known) l.fn.base l.fn.members (declarators_in l.fn.trees) ≡ run (λ d ms. member (seen l.fn.known) l.fn.base ms d) (map (λ x. declarator x.operand) (drop l.link-index l.fn.trees.rest)) l.members
