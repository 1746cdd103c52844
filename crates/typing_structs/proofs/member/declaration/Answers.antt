use Rattle.std.proofs.Common.{◌≡◌, true}
use Rattle.typing_rules.specs.Environment.{specified}
use Rattle.typing_rules.specs.Structs.{member_list as member_list_rule}
use Rattle.typing_rules.specs.TreesOfDeclarations.{members as members_tree}
use Rattle.typing_laws.proofs.CheckedValues.{where_ok}
use Rattle.typing_declarators.specs.Types.{is_specified}
use Rattle.typing_scopes.specs.Known.{known as seen}
use Rattle.typing_files.proofs.Outcomes.{broken, goes_on}
use Rattle.typing_files.proofs.Variables.{specified_is}
use Rattle.typing_structs.specs.Members.{declaration as declaration_rule, declarators_in}
use Rattle.typing_structs.proofs.MemberLaws.{declaration_by}
use Rattle.typing_structs.proofs.member.declaration.Goals as goal

pub returns-in_err-base : goal.returns-in_err-base
returns-in_err-base c =
    let g = seen c.args.known.now in
    let tree = c.args.tree.now in
    let ms = c.args.members.now in
    broken (declaration_rule g ms (members_tree tree)) (specified g tree.base.specifier) (λ base. member_list_rule g base ms (declarators_in tree.declarators)) c.from_residual.result c.in_err-base.field-0.0 ms (declaration_by g tree ms) c.in_err-base.ensures c.from_residual.ensures.1

pub returns : goal.returns
returns c =
    let g = seen c.args.known.now in
    let tree = c.args.tree.now in
    let ms = c.args.members.now in
    goes_on (declaration_rule g ms (members_tree tree)) (specified g tree.base.specifier) (λ base. member_list_rule g base ms (declarators_in tree.declarators)) c.in_ok-base.base c.member_list.result c.member_list.new.members (declaration_by g tree ms) c.in_ok-base.ensures
    (rw c.get.ensures at c.member_list.ensures)

pub member_list-requires-clause-base : goal.member_list-requires-clause-base
member_list-requires-clause-base c = rw c.get.ensures (where_ok (λ t. is_specified t ≡ true) (specified (seen c.args.known.now) c.args.tree.now.base.specifier) c.in_ok-base.base c.in_ok-base.ensures (specified_is (seen c.args.known.now) c.args.tree.now.base.specifier))
