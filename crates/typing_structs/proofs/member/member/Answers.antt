use Rattle.std.proofs.Common.{◌≡◌, false, Ok, ap, ◌∙◌}
use Rattle.typing_rules.specs.Environment.{bytes_in}
use Rattle.typing_rules.specs.Structs.{has_member, member as member_rule}
use Rattle.typing_rules.specs.TreesOfDeclarations.{declarator}
use Rattle.typing_laws.proofs.CheckedValues.{where_ok}
use Rattle.typing_scopes.specs.Known.{known as seen}
use Rattle.typing_files.proofs.Outcomes.{broken, goes_on}
use Rattle.typing_structs.specs.Members.{member_type, with_member}
use Rattle.typing_structs.proofs.MemberLaws.{member_by, member_new}
use Rattle.typing_structs.proofs.member.member.Goals as goal

pub push_member-requires : goal.push_member-requires
push_member-requires c =
    let g = seen c.args.known.now in
    let d = declarator c.args.tree.now in
    let base = c.args.base.now in
    let ms = c.args.members.now in
    ap (λ n. has_member g ms (bytes_in g n)) c.declared_name.ensures ∙ where_ok (λ t. has_member g ms (bytes_in g d.name) ≡ false) (member_type g base ms d) c.in_ok-t.t c.in_ok-t.ensures (member_new g base ms d)

pub returns-in_err-t : goal.returns-in_err-t
returns-in_err-t c =
    let g = seen c.args.known.now in
    let d = declarator c.args.tree.now in
    let base = c.args.base.now in
    let ms = c.args.members.now in
    broken (member_rule g base ms d) (member_type g base ms d) (λ t. Ok (with_member g d.name t ms)) c.from_residual.result c.in_err-t.field-0.0 ms (member_by g base ms d) c.in_err-t.ensures c.from_residual.ensures.1

pub returns : goal.returns
returns c =
    let g = seen c.args.known.now in
    let d = declarator c.args.tree.now in
    let base = c.args.base.now in
    let ms = c.args.members.now in
    goes_on (member_rule g base ms d) (member_type g base ms d) (λ t. Ok (with_member g d.name t ms)) c.in_ok-t.t c.push_member.result c.push_member.new.members (member_by g base ms d) c.in_ok-t.ensures
    (rw c.declared_name.ensures at c.push_member.ensures)
