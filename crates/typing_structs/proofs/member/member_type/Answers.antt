use Rattle.std.proofs.Common.{ap, ◌∙◌}
use Rattle.typing_rules.specs.TreesOfDeclarations.{declarator}
use Rattle.typing_declarators.specs.Names.{declared_type}
use Rattle.typing_scopes.specs.Known.{known as seen}
use Rattle.typing_files.proofs.Outcomes.{gives_by}
use Rattle.typing_structs.specs.Members.{member_name, member_type}
use Rattle.typing_structs.proofs.member.member_type.Goals as goal

pub returns : goal.returns
unfolding member_type
returns c =
    let g = seen c.args.known.now in
    let named = c.member_name-name.ensures ∙ ap (member_name g c.args.members.now) c.declared_name.ensures in
    gives_by _ _ c.declared_type.result (ap (λ n. declared_type g n 1 (declarator c.args.tree.now).modifiers c.args.base.now) named) c.declared_type.ensures
