use Rattle.std.proofs.Common.{ap, ◌∙◌}
use Rattle.typing_rules.specs.Environment.{contains}
use Rattle.typing_rules.specs.FileScope.{tags}
use Rattle.typing_scopes.specs.Known.{program}
use Rattle.typing_structs.proofs.StructLaws.{tag_new}
use Rattle.typing_structs.proofs.structure.begin.Goals as goal

pub open_struct-requires : goal.open_struct-requires
open_struct-requires c =
    let p = program c.args.known.now in
    ap (λ ts. contains ts c.bytes-bytes.result.now) c.requires.tags ∙ ap (contains (tags p)) c.bytes-bytes.ensures ∙ tag_new p c.args.tag.now c.in_ok-tag_declarable.ensures
