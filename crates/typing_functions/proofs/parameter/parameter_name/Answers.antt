use Rattle.std.proofs.Common.{ap, ◌∙◌}
use Rattle.typing_rules.specs.Environment.{is_reserved}
use Rattle.typing_rules.specs.Functions.{is_repeated}
use Rattle.typing_rules.specs.TreesOfDeclarations.{parameter}
use Rattle.typing_scopes.specs.Known.{known as seen, program}
use Rattle.typing_functions.proofs.ParameterScopes.{block_has}
use Rattle.typing_functions.proofs.ParameterTypes.{same_name}
use Rattle.typing_functions.proofs.parameter.parameter_name.Goals as goal

pub returns : goal.returns
returns c =
    let k = c.args.known.now in
    let again = c.is_in_block.ensures ∙ block_has k c.requires c.name_of-bytes.result.now ∙ ap (is_repeated k.locals) c.name_of-bytes.ensures in
    let reserved = c.is_reserved.ensures ∙ ap (is_reserved (seen k)) c.name_of-bytes.ensures in
    same_name (program k) k.locals (parameter c.args.tree.now) c.parameter_place.result c.is_in_block.result c.is_reserved.result c.parameter_place.ensures again reserved
