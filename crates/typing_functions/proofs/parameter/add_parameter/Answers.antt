use Rattle.std.proofs.Common.{ap, ◌∙◌}
use Rattle.typing_rules.specs.Functions.{is_repeated}
use Rattle.typing_files.proofs.Outcomes.{on_ok}
use Rattle.typing_functions.proofs.ParameterScopes.{block_has, parameter_at}
use Rattle.typing_functions.proofs.parameter.add_parameter.Goals as goal

pub add_parameter-requires : goal.add_parameter-requires
add_parameter-requires c = block_has c.args.known.now c.requires.at c.name_of-name.result.now ∙ ap (is_repeated c.args.known.now.locals) c.name_of-name.ensures ∙ c.requires.may.new

pub returns-clause-at : goal.returns-clause-at
returns-clause-at c = on_ok c.add_parameter.result c.add_parameter.ensures.added (λ e. parameter_at c.args.known.now c.add_parameter.new.self c.name_of-name.result.now c.args.t e c.requires.may.small c.requires.at)
