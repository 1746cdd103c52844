use Rattle.std.proofs.Common.{Ok}
use Rattle.typing_rules.specs.Functions.{parameter as parameter_rule}
use Rattle.typing_rules.specs.TreesOfDeclarations.{parameter as parameter_tree}
use Rattle.typing_laws.proofs.CheckedValues.{where_ok}
use Rattle.typing_scopes.specs.Known.{program}
use Rattle.typing_files.proofs.Outcomes.{broken, goes_on}
use Rattle.typing_functions.specs.Parameters.{whole_type, with_parameter, MayBeParameter}
use Rattle.typing_functions.proofs.ParameterTypes.{parameter_by, parameter_may}
use Rattle.typing_functions.proofs.parameter.parameter.Goals as goal

pub returns-in_err-t-clause-becomes : goal.returns-in_err-t-clause-becomes
returns-in_err-t-clause-becomes c =
    let p = program c.args.known.now in
    let ps = c.args.known.now.locals in
    let x = parameter_tree c.args.tree.now in
    broken (parameter_rule p c.args.allocation ps x) (whole_type p c.args.allocation ps x) (λ t. Ok (with_parameter p x t ps)) c.from_residual.result c.in_err-t.field-0.0 ps (parameter_by p c.args.allocation ps x) c.in_err-t.ensures c.from_residual.ensures.1

pub add_parameter-requires-clause-may : goal.add_parameter-requires-clause-may
add_parameter-requires-clause-may c =
    let p = program c.args.known.now in
    let ps = c.args.known.now.locals in
    let x = parameter_tree c.args.tree.now in
    where_ok (MayBeParameter p ps x) (whole_type p c.args.allocation ps x) c.in_ok-t.t c.in_ok-t.ensures (parameter_may p c.args.allocation ps x)

pub returns-clause-becomes : goal.returns-clause-becomes
returns-clause-becomes c =
    let p = program c.args.known.now in
    let ps = c.args.known.now.locals in
    let x = parameter_tree c.args.tree.now in
    goes_on (parameter_rule p c.args.allocation ps x) (whole_type p c.args.allocation ps x) (λ t. Ok (with_parameter p x t ps)) c.in_ok-t.t c.add_parameter.result c.add_parameter.new.known.locals (parameter_by p c.args.allocation ps x) c.in_ok-t.ensures c.add_parameter.ensures.becomes
