use Rattle.typing_rules.specs.FileScope.{variable as variable_rule}
use Rattle.typing_rules.specs.TreesOfDeclarations.{declared}
use Rattle.typing_scopes.specs.Known.{program}
use Rattle.typing_files.specs.Variables.{variable_type, variable_of}
use Rattle.typing_files.proofs.Outcomes.{broken, goes_on}
use Rattle.typing_files.proofs.Variables.{variable_by}
use Rattle.typing_files.proofs.variable.variable.Goals as goal

pub returns-in_err-t-clause-becomes : goal.returns-in_err-t-clause-becomes
returns-in_err-t-clause-becomes c =
    let d = declared c.args.tree.now in
    let p = program c.args.known.now in
    let base = c.args.base.now in
    broken (variable_rule base d p) (variable_type p base d) (λ t. variable_of d t p) c.from_residual.result c.in_err-t.field-0.0 p (variable_by base d p) c.in_err-t.ensures.gives c.from_residual.ensures.1

pub returns-clause-becomes : goal.returns-clause-becomes
returns-clause-becomes c =
    let d = declared c.args.tree.now in
    let p = program c.args.known.now in
    let base = c.args.base.now in
    goes_on (variable_rule base d p) (variable_type p base d) (λ t. variable_of d t p) c.in_ok-t.t c.variable_of.result (program c.variable_of.new.known) (variable_by base d p) c.in_ok-t.ensures.gives c.variable_of.ensures.becomes
