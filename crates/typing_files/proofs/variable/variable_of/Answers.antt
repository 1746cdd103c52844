use Rattle.std.proofs.Common.{Ok, ap, ◌∙◌}
use Rattle.typing_rules.specs.FileScope.{first_values, with_variable, with_values, bytes}
use Rattle.typing_rules.specs.TreesOfDeclarations.{declared}
use Rattle.typing_scopes.specs.Known.{program}
use Rattle.typing_files.specs.Variables.{variable_of}
use Rattle.typing_files.proofs.Outcomes.{broken, goes_on, updated}
use Rattle.typing_files.proofs.Variables.{variable_of_by}
use Rattle.typing_files.proofs.variable.variable_of.Goals as goal

pub returns-in_err-values-clause-becomes : goal.returns-in_err-values-clause-becomes
returns-in_err-values-clause-becomes c =
    let d = declared c.args.tree.now in
    let p = program c.args.known.now in
    let q = program c.add_variable.new.known in
    let added = c.in_ok-add_variable.ensures.added ∙ ap (λ n. with_variable p (bytes p n) c.get.result.now) c.name_of-name.ensures ∙ ap (with_variable p (bytes p d.declarator.name)) c.get.ensures in
    broken (variable_of d c.args.t p) (first_values q c.args.t d.initialiser) (λ vs. Ok (with_values q vs)) c.from_residual-in_err-values.result c.in_err-values.field-0.0 q
    (variable_of_by d c.args.t p q added)
    (rw c.get-2.ensures at c.in_err-values.ensures)
    c.from_residual-in_err-values.ensures.1

pub returns-clause-becomes : goal.returns-clause-becomes
returns-clause-becomes c =
    let d = declared c.args.tree.now in
    let p = program c.args.known.now in
    let q = program c.add_variable.new.known in
    let added = c.in_ok-add_variable.ensures.added ∙ ap (λ n. with_variable p (bytes p n) c.get.result.now) c.name_of-name.ensures ∙ ap (with_variable p (bytes p d.declarator.name)) c.get.ensures in
    goes_on (variable_of d c.args.t p) (first_values q c.args.t d.initialiser) (λ vs. Ok (with_values q vs)) c.in_ok-values.values c.add_values.result (program c.add_values.new.known)
    (variable_of_by d c.args.t p q added)
    (rw c.get-2.ensures at c.in_ok-values.ensures)
    (updated (with_values q c.in_ok-values.values) (program c.add_values.new.known) c.add_values.result c.add_values.ensures.added c.add_values.ensures.memory)
