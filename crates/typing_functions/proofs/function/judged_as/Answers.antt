use Rattle.std.proofs.Common.{sym, ap, ◌∙◌}
use Rattle.std.specs.Prelude.{is_some}
use Rattle.typing_rules.specs.Functions.{declarable_function as declarable_rule}
use Rattle.typing_rules.specs.TreesOfDeclarations.{body}
use Rattle.typing_scopes.specs.Known.{program}
use Rattle.typing_files.proofs.Outcomes.{broken, goes_on}
use Rattle.typing_functions.specs.Functions.{declared_as as declared_rule, judged_as as judged_rule}
use Rattle.typing_functions.proofs.FunctionLaws.{judged_by}
use Rattle.typing_functions.proofs.function.judged_as.Goals as goal

pub returns-in_err-declarable_function-clause-becomes : goal.returns-in_err-declarable_function-clause-becomes
returns-in_err-declarable_function-clause-becomes c =
    let k = c.args.known.now in
    let p = program k in
    let t = c.args.name.now in
    let r = c.args.returns.now in
    let b = body c.args.body.now in
    broken (judged_rule t r k.locals b p) (declarable_rule p t r k.locals (is_some b)) (λ u. declared_rule t r k.locals b p) c.from_residual.result c.in_err-declarable_function.field-0.0 p (judged_by t r k.locals b p)
    (λ m. ap (declarable_rule p t r k.locals) (sym c.is_defined.ensures) ∙ c.in_err-declarable_function.ensures m) c.from_residual.ensures.1

pub returns-clause-becomes : goal.returns-clause-becomes
returns-clause-becomes c =
    let k = c.args.known.now in
    let p = program k in
    let t = c.args.name.now in
    let r = c.args.returns.now in
    let b = body c.args.body.now in
    goes_on (judged_rule t r k.locals b p) (declarable_rule p t r k.locals (is_some b)) (λ u. declared_rule t r k.locals b p) tt c.declared_as.result (program c.declared_as.new.known) (judged_by t r k.locals b p)
    (ap (declarable_rule p t r k.locals) (sym c.is_defined.ensures) ∙ c.in_ok-declarable_function.ensures) c.declared_as.ensures.becomes
