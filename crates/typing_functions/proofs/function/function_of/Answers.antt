use Rattle.std.proofs.Common.{◌≡◌, [], refl, sym, ap, ◌∙◌}
use Rattle.std.specs.Prelude.{is_some}
use Rattle.typing_rules.specs.FileScope.{bytes}
use Rattle.typing_rules.specs.Functions.{declares_allocation as declares_rule, parameters as parameters_rule}
use Rattle.typing_rules.specs.TreesOfDeclarations.{body, params}
use Rattle.typing_scopes.specs.Known.{program}
use Rattle.typing_files.proofs.Outcomes.{broken, goes_on, becomes_by}
use Rattle.typing_functions.specs.Functions.{judged_as as judged_rule, function_of as function_rule}
use Rattle.typing_functions.proofs.FunctionLaws.{function_of_by, parameters_begun}
use Rattle.typing_functions.proofs.function.function_of.Goals as goal

pub returns-in_err-parameters-clause-becomes : goal.returns-in_err-parameters-clause-becomes
returns-in_err-parameters-clause-becomes c =
    let p = program c.args.known.now in
    let t = c.args.name.now in
    let r = c.args.returns.now in
    let b = body c.args.body.now in
    let xs = params c.args.params.now in
    let k = c.begin.new.known in
    let begun = c.in_ok-begin.ensures in
    let a = c.declares_allocation-allocation.result in
    let allocation : a ≡ declares_rule (bytes p t) (is_some b) = c.declares_allocation-allocation.ensures ∙ ap (λ w. declares_rule w c.is_defined.result) (c.bytes.ensures ∙ ap (λ q. bytes q t) begun.same) ∙ ap (declares_rule (bytes p t)) c.is_defined.ensures in
    broken (function_rule t r xs b p) (parameters_rule p (declares_rule (bytes p t) (is_some b)) [] xs) (λ ps. judged_rule t r ps b p) c.from_residual-in_err-parameters.result c.in_err-parameters.field-0.0 (program c.parameters.new.known) (function_of_by t r xs b p)
    (λ m. sym (parameters_begun p (program k) (declares_rule (bytes p t) (is_some b)) a k.locals xs begun.same allocation begun.none) ∙ c.in_err-parameters.ensures.becomes m)
    c.from_residual-in_err-parameters.ensures.1

pub returns-clause-becomes : goal.returns-clause-becomes
returns-clause-becomes c =
    let p = program c.args.known.now in
    let t = c.args.name.now in
    let r = c.args.returns.now in
    let b = body c.args.body.now in
    let xs = params c.args.params.now in
    let k = c.begin.new.known in
    let begun = c.in_ok-begin.ensures in
    let a = c.declares_allocation-allocation.result in
    let allocation : a ≡ declares_rule (bytes p t) (is_some b) = c.declares_allocation-allocation.ensures ∙ ap (λ w. declares_rule w c.is_defined.result) (c.bytes.ensures ∙ ap (λ q. bytes q t) begun.same) ∙ ap (declares_rule (bytes p t)) c.is_defined.ensures in
    goes_on (function_rule t r xs b p) (parameters_rule p (declares_rule (bytes p t) (is_some b)) [] xs) (λ ps. judged_rule t r ps b p) c.parameters.new.known.locals c.judged_as.result (program c.judged_as.new.known) (function_of_by t r xs b p)
    (sym (parameters_begun p (program k) (declares_rule (bytes p t) (is_some b)) a k.locals xs begun.same allocation begun.none) ∙ c.in_ok-parameters.ensures.becomes)
    (becomes_by _ _ c.judged_as.result (program c.judged_as.new.known) (program c.judged_as.new.known) (ap (judged_rule t r c.parameters.new.known.locals b) (c.in_ok-parameters.ensures.same ∙ begun.same)) refl c.judged_as.ensures.becomes)
