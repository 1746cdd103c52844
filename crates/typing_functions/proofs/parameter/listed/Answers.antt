use Rattle.std.proofs.Common.{List, get_or, length, sym, ap, ◌∙◌, arith}
use Rattle.step_meaning.specs.declared.program.Declared.{Declared as Named}
use Rattle.typing_rules.specs.Syntax.{Parameter}
use Rattle.typing_rules.specs.Functions.{parameter as parameter_rule, parameters as parameters_rule}
use Rattle.typing_rules.specs.TreesOfDeclarations.{parameter as parameter_tree}
use Rattle.typing_scopes.specs.Known.{program}
use Rattle.typing_files.proofs.Outcomes.{fails}
use Rattle.typing_files.proofs.Runs.{chain_first, chain_broken, run_item, item_broken, run_past}
use Rattle.typing_functions.specs.Parameters.{parameters_in}
use Rattle.typing_functions.proofs.ParameterTypes.{parameters_run}
use Rattle.typing_functions.proofs.parameter.listed.Goals as goal

pub returns-in_err-parameter-clause-becomes : goal.returns-in_err-parameter-clause-becomes
returns-in_err-parameter-clause-becomes c =
    let p = program c.args.known.now in
    let a = c.args.allocation in
    let ps = c.args.known.now.locals in
    let trees = c.args.trees.now in
    let e = c.in_err-parameter.field-0.0 in
    fails (parameters_rule p a ps (parameters_in trees)) c.from_residual.result e c.parameter.new.known.locals
    (λ m. parameters_run p a (parameters_in trees) ps ∙ chain_broken (λ (x : Parameter) (ps : List Named). parameter_rule p a ps x) parameter_tree trees ps e (c.in_err-parameter.ensures.becomes m)) c.from_residual.ensures.1

pub loop-link-init : goal.loop-link-init
loop-link-init c =
    let p = program c.args.known.now in
    let a = c.args.allocation in
    let ps = c.args.known.now.locals in
    let trees = c.args.trees.now in
    record {
      runs = parameters_run p a (parameters_in trees) ps ∙ chain_first (λ (x : Parameter) (ps : List Named). parameter_rule p a ps x) parameter_tree trees ps c.parameter.new.known.locals c.in_ok-parameter.ensures.becomes;
      same = c.in_ok-parameter.ensures.same;
      at = c.in_ok-parameter.ensures.at;
    }

pub returns-in_err-parameter-2-clause-becomes : goal.returns-in_err-parameter-2-clause-becomes
returns-in_err-parameter-2-clause-becomes c =
    let p = program c.args.known.now in
    let a = c.args.allocation in
    let trees = c.args.trees.now in
    let at = c.loop-link in
    let same = c.as_slice-link-items.ensures in
    let count = ap length same in
    let e = c.in_err-parameter-2.field-0.0 in
    fails (parameters_rule p a c.args.known.now.locals (parameters_in trees)) c.from_residual-in_err-parameter-2.result e c.parameter-in-loop-link.new.known.locals
    (λ m. at.invariant.runs ∙ item_broken (λ (x : Parameter) (ps : List Named). parameter_rule p a ps x) (λ x. parameter_tree x.operand) trees.rest at.link-index c.link-item.result at.known.locals e (omega (arith, c.loop-link-test.true, count)) (c.link-item.is ∙ ap (λ xs. get_or xs at.link-index c.link-item.result) same)
    (ap (λ q. parameter_rule q a at.known.locals (parameter_tree c.link-item.result.operand)) (sym at.invariant.same) ∙ c.in_err-parameter-2.ensures.becomes m))
    c.from_residual-in_err-parameter-2.ensures.1

pub loop-link-preserved : goal.loop-link-preserved
loop-link-preserved c =
    let p = program c.args.known.now in
    let a = c.args.allocation in
    let at = c.loop-link in
    let same = c.as_slice-link-items.ensures in
    let count = ap length same in
    record {
      runs = at.invariant.runs ∙ run_item (λ (x : Parameter) (ps : List Named). parameter_rule p a ps x) (λ x. parameter_tree x.operand) c.args.trees.now.rest at.link-index c.link-item.result at.known.locals c.parameter-in-loop-link.new.known.locals (omega (arith, c.loop-link-test.true, count)) (c.link-item.is ∙ ap (λ xs. get_or xs at.link-index c.link-item.result) same)
          (ap (λ q. parameter_rule q a at.known.locals (parameter_tree c.link-item.result.operand)) (sym at.invariant.same) ∙ c.in_ok-parameter-2.ensures.becomes);
      same = c.in_ok-parameter-2.ensures.same ∙ at.invariant.same;
      at = c.in_ok-parameter-2.ensures.at;
    }

pub returns-clause-becomes : goal.returns-clause-becomes
returns-clause-becomes c =
    let p = program c.args.known.now in
    let at = c.loop-link in
    let count = ap length c.as_slice-link-items.ensures in
    at.invariant.runs ∙ run_past (λ (x : Parameter) (ps : List Named). parameter_rule p c.args.allocation ps x) (λ x. parameter_tree x.operand) c.args.trees.now.rest at.link-index at.known.locals (omega (arith, c.loop-link-test.false, count))
