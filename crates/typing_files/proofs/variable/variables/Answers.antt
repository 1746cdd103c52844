use Rattle.std.proofs.Common.{get_or, length, ap, ◌∙◌, arith}
use Rattle.typing_rules.specs.FileScope.{variable as variable_rule, variables as variables_rule}
use Rattle.typing_rules.specs.TreesOfDeclarations.{declared}
use Rattle.typing_scopes.specs.Known.{program}
use Rattle.typing_files.specs.Variables.{declared_in}
use Rattle.typing_files.proofs.Outcomes.{fails}
use Rattle.typing_files.proofs.Runs.{chain_first, chain_broken, run_item, item_broken, run_past}
use Rattle.typing_files.proofs.Variables.{variables_run}
use Rattle.typing_files.proofs.variable.variables.Goals as goal

pub returns-in_err-variable-clause-becomes : goal.returns-in_err-variable-clause-becomes
returns-in_err-variable-clause-becomes c =
    let base = c.args.base.now in
    let trees = c.args.trees.now in
    let p = program c.args.known.now in
    let e = c.in_err-variable.field-0.0 in
    fails (variables_rule base (declared_in trees) p) c.from_residual.result e (program c.variable.new.known) (λ m. variables_run base (declared_in trees) p ∙ chain_broken (variable_rule base) declared trees p e (c.in_err-variable.ensures.becomes m)) c.from_residual.ensures.1

pub loop-link-init : goal.loop-link-init
loop-link-init c =
    let base = c.args.base.now in
    let trees = c.args.trees.now in
    let p = program c.args.known.now in
    record {
      runs = variables_run base (declared_in trees) p ∙ chain_first (variable_rule base) declared trees p (program c.variable.new.known) c.in_ok-variable.ensures.becomes;
      at = c.in_ok-variable.ensures.at;
    }

pub returns-in_err-variable-2-clause-becomes : goal.returns-in_err-variable-2-clause-becomes
returns-in_err-variable-2-clause-becomes c =
    let base = c.args.base.now in
    let trees = c.args.trees.now in
    let at = c.loop-link in
    let same = c.as_slice-link-items.ensures in
    let count = ap length same in
    let e = c.in_err-variable-2.field-0.0 in
    fails (variables_rule base (declared_in trees) (program c.args.known.now)) c.from_residual-in_err-variable-2.result e (program c.variable-in-loop-link.new.known)
    (λ m. at.invariant.runs ∙ item_broken (variable_rule base) (λ x. declared x.operand) trees.rest at.link-index c.link-item.result (program at.known) e (omega (arith, c.loop-link-test.true, count)) (c.link-item.is ∙ ap (λ xs. get_or xs at.link-index c.link-item.result) same) (c.in_err-variable-2.ensures.becomes m))
    c.from_residual-in_err-variable-2.ensures.1

pub loop-link-preserved : goal.loop-link-preserved
loop-link-preserved c =
    let base = c.args.base.now in
    let trees = c.args.trees.now in
    let at = c.loop-link in
    let same = c.as_slice-link-items.ensures in
    let count = ap length same in
    record {
      runs = at.invariant.runs ∙ run_item (variable_rule base) (λ x. declared x.operand) trees.rest at.link-index c.link-item.result (program at.known) (program c.variable-in-loop-link.new.known) (omega (arith, c.loop-link-test.true, count)) (c.link-item.is ∙ ap (λ xs. get_or xs at.link-index c.link-item.result) same) c.in_ok-variable-2.ensures.becomes;
      at = c.in_ok-variable-2.ensures.at;
    }

pub returns-clause-becomes : goal.returns-clause-becomes
returns-clause-becomes c =
    let base = c.args.base.now in
    let at = c.loop-link in
    let same = c.as_slice-link-items.ensures in
    let count = ap length same in
    at.invariant.runs ∙ run_past (variable_rule base) (λ x. declared x.operand) c.args.trees.now.rest at.link-index (program at.known) (omega (arith, c.loop-link-test.false, count))
