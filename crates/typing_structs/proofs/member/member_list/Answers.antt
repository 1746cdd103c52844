use Rattle.std.proofs.Common.{get_or, length, List, ap, ◌∙◌, arith}
use Rattle.step_meaning.specs.declared.program.Declared.{Declared as Named}
use Rattle.typing_rules.specs.Syntax.{Declarator}
use Rattle.typing_rules.specs.Structs.{member as member_rule, member_list as member_list_rule}
use Rattle.typing_rules.specs.TreesOfDeclarations.{declarator}
use Rattle.typing_scopes.specs.Known.{known as seen}
use Rattle.typing_files.proofs.Outcomes.{fails}
use Rattle.typing_files.proofs.Runs.{chain_first, chain_broken, run_item, item_broken, run_past}
use Rattle.typing_structs.specs.Members.{declarators_in}
use Rattle.typing_structs.proofs.MemberLaws.{member_list_run}
use Rattle.typing_structs.proofs.member.member_list.Goals as goal

pub returns-in_err-member : goal.returns-in_err-member
returns-in_err-member c =
    let g = seen c.args.known.now in
    let base = c.args.base.now in
    let trees = c.args.trees.now in
    let ms = c.args.members.now in
    let e = c.in_err-member.field-0.0 in
    fails (member_list_rule g base ms (declarators_in trees)) c.from_residual.result e c.member.new.members
    (λ m. member_list_run g base (declarators_in trees) ms ∙ chain_broken (λ (d : Declarator) (ms : List Named). member_rule g base ms d) declarator trees ms e (c.in_err-member.ensures m)) c.from_residual.ensures.1

pub loop-link-init : goal.loop-link-init
loop-link-init c =
    let g = seen c.args.known.now in
    let base = c.args.base.now in
    let trees = c.args.trees.now in
    let ms = c.args.members.now in
    member_list_run g base (declarators_in trees) ms ∙ chain_first (λ (d : Declarator) (ms : List Named). member_rule g base ms d) declarator trees ms c.member.new.members c.in_ok-member.ensures

pub returns-in_err-member-2 : goal.returns-in_err-member-2
returns-in_err-member-2 c =
    let g = seen c.args.known.now in
    let base = c.args.base.now in
    let trees = c.args.trees.now in
    let at = c.loop-link in
    let same = c.as_slice-link-items.ensures in
    let count = ap length same in
    let e = c.in_err-member-2.field-0.0 in
    fails (member_list_rule g base c.args.members.now (declarators_in trees)) c.from_residual-in_err-member-2.result e c.member-in-loop-link.new.members
    (λ m. at.invariant ∙ item_broken (λ (d : Declarator) (ms : List Named). member_rule g base ms d) (λ x. declarator x.operand) trees.rest at.link-index c.link-item.result at.members e (omega (arith, c.loop-link-test.true, count)) (c.link-item.is ∙ ap (λ xs. get_or xs at.link-index c.link-item.result) same) (c.in_err-member-2.ensures m))
    c.from_residual-in_err-member-2.ensures.1

pub loop-link-preserved : goal.loop-link-preserved
loop-link-preserved c =
    let g = seen c.args.known.now in
    let base = c.args.base.now in
    let at = c.loop-link in
    let same = c.as_slice-link-items.ensures in
    let count = ap length same in
    at.invariant ∙ run_item (λ (d : Declarator) (ms : List Named). member_rule g base ms d) (λ x. declarator x.operand) c.args.trees.now.rest at.link-index c.link-item.result at.members c.member-in-loop-link.new.members (omega (arith, c.loop-link-test.true, count)) (c.link-item.is ∙ ap (λ xs. get_or xs at.link-index c.link-item.result) same) c.in_ok-member-2.ensures

pub returns : goal.returns
returns c =
    let g = seen c.args.known.now in
    let base = c.args.base.now in
    let at = c.loop-link in
    let count = ap length c.as_slice-link-items.ensures in
    at.invariant ∙ run_past (λ (d : Declarator) (ms : List Named). member_rule g base ms d) (λ x. declarator x.operand) c.args.trees.now.rest at.link-index at.members (omega (arith, c.loop-link-test.false, count))
