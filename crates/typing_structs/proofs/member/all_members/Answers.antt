use Rattle.std.proofs.Common.{[], map, List, Ok, ap, sym, ◌∙◌, arith}
use Rattle.step_meaning.specs.declared.program.Declared.{Declared as Named}
use Rattle.typing_rules.specs.Syntax.{Members}
use Rattle.typing_rules.specs.Structs.{all_members as all_members_rule}
use Rattle.typing_rules.specs.TreesOfDeclarations.{members as members_tree}
use Rattle.typing_scopes.specs.Known.{known as seen}
use Rattle.typing_files.specs.Runs.{run}
use Rattle.typing_files.proofs.Outcomes.{gives_fails}
use Rattle.typing_files.proofs.Runs.{run_item, item_broken, run_past}
use Rattle.typing_structs.specs.Members.{declaration as declaration_rule, members_in}
use Rattle.typing_structs.proofs.MemberLaws.{all_members_run}
use Rattle.typing_structs.proofs.member.all_members.Goals as goal

pub loop-tree-init : goal.loop-tree-init
loop-tree-init c =
    let g = seen c.args.known.now in
    let trees = c.args.trees.now in
    all_members_run g (members_in trees) [] ∙ ap (λ ms. run (λ (x : Members) (ms : List Named). declaration_rule g ms x) (map members_tree trees) ms) (sym c.new-members.ensures)

pub returns-in_err-declaration : goal.returns-in_err-declaration
returns-in_err-declaration c =
    let g = seen c.args.known.now in
    let trees = c.args.trees.now in
    let at = c.loop-tree in
    let e = c.in_err-declaration.field-0.0 in
    gives_fails (all_members_rule g [] (members_in trees)) c.from_residual.result e
    (λ m. at.invariant ∙ item_broken (λ (x : Members) (ms : List Named). declaration_rule g ms x) members_tree trees at.tree-index c.tree-item.result at.members e (omega (arith, c.loop-tree-test.true)) c.tree-item.is (c.in_err-declaration.ensures m))
    c.from_residual.ensures.1

pub loop-tree-preserved : goal.loop-tree-preserved
loop-tree-preserved c =
    let g = seen c.args.known.now in
    let at = c.loop-tree in
    at.invariant ∙ run_item (λ (x : Members) (ms : List Named). declaration_rule g ms x) members_tree c.args.trees.now at.tree-index c.tree-item.result at.members c.declaration.new.members (omega (arith, c.loop-tree-test.true)) c.tree-item.is c.in_ok-declaration.ensures

pub returns : goal.returns
returns c =
    let g = seen c.args.known.now in
    let at = c.loop-tree in
    at.invariant ∙ run_past (λ (x : Members) (ms : List Named). declaration_rule g ms x) members_tree c.args.trees.now at.tree-index at.members (omega (arith, c.loop-tree-test.false)) ∙ ap (λ ms. Ok ms) (sym c.into_items.ensures)
