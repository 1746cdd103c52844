use Rattle.std.proofs.Common.{map, ◌∙◌, arith}
use Rattle.typing_rules.specs.Programs.{item as item_rule, items as items_rule}
use Rattle.typing_rules.specs.TreesOfDeclarations.{item as item_tree}
use Rattle.typing_scopes.specs.Known.{program}
use Rattle.typing_files.proofs.Outcomes.{fails}
use Rattle.typing_files.proofs.Runs.{run_item, item_broken, run_past}
use Rattle.c_types.proofs.ItemLaws.{items_run}
use Rattle.c_types.proofs.items.items.Goals as goal

pub loop-tree-init : goal.loop-tree-init
loop-tree-init c = record { runs = items_run (map item_tree c.args.all.now) (program c.args.known.now); at = c.requires }

pub returns-in_err-item-clause-becomes : goal.returns-in_err-item-clause-becomes
returns-in_err-item-clause-becomes c =
    let trees = c.args.all.now in
    let at = c.loop-tree in
    let e = c.in_err-item.field-0.0 in
    fails (items_rule (map item_tree trees) (program c.args.known.now)) c.from_residual.result e (program c.item.new.known)
    (λ m. at.invariant.runs ∙ item_broken item_rule item_tree trees at.tree-index c.tree-item.result (program at.known) e (omega (arith, c.loop-tree-test.true)) c.tree-item.is (c.in_err-item.ensures.becomes m))
    c.from_residual.ensures.1

pub loop-tree-preserved : goal.loop-tree-preserved
loop-tree-preserved c =
    let at = c.loop-tree in
    record {
      runs = at.invariant.runs ∙ run_item item_rule item_tree c.args.all.now at.tree-index c.tree-item.result (program at.known) (program c.item.new.known) (omega (arith, c.loop-tree-test.true)) c.tree-item.is c.in_ok-item.ensures.becomes;
      at = c.in_ok-item.ensures.at;
    }

pub returns-clause-becomes : goal.returns-clause-becomes
returns-clause-becomes c =
    let at = c.loop-tree in
    at.invariant.runs ∙ run_past item_rule item_tree c.args.all.now at.tree-index (program at.known) (omega (arith, c.loop-tree-test.false))
