use Rattle.std.proofs.Common.{◌≡◌, ◌-◌, ◌*◌, ◌+◌, drop, sym, ap, ◌∙◌}
use Rattle.typing_rules.specs.Nodes.{nodes}
use Rattle.typing_rules.specs.Weights.{continues}
use Rattle.typing_rules.specs.TreesOfExpressions as expressions
use Rattle.typing_rules.specs.TreesOfDeclarations as trees
use Rattle.typing_nodes.specs.Counts.{parts_continues}
use Rattle.typing_nodes.proofs.StatementParts.{next_part, taken_apart}
use Rattle.typing_nodes.proofs.statements.+continues.Goals as goal

pub in_block-loop-part-preserved : goal.in_block-loop-part-preserved
in_block-loop-part-preserved t c =
    let n = nodes (expressions.assign c.args.value.now) in
    let ps = c.as_slice-part-items.result.now in
    let i = c.loop-part.part-index in
    let x = c.part-item.result in
    c.loop-part.invariant
    ∙ ap (λ k. c.loop-part.left - k * n) (next_part ps i x c.loop-part-test.true c.part-item.is)
    ∙ taken_apart c.loop-part.left (continues (trees.block_part x)) (parts_continues (drop (i + 1) ps)) n
    ∙ ap (λ k. k - parts_continues (drop (i + 1) ps) * n) (sym c.in_part-left.ensures)
