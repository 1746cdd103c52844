use Rattle.std.proofs.Common.{◌≡◌, ◌-◌, ◌≤◌, length, sym, ap, ◌∙◌, arith}
use Rattle.typing_rules.specs.Nodes.{nodes}
use Rattle.typing_rules.specs.TreesOfExpressions as trees
use Rattle.typing_nodes.proofs.Alternatives.{next_suffix, no_suffix}
use Rattle.typing_nodes.proofs.nodes.+nodes.Goals as goal

pub postfix-loop-next-preserved : goal.postfix-loop-next-preserved
postfix-loop-next-preserved t c =
    let i = c.loop-next.invariant in
    let s = c.next-item.result in
    (trees.suffix s i.0, i.1 ∙ ap nodes (next_suffix i.0 c.as_slice-next-items.result.now c.loop-next.next-index s c.loop-next-test.true c.next-item.is), c.suffix-left.ensures i.0 c.args.room i.2)

pub postfix-returns : goal.postfix-returns
postfix-returns t c =
    let i = c.loop-next.invariant in
    let past : length c.as_slice-next-items.result.now ≤ c.loop-next.next-index = omega (arith, c.loop-next-test.false) in
    i.2 ∙ ap (λ n. c.args.room - n) (sym (i.1 ∙ ap nodes (no_suffix i.0 c.as_slice-next-items.result.now c.loop-next.next-index past)))
