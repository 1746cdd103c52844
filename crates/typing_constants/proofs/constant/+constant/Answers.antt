use Rattle.std.proofs.Common.{sym, ◌∙◌, arith}
use Rattle.typing_constants.proofs.SpineLaws.{constant_first, constant_last, not_constant}
use Rattle.typing_constants.proofs.constant.+constant.Goals as goal

pub is_constant-returns-then-not-are_others_constant : goal.is_constant-returns-then-not-are_others_constant
is_constant-returns-then-not-are_others_constant t c =
    sym (c.loop-node.invariant.0 ∙ not_constant c.loop-node.node.now (sym c.are_others_constant.ensures ∙ c.if-not-are_others_constant.true))

pub is_constant-loop-node-preserved : goal.is_constant-loop-node-preserved
is_constant-loop-node-preserved t c =
    let within = c.in-Some.ensures.within in
    let before = c.loop-node.invariant.1 in
    (c.loop-node.invariant.0 ∙ constant_first c.loop-node.node.now c.in-Some.first.now (sym c.in-Some.ensures.operand) (sym c.are_others_constant.ensures ∙ c.if-not-are_others_constant.false), omega arith)

pub is_constant-returns-in-None : goal.is_constant-returns-in-None
is_constant-returns-in-None t c =
    sym (c.loop-node.invariant.0 ∙ constant_last c.loop-node.node.now (sym c.in-None.ensures.operand) (sym c.are_others_constant.ensures ∙ c.if-not-are_others_constant.false))
