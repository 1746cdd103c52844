use Rattle.std.proofs.Common.{◌≤◌, List, None, Bor, map, sym, ap, subst, ◌∙◌, arith}
use Rattle.std.specs.List.{AllByRecursion}
use Rattle.step_meaning.specs.declared.expr.Expr.{Expr, size-Expr}
use Rattle.typing_rules.specs.ConstantExpressions.{value_of}
use Rattle.typing_constants.specs.Spines.{climbed}
use Rattle.typing_constants.proofs.SpineLaws.{value_first, value_last, climbed_push, all_push}
use Rattle.typing_constants.proofs.constant.spine_of.Goals as goal

pub loop-nodes-preserved : goal.loop-nodes-preserved
loop-nodes-preserved c =
    let ns = c.loop-nodes.nodes.items in
    let n = c.loop-nodes.node in
    let f = c.in-Some.first.now in
    let P = λ (m : Bor Expr). size-Expr m.now ≤ size-Expr c.args.x.now in
    let within = c.in-Some.ensures.within in
    let before = c.loop-nodes.invariant.2 in (
      c.loop-nodes.invariant.0
          ∙ ap (climbed (map (λ n. n.now) ns)) (value_first n.now f (sym c.in-Some.ensures.operand))
          ∙ sym (climbed_push ns n (value_of f))
          ∙ ap (λ (is : List (Bor Expr)). climbed (map (λ n. n.now) is) (value_of f)) (sym c.in_ok-push.ensures.items),
      subst (AllByRecursion P) (sym c.in_ok-push.ensures.items) (all_push P ns n c.loop-nodes.invariant.1 before),
      omega arith,
    )

pub returns-in-None-clause-value : goal.returns-in-None-clause-value
returns-in-None-clause-value c =
    let ns = c.loop-nodes.nodes.items in
    let n = c.loop-nodes.node in
    c.loop-nodes.invariant.0
    ∙ ap (climbed (map (λ n. n.now) ns)) (value_last n.now (sym c.in-None.ensures.operand))
    ∙ sym (climbed_push ns n None)
    ∙ ap (λ (is : List (Bor Expr)). climbed (map (λ n. n.now) is) None) (sym c.in_ok-push.ensures.items)
