use Rattle.std.proofs.Common.{◌≤◌, List, Bor, map, sym, ap, subst, ◌∙◌}
use Rattle.std.specs.List.{AllByRecursion}
use Rattle.step_meaning.specs.declared.expr.Expr.{Expr, size-Expr}
use Rattle.typing_constants.specs.Spines.{climbed}
use Rattle.typing_constants.proofs.SpineLaws.{climbed_push, all_before}
use Rattle.typing_constants.proofs.constant.+value.Goals as goal

pub value_of-loop-node-preserved : goal.value_of-loop-node-preserved
value_of-loop-node-preserved t c =
    let v = c.loop-node.value in
    let rest = c.pop.new.self.items in
    let n = c.in-Some.node in
    let P = λ (m : Bor Expr). size-Expr m.now ≤ size-Expr c.args.x.now in (
      c.loop-node.invariant.0
          ∙ ap (λ (is : List (Bor Expr)). climbed (map (λ n. n.now) is) v) c.in-Some.ensures.items
          ∙ climbed_push rest n v
          ∙ ap (climbed (map (λ n. n.now) rest)) (sym c.in_ok-value-in-Some.ensures),
      all_before P rest n (subst (AllByRecursion P) c.in-Some.ensures.items c.loop-node.invariant.1),
    )
