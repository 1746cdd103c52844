use Rattle.std.proofs.Common.{◌≡◌, ◌+◌, map, drop, sym, ap, ◌∙◌}
use Rattle.typing_rules.specs.ConstantExpressions.{has_literal_indices}
use Rattle.typing_rules.specs.TreesOfExpressions.{primary, suffix, suffixed}
use Rattle.typing_rules.proofs.ExpressionAlternatives.{postfix-is}
use Rattle.typing_shapes.proofs.IndexForms.{suffix_left, no_suffix_left}
use Rattle.typing_shapes.proofs.indices.+indices.Goals as goal

pub indices_postfix-loop-suffix-init : goal.indices_postfix-loop-suffix-init
indices_postfix-loop-suffix-init t c =
    let x = primary c.args.e.now.primary in
    (x, (sym c.indices_primary-literal.ensures, ap (λ ys. suffixed x (map suffix ys)) c.as_slice-suffix-items.ensures ∙ sym (postfix-is c.args.e.now)))

pub indices_postfix-loop-suffix-preserved : goal.indices_postfix-loop-suffix-preserved
indices_postfix-loop-suffix-preserved t c =
    let x = c.loop-suffix.invariant.0 in
    let ss = c.as_slice-suffix-items.result.now in
    let i = c.loop-suffix.suffix-index in
    let s = c.suffix-item.result in (
      suffix s x,
      (
        c.after_suffix-literal.ensures x c.loop-suffix.invariant.1.0,
        ap (λ s. suffixed (suffix s x) (map suffix (drop (i + 1) ss))) c.suffix-item.is ∙ sym (suffix_left x ss i s c.loop-suffix-test.true) ∙ c.loop-suffix.invariant.1.1,
      ),
    )

pub indices_postfix-returns : goal.indices_postfix-returns
indices_postfix-returns t c =
    let x = c.loop-suffix.invariant.0 in
    sym c.loop-suffix.invariant.1.0 ∙ ap has_literal_indices (sym (no_suffix_left x c.as_slice-suffix-items.result.now c.loop-suffix.suffix-index c.loop-suffix-test.false) ∙ c.loop-suffix.invariant.1.1)
