use Rattle.std.proofs.Common.{◌≡◌, Bool, true, false, length, sym, ap, ◌∙◌}
use Rattle.typing_rules.specs.Syntax as syntax
use Rattle.typing_rules.specs.TreesOfExpressions as trees
use Rattle.typing_rules.proofs.ExpressionAlternatives.{assign-Choice, choice-Or, unary-Postfix, primary-Paren, product-is}
use Rattle.typing_shapes.specs.Requests.{is_sized, is_request}
use Rattle.typing_shapes.proofs.LastLinks.{chain_alone, not_sized, no_request}
use Rattle.typing_shapes.proofs.Suffixes.{postfix_plain, postfix_alone}
use Rattle.typing_shapes.proofs.BareForms.{same_bare, paren_bare, product_bare}
use Rattle.typing_shapes.proofs.request.+bare.Goals as goal

differ : {b : Bool} → b ≡ true → b ≡ false → ⊥
differ h k = cc

pub bare_form-returns-in-Choice-clause-form : goal.bare_form-returns-in-Choice-clause-form
bare_form-returns-in-Choice-clause-form t c = same_bare _ _ c.bare_choice.result (ap trees.assign c.in-Choice.is ∙ assign-Choice c.in-Choice.x) c.bare_choice.ensures.form

pub bare_choice-returns-in-Or-clause-form : goal.bare_choice-returns-in-Or-clause-form
bare_choice-returns-in-Or-clause-form t c = same_bare _ _ c.bare_or.result (ap trees.choice c.in-Or.is ∙ (choice-Or c.in-Or.x ∙ ap trees.or (sym c.get.ensures))) c.bare_or.ensures.form

pub bare_unary-returns-in-Postfix-clause-form : goal.bare_unary-returns-in-Postfix-clause-form
bare_unary-returns-in-Postfix-clause-form t c = same_bare _ _ c.bare_postfix.result (ap trees.unary c.in-Postfix.is ∙ unary-Postfix c.in-Postfix.x) c.bare_postfix.ensures.form

pub bare_postfix-returns-then-is_empty-clause-form : goal.bare_postfix-returns-then-is_empty-clause-form
bare_postfix-returns-then-is_empty-clause-form t c = same_bare _ _ c.bare_primary.result (postfix_alone c.args.e.now (c.is_empty.ensures.0 c.if-is_empty.true)) c.bare_primary.ensures.form

pub bare_postfix-returns-else-is_empty-clause-form : goal.bare_postfix-returns-else-is_empty-clause-form
bare_postfix-returns-else-is_empty-clause-form t c =
    let plain = postfix_plain c.args.e.now (λ e. differ (c.is_empty.ensures.1 e) c.if-is_empty.false) in
    (plain.sized, plain.request)

pub bare_primary-returns-in-Paren-clause-form : goal.bare_primary-returns-in-Paren-clause-form
bare_primary-returns-in-Paren-clause-form t c =
    same_bare _ _ c.bare_form.result (ap trees.primary c.in-Paren.is ∙ (primary-Paren c.in-Paren.field-0 c.in-Paren.inside c.in-Paren.field-2 ∙ ap (λ y. syntax.Paren c.in-Paren.field-0 (trees.assign y)) (sym c.get.ensures))) (paren_bare _ _ c.bare_form.result c.bare_form.ensures.form)

pub bare_product-returns-in-None-clause-form : goal.bare_product-returns-in-None-clause-form
bare_product-returns-in-None-clause-form t c =
    same_bare _ _ c.bare_unary.result (product-is c.args.e.now ∙ chain_alone trees.unary c.args.e.now.0 (ap length (sym c.as_slice.ensures) ∙ c.in-None.ensures.cases)) c.bare_unary.ensures.form

pub bare_product-returns-then-same-clause-form : goal.bare_product-returns-then-same-clause-form
bare_product-returns-then-same-clause-form t c =
    product_bare c.args.e.now c.in-Some._before.now c.in-Some.last.now (sym c.as_slice.ensures ∙ c.in-Some.ensures.cases.0) (sym c.same.ensures ∙ c.if-same.true)

pub bare_product-returns-else-same-clause-form : goal.bare_product-returns-else-same-clause-form
bare_product-returns-else-same-clause-form t c =
    let h = sym c.as_slice.ensures ∙ c.in-Some.ensures.cases.0 in
    let chain = c.args.e.now.0 in (
      ap is_sized (product-is c.args.e.now) ∙ not_sized trees.unary chain c.in-Some._before.now c.in-Some.last.now h,
      ap is_request (product-is c.args.e.now) ∙ no_request trees.unary chain c.in-Some._before.now c.in-Some.last.now h (sym c.same.ensures ∙ c.if-same.false),
    )
