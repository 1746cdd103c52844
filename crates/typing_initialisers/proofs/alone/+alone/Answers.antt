use Rattle.std.proofs.Common.{◌+◌, drop, sym, ap, subst, ◌∙◌}
use Rattle.std.proofs.lemmas.Result.{err_from_is_err_and}
use Rattle.typing_rules.specs.Checked.{Gives}
use Rattle.typing_rules.specs.TreesOfDeclarations.{elements_after, init}
use Rattle.typing_rules.specs.TreesOfExpressions.{assign}
use Rattle.typing_rules.specs.Syntax.{Value}
use Rattle.typing_rules.proofs.DeclarationAlternatives.{init-Value}
use Rattle.typing_scopes.specs.Known.{known as seen}
use Rattle.typing_initialisers.specs.Initialisers.{alone, all_alone}
use Rattle.typing_initialisers.proofs.CellLaws.{alone_braces, alone_then, alone_broken, none_alone, links_at, links_past}
use Rattle.typing_initialisers.proofs.alone.+alone.Goals as goal

pub returns-in-Value : goal.returns-in-Value
returns-in-Value t c =
    let g = seen c.args.known.now in
    subst (λ o. Gives o c.value_alone.result) (sym (ap (λ x. alone g (init x)) c.in-Value.is ∙ ap (alone g) (init-Value c.in-Value.x) ∙ ap (λ x. alone g (Value (assign x))) (sym c.get.ensures))) c.value_alone.ensures

pub returns-in_err-alone-in-Braces : goal.returns-in_err-alone-in-Braces
returns-in_err-alone-in-Braces t c =
    let g = seen c.args.known.now in
    let all = ap (λ x. alone g (init x)) c.in-Braces.is ∙ alone_braces g c.in-Braces.field-0 c.in-Braces.elements c.in-Braces.field-2 c.in-Braces.field-3 in
    let first = ap (λ x. alone g (init x.first)) c.get-chain.ensures in
    let r = err_from_is_err_and c.from_residual.result c.from_residual.ensures.1 in
    rw (r.1, r.2) (λ q. all ∙ alone_broken g (init c.in-Braces.elements.first) (elements_after init c.in-Braces.elements.rest) c.in_err-alone-in-Braces.field-0.0 (sym first ∙ c.in_err-alone-in-Braces.ensures q))

pub loop-link-init : goal.loop-link-init
loop-link-init t c =
    let g = seen c.args.known.now in
    let all = ap (λ x. alone g (init x)) c.in-Braces.is ∙ alone_braces g c.in-Braces.field-0 c.in-Braces.elements c.in-Braces.field-2 c.in-Braces.field-3 in
    let first = ap (λ x. alone g (init x.first)) c.get-chain.ensures in
    let rest = c.as_slice-link-items.ensures ∙ ap (λ x. x.rest) c.get-chain.ensures in
    all ∙ alone_then g (init c.in-Braces.elements.first) (elements_after init c.in-Braces.elements.rest) (sym first ∙ c.in_ok-alone-in-Braces.ensures)
    ∙ ap (λ ls. all_alone g (elements_after init ls)) (sym rest)

pub returns-in_err-alone-in-Braces-2 : goal.returns-in_err-alone-in-Braces-2
returns-in_err-alone-in-Braces-2 t c =
    let g = seen c.args.known.now in
    let ls = c.as_slice-link-items.result.now in
    let n = c.loop-link.link-index in
    let l = c.link-item.result in
    let r = err_from_is_err_and c.from_residual-in_err-alone-in-Braces-2.result c.from_residual-in_err-alone-in-Braces-2.ensures.1 in
    rw (r.1, r.2) (λ q. c.loop-link.invariant ∙ ap (all_alone g) (links_at ls n l c.loop-link-test.true) ∙ alone_broken g _ (elements_after init (drop (n + 1) ls)) c.in_err-alone-in-Braces-2.field-0.0 (ap (λ l. alone g (init l.operand)) (sym c.link-item.is) ∙ c.in_err-alone-in-Braces-2.ensures q))

pub loop-link-preserved : goal.loop-link-preserved
loop-link-preserved t c =
    let g = seen c.args.known.now in
    let ls = c.as_slice-link-items.result.now in
    let n = c.loop-link.link-index in
    let l = c.link-item.result in
    c.loop-link.invariant ∙ ap (all_alone g) (links_at ls n l c.loop-link-test.true) ∙ alone_then g _ (elements_after init (drop (n + 1) ls)) (ap (λ l. alone g (init l.operand)) (sym c.link-item.is) ∙ c.in_ok-alone-in-Braces-2.ensures)

pub returns-after-loop-link : goal.returns-after-loop-link
returns-after-loop-link t c =
    let g = seen c.args.known.now in
    let ls = c.as_slice-link-items.result.now in
    c.loop-link.invariant ∙ ap (all_alone g) (links_past ls c.loop-link.link-index c.loop-link-test.false) ∙ none_alone g
