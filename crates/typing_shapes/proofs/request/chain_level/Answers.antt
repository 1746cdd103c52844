use Rattle.std.proofs.Common.{sym, ap, ◌∙◌, length}
use Rattle.typing_shapes.proofs.LastLinks.{chain_alone, not_sized, no_request}
use Rattle.typing_shapes.proofs.request.chain_level.Goals as goal

pub returns-in-None : goal.returns-in-None
returns-in-None c = λ d f. chain_alone f d.args.chain.now (ap length (sym d.as_slice.ensures) ∙ d.in-None.ensures.cases)

pub returns-then-same : goal.returns-then-same
returns-then-same c = λ d f. not_sized f d.args.chain.now d.in-Some._before.now d.in-Some.link.now (sym d.as_slice.ensures ∙ d.in-Some.ensures.cases.0)

pub returns-else-same : goal.returns-else-same
returns-else-same c = λ d f.
    let h = sym d.as_slice.ensures ∙ d.in-Some.ensures.cases.0 in
    (not_sized f d.args.chain.now d.in-Some._before.now d.in-Some.link.now h, no_request f d.args.chain.now d.in-Some._before.now d.in-Some.link.now h (sym d.same.ensures ∙ d.if-same.false))
