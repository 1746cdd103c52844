use Rattle.std.proofs.Common.{◌≡◌, ◌+◌, ◌∷◌, drop, refl, sym, ap, ◌∙◌}
use Rattle.std.proofs.lemmas.Result.{err_from_is_err_and}
use Rattle.typing_rules.specs.Statements as rules
use Rattle.typing_rules.specs.TreesOfDeclarations as trees
use Rattle.typing_statements.specs.Locals.{declared_in}
use Rattle.typing_statements.specs.Making.{behind}
use Rattle.typing_statements.specs.Points.{outside, around, frame_at}
use Rattle.typing_statements.proofs.Loops.{links_declared, declared_in_is, links_next, links_past, declared_gone, declared_wrong_after, declared_end}
use Rattle.typing_statements.proofs.body.Body.declare_all.Goals as goal

pub returns-in_err-declare_one-clause-makes : goal.returns-in_err-declare_one-clause-makes
returns-in_err-declare_one-clause-makes c =
    let g = around (outside c.args.known.now) in
    let f = frame_at c.args.known.now in
    let all = rules.declare_all g c.args.self.returns.now c.args.base.now in
    let old = c.args.all.now in
    let r = err_from_is_err_and c.from_residual.result c.from_residual.ensures.1 in
    rw (r.1, r.2) (λ q. declared_wrong_after g c.args.self.returns.now c.args.base.now g old (all (declared_in c.args.trees.now) f) (trees.declared c.args.trees.now.first) (links_declared c.args.trees.now.rest) f old c.in_err-declare_one.field-0.0
    refl (ap (λ ds. behind old (all ds f)) (declared_in_is c.args.trees.now)) (c.in_err-declare_one.ensures.makes q))

pub loop-link-init : goal.loop-link-init
loop-link-init c =
    let g = around (outside c.args.known.now) in
    let f = frame_at c.args.known.now in
    let f1 = frame_at c.declare_one.new.known in
    let all = rules.declare_all g c.args.self.returns.now c.args.base.now in
    let old = c.args.all.now in
    let new = c.declare_one.new.all in (
      declared_gone g c.args.self.returns.now c.args.base.now g (behind old (all (declared_in c.args.trees.now) f)) (trees.declared c.args.trees.now.first) (links_declared c.args.trees.now.rest) f f1 old new refl
          (ap (λ ds. behind old (all ds f)) (declared_in_is c.args.trees.now)) c.in_ok-declare_one.ensures.makes
          ∙ ap (λ ls. behind new (all (links_declared ls) f1)) (sym c.as_slice-link-items.ensures),
      c.in_ok-declare_one.ensures.same,
      c.in_ok-declare_one.ensures.ready,
    )

pub declare_one-requires-in-loop-link-clause-ready : goal.declare_one-requires-in-loop-link-clause-ready
declare_one-requires-in-loop-link-clause-ready c = c.loop-link.invariant.2

pub returns-in_err-declare_one-2-clause-makes : goal.returns-in_err-declare_one-2-clause-makes
returns-in_err-declare_one-2-clause-makes c =
    let g = around (outside c.args.known.now) in
    let all = rules.declare_all g c.args.self.returns.now c.args.base.now in
    let ls = c.as_slice-link-items.result.now in
    let i = c.loop-link.link-index in
    let l = c.link-item.result in
    let f = frame_at c.loop-link.known in
    let r = err_from_is_err_and c.from_residual-in_err-declare_one-2.result c.from_residual-in_err-declare_one-2.ensures.1 in
    rw (r.1, r.2) (λ q. declared_wrong_after g c.args.self.returns.now c.args.base.now (around (outside c.loop-link.known)) c.args.all.now (all (declared_in c.args.trees.now) (frame_at c.args.known.now)) (trees.declared l.operand) (links_declared (drop (i + 1) ls)) f c.loop-link.all
    c.in_err-declare_one-2.field-0.0 (ap around c.loop-link.invariant.1) (c.loop-link.invariant.0 ∙ ap (λ ds. behind c.loop-link.all (all ds f)) (links_next ls i l c.loop-link-test.true c.link-item.is)) (c.in_err-declare_one-2.ensures.makes q))

pub loop-link-preserved : goal.loop-link-preserved
loop-link-preserved c =
    let g = around (outside c.args.known.now) in
    let all = rules.declare_all g c.args.self.returns.now c.args.base.now in
    let ls = c.as_slice-link-items.result.now in
    let i = c.loop-link.link-index in
    let l = c.link-item.result in
    let f = frame_at c.loop-link.known in
    let f1 = frame_at c.declare_one-in-loop-link.new.known in (
      declared_gone g c.args.self.returns.now c.args.base.now (around (outside c.loop-link.known)) (behind c.args.all.now (all (declared_in c.args.trees.now) (frame_at c.args.known.now))) (trees.declared l.operand) (links_declared (drop (i + 1) ls)) f f1 c.loop-link.all c.declare_one-in-loop-link.new.all
          (ap around c.loop-link.invariant.1) (c.loop-link.invariant.0 ∙ ap (λ ds. behind c.loop-link.all (all ds f)) (links_next ls i l c.loop-link-test.true c.link-item.is)) c.in_ok-declare_one-2.ensures.makes,
      c.in_ok-declare_one-2.ensures.same ∙ c.loop-link.invariant.1,
      c.in_ok-declare_one-2.ensures.ready,
    )

pub returns-clause-makes : goal.returns-clause-makes
returns-clause-makes c =
    let g = around (outside c.args.known.now) in
    let all = rules.declare_all g c.args.self.returns.now c.args.base.now in
    let ls = c.as_slice-link-items.result.now in
    let i = c.loop-link.link-index in
    let f = frame_at c.loop-link.known in
    declared_end g c.args.self.returns.now c.args.base.now (behind c.args.all.now (all (declared_in c.args.trees.now) (frame_at c.args.known.now))) f c.loop-link.all
    (c.loop-link.invariant.0 ∙ ap (λ ds. behind c.loop-link.all (all ds f)) (links_past ls i c.loop-link-test.false))

pub returns-clause-same : goal.returns-clause-same
returns-clause-same c = c.loop-link.invariant.1

pub returns-clause-ready : goal.returns-clause-ready
returns-clause-ready c = c.loop-link.invariant.2
