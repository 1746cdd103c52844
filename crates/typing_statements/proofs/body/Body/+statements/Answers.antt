use Rattle.std.proofs.Common.{◌≡◌, ◌+◌, [], ◌∷◌, drop, refl, sym, ap, subst, ◌∙◌}
use Rattle.std.proofs.lemmas.Result.{err_from_is_err_and}
use Rattle.typing_rules.specs.Statements as rules
use Rattle.typing_rules.specs.TreesOfDeclarations as trees
use Rattle.typing_statements.specs.Making.{behind, Makes}
use Rattle.typing_statements.specs.Points.{outside, around, frame_at}
use Rattle.typing_statements.proofs.Outcomes.{behind_nothing}
use Rattle.typing_statements.proofs.Blocks.{parts_made, parts_whole, for_of}
use Rattle.typing_statements.proofs.Loops.{block_next, block_past, block_gone, block_wrong, block_end}
use Rattle.typing_statements.proofs.body.Body.+statements.Goals as goal

pub statement-returns-in-For-clause-makes : goal.statement-returns-in-For-clause-makes
statement-returns-in-For-clause-makes t c =
    subst (λ m. Makes m c.for_loop.result (frame_at c.for_loop.new.known))
    (sym (for_of (around (outside c.args.known.now)) c.args.self.returns.now c.args.looping (frame_at c.args.known.now) c.args.tree.now _ _ c.in-For.first c.in-For.test _ c.in-For.step _ _ c.get-in-For.result.now c.in-For.is c.get-in-For.ensures))
    c.for_loop.ensures.makes

pub statements-loop-next-init : goal.statements-loop-next-init
statements-loop-next-init t c =
    let g = around (outside c.args.known.now) in
    let f = frame_at c.args.known.now in
    let made = parts_made g c.args.self.returns.now c.args.looping in (
      parts_whole g c.args.self.returns.now c.args.looping f c.args.tree.now
          ∙ ap (λ ps. made ps f) (sym c.as_slice-next-items.ensures)
          ∙ sym (behind_nothing (made c.as_slice-next-items.result.now f))
          ∙ ap (λ all. behind all (made c.as_slice-next-items.result.now f)) (sym c.empty-all.ensures),
      refl,
      c.requires,
    )

pub statements-returns-in_err-part-clause-makes : goal.statements-returns-in_err-part-clause-makes
statements-returns-in_err-part-clause-makes t c =
    let g = around (outside c.args.known.now) in
    let f = frame_at c.loop-next.known in
    let made = parts_made g c.args.self.returns.now c.args.looping in
    let whole = rules.statements g c.args.self.returns.now c.args.looping (trees.block c.args.tree.now) (frame_at c.args.known.now) in
    let ps = c.as_slice-next-items.result.now in
    let i = c.loop-next.next-index in
    let p = c.next-item.result in
    let r = err_from_is_err_and c.from_residual.result c.from_residual.ensures.1 in
    rw (r.1, r.2) (λ q. block_wrong g c.args.self.returns.now c.args.looping (around (outside c.loop-next.known)) [] whole p (drop (i + 1) ps) f c.loop-next.all c.in_err-part.field-0.0 (ap around c.loop-next.invariant.1)
    (behind_nothing whole ∙ c.loop-next.invariant.0 ∙ ap (λ ps. behind c.loop-next.all (made ps f)) (block_next ps i p c.loop-next-test.true c.next-item.is)) (c.in_err-part.ensures.makes q))

pub statements-loop-next-preserved : goal.statements-loop-next-preserved
statements-loop-next-preserved t c =
    let g = around (outside c.args.known.now) in
    let f = frame_at c.loop-next.known in
    let f1 = frame_at c.part.new.known in
    let made = parts_made g c.args.self.returns.now c.args.looping in
    let whole = rules.statements g c.args.self.returns.now c.args.looping (trees.block c.args.tree.now) (frame_at c.args.known.now) in
    let ps = c.as_slice-next-items.result.now in
    let i = c.loop-next.next-index in
    let p = c.next-item.result in (
      block_gone g c.args.self.returns.now c.args.looping (around (outside c.loop-next.known)) whole p (drop (i + 1) ps) f f1 c.loop-next.all c.part.new.all (ap around c.loop-next.invariant.1)
          (c.loop-next.invariant.0 ∙ ap (λ ps. behind c.loop-next.all (made ps f)) (block_next ps i p c.loop-next-test.true c.next-item.is)) c.in_ok-part.ensures.makes,
      c.in_ok-part.ensures.same ∙ c.loop-next.invariant.1,
      c.in_ok-part.ensures.ready,
    )

pub statements-returns-clause-makes : goal.statements-returns-clause-makes
statements-returns-clause-makes t c =
    let g = around (outside c.args.known.now) in
    let f = frame_at c.loop-next.known in
    let made = parts_made g c.args.self.returns.now c.args.looping in
    let whole = rules.statements g c.args.self.returns.now c.args.looping (trees.block c.args.tree.now) (frame_at c.args.known.now) in
    let ps = c.as_slice-next-items.result.now in
    let i = c.loop-next.next-index in
    block_end g c.args.self.returns.now c.args.looping whole f c.loop-next.all (c.loop-next.invariant.0 ∙ ap (λ ps. behind c.loop-next.all (made ps f)) (block_past ps i c.loop-next-test.false))

pub statements-returns-clause-same : goal.statements-returns-clause-same
statements-returns-clause-same t c = c.loop-next.invariant.1

pub statements-returns-clause-ready : goal.statements-returns-clause-ready
statements-returns-clause-ready t c = c.loop-next.invariant.2
