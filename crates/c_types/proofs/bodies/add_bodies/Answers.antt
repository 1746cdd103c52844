use Rattle.std.proofs.Common.{[], ◌∷◌, ◌+◌, drop, sym, ap, ◌∙◌, arith}
use Rattle.std.proofs.lemmas.List.{drop_all}
use Rattle.typing_scopes.specs.Known.{program, state}
use Rattle.c_types.specs.Starts.{with_bodies, names_in}
use Rattle.c_types.proofs.StartLaws.{no_names, bodies_step, item_here}
use Rattle.c_types.proofs.bodies.add_bodies.Goals as goal

pub loop-tree-preserved : goal.loop-tree-preserved
loop-tree-preserved c =
    let text = c.args.known.now.text.now in
    let trees = c.args.trees.now in
    let at = c.loop-tree in
    let n = at.tree-index in
    let k = at.known in
    let t = c.tree-item.result in
    let added = c.in_ok-add_body.ensures.added ∙ ap (λ w. record (state k) { program = with_bodies (names_in w (t ∷ [])) (program k) }) at.invariant.text in
    record {
      names = at.invariant.names ∙ ap (λ ts. record (state k) { program = with_bodies (names_in text ts) (program k) }) (item_here trees n t (omega (arith, c.loop-tree-test.true)) c.tree-item.is) ∙ bodies_step (state k) (state c.add_body.new.known) text t (drop (n + 1) trees) added;
      text = ap (λ s. s.program.text) c.in_ok-add_body.ensures.added ∙ at.invariant.text;
    }

pub returns-clause-added : goal.returns-clause-added
returns-clause-added c =
    let text = c.args.known.now.text.now in
    let trees = c.args.trees.now in
    let at = c.loop-tree in
    no_names (state at.known) (names_in text (drop at.tree-index trees)) (ap (names_in text) (drop_all at.tree-index trees (omega (arith, c.loop-tree-test.false)))) ∙ sym at.invariant.names
