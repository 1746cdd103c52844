use Rattle.std.proofs.Common.{Ok, sym, ap, ◌∙◌}
use Rattle.typing_rules.specs.TreesOfDeclarations as trees
use Rattle.typing_statements.specs.Points.{outside, around, frame_at}
use Rattle.typing_statements.proofs.Steps.{local_of_made}
use Rattle.typing_statements.proofs.body.Body.declare_as.Goals as goal

pub returns-clause-makes : goal.returns-clause-makes
returns-clause-makes c =
    local_of_made (around (outside c.args.known.now)) (around (outside c.add_local.new.known)) c.args.self.returns.now (trees.declared c.args.tree.now) c.declared_name-name.result c.args.t c.in_ok-again.again c.get-2.result.now
    (frame_at c.args.known.now) (frame_at c.add_local.new.known) c.in_ok-index.index c.args.all.now c.initialised.new.all c.initialised.result
    (c.declared_name-name.ensures ∙ ap (λ x. x.name) (sym c.declarator_of.ensures)) (ap Ok (sym c.get.ensures) ∙ c.in_ok-again.ensures) c.get-2.ensures c.in_ok-index.ensures.makes (ap around c.in_ok-index.ensures.same) c.initialised.ensures
