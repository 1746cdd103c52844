use Rattle.std.proofs.Common.{sym, subst}
use Rattle.typing_rules.specs.Statements as rules
use Rattle.typing_rules.specs.TreesOfDeclarations as trees
use Rattle.typing_statements.specs.Making.{MakesMore}
use Rattle.typing_statements.specs.Points.{outside, around, frame_at}
use Rattle.typing_statements.proofs.Points.{small_at}
use Rattle.typing_statements.proofs.Steps.{plain_initialiser, given_initialiser, plain_made, inits_made}
use Rattle.typing_statements.proofs.body.Body.initialised.Goals as goal

pub push_inits-requires : goal.push_inits-requires
push_inits-requires c = small_at c.args.known.now c.requires.ready

pub returns-in_ok-s-in-Plain : goal.returns-in_ok-s-in-Plain
returns-in_ok-s-in-Plain c =
    subst (λ o. MakesMore (rules.initialised (around (outside c.args.known.now)) c.args.self.returns.now c.args.index c.args.t.now o (frame_at c.args.known.now)) c.args.all.now c.push.new.all c.push.result (frame_at c.args.known.now))
    (sym (plain_initialiser c.args.tree.now _ c.in-Plain.is))
    (plain_made (around (outside c.args.known.now)) c.args.self.returns.now c.args.index c.args.t.now c.args.all.now c.push.new.all c.in_ok-s-in-Plain.s (frame_at c.args.known.now) c.push.result c.in_ok-s-in-Plain.ensures c.push.ensures.added c.push.ensures.memory)

pub returns-in-Initialised : goal.returns-in-Initialised
returns-in-Initialised c =
    subst (λ o. MakesMore (rules.initialised (around (outside c.args.known.now)) c.args.self.returns.now c.args.index c.args.t.now o (frame_at c.args.known.now)) c.args.all.now c.push_inits.new.all c.push_inits.result (frame_at c.args.known.now))
    (sym (given_initialiser c.args.tree.now _ _ _ c.in-Initialised.is))
    (inits_made c.args.known.now c.args.self.returns.now c.args.index c.args.t.now (trees.init c.in-Initialised.init) c.args.all.now c.push_inits.new.all c.push_inits.result (c.push_inits.ensures c.args.self.returns.now))
