use Rattle.std.proofs.Common.{◌≡◌, ◌+◌, drop}
use Rattle.typing_rules.specs.Statements as rules
use Rattle.typing_statements.specs.Locals.{declared_in}
use Rattle.typing_statements.specs.Making.{behind}
use Rattle.typing_statements.specs.Points.{outside, around, frame_at, IsReady}
use Rattle.typing_statements.proofs.Loops.{links_declared}
use Rattle.typing_statements.proofs.body.Body.declare_all.Given as goal

abbrev pub invariant-loop-link : goal.invariant-loop-link
invariant-loop-link l =
    (behind l.fn.all (rules.declare_all (around (outside l.fn.known)) l.fn.self.returns.now l.fn.base (declared_in l.fn.trees) (frame_at l.fn.known))
    ≡ behind l.all (rules.declare_all (around (outside l.fn.known)) l.fn.self.returns.now l.fn.base (links_declared (drop l.link-index l.link-items)) (frame_at l.known)))
    × (outside l.known ≡ outside l.fn.known)
    × IsReady l.known
