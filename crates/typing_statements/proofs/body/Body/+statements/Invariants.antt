use Rattle.std.proofs.Common.{◌≡◌, drop}
use Rattle.typing_rules.specs.Statements as rules
use Rattle.typing_rules.specs.TreesOfDeclarations as trees
use Rattle.typing_statements.specs.Making.{behind}
use Rattle.typing_statements.specs.Points.{outside, around, frame_at, IsReady}
use Rattle.typing_statements.proofs.Blocks.{parts_made}
use Rattle.typing_statements.proofs.body.Body.+statements.Given as goal

abbrev pub invariant-statements-loop-next : goal.invariant-statements-loop-next
invariant-statements-loop-next l =
    (rules.statements (around (outside l.fn.known)) l.fn.self.returns.now l.fn.looping (trees.block l.fn.tree) (frame_at l.fn.known)
    ≡ behind l.all (parts_made (around (outside l.fn.known)) l.fn.self.returns.now l.fn.looping (drop l.next-index l.next-items) (frame_at l.known)))
    × (outside l.known ≡ outside l.fn.known)
    × IsReady l.known
