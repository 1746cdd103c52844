use Rattle.std.proofs.Common.{◌≡◌, ◌+◌, drop}
use Rattle.typing_rules.specs.Initialisers as rules
use Rattle.typing_rules.specs.TreesOfDeclarations as trees
use Rattle.typing_scopes.specs.Known.{known as seen}
use Rattle.typing_declarators.specs.Adding.{extended}
use Rattle.typing_initialisers.specs.Initialisers.{parts_of}
use Rattle.typing_initialisers.proofs.cells.+push_cells.Given as goal

abbrev pub invariant-loop-index : goal.invariant-loop-index
invariant-loop-index g l =
    extended l.fn.cells.items (rules.cells (seen l.fn.known) g.row.T.Denot (g.K.Filling.given l.fn.kind) (g.K.Filling.filled l.fn.kind) l.fn.t (trees.init l.fn.init))
    ≡ extended l.cells.items (rules.elements (seen l.fn.known) g.row.T.Denot (g.K.Filling.given l.fn.kind) (g.K.Filling.filled l.fn.kind) (drop (l.index + 1) (parts_of l.fn.known.layouts l.fn.t)) (trees.elements_after trees.init (drop l.index l.link-items)))
