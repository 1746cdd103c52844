use Rattle.std.proofs.Common.{◌≡◌, drop}
use Rattle.typing_rules.specs.TreesOfDeclarations as trees
use Rattle.typing_scopes.specs.Known.{known as seen}
use Rattle.typing_initialisers.specs.Initialisers.{alone, all_alone}
use Rattle.typing_initialisers.proofs.alone.+alone.Given as goal

abbrev pub invariant-loop-link : goal.invariant-loop-link
invariant-loop-link l = alone (seen l.fn.known) (trees.init l.fn.init) ≡ all_alone (seen l.fn.known) (trees.elements_after trees.init (drop l.link-index l.link-items))
