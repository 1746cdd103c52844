use Rattle.std.proofs.Common.{◌≡◌, map, drop}
use Rattle.typing_rules.specs.Programs.{item, items}
use Rattle.typing_rules.specs.TreesOfDeclarations.{item as item_tree}
use Rattle.typing_scopes.specs.Known.{program}
use Rattle.typing_files.specs.Points.{IsAtFile}
use Rattle.typing_files.specs.Runs.{run}
use Rattle.c_types.proofs.items.items.Given as goal

abbrev pub invariant-loop-tree : goal.invariant-loop-tree
invariant-loop-tree l = record {
  runs : items (map item_tree l.fn.all) (program l.fn.known) ≡ run item (map item_tree (drop l.tree-index l.fn.all)) (program l.known);
  at : IsAtFile l.known;
}
