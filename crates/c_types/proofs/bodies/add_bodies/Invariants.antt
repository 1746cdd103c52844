use Rattle.std.proofs.Common.{◌≡◌, drop}
use Rattle.typing_scopes.specs.Known.{program, state}
use Rattle.c_types.specs.Starts.{with_bodies, names_in}
use Rattle.c_types.proofs.bodies.add_bodies.Given as goal

abbrev pub invariant-loop-tree : goal.invariant-loop-tree
invariant-loop-tree l = record {
  names : record (state l.fn.known) { program = with_bodies (names_in l.fn.known.text.now l.fn.trees) (program l.fn.known) } ≡ record (state l.known) { program = with_bodies (names_in l.fn.known.text.now (drop l.tree-index l.fn.trees)) (program l.known) };
  text : l.known.text.now ≡ l.fn.known.text.now;
}
