use Rattle.std.proofs.Common.{ap}
use Rattle.typing_rules.specs.TreesOfDeclarations as trees
use Rattle.typing_scopes.specs.Known.{state}
use Rattle.c_types.proofs.StartLaws.{started, start_at}
use Rattle.c_types.proofs.elaboration.start.Goals as goal

pub returns-clause-program : goal.returns-clause-program
returns-clause-program c =
    ap (λ s. s.program) (started c.args.mode c.args.text.now c.args.tree.now (state c.new-known.result) (state c.add_bodies.new.known) (state c.add_library.new.known) c.as_slice.result.now c.new-known.ensures c.as_slice.ensures c.in_ok-add_bodies.ensures.added c.in_ok-add_library.ensures.added)

pub returns-clause-at : goal.returns-clause-at
returns-clause-at c =
    start_at c.add_library.new.known c.args.mode c.args.text.now (trees.program c.args.tree.now)
    (started c.args.mode c.args.text.now c.args.tree.now (state c.new-known.result) (state c.add_bodies.new.known) (state c.add_library.new.known) c.as_slice.result.now c.new-known.ensures c.as_slice.ensures c.in_ok-add_bodies.ensures.added c.in_ok-add_library.ensures.added)
