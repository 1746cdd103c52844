use Rattle.std.proofs.Common.{◌∙◌, sym}
use Rattle.step_meaning.specs.Types.{times, object_cells}
use Rattle.run_memory.proofs.TypeCells.{times_length}
use Rattle.run_memory.proofs.Taking.{taken_filled}
use Rattle.run_memory.proofs.fill.take_block.Goals as goal

pub returns-clause-taken : goal.returns-clause-taken
returns-clause-taken c =
    let ts = times c.args.count (object_cells c.args.layouts.now c.args.of.now) in
    taken_filled c.args.pool.now c.take.new.self c.fill_array-end.new.pool c.in-Ok.slot c.args.name c.cells_of-wanted.result ts
    c.in-Ok.ensures.was_free.0 c.in-Ok.ensures.taken (times_length c.args.count (object_cells c.args.layouts.now c.args.of.now) ∙ sym c.cells_of-wanted.ensures) c.fill_array-end.ensures.filled
