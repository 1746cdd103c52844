use Rattle.std.proofs.Common.{◌∙◌, ap, sym, arith, Some}
use Rattle.std.specs.Prelude.{option_map}
use Rattle.step_meaning.specs.Memory.{unset_cells}
use Rattle.step_meaning.specs.Types.{object_cells}
use Rattle.cell_pool.specs.Region.{with_block}
use Rattle.run_memory.specs.Cells.{seen, cell_of as seen_cell}
use Rattle.run_memory.specs.Filling.{first_cells}
use Rattle.run_memory.proofs.Seeing.{seen_length}
use Rattle.run_memory.proofs.Taking.{first_put, once}
use Rattle.run_memory.proofs.fill.start_block.Goals as goal

pub returns-in-Some-clause-taken : goal.returns-in-Some-clause-taken
returns-in-Some-clause-taken c =
    let cells = unset_cells (object_cells c.args.layouts.now c.args.ctype.now) in
    let l = seen_length c.args.pool.now in
    first_put (seen c.args.pool.now) (seen c.take_block-slot.new.pool) (seen c.put_held.new.pool) c.take_block-slot.result c.args.name cells (seen_cell c.in-Some.held)
    (omega (arith, l, c.take_block-slot.ensures.slot))
    (c.take_block-slot.ensures.taken ∙ ap (λ ts. with_block (seen c.args.pool.now) c.take_block-slot.result (Some (record { name = c.args.name; cells = unset_cells ts }))) (once (object_cells c.args.layouts.now c.args.ctype.now)))
    c.put_held.ensures
    ∙ ap (λ a. with_block (seen c.args.pool.now) c.take_block-slot.result (Some (record { name = c.args.name; cells = first_cells cells (option_map seen_cell a) }))) (sym c.in-Some.is)
