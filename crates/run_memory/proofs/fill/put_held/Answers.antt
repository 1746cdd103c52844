use Rattle.std.proofs.Common.{◌∙◌, ap, sym}
use Rattle.std.specs.Prelude.{option_map}
use Rattle.run_memory.specs.Cells.{slot_of, seen, cell_of as seen_cell}
use Rattle.run_memory.specs.Filling.{with_held_in}
use Rattle.run_memory.proofs.Seeing.{seen_cell_of}
use Rattle.run_memory.proofs.StoreReads.{cell_written}
use Rattle.run_memory.proofs.fill.put_held.Goals as goal

pub returns-in_default : goal.returns-in_default
returns-in_default c =
    sym (ap (with_held_in (seen c.args.pool.now) c.args.at.slot c.args.at.name c.args.at.offset (seen_cell c.args.held))
    (seen_cell_of c.args.pool.now c.args.at.slot c.args.at.name c.args.at.offset ∙ ap (option_map slot_of) (sym c.get.ensures ∙ c.in_default.is)))

pub returns : goal.returns
returns c = cell_written c.args.pool.now c.put-found.new.self c.args.at.slot c.args.at.name c.args.at.offset c.in-Some.cell c.args.held (sym c.get.ensures ∙ c.in-Some.is) c.put-found.ensures.written
