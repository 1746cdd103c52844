use Rattle.std.proofs.Common.{◌≡◌, ◌∙◌, ap, sym, true, cond}
use Rattle.std.specs.Option.{is_some}
use Rattle.run_memory.specs.Cells.{slot_of, seen, cell_of as seen_cell}
use Rattle.run_memory.specs.Filling.{with_held}
use Rattle.run_memory.proofs.StoreReads.{untyped, typed_so, no_cell, some_cell, cell_written}
use Rattle.run_memory.proofs.store.write_cell.Goals as goal

pub returns-in_default-clause-allowed : goal.returns-in_default-clause-allowed
returns-in_default-clause-allowed c = sym (no_cell c.args.pool.now c.args.at.slot c.args.at.name c.args.at.offset c.args.accessed.now (sym c.get.ensures ∙ c.in_default.is))

pub returns-then-not-has_type-clause-allowed : goal.returns-then-not-has_type-clause-allowed
returns-then-not-has_type-clause-allowed c =
    sym (some_cell c.args.pool.now c.args.at.slot c.args.at.name c.args.at.offset c.args.accessed.now c.in-Some.cell (sym c.get.ensures ∙ c.in-Some.is) ∙ untyped (slot_of c.in-Some.cell) c.args.accessed.now (sym c.has_type.ensures ∙ c.if-not-has_type.true))

pub returns-clause-allowed : goal.returns-clause-allowed
returns-clause-allowed c =
    c.put.ensures.found ∙ ap is_some (sym c.get.ensures ∙ c.in-Some.is)
    ∙ sym (some_cell c.args.pool.now c.args.at.slot c.args.at.name c.args.at.offset c.args.accessed.now c.in-Some.cell (sym c.get.ensures ∙ c.in-Some.is) ∙ typed_so (slot_of c.in-Some.cell) c.args.accessed.now (sym c.has_type.ensures ∙ c.if-not-has_type.false))

pub returns-clause-written : goal.returns-clause-written
returns-clause-written c =
    let found : c.put.result ≡ true = c.put.ensures.found ∙ ap is_some (sym c.get.ensures ∙ c.in-Some.is) in
    cell_written c.args.pool.now c.put.new.self c.args.at.slot c.args.at.name c.args.at.offset c.in-Some.cell c.args.held (sym c.get.ensures ∙ c.in-Some.is) c.put.ensures.written
    ∙ sym (ap (λ b. cond b (with_held (seen c.args.pool.now) c.args.at.slot c.args.at.name c.args.at.offset (seen_cell c.args.held)) (seen c.args.pool.now)) found)
