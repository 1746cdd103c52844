use Rattle.std.proofs.Common.{map, Ok, ap, sym, ◌∙◌}
use Rattle.step_meaning.specs.Types.{object_cells}
use Rattle.typing_rules.specs.Initialisers.{zero_value}
use Rattle.typing_declarators.specs.Adding.{extended}
use Rattle.typing_initialisers.proofs.CellLaws.{from_empty}
use Rattle.typing_initialisers.proofs.file.uninitialised.Goals as goal

pub returns : goal.returns
returns c =
    let found = map zero_value (object_cells c.args.known.now.layouts c.args.t.now) in
    let start = ap (λ xs. extended xs (Ok found)) (sym c.new-cells.ensures.items) in
    let layouts = ap (λ ls. extended c.new-cells.result.items (Ok (map zero_value (object_cells ls c.args.t.now)))) (sym c.as_slice-3.ensures) in
    ap (λ xs. Ok xs) (from_empty found c.push_zeros.new.cells.items (start ∙ layouts ∙ c.in_ok-push_zeros.ensures) ∙ sym c.from_vec.ensures)
