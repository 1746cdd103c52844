use Rattle.std.proofs.Common.{◌≡◌, List, None, Ok, sym, ap, ◌∙◌}
use Rattle.std.specs.Prelude.{if◌then◌else◌}
use Rattle.step_meaning.specs.declared.value.Value.{Value as Constant}
use Rattle.step_meaning.specs.declared.program.Layout.{Layout}
use Rattle.step_meaning.specs.declared.program.Declared.{Declared}
use Rattle.typing_rules.specs.declared.fault.TypeFault.TheVariants.{BadInitialiser}
use Rattle.typing_rules.specs.Checked.{kept}
use Rattle.typing_rules.specs.ConstantExpressions.{has_literal_indices, initial_value}
use Rattle.typing_rules.specs.Initialisers.{cells, zero_value}
use Rattle.typing_rules.specs.TreesOfDeclarations.{init}
use Rattle.typing_scopes.specs.Known.{known as seen}
use Rattle.typing_declarators.specs.Adding.{extended}
use Rattle.typing_initialisers.proofs.CellLaws.{outcome_from_empty}
use Rattle.typing_initialisers.proofs.file.initial_values.Goals as goal

pub returns : goal.returns
returns c =
    let g = seen c.args.known.now in
    let t = c.args.t.now in
    let x = init c.args.init.now in
    let found = λ (ls : List Layout) (gs : List Declared). cells g Constant (λ x at t y. kept (BadInitialiser at) (if has_literal_indices x then initial_value ls gs t y else None)) zero_value t x in
    let layouts = c.args.known.now.layouts in
    let globals = c.args.known.now.globals in
    let same : found layouts globals ≡ found c.as_slice.result.now c.as_slice-2.result.now = ap (λ ls. found ls globals) (sym c.as_slice.ensures) ∙ ap (λ gs. found c.as_slice.result.now gs) (sym c.as_slice-2.ensures) in
    same
    ∙ outcome_from_empty (found c.as_slice.result.now c.as_slice-2.result.now) c.push_cells.new.cells.items
    (ap (λ xs. extended xs (found c.as_slice.result.now c.as_slice-2.result.now)) (sym c.new-cells.ensures.items) ∙ c.in_ok-push_cells.ensures)
    ∙ ap (λ xs. Ok xs) (sym c.from_vec.ensures)
