use Rattle.std.proofs.Common.{◌≤◌, map, sym, ap, ◌∙◌, arith}
use Rattle.typing_rules.specs.Declarations.{layers}
use Rattle.typing_rules.specs.TreesOfDeclarations.{parameter}
use Rattle.typing_scopes.specs.Known.{known as seen, program}
use Rattle.typing_declarators.specs.Adding.{extended}
use Rattle.typing_declarators.specs.Layers.{layer, counted_layers}
use Rattle.typing_declarators.proofs.LayerLaws.{have_elements}
use Rattle.typing_declarators.proofs.DeclaredTypes.{after_layers, broken_layers}
use Rattle.typing_files.proofs.Outcomes.{gives_fails, gives_by}
use Rattle.typing_functions.specs.Parameters.{adjusted_type, parameter_type}
use Rattle.typing_functions.proofs.ParameterScopes.{small_parameters, cells_parameters}
use Rattle.typing_functions.proofs.ParameterTypes.{parameter_type_by}
use Rattle.typing_functions.proofs.parameter.parameter_type.Goals as goal

pub parameter_layers-requires : goal.parameter_layers-requires
parameter_layers-requires c = small_parameters c.args.known.now c.requires.at

pub adjusted_type-requires-clause-structs : goal.adjusted_type-requires-clause-structs
adjusted_type-requires-clause-structs c = cells_parameters c.args.known.now c.requires.at

pub returns-in_err-parameter_layers : goal.returns-in_err-parameter_layers
returns-in_err-parameter_layers c =
    let k = c.args.known.now in
    let x = parameter c.args.tree.now in
    let n = c.parameter_name-name.result in
    let e = c.in_err-parameter_layers.field-0.0 in
    gives_fails (parameter_type (program k) c.args.allocation k.locals x c.args.base.now) c.from_residual.result e
    (λ m. sym (parameter_type_by k c.args.allocation x n c.args.base.now c.requires.at c.parameter_name-name.ensures) ∙ broken_layers (layers (seen k) 1 x.modifiers) (λ ls. adjusted_type (seen k) c.args.allocation n ls c.args.base.now) e c.in_err-parameter_layers.ensures m)
    c.from_residual.ensures.1

pub returns : goal.returns
returns c =
    let k = c.args.known.now in
    let x = parameter c.args.tree.now in
    let n = c.parameter_name-name.result in
    let found = layers (seen k) 1 x.modifiers in
    let cs = map layer c.parameter_layers.new.layers.items in
    let start = ap (λ ls. extended (map layer ls) (counted_layers found)) c.new-layers.ensures.items in
    let one : 1 ≤ 1 = omega arith in
    gives_by _ _ c.adjusted_type.result (parameter_type_by k c.args.allocation x n c.args.base.now c.requires.at c.parameter_name-name.ensures)
    (after_layers found cs (λ ls. adjusted_type (seen k) c.args.allocation n ls c.args.base.now) c.adjusted_type.result (sym start ∙ c.in_ok-parameter_layers.ensures) (have_elements (seen k) 1 one x.modifiers) (λ ls is p. c.adjusted_type.ensures ls is p))
