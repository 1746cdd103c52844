use Rattle.std.proofs.Common.{map, sym, ap, ◌∙◌}
use Rattle.std.proofs.lemmas.Result.{err_from_is_err_and}
use Rattle.typing_rules.specs.Declarations.{layers}
use Rattle.typing_rules.specs.TreesOfDeclarations.{declarator}
use Rattle.typing_scopes.specs.Known.{known as seen}
use Rattle.typing_declarators.specs.Adding.{extended}
use Rattle.typing_declarators.specs.Layers.{layer, counted_layers}
use Rattle.typing_declarators.specs.Names.{object_type, declared_type}
use Rattle.typing_declarators.proofs.LayerLaws.{have_elements}
use Rattle.typing_declarators.proofs.DeclaredTypes.{after_layers, broken_layers}
use Rattle.typing_declarators.proofs.name.declared_type.Goals as goal

pub returns-in_err-declarator_layers : goal.returns-in_err-declarator_layers
unfolding declared_type
returns-in_err-declarator_layers c =
    let g = seen c.args.known.now in
    let found = layers g c.args.count (declarator c.args.declarator.now).modifiers in
    let r = err_from_is_err_and c.from_residual.result c.from_residual.ensures.1 in
    rw (r.1, r.2) (λ q. broken_layers found (λ ls. object_type g c.args.name ls c.args.base.now) c.in_err-declarator_layers.field-0.0 c.in_err-declarator_layers.ensures q)

pub returns : goal.returns
unfolding declared_type
returns c =
    let g = seen c.args.known.now in
    let found = layers g c.args.count (declarator c.args.declarator.now).modifiers in
    let cs = map layer c.declarator_layers.new.layers.items in
    let start = ap (λ ls. extended (map layer ls) (counted_layers found)) c.new-layers.ensures.items in
    after_layers found cs (λ ls. object_type g c.args.name ls c.args.base.now) c.object_type.result (sym start ∙ c.in_ok-declarator_layers.ensures) (have_elements g c.args.count c.requires.count (declarator c.args.declarator.now).modifiers)
    (λ ls is p. c.object_type.ensures ls (is ∙ ap (map layer) (sym c.as_slice.ensures.value)) p)
