use Rattle.std.proofs.Common.{map, Ok, ◌∙◌}
use Rattle.std.specs.Prelude.{replicate}
use Rattle.std.proofs.lemmas.Result.{err_from_is_err_and}
use Rattle.typing_rules.specs.Declarations.{Pointing, layers}
use Rattle.typing_rules.specs.TreesOfDeclarations as trees
use Rattle.typing_scopes.specs.Known.{known as seen}
use Rattle.typing_declarators.specs.Layers.{layer, counted_layers}
use Rattle.typing_declarators.proofs.LayerLaws.{adds_then, adds_nothing, adds_by}
use Rattle.typing_functions.proofs.LayerLaws.{with_stars}
use Rattle.typing_functions.proofs.layers.nameless_layers.Goals as goal

pub returns-in_err-sizes_there : goal.returns-in_err-sizes_there
returns-in_err-sizes_there c =
    let g = seen c.args.known.now in
    let ms = trees.sizes_there c.args.sizes.now in
    let p = err_from_is_err_and c.from_residual.result c.from_residual.ensures.1 in
    rw (p.1, p.2) (λ q. with_stars g ms c.args.stars ∙ adds_nothing (counted_layers (layers g 1 ms)) (Ok (replicate c.args.stars Pointing)) c.in_err-sizes_there.field-0.0 c.in_err-sizes_there.ensures q)

pub returns : goal.returns
returns c =
    let g = seen c.args.known.now in
    let ms = trees.sizes_there c.args.sizes.now in
    let old = map layer c.args.layers.now.items in
    let mid = map layer c.sizes_there.new.layers.items in
    let new = map layer c.push_stars.new.layers.items in
    adds_by _ _ old new c.push_stars.result (with_stars g ms c.args.stars)
    (adds_then (counted_layers (layers g 1 ms)) (Ok (replicate c.args.stars Pointing)) old mid new c.push_stars.result c.in_ok-sizes_there.ensures c.push_stars.ensures)
