use Rattle.std.proofs.Common.{[], ◌∷◌, map, length, Ok, sym, ap, subst, ◌∙◌}
use Rattle.std.specs.Prelude.{replicate}
use Rattle.std.proofs.lemmas.Result.{err_from_is_err_and}
use Rattle.c_grammar.specs.declared.declaration.Declarator.{out-Declarator}
use Rattle.typing_rules.specs.Declarations as rules
use Rattle.typing_rules.specs.Declarations.{size}
use Rattle.typing_rules.specs.TreesOfExpressions.{choice}
use Rattle.typing_scopes.specs.Known.{known as seen}
use Rattle.typing_declarators.specs.Adding.{extended, Adds}
use Rattle.typing_declarators.specs.Layers.{layer, counted_size}
use Rattle.typing_declarators.proofs.Lists.{nothing_more}
use Rattle.typing_declarators.proofs.LayerLaws.{of_direct, of_declarator, of-Name, of-Unsized, of-Paren, of-Array, of-Declarator, adds_then, adds_nothing, adds_by, adds_size, no_layers, no_size}
use Rattle.typing_declarators.proofs.modifiers.+layers.Goals as goal

-- ---- declarators

pub declarator_layers-returns-in_err-direct_layers : goal.declarator_layers-returns-in_err-direct_layers
declarator_layers-returns-in_err-direct_layers t c =
    let g = seen c.args.known.now in
    let n = c.args.count in
    let d = c.args.declarator.now in
    let p = err_from_is_err_and c.from_residual.result c.from_residual.ensures.1 in
    rw (p.1, p.2) (λ q. of-Declarator g n d ∙ adds_nothing (of_direct g n (out-Declarator d).direct) (Ok (replicate (length (out-Declarator d).stars) rules.Pointing)) c.in_err-direct_layers.field-0.0 c.in_err-direct_layers.ensures q)

pub declarator_layers-returns : goal.declarator_layers-returns
declarator_layers-returns t c =
    let g = seen c.args.known.now in
    let n = c.args.count in
    let d = c.args.declarator.now in
    let old = map layer c.args.layers.now.items in
    let mid = map layer c.direct_layers.new.layers.items in
    let new = map layer c.push_stars.new.layers.items in
    let stars = subst (λ k. Adds (Ok (replicate k rules.Pointing)) mid new c.push_stars.result) c.len.ensures c.push_stars.ensures in
    adds_by _ _ old new c.push_stars.result (of-Declarator g n d)
    (adds_then (of_direct g n (out-Declarator d).direct) (Ok (replicate (length (out-Declarator d).stars) rules.Pointing)) old mid new c.push_stars.result c.in_ok-direct_layers.ensures stars)

-- ---- what stands in a declarator after its stars

pub direct_layers-returns-in-Name : goal.direct_layers-returns-in-Name
direct_layers-returns-in-Name t c =
    let g = seen c.args.known.now in
    let n = c.args.count in
    let old = map layer c.args.layers.now.items in
    ap (extended old) (ap (of_direct g n) c.in-Name.is ∙ of-Name g n c.in-Name.field-0) ∙ nothing_more old

pub direct_layers-returns-in-Unsized : goal.direct_layers-returns-in-Unsized
direct_layers-returns-in-Unsized t c =
    let g = seen c.args.known.now in
    let n = c.args.count in
    adds_by _ _ (map layer c.args.layers.now.items) (map layer c.push_layer.new.layers.items) c.push_layer.result
    (ap (of_direct g n) c.in-Unsized.is ∙ of-Unsized g n c.in-Unsized.field-0 c.in-Unsized.field-1 c.in-Unsized.field-2 ∙ ap (λ k. Ok (rules.Sized k ∷ [])) (sym c.counted.ensures))
    c.push_layer.ensures

pub direct_layers-returns-in-Paren : goal.direct_layers-returns-in-Paren
direct_layers-returns-in-Paren t c =
    let g = seen c.args.known.now in
    let n = c.args.count in
    adds_by _ _ (map layer c.args.layers.now.items) (map layer c.declarator_layers.new.layers.items) c.declarator_layers.result
    (ap (of_direct g n) c.in-Paren.is ∙ of-Paren g n c.in-Paren.field-0 c.in-Paren.inside c.in-Paren.field-2 ∙ ap (of_declarator g n) (sym c.get.ensures))
    c.declarator_layers.ensures

pub direct_layers-returns-in_err-direct_layers-in-Array : goal.direct_layers-returns-in_err-direct_layers-in-Array
direct_layers-returns-in_err-direct_layers-in-Array t c =
    let g = seen c.args.known.now in
    let n = c.args.count in
    let p = err_from_is_err_and c.from_residual.result c.from_residual.ensures.1 in
    let before = ap (of_direct g n) c.get-in-Array.ensures in
    rw (p.1, p.2) (λ q. ap (of_direct g n) c.in-Array.is ∙ of-Array g n c.in-Array.before c.in-Array.field-1 c.in-Array.size c.in-Array.field-3
    ∙ no_layers (of_direct g n c.in-Array.before) (counted_size (size g (choice c.in-Array.size))) c.in_err-direct_layers-in-Array.field-0.0 (λ q. sym before ∙ c.in_err-direct_layers-in-Array.ensures q) q)

pub direct_layers-returns-in_err-size-in-Array : goal.direct_layers-returns-in_err-size-in-Array
direct_layers-returns-in_err-size-in-Array t c =
    let g = seen c.args.known.now in
    let n = c.args.count in
    let old = map layer c.args.layers.now.items in
    let mid = map layer c.direct_layers.new.layers.items in
    let p = err_from_is_err_and c.from_residual-in_err-size-in-Array.result c.from_residual-in_err-size-in-Array.ensures.1 in
    let before = ap (of_direct g n) c.get-in-Array.ensures in
    let sized = ap (λ e. counted_size (size g (choice e))) c.get-in-Array-2.ensures in
    rw (p.1, p.2) (λ q. ap (of_direct g n) c.in-Array.is ∙ of-Array g n c.in-Array.before c.in-Array.field-1 c.in-Array.size c.in-Array.field-3
    ∙ no_size (of_direct g n c.in-Array.before) (counted_size (size g (choice c.in-Array.size))) old mid c.in_err-size-in-Array.field-0.0 (ap (extended old) (sym before) ∙ c.in_ok-direct_layers-in-Array.ensures) (λ q. sym sized ∙ c.in_err-size-in-Array.ensures q) q)

pub direct_layers-returns-in_ok-size-in-Array : goal.direct_layers-returns-in_ok-size-in-Array
direct_layers-returns-in_ok-size-in-Array t c =
    let g = seen c.args.known.now in
    let n = c.args.count in
    let old = map layer c.args.layers.now.items in
    let mid = map layer c.direct_layers.new.layers.items in
    let new = map layer c.push_layer-in-Array.new.layers.items in
    let before = ap (of_direct g n) c.get-in-Array.ensures in
    let sized = ap (λ e. counted_size (size g (choice e))) c.get-in-Array-2.ensures in
    adds_by _ _ old new c.push_layer-in-Array.result (ap (of_direct g n) c.in-Array.is ∙ of-Array g n c.in-Array.before c.in-Array.field-1 c.in-Array.size c.in-Array.field-3)
    (adds_size (of_direct g n c.in-Array.before) (counted_size (size g (choice c.in-Array.size))) c.in_ok-size-in-Array.size old mid new c.push_layer-in-Array.result (ap (extended old) (sym before) ∙ c.in_ok-direct_layers-in-Array.ensures) (sym sized ∙ c.in_ok-size-in-Array.ensures) c.push_layer-in-Array.ensures)
