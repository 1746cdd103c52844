use Rattle.std.proofs.Common.{[], ◌∷◌, map, Ok, sym, ap, ◌∙◌}
use Rattle.std.proofs.lemmas.Result.{err_from_is_err_and}
use Rattle.typing_rules.specs.Declarations as rules
use Rattle.typing_rules.specs.Declarations.{size}
use Rattle.typing_rules.specs.TreesOfExpressions.{choice}
use Rattle.typing_scopes.specs.Known.{known as seen}
use Rattle.typing_declarators.specs.Adding.{extended}
use Rattle.typing_declarators.specs.Layers.{layer, counted_size}
use Rattle.typing_declarators.proofs.Lists.{nothing_more}
use Rattle.typing_declarators.proofs.LayerLaws.{of_sizes, of-Empty, of-First, of-More, adds_by, adds_size, no_layers, no_size}
use Rattle.typing_declarators.proofs.modifiers.+sizes_layers.Goals as goal

pub returns-in-Unsized : goal.returns-in-Unsized
returns-in-Unsized t c =
    let g = seen c.args.known.now in
    let n = c.args.count in
    adds_by _ _ (map layer c.args.layers.now.items) (map layer c.push_layer.new.layers.items) c.push_layer.result
    (ap (of_sizes g n) c.in-Unsized.is ∙ of-Empty g n c.in-Unsized.field-0 c.in-Unsized.field-1 ∙ ap (λ k. Ok (rules.Sized k ∷ [])) (sym c.counted.ensures))
    c.push_layer.ensures

pub returns-in_err-size-in-First : goal.returns-in_err-size-in-First
returns-in_err-size-in-First t c =
    let g = seen c.args.known.now in
    let n = c.args.count in
    let old = map layer c.args.layers.now.items in
    let p = err_from_is_err_and c.from_residual.result c.from_residual.ensures.1 in
    let sized = ap (λ e. counted_size (size g (choice e))) c.get.ensures in
    rw (p.1, p.2) (λ q. ap (of_sizes g n) c.in-First.is ∙ of-First g n c.in-First.field-0 c.in-First.size c.in-First.field-2
    ∙ no_size (Ok []) (counted_size (size g (choice c.in-First.size))) old old c.in_err-size-in-First.field-0.0 (nothing_more old) (λ q. sym sized ∙ c.in_err-size-in-First.ensures q) q)

pub returns-in_ok-size-in-First : goal.returns-in_ok-size-in-First
returns-in_ok-size-in-First t c =
    let g = seen c.args.known.now in
    let n = c.args.count in
    let old = map layer c.args.layers.now.items in
    let new = map layer c.push_layer-in-First.new.layers.items in
    let sized = ap (λ e. counted_size (size g (choice e))) c.get.ensures in
    adds_by _ _ old new c.push_layer-in-First.result (ap (of_sizes g n) c.in-First.is ∙ of-First g n c.in-First.field-0 c.in-First.size c.in-First.field-2)
    (adds_size (Ok []) (counted_size (size g (choice c.in-First.size))) c.in_ok-size-in-First.size old old new c.push_layer-in-First.result (nothing_more old) (sym sized ∙ c.in_ok-size-in-First.ensures) c.push_layer-in-First.ensures)

pub returns-in_err-sizes_layers-in-More : goal.returns-in_err-sizes_layers-in-More
returns-in_err-sizes_layers-in-More t c =
    let g = seen c.args.known.now in
    let n = c.args.count in
    let p = err_from_is_err_and c.from_residual-in_err-sizes_layers-in-More.result c.from_residual-in_err-sizes_layers-in-More.ensures.1 in
    let before = ap (of_sizes g n) c.get-in-More.ensures in
    rw (p.1, p.2) (λ q. ap (of_sizes g n) c.in-More.is ∙ of-More g n c.in-More.before c.in-More.field-1 c.in-More.size c.in-More.field-3
    ∙ no_layers (of_sizes g n c.in-More.before) (counted_size (size g (choice c.in-More.size))) c.in_err-sizes_layers-in-More.field-0.0 (λ q. sym before ∙ c.in_err-sizes_layers-in-More.ensures q) q)

pub returns-in_err-size-in-More : goal.returns-in_err-size-in-More
returns-in_err-size-in-More t c =
    let g = seen c.args.known.now in
    let n = c.args.count in
    let old = map layer c.args.layers.now.items in
    let mid = map layer c.sizes_layers.new.layers.items in
    let p = err_from_is_err_and c.from_residual-in_err-size-in-More.result c.from_residual-in_err-size-in-More.ensures.1 in
    let before = ap (of_sizes g n) c.get-in-More.ensures in
    let sized = ap (λ e. counted_size (size g (choice e))) c.get-in-More-2.ensures in
    rw (p.1, p.2) (λ q. ap (of_sizes g n) c.in-More.is ∙ of-More g n c.in-More.before c.in-More.field-1 c.in-More.size c.in-More.field-3
    ∙ no_size (of_sizes g n c.in-More.before) (counted_size (size g (choice c.in-More.size))) old mid c.in_err-size-in-More.field-0.0 (ap (extended old) (sym before) ∙ c.in_ok-sizes_layers-in-More.ensures) (λ q. sym sized ∙ c.in_err-size-in-More.ensures q) q)

pub returns-in_ok-size-in-More : goal.returns-in_ok-size-in-More
returns-in_ok-size-in-More t c =
    let g = seen c.args.known.now in
    let n = c.args.count in
    let old = map layer c.args.layers.now.items in
    let mid = map layer c.sizes_layers.new.layers.items in
    let new = map layer c.push_layer-in-More.new.layers.items in
    let before = ap (of_sizes g n) c.get-in-More.ensures in
    let sized = ap (λ e. counted_size (size g (choice e))) c.get-in-More-2.ensures in
    adds_by _ _ old new c.push_layer-in-More.result (ap (of_sizes g n) c.in-More.is ∙ of-More g n c.in-More.before c.in-More.field-1 c.in-More.size c.in-More.field-3)
    (adds_size (of_sizes g n c.in-More.before) (counted_size (size g (choice c.in-More.size))) c.in_ok-size-in-More.size old mid new c.push_layer-in-More.result (ap (extended old) (sym before) ∙ c.in_ok-sizes_layers-in-More.ensures) (sym sized ∙ c.in_ok-size-in-More.ensures) c.push_layer-in-More.ensures)
