use Rattle.std.proofs.Common.{map, ap, ◌∙◌}
use Rattle.typing_rules.specs.Declarations.{layers}
use Rattle.typing_rules.specs.TreesOfDeclarations as trees
use Rattle.typing_scopes.specs.Known.{known as seen}
use Rattle.typing_declarators.specs.Adding.{extended}
use Rattle.typing_declarators.specs.Layers.{layer, counted_layers}
use Rattle.typing_declarators.proofs.Lists.{nothing_more}
use Rattle.typing_functions.proofs.layers.sizes_there.Goals as goal

pub returns-in-None : goal.returns-in-None
unfolding layers counted_layers
returns-in-None c =
    let old = map layer c.args.layers.now.items in
    ap (λ s. extended old (counted_layers (layers (seen c.args.known.now) 1 (trees.sizes_there s)))) c.in-None.is ∙ nothing_more old
