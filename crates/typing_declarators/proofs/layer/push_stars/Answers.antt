use Rattle.std.proofs.Common.{map}
use Rattle.typing_declarators.specs.Layers.{layer}
use Rattle.typing_declarators.proofs.Lists.{nothing_more, star_more}
use Rattle.typing_declarators.proofs.layer.push_stars.Goals as goal

pub loop-init : goal.loop-init
loop-init c = nothing_more (map layer c.args.layers.now.items)

pub loop-preserved : goal.loop-preserved
loop-preserved c = star_more (map layer c.args.layers.now.items) (map layer c.loop.layers.items) (map layer c.push_layer.new.layers.items) c.loop.counter c.loop.invariant c.in_ok-push_layer.ensures
