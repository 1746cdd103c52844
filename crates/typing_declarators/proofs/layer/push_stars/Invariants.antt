use Rattle.std.proofs.Common.{◌≡◌, map, Ok}
use Rattle.std.specs.Prelude.{replicate}
use Rattle.typing_rules.specs.Declarations as rules
use Rattle.typing_declarators.specs.Adding.{extended}
use Rattle.typing_declarators.specs.Layers.{layer}
use Rattle.typing_declarators.proofs.layer.push_stars.Given as goal

abbrev pub invariant-loop : goal.invariant-loop
invariant-loop l = extended (map layer l.fn.layers.items) (Ok (replicate l.counter rules.Pointing)) ≡ Ok (map layer l.layers.items)
