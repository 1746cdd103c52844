use Rattle.std.proofs.Common.{◌≡◌, ◌-◌, ◌≤◌, length, sym, ap, ◌∙◌, arith}
use Rattle.typing_rules.specs.Weights.{weight}
use Rattle.typing_rules.specs.TreesOfDeclarations as trees
use Rattle.typing_nodes.proofs.ItemParts.{items_first, no_item, program_items}
use Rattle.typing_nodes.proofs.items.program.Goals as goal

pub returns : goal.returns
returns c =
    let all = program_items c.args.tree.now in
    let none = no_item c.as_slice-next-items.result.now c.loop-next.next-index (omega (arith, c.loop-next-test.false)) in
    omega (arith, c.loop-next.invariant, all, none)
