use Rattle.std.proofs.Common.{◌≡◌, ◌-◌, drop, map}
use Rattle.typing_rules.specs.Nodes.{nodes, all_nodes}
use Rattle.typing_rules.specs.Syntax.{Expression}
use Rattle.typing_rules.specs.TreesOfExpressions as trees
use Rattle.typing_nodes.specs.Counts.{link_nodes, after_nodes}
use Rattle.typing_nodes.proofs.nodes.+nodes.Given as goal

abbrev pub invariant-product-loop-link : goal.invariant-product-loop-link
invariant-product-loop-link l = l.fn.room - nodes (trees.product l.fn.tree) ≡ l.left - link_nodes trees.unary (drop l.link-index l.link-items)

abbrev pub invariant-sum-loop-link : goal.invariant-sum-loop-link
invariant-sum-loop-link l = l.fn.room - nodes (trees.sum l.fn.tree) ≡ l.left - link_nodes trees.product (drop l.link-index l.link-items)

abbrev pub invariant-shift-loop-link : goal.invariant-shift-loop-link
invariant-shift-loop-link l = l.fn.room - nodes (trees.shift l.fn.tree) ≡ l.left - link_nodes trees.sum (drop l.link-index l.link-items)

abbrev pub invariant-relation-loop-link : goal.invariant-relation-loop-link
invariant-relation-loop-link l = l.fn.room - nodes (trees.relation l.fn.tree) ≡ l.left - link_nodes trees.shift (drop l.link-index l.link-items)

abbrev pub invariant-equal-loop-link : goal.invariant-equal-loop-link
invariant-equal-loop-link l = l.fn.room - nodes (trees.equal l.fn.tree) ≡ l.left - link_nodes trees.relation (drop l.link-index l.link-items)

abbrev pub invariant-bit_and-loop-link : goal.invariant-bit_and-loop-link
invariant-bit_and-loop-link l = l.fn.room - nodes (trees.bit_and l.fn.tree) ≡ l.left - link_nodes trees.equal (drop l.link-index l.link-items)

abbrev pub invariant-bit_xor-loop-link : goal.invariant-bit_xor-loop-link
invariant-bit_xor-loop-link l = l.fn.room - nodes (trees.bit_xor l.fn.tree) ≡ l.left - link_nodes trees.bit_and (drop l.link-index l.link-items)

abbrev pub invariant-bit_or-loop-link : goal.invariant-bit_or-loop-link
invariant-bit_or-loop-link l = l.fn.room - nodes (trees.bit_or l.fn.tree) ≡ l.left - link_nodes trees.bit_xor (drop l.link-index l.link-items)

abbrev pub invariant-and-loop-link : goal.invariant-and-loop-link
invariant-and-loop-link l = l.fn.room - nodes (trees.and l.fn.tree) ≡ l.left - link_nodes trees.bit_or (drop l.link-index l.link-items)

abbrev pub invariant-or-loop-link : goal.invariant-or-loop-link
invariant-or-loop-link l = l.fn.room - nodes (trees.or l.fn.tree) ≡ l.left - link_nodes trees.and (drop l.link-index l.link-items)

abbrev pub invariant-list-loop-link : goal.invariant-list-loop-link
invariant-list-loop-link l = l.fn.room - all_nodes (trees.listed trees.assign l.fn.arguments) ≡ l.left - after_nodes trees.assign (drop l.link-index l.link-items)

-- what stands before the suffixes that are left
abbrev pub invariant-postfix-loop-next : goal.invariant-postfix-loop-next
invariant-postfix-loop-next l = (x : Expression) × (nodes (trees.postfix l.fn.tree) ≡ nodes (trees.suffixed x (map trees.suffix (drop l.next-index l.next-items)))) × (l.left ≡ l.fn.room - nodes x)
