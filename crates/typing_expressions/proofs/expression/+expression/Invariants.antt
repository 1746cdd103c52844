use Rattle.std.proofs.Common.{◌≡◌, drop, map, Ok}
use Rattle.typing_laws.specs.SmallTypes.{IsSmallOperand}
use Rattle.typing_rules.specs.Chains.{linked}
use Rattle.typing_rules.specs.Checked.{◌>>=◌}
use Rattle.typing_rules.specs.Expressions.{operand, arguments}
use Rattle.typing_rules.specs.Syntax.{Expression}
use Rattle.typing_rules.specs.TreesOfExpressions as trees
use Rattle.typing_scopes.specs.Known.{known}
use Rattle.typing_expressions.specs.Parts.{product_part, arguments_of}
use Rattle.typing_expressions.proofs.Arguments.{joined_to}
use Rattle.typing_expressions.proofs.expression.+expression.Given as goal

abbrev pub invariant-or-loop-link : goal.invariant-or-loop-link
invariant-or-loop-link l = (operand (known l.fn.known) (trees.or l.fn.e) ≡ linked (known l.fn.known) trees.and l.found (drop l.link-index l.link-items)) × IsSmallOperand l.fn.known.layouts l.found

abbrev pub invariant-and-loop-link : goal.invariant-and-loop-link
invariant-and-loop-link l = (operand (known l.fn.known) (trees.and l.fn.e) ≡ linked (known l.fn.known) trees.bit_or l.found (drop l.link-index l.link-items)) × IsSmallOperand l.fn.known.layouts l.found

abbrev pub invariant-bit_or-loop-link : goal.invariant-bit_or-loop-link
invariant-bit_or-loop-link l = (operand (known l.fn.known) (trees.bit_or l.fn.e) ≡ linked (known l.fn.known) trees.bit_xor l.found (drop l.link-index l.link-items)) × IsSmallOperand l.fn.known.layouts l.found

abbrev pub invariant-bit_xor-loop-link : goal.invariant-bit_xor-loop-link
invariant-bit_xor-loop-link l = (operand (known l.fn.known) (trees.bit_xor l.fn.e) ≡ linked (known l.fn.known) trees.bit_and l.found (drop l.link-index l.link-items)) × IsSmallOperand l.fn.known.layouts l.found

abbrev pub invariant-bit_and-loop-link : goal.invariant-bit_and-loop-link
invariant-bit_and-loop-link l = (operand (known l.fn.known) (trees.bit_and l.fn.e) ≡ linked (known l.fn.known) trees.equal l.found (drop l.link-index l.link-items)) × IsSmallOperand l.fn.known.layouts l.found

abbrev pub invariant-equal-loop-link : goal.invariant-equal-loop-link
invariant-equal-loop-link l = (operand (known l.fn.known) (trees.equal l.fn.e) ≡ linked (known l.fn.known) trees.relation l.found (drop l.link-index l.link-items)) × IsSmallOperand l.fn.known.layouts l.found

abbrev pub invariant-relation-loop-link : goal.invariant-relation-loop-link
invariant-relation-loop-link l = (operand (known l.fn.known) (trees.relation l.fn.e) ≡ linked (known l.fn.known) trees.shift l.found (drop l.link-index l.link-items)) × IsSmallOperand l.fn.known.layouts l.found

abbrev pub invariant-shift-loop-link : goal.invariant-shift-loop-link
invariant-shift-loop-link l = (operand (known l.fn.known) (trees.shift l.fn.e) ≡ linked (known l.fn.known) trees.sum l.found (drop l.link-index l.link-items)) × IsSmallOperand l.fn.known.layouts l.found

abbrev pub invariant-sum-loop-link : goal.invariant-sum-loop-link
invariant-sum-loop-link l = (operand (known l.fn.known) (trees.sum l.fn.e) ≡ linked (known l.fn.known) trees.product l.found (drop l.link-index l.link-items)) × IsSmallOperand l.fn.known.layouts l.found

abbrev pub invariant-operands-loop-link : goal.invariant-operands-loop-link
invariant-operands-loop-link l = (operand (known l.fn.known) (product_part l.fn.e l.fn.count) ≡ linked (known l.fn.known) trees.unary l.found (drop l.link-index l.link-items)) × IsSmallOperand l.fn.known.layouts l.found

-- what stands before the suffixes that are left
abbrev pub invariant-postfix-loop-next : goal.invariant-postfix-loop-next
invariant-postfix-loop-next l = (x : Expression) × (trees.postfix l.fn.e ≡ trees.suffixed x (map trees.suffix (drop l.next-index l.next-items))) × (operand (known l.fn.known) x ≡ Ok l.found) × IsSmallOperand l.fn.known.layouts l.found

abbrev pub invariant-arguments-loop-link : goal.invariant-arguments-loop-link
invariant-arguments-loop-link l = arguments (known l.fn.known) (arguments_of l.fn.list) (map (λ d. d.ctype) l.fn.parameters) ≡ (arguments (known l.fn.known) (trees.listed_after trees.assign (drop l.link-index l.link-items)) (map (λ d. d.ctype) l.left) >>= joined_to l.made)
