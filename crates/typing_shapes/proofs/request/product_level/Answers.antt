use Rattle.c_grammar.specs.declared.expression.Or.{out-Or}
use Rattle.c_grammar.specs.declared.expression.And.{out-And}
use Rattle.c_grammar.specs.declared.expression.BitOr.{out-BitOr}
use Rattle.c_grammar.specs.declared.expression.BitXor.{out-BitXor}
use Rattle.c_grammar.specs.declared.expression.BitAnd.{out-BitAnd}
use Rattle.c_grammar.specs.declared.expression.Equal.{out-Equal}
use Rattle.c_grammar.specs.declared.expression.Relation.{out-Relation}
use Rattle.c_grammar.specs.declared.expression.Shift.{out-Shift}
use Rattle.c_grammar.specs.declared.expression.Sum.{out-Sum}
use Rattle.typing_rules.specs.TreesOfExpressions as trees
use Rattle.typing_rules.proofs.ExpressionAlternatives.{sum-is, shift-is, relation-is, equal-is, bit_and-is, bit_xor-is, bit_or-is, and-is, or-is}
use Rattle.typing_shapes.proofs.LastLinks.{same_level}
use Rattle.typing_shapes.proofs.request.product_level.Goals as goal

pub returns : goal.returns
returns c =
    let or' = c.args.e.now in
    let and' = (out-Or or').0.first in
    let bit_or' = (out-And and').0.first in
    let bit_xor' = (out-BitOr bit_or').0.first in
    let bit_and' = (out-BitXor bit_xor').0.first in
    let equal' = (out-BitAnd bit_and').0.first in
    let relation' = (out-Equal equal').0.first in
    let shift' = (out-Relation relation').0.first in
    let sum' = (out-Shift shift').0.first in
    let product' = (out-Sum sum').0.first in
    let shift_level = c.inside-in_shift.ensures (trees.shift shift') (trees.sum sum') (trees.product product') (same_level (trees.shift shift') _ (trees.sum sum') c.chain_level.result (shift-is shift') (c.chain_level.ensures trees.sum)) ((same_level (trees.sum sum') _ (trees.product product') c.chain_level-2.result (sum-is sum') (c.chain_level-2.ensures trees.product))) in
    let relation_level = c.inside-in_relation.ensures (trees.relation relation') (trees.shift shift') (trees.product product') (same_level (trees.relation relation') _ (trees.shift shift') c.chain_level-3.result (relation-is relation') (c.chain_level-3.ensures trees.shift)) (shift_level) in
    let equal_level = c.inside-in_equal.ensures (trees.equal equal') (trees.relation relation') (trees.product product') (same_level (trees.equal equal') _ (trees.relation relation') c.chain_level-4.result (equal-is equal') (c.chain_level-4.ensures trees.relation)) (relation_level) in
    let bit_and_level = c.inside-in_bit_and.ensures (trees.bit_and bit_and') (trees.equal equal') (trees.product product') (same_level (trees.bit_and bit_and') _ (trees.equal equal') c.chain_level-5.result (bit_and-is bit_and') (c.chain_level-5.ensures trees.equal)) (equal_level) in
    let bit_xor_level = c.inside-in_bit_xor.ensures (trees.bit_xor bit_xor') (trees.bit_and bit_and') (trees.product product') (same_level (trees.bit_xor bit_xor') _ (trees.bit_and bit_and') c.chain_level-6.result (bit_xor-is bit_xor') (c.chain_level-6.ensures trees.bit_and)) (bit_and_level) in
    let bit_or_level = c.inside-in_bit_or.ensures (trees.bit_or bit_or') (trees.bit_xor bit_xor') (trees.product product') (same_level (trees.bit_or bit_or') _ (trees.bit_xor bit_xor') c.chain_level-7.result (bit_or-is bit_or') (c.chain_level-7.ensures trees.bit_xor)) (bit_xor_level) in
    let and_level = c.inside-in_and.ensures (trees.and and') (trees.bit_or bit_or') (trees.product product') (same_level (trees.and and') _ (trees.bit_or bit_or') c.chain_level-8.result (and-is and') (c.chain_level-8.ensures trees.bit_or)) (bit_or_level) in
    c.inside.ensures (trees.or or') (trees.and and') (trees.product product') (same_level (trees.or or') _ (trees.and and') c.chain_level-9.result (or-is or') (c.chain_level-9.ensures trees.and)) (and_level)
