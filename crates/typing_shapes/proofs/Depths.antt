-- The first operand of a chain is less deep than the chain.
use Rattle.std.proofs.Common.{◌<◌, arith}
use Rattle.c_grammar.specs.declared.expression.Or.{Or, out-Or, size-Or, size_is-Or}
use Rattle.c_grammar.specs.declared.expression.And.{And, out-And, size-And, size_is-And}
use Rattle.c_grammar.specs.declared.expression.BitOr.{BitOr, out-BitOr, size-BitOr, size_is-BitOr}
use Rattle.c_grammar.specs.declared.expression.BitXor.{BitXor, out-BitXor, size-BitXor, size_is-BitXor}
use Rattle.c_grammar.specs.declared.expression.BitAnd.{BitAnd, out-BitAnd, size-BitAnd, size_is-BitAnd}
use Rattle.c_grammar.specs.declared.expression.Equal.{Equal, out-Equal, size-Equal, size_is-Equal}
use Rattle.c_grammar.specs.declared.expression.Relation.{Relation, out-Relation, size-Relation, size_is-Relation}
use Rattle.c_grammar.specs.declared.expression.Shift.{Shift, out-Shift, size-Shift, size_is-Shift}
use Rattle.c_grammar.specs.declared.expression.Sum.{Sum, out-Sum, size-Sum, size_is-Sum}
use Rattle.c_grammar.specs.declared.expression.Product.{Product, out-Product, size-Product, size_is-Product}
use Rattle.c_grammar.specs.declared.expression.Unary.{size-Unary}
use Rattle.typing_shapes.specs.Levels.{product_in}

pub or_deeper : (x : Or) → size-And (out-Or x).0.first < size-Or x
or_deeper x = rw (size_is-Or x) (omega arith)

pub and_deeper : (x : And) → size-BitOr (out-And x).0.first < size-And x
and_deeper x = rw (size_is-And x) (omega arith)

pub bit_or_deeper : (x : BitOr) → size-BitXor (out-BitOr x).0.first < size-BitOr x
bit_or_deeper x = rw (size_is-BitOr x) (omega arith)

pub bit_xor_deeper : (x : BitXor) → size-BitAnd (out-BitXor x).0.first < size-BitXor x
bit_xor_deeper x = rw (size_is-BitXor x) (omega arith)

pub bit_and_deeper : (x : BitAnd) → size-Equal (out-BitAnd x).0.first < size-BitAnd x
bit_and_deeper x = rw (size_is-BitAnd x) (omega arith)

pub equal_deeper : (x : Equal) → size-Relation (out-Equal x).0.first < size-Equal x
equal_deeper x = rw (size_is-Equal x) (omega arith)

pub relation_deeper : (x : Relation) → size-Shift (out-Relation x).0.first < size-Relation x
relation_deeper x = rw (size_is-Relation x) (omega arith)

pub shift_deeper : (x : Shift) → size-Sum (out-Shift x).0.first < size-Shift x
shift_deeper x = rw (size_is-Shift x) (omega arith)

pub sum_deeper : (x : Sum) → size-Product (out-Sum x).0.first < size-Sum x
sum_deeper x = rw (size_is-Sum x) (omega arith)

pub product_deeper : (x : Product) → size-Unary (out-Product x).0.first < size-Product x
product_deeper x = rw (size_is-Product x) (omega arith)

pub product_deeper_in : (x : Or) → size-Product (product_in x) < size-Or x
product_deeper_in x =
    let and' = (out-Or x).0.first in
    let bit_or' = (out-And and').0.first in
    let bit_xor' = (out-BitOr bit_or').0.first in
    let bit_and' = (out-BitXor bit_xor').0.first in
    let equal' = (out-BitAnd bit_and').0.first in
    let relation' = (out-Equal equal').0.first in
    let shift' = (out-Relation relation').0.first in
    let sum' = (out-Shift shift').0.first in
    let product' = (out-Sum sum').0.first in
    omega (arith, or_deeper x, and_deeper and', bit_or_deeper bit_or', bit_xor_deeper bit_xor', bit_and_deeper bit_and', equal_deeper equal', relation_deeper relation', shift_deeper shift', sum_deeper sum')
