-- Expressions that are a number alone.
use Rattle.std.specs.Prelude.{Bool, true, false, ◌&&◌, List, [], ◌∷◌, Option, Some, None}
use Rattle.c_words.specs.declared.word.Leaf.{Leaf}
use Rattle.c_words.specs.declared.chain.Chain.{Chain}
use Rattle.c_grammar.specs.declared.expression.Or.{Or, out-Or}
use Rattle.c_grammar.specs.declared.expression.And.{And, out-And}
use Rattle.c_grammar.specs.declared.expression.BitOr.{BitOr, out-BitOr}
use Rattle.c_grammar.specs.declared.expression.BitXor.{BitXor, out-BitXor}
use Rattle.c_grammar.specs.declared.expression.BitAnd.{BitAnd, out-BitAnd}
use Rattle.c_grammar.specs.declared.expression.Equal.{Equal, out-Equal}
use Rattle.c_grammar.specs.declared.expression.Relation.{Relation, out-Relation}
use Rattle.c_grammar.specs.declared.expression.Shift.{Shift, out-Shift}
use Rattle.c_grammar.specs.declared.expression.Sum.{Sum, out-Sum}
use Rattle.c_grammar.specs.declared.expression.Product.{Product, out-Product}
use Rattle.c_grammar.specs.declared.expression.Unary.{Unary}
use Rattle.typing_rules.specs.Syntax.{Expression, Number}

-- the token of a number
unfoldable pub number_leaf : Expression → Option Leaf
number_leaf (Number t) = Some t
number_leaf _ = None

abbrev pub has_none : {A : Type 0} → List A → Bool
has_none [] = true
has_none (x ∷ xs) = false

-- a chain of one operand
abbrev pub is_lone : {A : Type 0} → Chain A → Bool
is_lone c = has_none c.rest

-- ---- whether each level from this one on has one operand, and the operand

abbrev pub lone_product : Product → Bool
lone_product e = is_lone (out-Product e).0

abbrev pub unary_in_product : Product → Unary
unary_in_product e = (out-Product e).0.first

abbrev pub lone_sum : Sum → Bool
lone_sum e = is_lone (out-Sum e).0 && lone_product (out-Sum e).0.first

abbrev pub unary_in_sum : Sum → Unary
unary_in_sum e = unary_in_product (out-Sum e).0.first

abbrev pub lone_shift : Shift → Bool
lone_shift e = is_lone (out-Shift e).0 && lone_sum (out-Shift e).0.first

abbrev pub unary_in_shift : Shift → Unary
unary_in_shift e = unary_in_sum (out-Shift e).0.first

abbrev pub lone_relation : Relation → Bool
lone_relation e = is_lone (out-Relation e).0 && lone_shift (out-Relation e).0.first

abbrev pub unary_in_relation : Relation → Unary
unary_in_relation e = unary_in_shift (out-Relation e).0.first

abbrev pub lone_equal : Equal → Bool
lone_equal e = is_lone (out-Equal e).0 && lone_relation (out-Equal e).0.first

abbrev pub unary_in_equal : Equal → Unary
unary_in_equal e = unary_in_relation (out-Equal e).0.first

abbrev pub lone_bit_and : BitAnd → Bool
lone_bit_and e = is_lone (out-BitAnd e).0 && lone_equal (out-BitAnd e).0.first

abbrev pub unary_in_bit_and : BitAnd → Unary
unary_in_bit_and e = unary_in_equal (out-BitAnd e).0.first

abbrev pub lone_bit_xor : BitXor → Bool
lone_bit_xor e = is_lone (out-BitXor e).0 && lone_bit_and (out-BitXor e).0.first

abbrev pub unary_in_bit_xor : BitXor → Unary
unary_in_bit_xor e = unary_in_bit_and (out-BitXor e).0.first

abbrev pub lone_bit_or : BitOr → Bool
lone_bit_or e = is_lone (out-BitOr e).0 && lone_bit_xor (out-BitOr e).0.first

abbrev pub unary_in_bit_or : BitOr → Unary
unary_in_bit_or e = unary_in_bit_xor (out-BitOr e).0.first

abbrev pub lone_and : And → Bool
lone_and e = is_lone (out-And e).0 && lone_bit_or (out-And e).0.first

abbrev pub unary_in_and : And → Unary
unary_in_and e = unary_in_bit_or (out-And e).0.first

abbrev pub lone_or : Or → Bool
lone_or e = is_lone (out-Or e).0 && lone_and (out-Or e).0.first

abbrev pub unary_in_or : Or → Unary
unary_in_or e = unary_in_and (out-Or e).0.first
