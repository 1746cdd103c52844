-- Where chains and suffixes begin.
use Rattle.std.proofs.Common.{◌≡◌, List, [], ◌∷◌, map, refl, ap, subst, ◌∙◌}
use Rattle.c_words.specs.declared.word.Leaf.{Leaf}
use Rattle.c_words.specs.declared.chain.Chain.{Chain}
use Rattle.c_words.specs.declared.chain.Link.{Link}
use Rattle.c_grammar.specs.declared.expression.Assign.{Assign}
use Rattle.c_grammar.specs.declared.expression.Choice.{Choice}
use Rattle.c_grammar.specs.declared.expression.Primary.{Primary}
use Rattle.c_grammar.specs.declared.expression.Suffix.{Suffix, out-Suffix, roll-Suffix, roll-out-Suffix}
use Rattle.c_grammar.specs.declared.expression.Suffix.TheVariants as s
use Rattle.c_grammar.specs.declared.expression.Assign.TheOpen.{Suffix-F}
use Rattle.c_grammar.specs.declared.expression.Unary.{Unary}
use Rattle.c_grammar.specs.declared.expression.Postfix.{Postfix, out-Postfix}
use Rattle.c_grammar.specs.declared.expression.Product.{Product, out-Product}
use Rattle.c_grammar.specs.declared.expression.Or.{Or, out-Or}
use Rattle.c_grammar.specs.declared.expression.And.{And, out-And}
use Rattle.c_grammar.specs.declared.expression.BitOr.{BitOr, out-BitOr}
use Rattle.c_grammar.specs.declared.expression.BitXor.{BitXor, out-BitXor}
use Rattle.c_grammar.specs.declared.expression.BitAnd.{BitAnd, out-BitAnd}
use Rattle.c_grammar.specs.declared.expression.Equal.{Equal, out-Equal}
use Rattle.c_grammar.specs.declared.expression.Relation.{Relation, out-Relation}
use Rattle.c_grammar.specs.declared.expression.Shift.{Shift, out-Shift}
use Rattle.c_grammar.specs.declared.expression.Sum.{Sum, out-Sum}
use Rattle.typing_rules.specs.Syntax as syntax
use Rattle.typing_rules.specs.Syntax.{Expression}
use Rattle.typing_rules.specs.Nodes.{first_place}
use Rattle.typing_rules.specs.TreesOfExpressions as trees
use Rattle.typing_rules.specs.TreesOfExpressions.{links, chain, suffixed}
use Rattle.typing_rules.proofs.ExpressionAlternatives.{suffix-Index, suffix-Member, suffix-Arrow, suffix-Increment, suffix-Decrement, postfix-is, product-is, sum-is, shift-is, relation-is, equal-is, bit_and-is, bit_xor-is, bit_or-is, and-is, or-is}
use Rattle.typing_shapes.specs.Levels.{product_in}

-- an expression with a suffix begins where it begins without
first_index : (x : Expression) (t : Leaf) (i : Expression) → first_place (syntax.Index x t i) ≡ first_place x
unfolding first_place
first_index x t i = refl

first_member : (x : Expression) (t m : Leaf) → first_place (syntax.Member x t m) ≡ first_place x
unfolding first_place
first_member x t m = refl

first_arrow : (x : Expression) (t m : Leaf) → first_place (syntax.Arrow x t m) ≡ first_place x
unfolding first_place
first_arrow x t m = refl

first_increment : (x : Expression) (t : Leaf) → first_place (syntax.Increment x t) ≡ first_place x
unfolding first_place
first_increment x t = refl

first_decrement : (x : Expression) (t : Leaf) → first_place (syntax.Decrement x t) ≡ first_place x
unfolding first_place
first_decrement x t = refl

first_suffix : (y : Suffix) (x : Expression) → first_place (trees.suffix y x) ≡ first_place x
first_suffix y x = subst (λ r. first_place (trees.suffix r x) ≡ first_place x) (roll-out-Suffix y) (by (out-Suffix y))
  where
    by : (o : Suffix-F Assign Choice Primary Suffix Unary And BitAnd BitOr BitXor Equal Or Postfix Product Relation Shift Sum) → first_place (trees.suffix (roll-Suffix o) x) ≡ first_place x
    by (Suffix-F.Index o i c) = ap (λ z. first_place (trees.suffix z x)) (s.rolls-Index o i c) ∙ (ap first_place (suffix-Index o i c x) ∙ first_index x o (trees.assign i))
    by (Suffix-F.Member d n) = ap (λ z. first_place (trees.suffix z x)) (s.rolls-Member d n) ∙ (ap first_place (suffix-Member d n x) ∙ first_member x d n)
    by (Suffix-F.Arrow d n) = ap (λ z. first_place (trees.suffix z x)) (s.rolls-Arrow d n) ∙ (ap first_place (suffix-Arrow d n x) ∙ first_arrow x d n)
    by (Suffix-F.Increment t) = ap (λ z. first_place (trees.suffix z x)) (s.rolls-Increment t) ∙ (ap first_place (suffix-Increment t x) ∙ first_increment x t)
    by (Suffix-F.Decrement t) = ap (λ z. first_place (trees.suffix z x)) (s.rolls-Decrement t) ∙ (ap first_place (suffix-Decrement t x) ∙ first_decrement x t)

first_suffixed : (x : Expression) (ys : List Suffix) → first_place (suffixed x (map trees.suffix ys)) ≡ first_place x
unfolding suffixed
first_suffixed x [] = refl
first_suffixed x (y ∷ ys) = first_suffixed (trees.suffix y x) ys ∙ first_suffix y x

pub first_postfix : (x : Postfix) → first_place (trees.postfix x) ≡ first_place (trees.primary (out-Postfix x).primary)
first_postfix x = ap first_place (postfix-is x) ∙ first_suffixed (trees.primary (out-Postfix x).primary) (out-Postfix x).suffixes

module _ {T : Type 0} (f : T → Expression) where
  first_links : (x : Expression) (ls : List (Link T)) → first_place (links f x ls) ≡ first_place x
  unfolding links first_place
  first_links x [] = refl
  first_links x (l ∷ ls) = first_links (syntax.Binary x l.operator (f l.operand)) ls

  pub first_chain : (c : Chain T) → first_place (chain f c) ≡ first_place (f c.first)
  unfolding chain
  first_chain c = first_links (f c.first) c.rest

pub first_product : (x : Product) → first_place (trees.product x) ≡ first_place (trees.unary (out-Product x).0.first)
first_product x = ap first_place (product-is x) ∙ first_chain trees.unary (out-Product x).0

pub first_or : (x : Or) → first_place (trees.or x) ≡ first_place (trees.product (product_in x))
first_or x =
    let and' = (out-Or x).0.first in
    let bit_or' = (out-And and').0.first in
    let bit_xor' = (out-BitOr bit_or').0.first in
    let bit_and' = (out-BitXor bit_xor').0.first in
    let equal' = (out-BitAnd bit_and').0.first in
    let relation' = (out-Equal equal').0.first in
    let shift' = (out-Relation relation').0.first in
    let sum' = (out-Shift shift').0.first in
    let product' = (out-Sum sum').0.first in
    ((ap first_place (or-is x) ∙ first_chain trees.and (out-Or x).0) ∙ ((ap first_place (and-is and') ∙ first_chain trees.bit_or (out-And and').0) ∙ ((ap first_place (bit_or-is bit_or') ∙ first_chain trees.bit_xor (out-BitOr bit_or').0) ∙ ((ap first_place (bit_xor-is bit_xor') ∙ first_chain trees.bit_and (out-BitXor bit_xor').0) ∙ ((ap first_place (bit_and-is bit_and') ∙ first_chain trees.equal (out-BitAnd bit_and').0) ∙ ((ap first_place (equal-is equal') ∙ first_chain trees.relation (out-Equal equal').0) ∙ ((ap first_place (relation-is relation') ∙ first_chain trees.shift (out-Relation relation').0) ∙ ((ap first_place (shift-is shift') ∙ first_chain trees.sum (out-Shift shift').0) ∙ (ap first_place (sum-is sum') ∙ first_chain trees.product (out-Sum sum').0)))))))))
