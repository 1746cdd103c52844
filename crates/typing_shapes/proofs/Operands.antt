-- What is said of each expression that operators join, said of expressions of all levels: a chain of one operand is that operand.
use Rattle.std.proofs.Common.{◌≡◌, refl, ap, ◌∙◌, Bool, true, false, cond, ◌&&◌, List, [], ◌∷◌}
use Rattle.c_words.specs.declared.word.Leaf.{Leaf}
use Rattle.c_words.specs.declared.chain.Chain.{Chain}
use Rattle.c_words.specs.declared.chain.Link.{Link}
use Rattle.c_grammar.specs.declared.expression.Or.{Or, out-Or}
use Rattle.c_grammar.specs.declared.expression.And.{And, out-And}
use Rattle.c_grammar.specs.declared.expression.BitOr.{BitOr, out-BitOr}
use Rattle.c_grammar.specs.declared.expression.BitXor.{BitXor, out-BitXor}
use Rattle.c_grammar.specs.declared.expression.BitAnd.{BitAnd, out-BitAnd}
use Rattle.c_grammar.specs.declared.expression.Equal.{Equal, out-Equal}
use Rattle.c_grammar.specs.declared.expression.Relation.{Relation, out-Relation}
use Rattle.c_grammar.specs.declared.expression.Shift.{Shift, out-Shift}
use Rattle.c_grammar.specs.declared.expression.Sum.{Sum, out-Sum}
use Rattle.c_grammar.specs.declared.expression.Product.{Product, out-Product}
use Rattle.typing_rules.specs.Syntax.{Expression, Binary}
use Rattle.typing_rules.specs.TreesOfExpressions as trees
use Rattle.typing_rules.specs.TreesOfExpressions.{links, chain}
use Rattle.typing_rules.proofs.ExpressionAlternatives as forms
use Rattle.typing_shapes.specs.Numbers.{has_none, is_lone, lone_or, unary_in_or, lone_and, unary_in_and, lone_bit_or, unary_in_bit_or, lone_bit_xor, unary_in_bit_xor, lone_bit_and, unary_in_bit_and, lone_equal, unary_in_equal, lone_relation, unary_in_relation, lone_shift, unary_in_shift, lone_sum, unary_in_sum, lone_product, unary_in_product}

both : {B : Type 0} (l m : Bool) (o d : B) → cond l (cond m o d) d ≡ cond (l && m) o d
both true m o d = refl
both false m o d = refl

module _ {B : Type 0} (said : Expression → B) (of_joined : B) (joined : (x : Expression) (t : Leaf) (y : Expression) → said (Binary x t y) ≡ of_joined) where
  module _ {A : Type 0} (f : A → Expression) where
    of_links : (x : Expression) (t : Leaf) (y : Expression) (ls : List (Link A)) → said (links f (Binary x t y) ls) ≡ of_joined
    unfolding links
    of_links x t y [] = joined x t y
    of_links x t y (l ∷ ls) = of_links (Binary x t y) l.operator (f l.operand) ls

    of_no_link : (x : Expression) → said (links f x []) ≡ said x
    unfolding links
    of_no_link x = refl

    of_link : (x : Expression) (l : Link A) (ls : List (Link A)) → said (links f x (l ∷ ls)) ≡ of_joined
    unfolding links
    of_link x l ls = of_links x l.operator (f l.operand) ls

    of_chain : (ch : Chain A) → said (chain f ch) ≡ cond (is_lone ch) (said (f ch.first)) of_joined
    unfolding chain
    of_chain ch = by ch.rest
      where
        by : (ls : List (Link A)) → said (links f (f ch.first) ls) ≡ cond (has_none ls) (said (f ch.first)) of_joined
        by [] = of_no_link (f ch.first)
        by (l ∷ ls) = of_link (f ch.first) l ls

  said_of_product : (e : Product) → said (trees.product e) ≡ cond (lone_product e) (said (trees.unary (unary_in_product e))) of_joined
  said_of_product e = ap said (forms.product-is e) ∙ of_chain trees.unary (out-Product e).0

  said_of_sum : (e : Sum) → said (trees.sum e) ≡ cond (lone_sum e) (said (trees.unary (unary_in_sum e))) of_joined
  said_of_sum e = ap said (forms.sum-is e) ∙ of_chain trees.product (out-Sum e).0 ∙ ap (λ o. cond (is_lone (out-Sum e).0) o of_joined) (said_of_product (out-Sum e).0.first) ∙ both (is_lone (out-Sum e).0) (lone_product (out-Sum e).0.first) (said (trees.unary (unary_in_sum e))) of_joined

  said_of_shift : (e : Shift) → said (trees.shift e) ≡ cond (lone_shift e) (said (trees.unary (unary_in_shift e))) of_joined
  said_of_shift e = ap said (forms.shift-is e) ∙ of_chain trees.sum (out-Shift e).0 ∙ ap (λ o. cond (is_lone (out-Shift e).0) o of_joined) (said_of_sum (out-Shift e).0.first) ∙ both (is_lone (out-Shift e).0) (lone_sum (out-Shift e).0.first) (said (trees.unary (unary_in_shift e))) of_joined

  said_of_relation : (e : Relation) → said (trees.relation e) ≡ cond (lone_relation e) (said (trees.unary (unary_in_relation e))) of_joined
  said_of_relation e = ap said (forms.relation-is e) ∙ of_chain trees.shift (out-Relation e).0 ∙ ap (λ o. cond (is_lone (out-Relation e).0) o of_joined) (said_of_shift (out-Relation e).0.first) ∙ both (is_lone (out-Relation e).0) (lone_shift (out-Relation e).0.first) (said (trees.unary (unary_in_relation e))) of_joined

  said_of_equal : (e : Equal) → said (trees.equal e) ≡ cond (lone_equal e) (said (trees.unary (unary_in_equal e))) of_joined
  said_of_equal e = ap said (forms.equal-is e) ∙ of_chain trees.relation (out-Equal e).0 ∙ ap (λ o. cond (is_lone (out-Equal e).0) o of_joined) (said_of_relation (out-Equal e).0.first) ∙ both (is_lone (out-Equal e).0) (lone_relation (out-Equal e).0.first) (said (trees.unary (unary_in_equal e))) of_joined

  said_of_bit_and : (e : BitAnd) → said (trees.bit_and e) ≡ cond (lone_bit_and e) (said (trees.unary (unary_in_bit_and e))) of_joined
  said_of_bit_and e = ap said (forms.bit_and-is e) ∙ of_chain trees.equal (out-BitAnd e).0 ∙ ap (λ o. cond (is_lone (out-BitAnd e).0) o of_joined) (said_of_equal (out-BitAnd e).0.first) ∙ both (is_lone (out-BitAnd e).0) (lone_equal (out-BitAnd e).0.first) (said (trees.unary (unary_in_bit_and e))) of_joined

  said_of_bit_xor : (e : BitXor) → said (trees.bit_xor e) ≡ cond (lone_bit_xor e) (said (trees.unary (unary_in_bit_xor e))) of_joined
  said_of_bit_xor e = ap said (forms.bit_xor-is e) ∙ of_chain trees.bit_and (out-BitXor e).0 ∙ ap (λ o. cond (is_lone (out-BitXor e).0) o of_joined) (said_of_bit_and (out-BitXor e).0.first) ∙ both (is_lone (out-BitXor e).0) (lone_bit_and (out-BitXor e).0.first) (said (trees.unary (unary_in_bit_xor e))) of_joined

  said_of_bit_or : (e : BitOr) → said (trees.bit_or e) ≡ cond (lone_bit_or e) (said (trees.unary (unary_in_bit_or e))) of_joined
  said_of_bit_or e = ap said (forms.bit_or-is e) ∙ of_chain trees.bit_xor (out-BitOr e).0 ∙ ap (λ o. cond (is_lone (out-BitOr e).0) o of_joined) (said_of_bit_xor (out-BitOr e).0.first) ∙ both (is_lone (out-BitOr e).0) (lone_bit_xor (out-BitOr e).0.first) (said (trees.unary (unary_in_bit_or e))) of_joined

  said_of_and : (e : And) → said (trees.and e) ≡ cond (lone_and e) (said (trees.unary (unary_in_and e))) of_joined
  said_of_and e = ap said (forms.and-is e) ∙ of_chain trees.bit_or (out-And e).0 ∙ ap (λ o. cond (is_lone (out-And e).0) o of_joined) (said_of_bit_or (out-And e).0.first) ∙ both (is_lone (out-And e).0) (lone_bit_or (out-And e).0.first) (said (trees.unary (unary_in_and e))) of_joined

  pub said_of_or : (e : Or) → said (trees.or e) ≡ cond (lone_or e) (said (trees.unary (unary_in_or e))) of_joined
  said_of_or e = ap said (forms.or-is e) ∙ of_chain trees.and (out-Or e).0 ∙ ap (λ o. cond (is_lone (out-Or e).0) o of_joined) (said_of_and (out-Or e).0.first) ∙ both (is_lone (out-Or e).0) (lone_and (out-Or e).0.first) (said (trees.unary (unary_in_or e))) of_joined
