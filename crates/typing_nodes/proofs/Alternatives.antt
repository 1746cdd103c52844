-- The nodes of each alternative of the trees of expressions.
use Rattle.std.proofs.Common.{◌≡◌, ℕ, suc, ◌+◌, ◌<◌, ◌≤◌, List, [], ◌∷◌, map, drop, length, get_or, Option, Some, None, refl, sym, ap, ◌∙◌, arith}
use Rattle.std.proofs.Math.Seq.{drop-cons}
use Rattle.std.proofs.lemmas.List.{drop_all}
use Rattle.c_words.specs.declared.chain.Chain.{Chain}
use Rattle.c_words.specs.declared.chain.Link.{Link}
use Rattle.c_grammar.specs.declared.expression.Assign.{Assign}
use Rattle.typing_rules.specs.Nodes.{nodes, all_nodes}
use Rattle.typing_rules.specs.Syntax as syntax
use Rattle.typing_rules.specs.Syntax.{Expression}
use Rattle.typing_rules.specs.TreesOfExpressions as trees
use Rattle.typing_rules.specs.TreesOfExpressions.{links, chain, listed, listed_after, suffixed}
use Rattle.typing_rules.proofs.ExpressionAlternatives as alternative
use Rattle.typing_nodes.specs.Counts.{link_nodes, after_nodes}
use Rattle.c_grammar.specs.declared.expression.Product.{Product, out-Product}
use Rattle.c_grammar.specs.declared.expression.Sum.{Sum, out-Sum}
use Rattle.c_grammar.specs.declared.expression.Shift.{Shift, out-Shift}
use Rattle.c_grammar.specs.declared.expression.Relation.{Relation, out-Relation}
use Rattle.c_grammar.specs.declared.expression.Equal.{Equal, out-Equal}
use Rattle.c_grammar.specs.declared.expression.BitAnd.{BitAnd, out-BitAnd}
use Rattle.c_grammar.specs.declared.expression.BitXor.{BitXor, out-BitXor}
use Rattle.c_grammar.specs.declared.expression.BitOr.{BitOr, out-BitOr}
use Rattle.c_grammar.specs.declared.expression.And.{And, out-And}
use Rattle.c_grammar.specs.declared.expression.Or.{Or, out-Or}
use Rattle.c_words.specs.declared.word.Leaf.{Leaf}
use Rattle.c_grammar.specs.declared.expression.Postfix.{Postfix, out-Postfix}
use Rattle.c_grammar.specs.declared.expression.Primary.TheVariants as p
use Rattle.c_grammar.specs.declared.expression.Suffix.{Suffix}

links_nodes : {A : Type 0} (f : A → Expression) (x : Expression) (ls : List (Link A)) → nodes (links f x ls) ≡ nodes x + link_nodes f ls
unfolding links link_nodes
links_nodes f x [] = omega arith
links_nodes f x (l ∷ ls) = let h = links_nodes f (syntax.Binary x l.operator (f l.operand)) ls in omega (arith, h)

chain_nodes : {A : Type 0} (f : A → Expression) (c : Chain A) → nodes (chain f c) ≡ nodes (f c.first) + link_nodes f c.rest
unfolding chain
chain_nodes f c = links_nodes f (f c.first) c.rest

listed_nodes : {A : Type 0} (f : A → Expression) (ls : List (Link A)) → all_nodes (listed_after f ls) ≡ after_nodes f ls
unfolding listed_after after_nodes
listed_nodes f [] = refl
listed_nodes f (l ∷ ls) = ap (λ n. nodes (f l.operand) + n) (listed_nodes f ls)

pub listed_some : {A : Type 0} (f : A → Expression) (c : Chain A) → all_nodes (listed f (Some c)) ≡ nodes (f c.first) + after_nodes f c.rest
unfolding listed
listed_some f c = ap (λ n. nodes (f c.first) + n) (listed_nodes f c.rest)

pub listed_none : {A : Type 0} (f : A → Expression) → all_nodes (listed f None) ≡ 0
unfolding listed
listed_none f = refl

pub postfix_nodes : (x : Postfix) → nodes (trees.postfix x) ≡ nodes (suffixed (trees.primary (out-Postfix x).primary) (map trees.suffix (out-Postfix x).suffixes))
postfix_nodes x = ap nodes (alternative.postfix-is x)

pub level_product : (x : Product) → nodes (trees.product x) ≡ nodes (trees.unary (out-Product x).0.first) + link_nodes trees.unary (out-Product x).0.rest
level_product x = ap nodes (alternative.product-is x) ∙ chain_nodes trees.unary (out-Product x).0

pub level_sum : (x : Sum) → nodes (trees.sum x) ≡ nodes (trees.product (out-Sum x).0.first) + link_nodes trees.product (out-Sum x).0.rest
level_sum x = ap nodes (alternative.sum-is x) ∙ chain_nodes trees.product (out-Sum x).0

pub level_shift : (x : Shift) → nodes (trees.shift x) ≡ nodes (trees.sum (out-Shift x).0.first) + link_nodes trees.sum (out-Shift x).0.rest
level_shift x = ap nodes (alternative.shift-is x) ∙ chain_nodes trees.sum (out-Shift x).0

pub level_relation : (x : Relation) → nodes (trees.relation x) ≡ nodes (trees.shift (out-Relation x).0.first) + link_nodes trees.shift (out-Relation x).0.rest
level_relation x = ap nodes (alternative.relation-is x) ∙ chain_nodes trees.shift (out-Relation x).0

pub level_equal : (x : Equal) → nodes (trees.equal x) ≡ nodes (trees.relation (out-Equal x).0.first) + link_nodes trees.relation (out-Equal x).0.rest
level_equal x = ap nodes (alternative.equal-is x) ∙ chain_nodes trees.relation (out-Equal x).0

pub level_bit_and : (x : BitAnd) → nodes (trees.bit_and x) ≡ nodes (trees.equal (out-BitAnd x).0.first) + link_nodes trees.equal (out-BitAnd x).0.rest
level_bit_and x = ap nodes (alternative.bit_and-is x) ∙ chain_nodes trees.equal (out-BitAnd x).0

pub level_bit_xor : (x : BitXor) → nodes (trees.bit_xor x) ≡ nodes (trees.bit_and (out-BitXor x).0.first) + link_nodes trees.bit_and (out-BitXor x).0.rest
level_bit_xor x = ap nodes (alternative.bit_xor-is x) ∙ chain_nodes trees.bit_and (out-BitXor x).0

pub level_bit_or : (x : BitOr) → nodes (trees.bit_or x) ≡ nodes (trees.bit_xor (out-BitOr x).0.first) + link_nodes trees.bit_xor (out-BitOr x).0.rest
level_bit_or x = ap nodes (alternative.bit_or-is x) ∙ chain_nodes trees.bit_xor (out-BitOr x).0

pub level_and : (x : And) → nodes (trees.and x) ≡ nodes (trees.bit_or (out-And x).0.first) + link_nodes trees.bit_or (out-And x).0.rest
level_and x = ap nodes (alternative.and-is x) ∙ chain_nodes trees.bit_or (out-And x).0

pub level_or : (x : Or) → nodes (trees.or x) ≡ nodes (trees.and (out-Or x).0.first) + link_nodes trees.and (out-Or x).0.rest
level_or x = ap nodes (alternative.or-is x) ∙ chain_nodes trees.and (out-Or x).0

pub call_nodes : (t o : Leaf) (a : Option (Chain Assign)) (c : Leaf) → nodes (trees.primary (p.Call t o a c)) ≡ suc (all_nodes (listed trees.assign a))
unfolding listed
call_nodes t o None c = ap nodes (alternative.primary-Call-none t o c)
call_nodes t o (Some x) c = ap nodes (alternative.primary-Call-some t o x c)

-- the suffixes that are left, behind what stands before them
pub suffixed_more : (x : Expression) (s : Suffix) (ss : List Suffix) → suffixed x (map trees.suffix (s ∷ ss)) ≡ suffixed (trees.suffix s x) (map trees.suffix ss)
unfolding suffixed
suffixed_more x s ss = refl

pub suffixed_none : (x : Expression) → suffixed x (map trees.suffix []) ≡ x
unfolding suffixed
suffixed_none x = refl

-- one suffix more stands before those that are left
pub next_suffix : (x : Expression) (ss : List Suffix) (i : ℕ) (s : Suffix) → i < length ss → s ≡ get_or ss i s → suffixed x (map trees.suffix (drop i ss)) ≡ suffixed (trees.suffix s x) (map trees.suffix (drop (i + 1) ss))
next_suffix x ss i s below is =
    let next : suc i ≡ i + 1 = omega arith in
    ap (λ l. suffixed x (map trees.suffix l)) (drop-cons ss i s below ∙ ap (λ y. y ∷ drop (suc i) ss) (sym is))
    ∙ suffixed_more x s (drop (suc i) ss)
    ∙ ap (λ k. suffixed (trees.suffix s x) (map trees.suffix (drop k ss))) next

pub no_suffix : (x : Expression) (ss : List Suffix) (i : ℕ) → length ss ≤ i → suffixed x (map trees.suffix (drop i ss)) ≡ x
no_suffix x ss i past = ap (λ l. suffixed x (map trees.suffix l)) (drop_all i ss past) ∙ suffixed_none x
