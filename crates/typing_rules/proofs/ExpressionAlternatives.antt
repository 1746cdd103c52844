-- What each alternative of an expression says, as one equation each.
use Rattle.std.proofs.Common.{◌≡◌, List, [], ◌∷◌, Some, None, refl, sym, ap, map, ◌∙◌}
use Rattle.c_words.specs.declared.word.Leaf.{Leaf}
use Rattle.c_words.specs.declared.chain.Chain.{Chain}
use Rattle.c_words.specs.declared.chain.Link.{Link}
use Rattle.c_grammar.specs.declared.types.TypeName.{TypeName}
use Rattle.c_grammar.specs.declared.expression.Assign.{Assign, fold-roll-Assign}
use Rattle.c_grammar.specs.declared.expression.Choice.{Choice, fold-roll-Choice}
use Rattle.c_grammar.specs.declared.expression.Primary.{fold-roll-Primary}
use Rattle.c_grammar.specs.declared.expression.Suffix.{fold-roll-Suffix}
use Rattle.c_grammar.specs.declared.expression.Unary.{Unary, fold-roll-Unary}
use Rattle.c_grammar.specs.declared.expression.Postfix.{Postfix, fold-roll-Postfix, out-Postfix, roll-out-Postfix}
use Rattle.c_grammar.specs.declared.expression.Product.{Product, fold-roll-Product, out-Product, roll-out-Product}
use Rattle.c_grammar.specs.declared.expression.Sum.{Sum, fold-roll-Sum, out-Sum, roll-out-Sum}
use Rattle.c_grammar.specs.declared.expression.Shift.{Shift, fold-roll-Shift, out-Shift, roll-out-Shift}
use Rattle.c_grammar.specs.declared.expression.Relation.{Relation, fold-roll-Relation, out-Relation, roll-out-Relation}
use Rattle.c_grammar.specs.declared.expression.Equal.{Equal, fold-roll-Equal, out-Equal, roll-out-Equal}
use Rattle.c_grammar.specs.declared.expression.BitAnd.{BitAnd, fold-roll-BitAnd, out-BitAnd, roll-out-BitAnd}
use Rattle.c_grammar.specs.declared.expression.BitXor.{BitXor, fold-roll-BitXor, out-BitXor, roll-out-BitXor}
use Rattle.c_grammar.specs.declared.expression.BitOr.{BitOr, fold-roll-BitOr, out-BitOr, roll-out-BitOr}
use Rattle.c_grammar.specs.declared.expression.And.{And, fold-roll-And, out-And, roll-out-And}
use Rattle.c_grammar.specs.declared.expression.Or.{Or, fold-roll-Or, out-Or, roll-out-Or}
use Rattle.c_grammar.specs.declared.expression.Assign.TheVariants as a
use Rattle.c_grammar.specs.declared.expression.Choice.TheVariants as c
use Rattle.c_grammar.specs.declared.expression.Unary.TheVariants as u
use Rattle.c_grammar.specs.declared.expression.Suffix.TheVariants as s
use Rattle.c_grammar.specs.declared.expression.Primary.TheVariants as p
use Rattle.typing_rules.specs.Syntax as syntax
use Rattle.typing_rules.specs.Syntax.{Expression}
use Rattle.typing_rules.specs.TreesOfExpressions.{links, chain, listed, listed_after, suffixed, spelled, assign, choice, unary, postfix, primary, suffix, product, sum, shift, relation, equal, bit_and, bit_xor, bit_or, and, or, assign_step, choice_step, primary_step, suffix_step, unary_step, and_step, bit_and_step, bit_or_step, bit_xor_step, equal_step, or_step, postfix_step, product_step, relation_step, shift_step, sum_step}

-- ---- lists of parts that were replaced by what they say

module _ {A B : Type 0} (f : A → Expression) (g : B → Expression) (h : Link A → Link B)
    (same_operator : (l : Link A) → (h l).operator ≡ l.operator) (same_operand : (l : Link A) → g (h l).operand ≡ f l.operand) where
  pub links-map : (x : Expression) (ls : List (Link A)) → links g x (map h ls) ≡ links f x ls
  unfolding links
  links-map x [] = refl
  links-map x (l ∷ ls) = rw (same_operator l, same_operand l) (links-map (syntax.Binary x l.operator (f l.operand)) ls)

  pub listed-map : (ls : List (Link A)) → listed_after g (map h ls) ≡ listed_after f ls
  unfolding listed_after
  listed-map [] = refl
  listed-map (l ∷ ls) = rw (same_operand l, listed-map ls) refl

pub assign-Choice : (x : Choice) → assign (a.Choice x) ≡ choice x
unfolding assign assign_step choice
assign-Choice x = ap assign (sym (a.rolls-Choice x)) ∙ fold-roll-Assign _ _ _ _ _ _ _ _ _ _ _ _ _ _ _ _ assign_step choice_step primary_step suffix_step unary_step and_step bit_and_step bit_or_step bit_xor_step equal_step or_step postfix_step product_step relation_step shift_step sum_step _

pub assign-Assign : (l : Unary) (t : Leaf) (r : Assign) → assign (a.Assign l t r) ≡ syntax.Assign (unary l) t (assign r)
unfolding assign assign_step unary
assign-Assign l t r = ap assign (sym (a.rolls-Assign l t r)) ∙ fold-roll-Assign _ _ _ _ _ _ _ _ _ _ _ _ _ _ _ _ assign_step choice_step primary_step suffix_step unary_step and_step bit_and_step bit_or_step bit_xor_step equal_step or_step postfix_step product_step relation_step shift_step sum_step _

pub choice-Or : (x : Or) → choice (c.Or x) ≡ or x
unfolding choice choice_step or
choice-Or x = ap choice (sym (c.rolls-Or x)) ∙ fold-roll-Choice _ _ _ _ _ _ _ _ _ _ _ _ _ _ _ _ assign_step choice_step primary_step suffix_step unary_step and_step bit_and_step bit_or_step bit_xor_step equal_step or_step postfix_step product_step relation_step shift_step sum_step _

pub choice-Choose : (x : Or) (q : Leaf) (y : Assign) (d : Leaf) (z : Choice) → choice (c.Choose x q y d z) ≡ syntax.Choose (or x) q (assign y) (choice z)
unfolding assign choice choice_step or
choice-Choose x q y d z = ap choice (sym (c.rolls-Choose x q y d z)) ∙ fold-roll-Choice _ _ _ _ _ _ _ _ _ _ _ _ _ _ _ _ assign_step choice_step primary_step suffix_step unary_step and_step bit_and_step bit_or_step bit_xor_step equal_step or_step postfix_step product_step relation_step shift_step sum_step _

pub unary-Postfix : (x : Postfix) → unary (u.Postfix x) ≡ postfix x
unfolding postfix unary unary_step
unary-Postfix x = ap unary (sym (u.rolls-Postfix x)) ∙ fold-roll-Unary _ _ _ _ _ _ _ _ _ _ _ _ _ _ _ _ assign_step choice_step primary_step suffix_step unary_step and_step bit_and_step bit_or_step bit_xor_step equal_step or_step postfix_step product_step relation_step shift_step sum_step _

pub unary-Prefix : (t : Leaf) (x : Unary) → unary (u.Prefix t x) ≡ syntax.Prefix t (unary x)
unfolding unary unary_step
unary-Prefix t x = ap unary (sym (u.rolls-Prefix t x)) ∙ fold-roll-Unary _ _ _ _ _ _ _ _ _ _ _ _ _ _ _ _ assign_step choice_step primary_step suffix_step unary_step and_step bit_and_step bit_or_step bit_xor_step equal_step or_step postfix_step product_step relation_step shift_step sum_step _

pub unary-Cast : (o : Leaf) (t : TypeName) (c : Leaf) (x : Unary) → unary (u.Cast o t c x) ≡ syntax.Cast o (spelled t) (unary x)
unfolding unary unary_step
unary-Cast o t c x = ap unary (sym (u.rolls-Cast o t c x)) ∙ fold-roll-Unary _ _ _ _ _ _ _ _ _ _ _ _ _ _ _ _ assign_step choice_step primary_step suffix_step unary_step and_step bit_and_step bit_or_step bit_xor_step equal_step or_step postfix_step product_step relation_step shift_step sum_step _

pub unary-SizeOf : (t : Leaf) (x : Unary) → unary (u.SizeOf t x) ≡ syntax.SizeOf t (unary x)
unfolding unary unary_step
unary-SizeOf t x = ap unary (sym (u.rolls-SizeOf t x)) ∙ fold-roll-Unary _ _ _ _ _ _ _ _ _ _ _ _ _ _ _ _ assign_step choice_step primary_step suffix_step unary_step and_step bit_and_step bit_or_step bit_xor_step equal_step or_step postfix_step product_step relation_step shift_step sum_step _

pub unary-SizeOfType : (t : Leaf) (o : Leaf) (n : TypeName) (c : Leaf) → unary (u.SizeOfType t o n c) ≡ syntax.SizeOfType t (spelled n)
unfolding unary unary_step
unary-SizeOfType t o n c = ap unary (sym (u.rolls-SizeOfType t o n c)) ∙ fold-roll-Unary _ _ _ _ _ _ _ _ _ _ _ _ _ _ _ _ assign_step choice_step primary_step suffix_step unary_step and_step bit_and_step bit_or_step bit_xor_step equal_step or_step postfix_step product_step relation_step shift_step sum_step _

pub primary-Name : (t : Leaf) → primary (p.Name t) ≡ syntax.Name t
unfolding primary primary_step
primary-Name t = ap primary (sym (p.rolls-Name t)) ∙ fold-roll-Primary _ _ _ _ _ _ _ _ _ _ _ _ _ _ _ _ assign_step choice_step primary_step suffix_step unary_step and_step bit_and_step bit_or_step bit_xor_step equal_step or_step postfix_step product_step relation_step shift_step sum_step _

pub primary-Number : (t : Leaf) → primary (p.Number t) ≡ syntax.Number t
unfolding primary primary_step
primary-Number t = ap primary (sym (p.rolls-Number t)) ∙ fold-roll-Primary _ _ _ _ _ _ _ _ _ _ _ _ _ _ _ _ assign_step choice_step primary_step suffix_step unary_step and_step bit_and_step bit_or_step bit_xor_step equal_step or_step postfix_step product_step relation_step shift_step sum_step _

pub primary-Character : (t : Leaf) → primary (p.Character t) ≡ syntax.Character t
unfolding primary primary_step
primary-Character t = ap primary (sym (p.rolls-Character t)) ∙ fold-roll-Primary _ _ _ _ _ _ _ _ _ _ _ _ _ _ _ _ assign_step choice_step primary_step suffix_step unary_step and_step bit_and_step bit_or_step bit_xor_step equal_step or_step postfix_step product_step relation_step shift_step sum_step _

pub primary-Paren : (o : Leaf) (x : Assign) (c : Leaf) → primary (p.Paren o x c) ≡ syntax.Paren o (assign x)
unfolding assign primary primary_step
primary-Paren o x c = ap primary (sym (p.rolls-Paren o x c)) ∙ fold-roll-Primary _ _ _ _ _ _ _ _ _ _ _ _ _ _ _ _ assign_step choice_step primary_step suffix_step unary_step and_step bit_and_step bit_or_step bit_xor_step equal_step or_step postfix_step product_step relation_step shift_step sum_step _

pub primary-Call-none : (t : Leaf) (o : Leaf) (c : Leaf) → primary (p.Call t o None c) ≡ syntax.Call t syntax.NoMore
unfolding primary primary_step listed
primary-Call-none t o c = ap primary (sym (p.rolls-Call t o None c)) ∙ fold-roll-Primary _ _ _ _ _ _ _ _ _ _ _ _ _ _ _ _ assign_step choice_step primary_step suffix_step unary_step and_step bit_and_step bit_or_step bit_xor_step equal_step or_step postfix_step product_step relation_step shift_step sum_step _

pub primary-Call-some : (t : Leaf) (o : Leaf) (x : Chain Assign) (c : Leaf) → primary (p.Call t o (Some x) c) ≡ syntax.Call t (listed assign (Some x))
unfolding assign primary primary_step listed
primary-Call-some t o x c = ap primary (sym (p.rolls-Call t o (Some x) c)) ∙ fold-roll-Primary _ _ _ _ _ _ _ _ _ _ _ _ _ _ _ _ assign_step choice_step primary_step suffix_step unary_step and_step bit_and_step bit_or_step bit_xor_step equal_step or_step postfix_step product_step relation_step shift_step sum_step _
    ∙ ap (λ more. syntax.Call t (syntax.Then (assign x.first) more)) (listed-map assign (λ y. y) _ (λ l. refl) (λ l. refl) x.rest)

pub suffix-Index : (o : Leaf) (i : Assign) (c : Leaf) (x : Expression) → suffix (s.Index o i c) x ≡ syntax.Index x o (assign i)
unfolding assign suffix suffix_step
suffix-Index o i c x = ap (λ y. suffix y x) (sym (s.rolls-Index o i c)) ∙ ap (λ f. f x) (fold-roll-Suffix _ _ _ _ _ _ _ _ _ _ _ _ _ _ _ _ assign_step choice_step primary_step suffix_step unary_step and_step bit_and_step bit_or_step bit_xor_step equal_step or_step postfix_step product_step relation_step shift_step sum_step _)

pub suffix-Member : (d : Leaf) (n : Leaf) (x : Expression) → suffix (s.Member d n) x ≡ syntax.Member x d n
unfolding suffix suffix_step
suffix-Member d n x = ap (λ y. suffix y x) (sym (s.rolls-Member d n)) ∙ ap (λ f. f x) (fold-roll-Suffix _ _ _ _ _ _ _ _ _ _ _ _ _ _ _ _ assign_step choice_step primary_step suffix_step unary_step and_step bit_and_step bit_or_step bit_xor_step equal_step or_step postfix_step product_step relation_step shift_step sum_step _)

pub suffix-Arrow : (d : Leaf) (n : Leaf) (x : Expression) → suffix (s.Arrow d n) x ≡ syntax.Arrow x d n
unfolding suffix suffix_step
suffix-Arrow d n x = ap (λ y. suffix y x) (sym (s.rolls-Arrow d n)) ∙ ap (λ f. f x) (fold-roll-Suffix _ _ _ _ _ _ _ _ _ _ _ _ _ _ _ _ assign_step choice_step primary_step suffix_step unary_step and_step bit_and_step bit_or_step bit_xor_step equal_step or_step postfix_step product_step relation_step shift_step sum_step _)

pub suffix-Increment : (t : Leaf) (x : Expression) → suffix (s.Increment t) x ≡ syntax.Increment x t
unfolding suffix suffix_step
suffix-Increment t x = ap (λ y. suffix y x) (sym (s.rolls-Increment t)) ∙ ap (λ f. f x) (fold-roll-Suffix _ _ _ _ _ _ _ _ _ _ _ _ _ _ _ _ assign_step choice_step primary_step suffix_step unary_step and_step bit_and_step bit_or_step bit_xor_step equal_step or_step postfix_step product_step relation_step shift_step sum_step _)

pub suffix-Decrement : (t : Leaf) (x : Expression) → suffix (s.Decrement t) x ≡ syntax.Decrement x t
unfolding suffix suffix_step
suffix-Decrement t x = ap (λ y. suffix y x) (sym (s.rolls-Decrement t)) ∙ ap (λ f. f x) (fold-roll-Suffix _ _ _ _ _ _ _ _ _ _ _ _ _ _ _ _ assign_step choice_step primary_step suffix_step unary_step and_step bit_and_step bit_or_step bit_xor_step equal_step or_step postfix_step product_step relation_step shift_step sum_step _)

pub postfix-is : (x : Postfix) → postfix x ≡ suffixed (primary (out-Postfix x).primary) (map suffix (out-Postfix x).suffixes)
unfolding postfix primary suffix postfix_step
postfix-is x = ap postfix (sym (roll-out-Postfix x)) ∙ fold-roll-Postfix _ _ _ _ _ _ _ _ _ _ _ _ _ _ _ _ assign_step choice_step primary_step suffix_step unary_step and_step bit_and_step bit_or_step bit_xor_step equal_step or_step postfix_step product_step relation_step shift_step sum_step _

pub product-is : (x : Product) → product x ≡ chain unary (out-Product x).0
unfolding product unary product_step chain
product-is x = ap product (sym (roll-out-Product x)) ∙ fold-roll-Product _ _ _ _ _ _ _ _ _ _ _ _ _ _ _ _ assign_step choice_step primary_step suffix_step unary_step and_step bit_and_step bit_or_step bit_xor_step equal_step or_step postfix_step product_step relation_step shift_step sum_step _
    ∙ links-map unary (λ x. x) _ (λ l. refl) (λ l. refl) (unary (out-Product x).0.first) (out-Product x).0.rest

pub sum-is : (x : Sum) → sum x ≡ chain product (out-Sum x).0
unfolding sum product sum_step chain
sum-is x = ap sum (sym (roll-out-Sum x)) ∙ fold-roll-Sum _ _ _ _ _ _ _ _ _ _ _ _ _ _ _ _ assign_step choice_step primary_step suffix_step unary_step and_step bit_and_step bit_or_step bit_xor_step equal_step or_step postfix_step product_step relation_step shift_step sum_step _
    ∙ links-map product (λ x. x) _ (λ l. refl) (λ l. refl) (product (out-Sum x).0.first) (out-Sum x).0.rest

pub shift-is : (x : Shift) → shift x ≡ chain sum (out-Shift x).0
unfolding shift sum shift_step chain
shift-is x = ap shift (sym (roll-out-Shift x)) ∙ fold-roll-Shift _ _ _ _ _ _ _ _ _ _ _ _ _ _ _ _ assign_step choice_step primary_step suffix_step unary_step and_step bit_and_step bit_or_step bit_xor_step equal_step or_step postfix_step product_step relation_step shift_step sum_step _
    ∙ links-map sum (λ x. x) _ (λ l. refl) (λ l. refl) (sum (out-Shift x).0.first) (out-Shift x).0.rest

pub relation-is : (x : Relation) → relation x ≡ chain shift (out-Relation x).0
unfolding relation shift relation_step chain
relation-is x = ap relation (sym (roll-out-Relation x)) ∙ fold-roll-Relation _ _ _ _ _ _ _ _ _ _ _ _ _ _ _ _ assign_step choice_step primary_step suffix_step unary_step and_step bit_and_step bit_or_step bit_xor_step equal_step or_step postfix_step product_step relation_step shift_step sum_step _
    ∙ links-map shift (λ x. x) _ (λ l. refl) (λ l. refl) (shift (out-Relation x).0.first) (out-Relation x).0.rest

pub equal-is : (x : Equal) → equal x ≡ chain relation (out-Equal x).0
unfolding equal relation equal_step chain
equal-is x = ap equal (sym (roll-out-Equal x)) ∙ fold-roll-Equal _ _ _ _ _ _ _ _ _ _ _ _ _ _ _ _ assign_step choice_step primary_step suffix_step unary_step and_step bit_and_step bit_or_step bit_xor_step equal_step or_step postfix_step product_step relation_step shift_step sum_step _
    ∙ links-map relation (λ x. x) _ (λ l. refl) (λ l. refl) (relation (out-Equal x).0.first) (out-Equal x).0.rest

pub bit_and-is : (x : BitAnd) → bit_and x ≡ chain equal (out-BitAnd x).0
unfolding bit_and equal bit_and_step chain
bit_and-is x = ap bit_and (sym (roll-out-BitAnd x)) ∙ fold-roll-BitAnd _ _ _ _ _ _ _ _ _ _ _ _ _ _ _ _ assign_step choice_step primary_step suffix_step unary_step and_step bit_and_step bit_or_step bit_xor_step equal_step or_step postfix_step product_step relation_step shift_step sum_step _
    ∙ links-map equal (λ x. x) _ (λ l. refl) (λ l. refl) (equal (out-BitAnd x).0.first) (out-BitAnd x).0.rest

pub bit_xor-is : (x : BitXor) → bit_xor x ≡ chain bit_and (out-BitXor x).0
unfolding bit_xor bit_and bit_xor_step chain
bit_xor-is x = ap bit_xor (sym (roll-out-BitXor x)) ∙ fold-roll-BitXor _ _ _ _ _ _ _ _ _ _ _ _ _ _ _ _ assign_step choice_step primary_step suffix_step unary_step and_step bit_and_step bit_or_step bit_xor_step equal_step or_step postfix_step product_step relation_step shift_step sum_step _
    ∙ links-map bit_and (λ x. x) _ (λ l. refl) (λ l. refl) (bit_and (out-BitXor x).0.first) (out-BitXor x).0.rest

pub bit_or-is : (x : BitOr) → bit_or x ≡ chain bit_xor (out-BitOr x).0
unfolding bit_or bit_xor bit_or_step chain
bit_or-is x = ap bit_or (sym (roll-out-BitOr x)) ∙ fold-roll-BitOr _ _ _ _ _ _ _ _ _ _ _ _ _ _ _ _ assign_step choice_step primary_step suffix_step unary_step and_step bit_and_step bit_or_step bit_xor_step equal_step or_step postfix_step product_step relation_step shift_step sum_step _
    ∙ links-map bit_xor (λ x. x) _ (λ l. refl) (λ l. refl) (bit_xor (out-BitOr x).0.first) (out-BitOr x).0.rest

pub and-is : (x : And) → and x ≡ chain bit_or (out-And x).0
unfolding and bit_or and_step chain
and-is x = ap and (sym (roll-out-And x)) ∙ fold-roll-And _ _ _ _ _ _ _ _ _ _ _ _ _ _ _ _ assign_step choice_step primary_step suffix_step unary_step and_step bit_and_step bit_or_step bit_xor_step equal_step or_step postfix_step product_step relation_step shift_step sum_step _
    ∙ links-map bit_or (λ x. x) _ (λ l. refl) (λ l. refl) (bit_or (out-And x).0.first) (out-And x).0.rest

pub or-is : (x : Or) → or x ≡ chain and (out-Or x).0
unfolding or and or_step chain
or-is x = ap or (sym (roll-out-Or x)) ∙ fold-roll-Or _ _ _ _ _ _ _ _ _ _ _ _ _ _ _ _ assign_step choice_step primary_step suffix_step unary_step and_step bit_and_step bit_or_step bit_xor_step equal_step or_step postfix_step product_step relation_step shift_step sum_step _
    ∙ links-map and (λ x. x) _ (λ l. refl) (λ l. refl) (and (out-Or x).0.first) (out-Or x).0.rest

pub ruleset expressions = (assign-Choice, assign-Assign, choice-Or, choice-Choose, unary-Postfix, unary-Prefix, unary-Cast, unary-SizeOf, unary-SizeOfType, primary-Name, primary-Number, primary-Character, primary-Paren, primary-Call-none, primary-Call-some, suffix-Index, suffix-Member, suffix-Arrow, suffix-Increment, suffix-Decrement, postfix-is, product-is, sum-is, shift-is, relation-is, equal-is, bit_and-is, bit_xor-is, bit_or-is, and-is, or-is)
