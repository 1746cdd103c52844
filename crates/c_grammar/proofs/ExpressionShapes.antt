-- What each alternative of an expression writes, as one equation each, and cases on a tree.
use Rattle.std.proofs.Common.{◌≡◌, ℕ, suc, Bool, true, false, not, List, [], ◌∷◌, ◌++◌, Option, Some, None, refl, sym, ap, ap₂, subst, map, ◌∙◌}
use Rattle.c_words.specs.declared.word.Word.{Word}
use Rattle.c_words.specs.declared.word.Word.TheVariants as w
use Rattle.c_words.specs.declared.word.Leaf.{Leaf}
use Rattle.c_words.specs.declared.chain.Chain.{Chain}
use Rattle.c_words.specs.declared.chain.Link.{Link}
use Rattle.c_grammar.specs.declared.types.TypeName.{TypeName}
use Rattle.c_grammar.specs.declared.expression.Assign.TheOpen.{Assign-F, Choice-F, Primary-F, Suffix-F, Unary-F, And-F, BitAnd-F, BitOr-F, BitXor-F, Equal-F, Or-F, Postfix-F, Product-F, Relation-F, Shift-F, Sum-F}
use Rattle.c_grammar.specs.declared.expression.Assign.{Assign, fold-Assign, fold-roll-Assign, out-Assign, roll-Assign, roll-out-Assign}
use Rattle.c_grammar.specs.declared.expression.Choice.{Choice, fold-Choice, fold-roll-Choice, out-Choice, roll-Choice, roll-out-Choice}
use Rattle.c_grammar.specs.declared.expression.Primary.{Primary, fold-Primary, fold-roll-Primary, out-Primary, roll-Primary, roll-out-Primary}
use Rattle.c_grammar.specs.declared.expression.Suffix.{Suffix, fold-Suffix, fold-roll-Suffix, out-Suffix, roll-Suffix, roll-out-Suffix}
use Rattle.c_grammar.specs.declared.expression.Unary.{Unary, fold-Unary, fold-roll-Unary, out-Unary, roll-Unary, roll-out-Unary}
use Rattle.c_grammar.specs.declared.expression.And.{And, fold-And, fold-roll-And, out-And, roll-And, roll-out-And}
use Rattle.c_grammar.specs.declared.expression.BitAnd.{BitAnd, fold-BitAnd, fold-roll-BitAnd, out-BitAnd, roll-BitAnd, roll-out-BitAnd}
use Rattle.c_grammar.specs.declared.expression.BitOr.{BitOr, fold-BitOr, fold-roll-BitOr, out-BitOr, roll-BitOr, roll-out-BitOr}
use Rattle.c_grammar.specs.declared.expression.BitXor.{BitXor, fold-BitXor, fold-roll-BitXor, out-BitXor, roll-BitXor, roll-out-BitXor}
use Rattle.c_grammar.specs.declared.expression.Equal.{Equal, fold-Equal, fold-roll-Equal, out-Equal, roll-Equal, roll-out-Equal}
use Rattle.c_grammar.specs.declared.expression.Or.{Or, fold-Or, fold-roll-Or, out-Or, roll-Or, roll-out-Or}
use Rattle.c_grammar.specs.declared.expression.Postfix.{Postfix, fold-Postfix, fold-roll-Postfix, out-Postfix, roll-Postfix, roll-out-Postfix}
use Rattle.c_grammar.specs.declared.expression.Product.{Product, fold-Product, fold-roll-Product, out-Product, roll-Product, roll-out-Product}
use Rattle.c_grammar.specs.declared.expression.Relation.{Relation, fold-Relation, fold-roll-Relation, out-Relation, roll-Relation, roll-out-Relation}
use Rattle.c_grammar.specs.declared.expression.Shift.{Shift, fold-Shift, fold-roll-Shift, out-Shift, roll-Shift, roll-out-Shift}
use Rattle.c_grammar.specs.declared.expression.Sum.{Sum, fold-Sum, fold-roll-Sum, out-Sum, roll-Sum, roll-out-Sum}
use Rattle.c_grammar.specs.declared.expression.Assign.TheVariants as a
use Rattle.c_grammar.specs.declared.expression.Choice.TheVariants as c
use Rattle.c_grammar.specs.declared.expression.Unary.TheVariants as u
use Rattle.c_grammar.specs.declared.expression.Suffix.TheVariants as s
use Rattle.c_grammar.specs.declared.expression.Primary.TheVariants as p
use Rattle.c_words.specs.Words.{same}
use Rattle.c_words.specs.Written.{Written, nothing, ◌then◌, one, one_of, nested, only, optional, run, links, chain}
use Rattle.c_grammar.specs.Types.{type_name}
use Rattle.c_words.specs.OperatorWords.{is_comma, is_product_operator, is_sum_operator, is_shift_operator, is_relation_operator, is_equal_operator, is_prefix_operator, is_assignment_operator}
use Rattle.c_grammar.specs.Expressions.{assign_step, choice_step, primary_step, suffix_step, unary_step, and_step, bit_and_step, bit_or_step, bit_xor_step, equal_step, or_step, postfix_step, product_step, relation_step, shift_step, sum_step, assign, choice, primary, suffix, OperandShape, unary_shape, is_cast, unary, and, bit_and, bit_or, bit_xor, equal, or, postfix, product, relation, shift, sum}

-- parts that were replaced by what they write
pub run-map : {A B : Type 0} (f : A → Written) (g : B → Written) (h : A → B) → ((a : A) → g (h a) ≡ f a) → (xs : List A) → run g (map h xs) ≡ run f xs
unfolding run
run-map f g h each [] = refl
run-map f g h each (x ∷ xs) = rw (each x, run-map f g h each xs) refl

module _ {A B : Type 0} (is_operator : Word → Bool) (f : A → Written) (g : B → Written) (h : Link A → Link B)
    (same_operator : (l : Link A) → (h l).operator ≡ l.operator) (same_operand : (l : Link A) → g (h l).operand ≡ f l.operand) where
  pub links-map : (ls : List (Link A)) → links is_operator g (map h ls) ≡ links is_operator f ls
  unfolding links
  links-map [] = refl
  links-map (l ∷ ls) = rw (same_operator l, same_operand l, links-map ls) refl

pub chain-of : {A B : Type 0} (is_operator : Word → Bool) (f : A → Written) (g : B → Written) (a : A) (b : B) (h : Link A → Link B) (ls : List (Link A))
    → g b ≡ f a → ((l : Link A) → (h l).operator ≡ l.operator) → ((l : Link A) → g (h l).operand ≡ f l.operand)
    → chain is_operator g (record { first = b; rest = map h ls }) ≡ chain is_operator f (record { first = a; rest = ls })
unfolding chain
chain-of is_operator f g a b h ls first operators operands = ap₂ ◌then◌ first (links-map is_operator f g h operators operands ls)

pub assign-Choice : (x : Choice) → assign (a.Choice x) ≡ choice x
unfolding assign choice assign_step
assign-Choice x = ap assign (sym (a.rolls-Choice x)) ∙ fold-roll-Assign _ _ _ _ _ _ _ _ _ _ _ _ _ _ _ _ assign_step choice_step primary_step suffix_step unary_step and_step bit_and_step bit_or_step bit_xor_step equal_step or_step postfix_step product_step relation_step shift_step sum_step (Assign-F.Choice x)

pub assign-Assign : (l : Unary) (t : Leaf) (r : Assign) → assign (a.Assign l t r) ≡ unary l then one_of is_assignment_operator t then nested (assign r)
unfolding assign unary unary_shape assign_step
assign-Assign l t r = ap assign (sym (a.rolls-Assign l t r)) ∙ fold-roll-Assign _ _ _ _ _ _ _ _ _ _ _ _ _ _ _ _ assign_step choice_step primary_step suffix_step unary_step and_step bit_and_step bit_or_step bit_xor_step equal_step or_step postfix_step product_step relation_step shift_step sum_step (Assign-F.Assign l t r)

pub choice-Or : (x : Or) → choice (c.Or x) ≡ or x
unfolding choice or choice_step
choice-Or x = ap choice (sym (c.rolls-Or x)) ∙ fold-roll-Choice _ _ _ _ _ _ _ _ _ _ _ _ _ _ _ _ assign_step choice_step primary_step suffix_step unary_step and_step bit_and_step bit_or_step bit_xor_step equal_step or_step postfix_step product_step relation_step shift_step sum_step (Choice-F.Or x)

pub choice-Choose : (x : Or) (q : Leaf) (y : Assign) (d : Leaf) (z : Choice) → choice (c.Choose x q y d z) ≡ or x then one w.Question q then nested (assign y) then one w.Colon d then nested (choice z)
unfolding choice or assign choice_step
choice-Choose x q y d z = ap choice (sym (c.rolls-Choose x q y d z)) ∙ fold-roll-Choice _ _ _ _ _ _ _ _ _ _ _ _ _ _ _ _ assign_step choice_step primary_step suffix_step unary_step and_step bit_and_step bit_or_step bit_xor_step equal_step or_step postfix_step product_step relation_step shift_step sum_step (Choice-F.Choose x q y d z)

pub or-is : (x : Chain And) → or (roll-Or (record { 0 = x })) ≡ chain (same w.OrOr) and x
unfolding or and or_step
or-is x = fold-roll-Or _ _ _ _ _ _ _ _ _ _ _ _ _ _ _ _ assign_step choice_step primary_step suffix_step unary_step and_step bit_and_step bit_or_step bit_xor_step equal_step or_step postfix_step product_step relation_step shift_step sum_step (record { 0 = x }) ∙ chain-of (same w.OrOr) _ _ _ _ _ _ refl (λ l. refl) (λ l. refl)

pub and-is : (x : Chain BitOr) → and (roll-And (record { 0 = x })) ≡ chain (same w.AndAnd) bit_or x
unfolding and bit_or and_step
and-is x = fold-roll-And _ _ _ _ _ _ _ _ _ _ _ _ _ _ _ _ assign_step choice_step primary_step suffix_step unary_step and_step bit_and_step bit_or_step bit_xor_step equal_step or_step postfix_step product_step relation_step shift_step sum_step (record { 0 = x }) ∙ chain-of (same w.AndAnd) _ _ _ _ _ _ refl (λ l. refl) (λ l. refl)

pub bit_or-is : (x : Chain BitXor) → bit_or (roll-BitOr (record { 0 = x })) ≡ chain (same w.Bar) bit_xor x
unfolding bit_or bit_xor bit_or_step
bit_or-is x = fold-roll-BitOr _ _ _ _ _ _ _ _ _ _ _ _ _ _ _ _ assign_step choice_step primary_step suffix_step unary_step and_step bit_and_step bit_or_step bit_xor_step equal_step or_step postfix_step product_step relation_step shift_step sum_step (record { 0 = x }) ∙ chain-of (same w.Bar) _ _ _ _ _ _ refl (λ l. refl) (λ l. refl)

pub bit_xor-is : (x : Chain BitAnd) → bit_xor (roll-BitXor (record { 0 = x })) ≡ chain (same w.Caret) bit_and x
unfolding bit_xor bit_and bit_xor_step
bit_xor-is x = fold-roll-BitXor _ _ _ _ _ _ _ _ _ _ _ _ _ _ _ _ assign_step choice_step primary_step suffix_step unary_step and_step bit_and_step bit_or_step bit_xor_step equal_step or_step postfix_step product_step relation_step shift_step sum_step (record { 0 = x }) ∙ chain-of (same w.Caret) _ _ _ _ _ _ refl (λ l. refl) (λ l. refl)

pub bit_and-is : (x : Chain Equal) → bit_and (roll-BitAnd (record { 0 = x })) ≡ chain (same w.Ampersand) equal x
unfolding bit_and equal bit_and_step
bit_and-is x = fold-roll-BitAnd _ _ _ _ _ _ _ _ _ _ _ _ _ _ _ _ assign_step choice_step primary_step suffix_step unary_step and_step bit_and_step bit_or_step bit_xor_step equal_step or_step postfix_step product_step relation_step shift_step sum_step (record { 0 = x }) ∙ chain-of (same w.Ampersand) _ _ _ _ _ _ refl (λ l. refl) (λ l. refl)

pub equal-is : (x : Chain Relation) → equal (roll-Equal (record { 0 = x })) ≡ chain is_equal_operator relation x
unfolding equal relation equal_step
equal-is x = fold-roll-Equal _ _ _ _ _ _ _ _ _ _ _ _ _ _ _ _ assign_step choice_step primary_step suffix_step unary_step and_step bit_and_step bit_or_step bit_xor_step equal_step or_step postfix_step product_step relation_step shift_step sum_step (record { 0 = x }) ∙ chain-of is_equal_operator _ _ _ _ _ _ refl (λ l. refl) (λ l. refl)

pub relation-is : (x : Chain Shift) → relation (roll-Relation (record { 0 = x })) ≡ chain is_relation_operator shift x
unfolding relation shift relation_step
relation-is x = fold-roll-Relation _ _ _ _ _ _ _ _ _ _ _ _ _ _ _ _ assign_step choice_step primary_step suffix_step unary_step and_step bit_and_step bit_or_step bit_xor_step equal_step or_step postfix_step product_step relation_step shift_step sum_step (record { 0 = x }) ∙ chain-of is_relation_operator _ _ _ _ _ _ refl (λ l. refl) (λ l. refl)

pub shift-is : (x : Chain Sum) → shift (roll-Shift (record { 0 = x })) ≡ chain is_shift_operator sum x
unfolding shift sum shift_step
shift-is x = fold-roll-Shift _ _ _ _ _ _ _ _ _ _ _ _ _ _ _ _ assign_step choice_step primary_step suffix_step unary_step and_step bit_and_step bit_or_step bit_xor_step equal_step or_step postfix_step product_step relation_step shift_step sum_step (record { 0 = x }) ∙ chain-of is_shift_operator _ _ _ _ _ _ refl (λ l. refl) (λ l. refl)

pub sum-is : (x : Chain Product) → sum (roll-Sum (record { 0 = x })) ≡ chain is_sum_operator product x
unfolding sum product sum_step
sum-is x = fold-roll-Sum _ _ _ _ _ _ _ _ _ _ _ _ _ _ _ _ assign_step choice_step primary_step suffix_step unary_step and_step bit_and_step bit_or_step bit_xor_step equal_step or_step postfix_step product_step relation_step shift_step sum_step (record { 0 = x }) ∙ chain-of is_sum_operator _ _ _ _ _ _ refl (λ l. refl) (λ l. refl)

pub product-is : (x : Chain Unary) → product (roll-Product (record { 0 = x })) ≡ chain is_product_operator unary x
unfolding product unary unary_shape product_step
product-is x = fold-roll-Product _ _ _ _ _ _ _ _ _ _ _ _ _ _ _ _ assign_step choice_step primary_step suffix_step unary_step and_step bit_and_step bit_or_step bit_xor_step equal_step or_step postfix_step product_step relation_step shift_step sum_step (record { 0 = x }) ∙ chain-of is_product_operator _ _ _ _ _ _ refl (λ l. refl) (λ l. refl)

-- an operand, and whether it is a cast
pub shape-Postfix : (x : Postfix) → unary_shape (u.Postfix x) ≡ record { written = postfix x; cast = false }
unfolding unary_shape unary unary_step postfix
shape-Postfix x = ap unary_shape (sym (u.rolls-Postfix x)) ∙ fold-roll-Unary _ _ _ _ _ _ _ _ _ _ _ _ _ _ _ _ assign_step choice_step primary_step suffix_step unary_step and_step bit_and_step bit_or_step bit_xor_step equal_step or_step postfix_step product_step relation_step shift_step sum_step (Unary-F.Postfix x)

pub shape-Prefix : (t : Leaf) (x : Unary) → unary_shape (u.Prefix t x) ≡ record { written = one_of is_prefix_operator t then nested (unary x); cast = false }
unfolding unary_shape unary unary_step
shape-Prefix t x = ap unary_shape (sym (u.rolls-Prefix t x)) ∙ fold-roll-Unary _ _ _ _ _ _ _ _ _ _ _ _ _ _ _ _ assign_step choice_step primary_step suffix_step unary_step and_step bit_and_step bit_or_step bit_xor_step equal_step or_step postfix_step product_step relation_step shift_step sum_step (Unary-F.Prefix t x)

pub shape-Cast : (l : Leaf) (y : TypeName) (r : Leaf) (x : Unary) → unary_shape (u.Cast l y r x) ≡ record { written = one w.LeftParen l then nested (type_name y) then one w.RightParen r then nested (unary x); cast = true }
unfolding unary_shape unary unary_step
shape-Cast l y r x = ap unary_shape (sym (u.rolls-Cast l y r x)) ∙ fold-roll-Unary _ _ _ _ _ _ _ _ _ _ _ _ _ _ _ _ assign_step choice_step primary_step suffix_step unary_step and_step bit_and_step bit_or_step bit_xor_step equal_step or_step postfix_step product_step relation_step shift_step sum_step (Unary-F.Cast l y r x)

pub shape-SizeOf : (t : Leaf) (x : Unary) → unary_shape (u.SizeOf t x) ≡ record { written = one w.SizeOf t then nested (unary x) then only (not (is_cast x)); cast = false }
unfolding unary_shape unary unary_step is_cast
shape-SizeOf t x = ap unary_shape (sym (u.rolls-SizeOf t x)) ∙ fold-roll-Unary _ _ _ _ _ _ _ _ _ _ _ _ _ _ _ _ assign_step choice_step primary_step suffix_step unary_step and_step bit_and_step bit_or_step bit_xor_step equal_step or_step postfix_step product_step relation_step shift_step sum_step (Unary-F.SizeOf t x)

pub shape-SizeOfType : (t : Leaf) (l : Leaf) (y : TypeName) (r : Leaf) → unary_shape (u.SizeOfType t l y r) ≡ record { written = one w.SizeOf t then one w.LeftParen l then nested (type_name y) then one w.RightParen r; cast = false }
unfolding unary_shape unary unary_step
shape-SizeOfType t l y r = ap unary_shape (sym (u.rolls-SizeOfType t l y r)) ∙ fold-roll-Unary _ _ _ _ _ _ _ _ _ _ _ _ _ _ _ _ assign_step choice_step primary_step suffix_step unary_step and_step bit_and_step bit_or_step bit_xor_step equal_step or_step postfix_step product_step relation_step shift_step sum_step (Unary-F.SizeOfType t l y r)

pub unary-Postfix : (x : Postfix) → unary (u.Postfix x) ≡ postfix x
unfolding unary
unary-Postfix x = ap (λ s. s.written) (shape-Postfix x)

pub unary-Prefix : (t : Leaf) (x : Unary) → unary (u.Prefix t x) ≡ one_of is_prefix_operator t then nested (unary x)
unfolding unary
unary-Prefix t x = ap (λ s. s.written) (shape-Prefix t x)

pub unary-Cast : (l : Leaf) (y : TypeName) (r : Leaf) (x : Unary) → unary (u.Cast l y r x) ≡ one w.LeftParen l then nested (type_name y) then one w.RightParen r then nested (unary x)
unfolding unary
unary-Cast l y r x = ap (λ s. s.written) (shape-Cast l y r x)

pub unary-SizeOf : (t : Leaf) (x : Unary) → unary (u.SizeOf t x) ≡ one w.SizeOf t then nested (unary x) then only (not (is_cast x))
unfolding unary
unary-SizeOf t x = ap (λ s. s.written) (shape-SizeOf t x)

pub unary-SizeOfType : (t : Leaf) (l : Leaf) (y : TypeName) (r : Leaf) → unary (u.SizeOfType t l y r) ≡ one w.SizeOf t then one w.LeftParen l then nested (type_name y) then one w.RightParen r
unfolding unary
unary-SizeOfType t l y r = ap (λ s. s.written) (shape-SizeOfType t l y r)

pub is_cast-Postfix : (x : Postfix) → is_cast (u.Postfix x) ≡ false
unfolding is_cast
is_cast-Postfix x = ap (λ s. s.cast) (shape-Postfix x)

pub is_cast-Prefix : (t : Leaf) (x : Unary) → is_cast (u.Prefix t x) ≡ false
unfolding is_cast
is_cast-Prefix t x = ap (λ s. s.cast) (shape-Prefix t x)

pub is_cast-Cast : (l : Leaf) (y : TypeName) (r : Leaf) (x : Unary) → is_cast (u.Cast l y r x) ≡ true
unfolding is_cast
is_cast-Cast l y r x = ap (λ s. s.cast) (shape-Cast l y r x)

pub is_cast-SizeOf : (t : Leaf) (x : Unary) → is_cast (u.SizeOf t x) ≡ false
unfolding is_cast
is_cast-SizeOf t x = ap (λ s. s.cast) (shape-SizeOf t x)

pub is_cast-SizeOfType : (t : Leaf) (l : Leaf) (y : TypeName) (r : Leaf) → is_cast (u.SizeOfType t l y r) ≡ false
unfolding is_cast
is_cast-SizeOfType t l y r = ap (λ s. s.cast) (shape-SizeOfType t l y r)

pub postfix-is : (x : Primary) (more : List Suffix) → postfix (roll-Postfix (record { primary = x; suffixes = more })) ≡ primary x then run suffix more
unfolding postfix primary suffix postfix_step
postfix-is x more = fold-roll-Postfix _ _ _ _ _ _ _ _ _ _ _ _ _ _ _ _ assign_step choice_step primary_step suffix_step unary_step and_step bit_and_step bit_or_step bit_xor_step equal_step or_step postfix_step product_step relation_step shift_step sum_step (record { primary = x; suffixes = more }) ∙ ap (λ r. primary x then r) (run-map _ _ _ (λ a. refl) more)

pub suffix-Index : (l : Leaf) (x : Assign) (r : Leaf) → suffix (s.Index l x r) ≡ one w.LeftBracket l then nested (assign x) then one w.RightBracket r
unfolding suffix assign suffix_step
suffix-Index l x r = ap suffix (sym (s.rolls-Index l x r)) ∙ fold-roll-Suffix _ _ _ _ _ _ _ _ _ _ _ _ _ _ _ _ assign_step choice_step primary_step suffix_step unary_step and_step bit_and_step bit_or_step bit_xor_step equal_step or_step postfix_step product_step relation_step shift_step sum_step (Suffix-F.Index l x r)

pub suffix-Member : (d : Leaf) (n : Leaf) → suffix (s.Member d n) ≡ one w.Dot d then one w.Name n
unfolding suffix suffix_step
suffix-Member d n = ap suffix (sym (s.rolls-Member d n)) ∙ fold-roll-Suffix _ _ _ _ _ _ _ _ _ _ _ _ _ _ _ _ assign_step choice_step primary_step suffix_step unary_step and_step bit_and_step bit_or_step bit_xor_step equal_step or_step postfix_step product_step relation_step shift_step sum_step (Suffix-F.Member d n)

pub suffix-Arrow : (d : Leaf) (n : Leaf) → suffix (s.Arrow d n) ≡ one w.Arrow d then one w.Name n
unfolding suffix suffix_step
suffix-Arrow d n = ap suffix (sym (s.rolls-Arrow d n)) ∙ fold-roll-Suffix _ _ _ _ _ _ _ _ _ _ _ _ _ _ _ _ assign_step choice_step primary_step suffix_step unary_step and_step bit_and_step bit_or_step bit_xor_step equal_step or_step postfix_step product_step relation_step shift_step sum_step (Suffix-F.Arrow d n)

pub suffix-Increment : (t : Leaf) → suffix (s.Increment t) ≡ one w.Increment t
unfolding suffix suffix_step
suffix-Increment t = ap suffix (sym (s.rolls-Increment t)) ∙ fold-roll-Suffix _ _ _ _ _ _ _ _ _ _ _ _ _ _ _ _ assign_step choice_step primary_step suffix_step unary_step and_step bit_and_step bit_or_step bit_xor_step equal_step or_step postfix_step product_step relation_step shift_step sum_step (Suffix-F.Increment t)

pub suffix-Decrement : (t : Leaf) → suffix (s.Decrement t) ≡ one w.Decrement t
unfolding suffix suffix_step
suffix-Decrement t = ap suffix (sym (s.rolls-Decrement t)) ∙ fold-roll-Suffix _ _ _ _ _ _ _ _ _ _ _ _ _ _ _ _ assign_step choice_step primary_step suffix_step unary_step and_step bit_and_step bit_or_step bit_xor_step equal_step or_step postfix_step product_step relation_step shift_step sum_step (Suffix-F.Decrement t)

pub primary-Name : (t : Leaf) → primary (p.Name t) ≡ one w.Name t
unfolding primary primary_step
primary-Name t = ap primary (sym (p.rolls-Name t)) ∙ fold-roll-Primary _ _ _ _ _ _ _ _ _ _ _ _ _ _ _ _ assign_step choice_step primary_step suffix_step unary_step and_step bit_and_step bit_or_step bit_xor_step equal_step or_step postfix_step product_step relation_step shift_step sum_step (Primary-F.Name t)

pub primary-Number : (t : Leaf) → primary (p.Number t) ≡ one w.Number t
unfolding primary primary_step
primary-Number t = ap primary (sym (p.rolls-Number t)) ∙ fold-roll-Primary _ _ _ _ _ _ _ _ _ _ _ _ _ _ _ _ assign_step choice_step primary_step suffix_step unary_step and_step bit_and_step bit_or_step bit_xor_step equal_step or_step postfix_step product_step relation_step shift_step sum_step (Primary-F.Number t)

pub primary-Character : (t : Leaf) → primary (p.Character t) ≡ one w.Character t
unfolding primary primary_step
primary-Character t = ap primary (sym (p.rolls-Character t)) ∙ fold-roll-Primary _ _ _ _ _ _ _ _ _ _ _ _ _ _ _ _ assign_step choice_step primary_step suffix_step unary_step and_step bit_and_step bit_or_step bit_xor_step equal_step or_step postfix_step product_step relation_step shift_step sum_step (Primary-F.Character t)

pub primary-Paren : (l : Leaf) (x : Assign) (r : Leaf) → primary (p.Paren l x r) ≡ one w.LeftParen l then nested (assign x) then one w.RightParen r
unfolding primary assign primary_step
primary-Paren l x r = ap primary (sym (p.rolls-Paren l x r)) ∙ fold-roll-Primary _ _ _ _ _ _ _ _ _ _ _ _ _ _ _ _ assign_step choice_step primary_step suffix_step unary_step and_step bit_and_step bit_or_step bit_xor_step equal_step or_step postfix_step product_step relation_step shift_step sum_step (Primary-F.Paren l x r)

pub primary-Call : (n l : Leaf) (args : Option (Chain Assign)) (r : Leaf)
    → primary (p.Call n l args r) ≡ one w.Name n then one w.LeftParen l then optional (λ all. nested (chain is_comma assign all)) args then one w.RightParen r
unfolding primary assign primary_step optional
primary-Call n l None r = ap primary (sym (p.rolls-Call n l None r)) ∙ fold-roll-Primary _ _ _ _ _ _ _ _ _ _ _ _ _ _ _ _ assign_step choice_step primary_step suffix_step unary_step and_step bit_and_step bit_or_step bit_xor_step equal_step or_step postfix_step product_step relation_step shift_step sum_step (Primary-F.Call n l None r)
primary-Call n l (Some args) r = ap primary (sym (p.rolls-Call n l (Some args) r)) ∙ fold-roll-Primary _ _ _ _ _ _ _ _ _ _ _ _ _ _ _ _ assign_step choice_step primary_step suffix_step unary_step and_step bit_and_step bit_or_step bit_xor_step equal_step or_step postfix_step product_step relation_step shift_step sum_step (Primary-F.Call n l (Some args) r)
    ∙ ap (λ x. one w.Name n then one w.LeftParen l then nested x then one w.RightParen r) (chain-of is_comma _ _ _ _ _ _ refl (λ m. refl) (λ m. refl))

-- ---- cases

pub assign_cases : (P : Assign → Type 0) → ((y : Choice) → P (a.Choice y)) → ((l : Unary) (t : Leaf) (r : Assign) → P (a.Assign l t r))
    → (x : Assign) → P x
assign_cases P f1 f2 x = subst P (roll-out-Assign x) (of (out-Assign x))
  where
    of : (y : Assign-F Assign Choice Primary Suffix Unary And BitAnd BitOr BitXor Equal Or Postfix Product Relation Shift Sum) → P (roll-Assign y)
    of (Assign-F.Choice y) = subst P (sym (a.rolls-Choice y)) (f1 y)
    of (Assign-F.Assign l t r) = subst P (sym (a.rolls-Assign l t r)) (f2 l t r)

pub choice_cases : (P : Choice → Type 0) → ((y : Or) → P (c.Or y)) → ((y : Or) (q : Leaf) (z : Assign) (d : Leaf) (e : Choice) → P (c.Choose y q z d e))
    → (x : Choice) → P x
choice_cases P f1 f2 x = subst P (roll-out-Choice x) (of (out-Choice x))
  where
    of : (y : Choice-F Assign Choice Primary Suffix Unary And BitAnd BitOr BitXor Equal Or Postfix Product Relation Shift Sum) → P (roll-Choice y)
    of (Choice-F.Or y) = subst P (sym (c.rolls-Or y)) (f1 y)
    of (Choice-F.Choose y q z d e) = subst P (sym (c.rolls-Choose y q z d e)) (f2 y q z d e)

pub unary_cases : (P : Unary → Type 0) → ((y : Postfix) → P (u.Postfix y)) → ((t : Leaf) (y : Unary) → P (u.Prefix t y)) → ((l : Leaf) (y : TypeName) (r : Leaf) (z : Unary) → P (u.Cast l y r z))
    → ((t : Leaf) (y : Unary) → P (u.SizeOf t y)) → ((t : Leaf) (l : Leaf) (y : TypeName) (r : Leaf) → P (u.SizeOfType t l y r)) → (x : Unary) → P x
unary_cases P f1 f2 f3 f4 f5 x = subst P (roll-out-Unary x) (of (out-Unary x))
  where
    of : (y : Unary-F Assign Choice Primary Suffix Unary And BitAnd BitOr BitXor Equal Or Postfix Product Relation Shift Sum) → P (roll-Unary y)
    of (Unary-F.Postfix y) = subst P (sym (u.rolls-Postfix y)) (f1 y)
    of (Unary-F.Prefix t y) = subst P (sym (u.rolls-Prefix t y)) (f2 t y)
    of (Unary-F.Cast l y r z) = subst P (sym (u.rolls-Cast l y r z)) (f3 l y r z)
    of (Unary-F.SizeOf t y) = subst P (sym (u.rolls-SizeOf t y)) (f4 t y)
    of (Unary-F.SizeOfType t l y r) = subst P (sym (u.rolls-SizeOfType t l y r)) (f5 t l y r)

pub suffix_cases : (P : Suffix → Type 0) → ((l : Leaf) (y : Assign) (r : Leaf) → P (s.Index l y r)) → ((d : Leaf) (n : Leaf) → P (s.Member d n)) → ((d : Leaf) (n : Leaf) → P (s.Arrow d n)) → ((t : Leaf) → P (s.Increment t)) → ((t : Leaf) → P (s.Decrement t))
    → (x : Suffix) → P x
suffix_cases P f1 f2 f3 f4 f5 x = subst P (roll-out-Suffix x) (of (out-Suffix x))
  where
    of : (y : Suffix-F Assign Choice Primary Suffix Unary And BitAnd BitOr BitXor Equal Or Postfix Product Relation Shift Sum) → P (roll-Suffix y)
    of (Suffix-F.Index l y r) = subst P (sym (s.rolls-Index l y r)) (f1 l y r)
    of (Suffix-F.Member d n) = subst P (sym (s.rolls-Member d n)) (f2 d n)
    of (Suffix-F.Arrow d n) = subst P (sym (s.rolls-Arrow d n)) (f3 d n)
    of (Suffix-F.Increment t) = subst P (sym (s.rolls-Increment t)) (f4 t)
    of (Suffix-F.Decrement t) = subst P (sym (s.rolls-Decrement t)) (f5 t)

pub primary_cases : (P : Primary → Type 0) → ((n : Leaf) → P (p.Name n)) → ((n : Leaf) (l : Leaf) (y : Option (Chain Assign)) (r : Leaf) → P (p.Call n l y r)) → ((n : Leaf) → P (p.Number n)) → ((n : Leaf) → P (p.Character n)) → ((l : Leaf) (y : Assign) (r : Leaf) → P (p.Paren l y r))
    → (x : Primary) → P x
primary_cases P f1 f2 f3 f4 f5 x = subst P (roll-out-Primary x) (of (out-Primary x))
  where
    of : (y : Primary-F Assign Choice Primary Suffix Unary And BitAnd BitOr BitXor Equal Or Postfix Product Relation Shift Sum) → P (roll-Primary y)
    of (Primary-F.Name n) = subst P (sym (p.rolls-Name n)) (f1 n)
    of (Primary-F.Call n l y r) = subst P (sym (p.rolls-Call n l y r)) (f2 n l y r)
    of (Primary-F.Number n) = subst P (sym (p.rolls-Number n)) (f3 n)
    of (Primary-F.Character n) = subst P (sym (p.rolls-Character n)) (f4 n)
    of (Primary-F.Paren l y r) = subst P (sym (p.rolls-Paren l y r)) (f5 l y r)

pub or_cases : (P : Or → Type 0) → ((y : Chain And) → P (roll-Or (record { 0 = y }))) → (x : Or) → P x
or_cases P f x = subst P (roll-out-Or x) (f (out-Or x).0)

pub and_cases : (P : And → Type 0) → ((y : Chain BitOr) → P (roll-And (record { 0 = y }))) → (x : And) → P x
and_cases P f x = subst P (roll-out-And x) (f (out-And x).0)

pub bit_or_cases : (P : BitOr → Type 0) → ((y : Chain BitXor) → P (roll-BitOr (record { 0 = y }))) → (x : BitOr) → P x
bit_or_cases P f x = subst P (roll-out-BitOr x) (f (out-BitOr x).0)

pub bit_xor_cases : (P : BitXor → Type 0) → ((y : Chain BitAnd) → P (roll-BitXor (record { 0 = y }))) → (x : BitXor) → P x
bit_xor_cases P f x = subst P (roll-out-BitXor x) (f (out-BitXor x).0)

pub bit_and_cases : (P : BitAnd → Type 0) → ((y : Chain Equal) → P (roll-BitAnd (record { 0 = y }))) → (x : BitAnd) → P x
bit_and_cases P f x = subst P (roll-out-BitAnd x) (f (out-BitAnd x).0)

pub equal_cases : (P : Equal → Type 0) → ((y : Chain Relation) → P (roll-Equal (record { 0 = y }))) → (x : Equal) → P x
equal_cases P f x = subst P (roll-out-Equal x) (f (out-Equal x).0)

pub relation_cases : (P : Relation → Type 0) → ((y : Chain Shift) → P (roll-Relation (record { 0 = y }))) → (x : Relation) → P x
relation_cases P f x = subst P (roll-out-Relation x) (f (out-Relation x).0)

pub shift_cases : (P : Shift → Type 0) → ((y : Chain Sum) → P (roll-Shift (record { 0 = y }))) → (x : Shift) → P x
shift_cases P f x = subst P (roll-out-Shift x) (f (out-Shift x).0)

pub sum_cases : (P : Sum → Type 0) → ((y : Chain Product) → P (roll-Sum (record { 0 = y }))) → (x : Sum) → P x
sum_cases P f x = subst P (roll-out-Sum x) (f (out-Sum x).0)

pub product_cases : (P : Product → Type 0) → ((y : Chain Unary) → P (roll-Product (record { 0 = y }))) → (x : Product) → P x
product_cases P f x = subst P (roll-out-Product x) (f (out-Product x).0)

pub postfix_cases : (P : Postfix → Type 0) → ((y : Primary) (more : List Suffix) → P (roll-Postfix (record { primary = y; suffixes = more }))) → (x : Postfix) → P x
postfix_cases P f x = subst P (roll-out-Postfix x) (f (out-Postfix x).primary (out-Postfix x).suffixes)
