-- Whether an expression nests below a limit, by its parts.
use Rattle.std.proofs.Common.{◌≡◌, ℕ, suc, ◌-◌, ◌<◌, max, nat_lt, nat_le, Bool, true, false, ◌&&◌, List, [], ◌∷◌, length, Option, Some, None, refl, sym, ap, ◌∙◌, arith}
use Rattle.std.proofs.lemmas.Bool.Decides.{nat_tests}
use Rattle.c_words.specs.declared.word.Word.{Word}
use Rattle.c_words.specs.declared.word.Word.TheVariants as w
use Rattle.c_words.specs.declared.word.Leaf.{Leaf}
use Rattle.c_words.specs.declared.chain.Chain.{Chain}
use Rattle.c_words.specs.declared.chain.Link.{Link}
use Rattle.c_grammar.specs.declared.types.Base.{Base}
use Rattle.c_grammar.specs.declared.types.Star.{Star}
use Rattle.c_grammar.specs.declared.types.TypeName.{TypeName}
use Rattle.c_grammar.specs.declared.types.Integer.{Integer}
use Rattle.c_grammar.specs.declared.types.Integer.TheVariants as i
use Rattle.c_grammar.specs.declared.types.Specifier.{Specifier}
use Rattle.c_grammar.specs.declared.types.Specifier.TheVariants as t
use Rattle.c_grammar.specs.declared.expression.Assign.{Assign}
use Rattle.c_grammar.specs.declared.expression.Assign.TheVariants as a
use Rattle.c_grammar.specs.declared.expression.Choice.{Choice}
use Rattle.c_grammar.specs.declared.expression.Choice.TheVariants as c
use Rattle.c_grammar.specs.declared.expression.Or.{Or, out-Or, roll-out-Or}
use Rattle.c_grammar.specs.declared.expression.And.{And, out-And, roll-out-And}
use Rattle.c_grammar.specs.declared.expression.BitOr.{BitOr, out-BitOr, roll-out-BitOr}
use Rattle.c_grammar.specs.declared.expression.BitXor.{BitXor, out-BitXor, roll-out-BitXor}
use Rattle.c_grammar.specs.declared.expression.BitAnd.{BitAnd, out-BitAnd, roll-out-BitAnd}
use Rattle.c_grammar.specs.declared.expression.Equal.{Equal, out-Equal, roll-out-Equal}
use Rattle.c_grammar.specs.declared.expression.Relation.{Relation, out-Relation, roll-out-Relation}
use Rattle.c_grammar.specs.declared.expression.Shift.{Shift, out-Shift, roll-out-Shift}
use Rattle.c_grammar.specs.declared.expression.Sum.{Sum, out-Sum, roll-out-Sum}
use Rattle.c_grammar.specs.declared.expression.Product.{Product, out-Product, roll-out-Product}
use Rattle.c_grammar.specs.declared.expression.Unary.{Unary}
use Rattle.c_grammar.specs.declared.expression.Unary.TheVariants as u
use Rattle.c_grammar.specs.declared.expression.Postfix.{Postfix, out-Postfix, roll-out-Postfix}
use Rattle.c_grammar.specs.declared.expression.Suffix.TheVariants as s
use Rattle.c_grammar.specs.declared.expression.Primary.TheVariants as p
use Rattle.c_words.specs.Words.{same}
use Rattle.c_words.specs.Written.{Written, nothing, ◌then◌, one_of, nested, only, optional, run, links, chain}
use Rattle.c_grammar.specs.Types.{integer, specifier, base, star, stars_alone, type_name, consts}
use Rattle.c_words.specs.OperatorWords.{is_comma, is_product_operator, is_sum_operator, is_shift_operator, is_relation_operator, is_equal_operator}
use Rattle.c_grammar.specs.Expressions.{assign, choice, or, and, bit_or, bit_xor, bit_and, equal, relation, shift, sum, product, unary, postfix, suffix, primary}
use Rattle.c_nesting.specs.Measuring.{arguments}
use Rattle.c_grammar.proofs.ExpressionShapes.{assign-Choice, assign-Assign, choice-Or, choice-Choose, unary-Postfix, unary-Prefix, unary-Cast, unary-SizeOf, unary-SizeOfType, postfix-is, suffix-Index, suffix-Member, suffix-Arrow, suffix-Increment, suffix-Decrement, primary-Name, primary-Call, primary-Number, primary-Character, primary-Paren, product-is, sum-is, shift-is, relation-is, equal-is, bit_and-is, bit_xor-is, bit_or-is, and-is, or-is}

-- ---- types

optional_flat : (f : Leaf → Written) → ((l : Leaf) → (f l).nesting ≡ 0) → (x : Option Leaf) → (optional f x).nesting ≡ 0
unfolding optional nothing
optional_flat f flat None = refl
optional_flat f flat (Some l) = flat l

one_flat : (test : Word → Bool) (l : Leaf) → (one_of test l).nesting ≡ 0
unfolding one_of
one_flat test l = refl

consts_flat : (cs : List Leaf) → (consts cs).nesting ≡ 0
unfolding run nothing ◌then◌ one_of
consts_flat [] = refl
consts_flat (l ∷ cs) = let i = consts_flat cs in omega (arith, i)

integer_flat : (x : Integer) → (integer x).nesting ≡ 0
unfolding integer optional nothing ◌then◌ one_of
integer_flat (i.Char l) = refl
integer_flat (i.SignedChar f l) = omega arith
integer_flat (i.UnsignedChar f l) = omega arith
integer_flat (i.Short None l None) = omega arith
integer_flat (i.Short None l (Some n)) = omega arith
integer_flat (i.Short (Some f) l None) = omega arith
integer_flat (i.Short (Some f) l (Some n)) = omega arith
integer_flat (i.UnsignedShort f l None) = omega arith
integer_flat (i.UnsignedShort f l (Some n)) = omega arith
integer_flat (i.Int l) = refl
integer_flat (i.Signed f None) = omega arith
integer_flat (i.Signed f (Some n)) = omega arith
integer_flat (i.Unsigned f None) = omega arith
integer_flat (i.Unsigned f (Some n)) = omega arith
integer_flat (i.Long None l None) = omega arith
integer_flat (i.Long None l (Some n)) = omega arith
integer_flat (i.Long (Some f) l None) = omega arith
integer_flat (i.Long (Some f) l (Some n)) = omega arith
integer_flat (i.UnsignedLong f l None) = omega arith
integer_flat (i.UnsignedLong f l (Some n)) = omega arith

specifier_flat : (x : Specifier) → (specifier x).nesting ≡ 0
unfolding specifier ◌then◌ one_of
specifier_flat (t.Integer x) = integer_flat x
specifier_flat (t.Void l) = refl
specifier_flat (t.Struct l n) = omega arith

base_flat : (x : Base) → (base x).nesting ≡ 0
unfolding base ◌then◌
base_flat x = let e = specifier_flat x.specifier in let f = consts_flat x.consts in omega (arith, e, f)

star_flat : (x : Star) → (star x).nesting ≡ 0
unfolding star ◌then◌ one_of
star_flat x = let f = consts_flat x.consts in omega (arith, f)

pub stars_deep : (xs : List Star) → (stars_alone xs).nesting ≡ length xs - 1
unfolding stars_alone ◌then◌ nested nothing
stars_deep [] = omega arith
stars_deep (x ∷ []) = let f = star_flat x in omega (arith, f)
stars_deep (x ∷ y ∷ xs) = let f = star_flat x in let e = stars_deep (y ∷ xs) in omega (arith, f, e)

pub fits_type : (x : TypeName) (n : ℕ) → nat_lt (type_name x).nesting n ≡ (nat_lt 0 n && nat_le (length x.stars) n)
unfolding type_name ◌then◌
fits_type x n = of (base x.base).nesting (stars_alone x.stars).nesting (length x.stars) (base_flat x.base) (stars_deep x.stars)
  where
    of : (b d l : ℕ) → b ≡ 0 → d ≡ l - 1 → nat_lt (max b d) n ≡ (nat_lt 0 n && nat_le l n)
    of b d l e f = grind (arith, nat_tests)

-- ---- chains and runs

module _ {A : Type 0} (op : Word → Bool) (f : A → Written) (n : ℕ) where
  pub links_none : 0 < n → nat_lt (links op f []).nesting n ≡ true
  unfolding links nothing
  links_none some = grind (arith, nat_tests)

  pub links_more : (l : Link A) (ls : List (Link A)) → nat_lt (f l.operand).nesting n ≡ true → nat_lt (links op f (l ∷ ls)).nesting n ≡ nat_lt (links op f ls).nesting n
  unfolding links ◌then◌ one_of
  links_more l ls h = of (f l.operand).nesting (links op f ls).nesting h
    where
      of : (x y : ℕ) → nat_lt x n ≡ true → nat_lt (max 0 (max x y)) n ≡ nat_lt y n
      of x y h = grind (arith, nat_tests)

  pub links_stop : (l : Link A) (ls : List (Link A)) → nat_lt (f l.operand).nesting n ≡ false → nat_lt (links op f (l ∷ ls)).nesting n ≡ false
  unfolding links ◌then◌ one_of
  links_stop l ls h = of (f l.operand).nesting (links op f ls).nesting h
    where
      of : (x y : ℕ) → nat_lt x n ≡ false → nat_lt (max 0 (max x y)) n ≡ false
      of x y h = grind (arith, nat_tests)

  pub chain_fits_by : (c : Chain A) → nat_lt (chain op f c).nesting n ≡ (nat_lt (f c.first).nesting n && nat_lt (links op f c.rest).nesting n)
  unfolding chain ◌then◌
  chain_fits_by c = of (f c.first).nesting (links op f c.rest).nesting
    where
      of : (x y : ℕ) → nat_lt (max x y) n ≡ (nat_lt x n && nat_lt y n)
      of x y = grind (arith, nat_tests)

  -- the first operand, and then one link after another
  pub first_stops : (c : Chain A) → nat_lt (f c.first).nesting n ≡ false → nat_lt (chain op f c).nesting n ≡ false
  first_stops c h = chain_fits_by c ∙ ap (λ b. b && nat_lt (links op f c.rest).nesting n) h

  pub first_fits : (c : Chain A) → nat_lt (f c.first).nesting n ≡ true → 0 < n × (nat_lt (chain op f c).nesting n ≡ nat_lt (links op f c.rest).nesting n)
  first_fits c h = (of (f c.first).nesting h, chain_fits_by c ∙ ap (λ b. b && nat_lt (links op f c.rest).nesting n) h)
    where
      of : (x : ℕ) → nat_lt x n ≡ true → 0 < n
      of x h = grind (arith, nat_tests)

module _ {A : Type 0} (f : A → Written) (n : ℕ) where
  pub run_none : 0 < n → nat_lt (run f []).nesting n ≡ true
  unfolding run nothing
  run_none some = grind (arith, nat_tests)

  pub run_more : (x : A) (xs : List A) → nat_lt (f x).nesting n ≡ true → nat_lt (run f (x ∷ xs)).nesting n ≡ nat_lt (run f xs).nesting n
  unfolding run ◌then◌
  run_more x xs h = of (f x).nesting (run f xs).nesting h
    where
      of : (x y : ℕ) → nat_lt x n ≡ true → nat_lt (max x y) n ≡ nat_lt y n
      of x y h = grind (arith, nat_tests)

  pub run_stop : (x : A) (xs : List A) → nat_lt (f x).nesting n ≡ false → nat_lt (run f (x ∷ xs)).nesting n ≡ false
  unfolding run ◌then◌
  run_stop x xs h = of (f x).nesting (run f xs).nesting h
    where
      of : (x y : ℕ) → nat_lt x n ≡ false → nat_lt (max x y) n ≡ false
      of x y h = grind (arith, nat_tests)

-- ---- expressions; what nests is to nest below n

inside : (m n : ℕ) → nat_lt (max 0 (max (suc m) 0)) (suc n) ≡ nat_lt m n
inside m n = grind (arith, nat_tests)

one_fits : (n : ℕ) → nat_lt 0 (suc n) ≡ true
one_fits n = grind (arith, nat_tests)

pub fits_name : (l : Leaf) (n : ℕ) → nat_lt (primary (p.Name l)).nesting (suc n) ≡ true
unfolding one_of
fits_name l n = rw (primary-Name l) (one_fits n)

pub fits_number : (l : Leaf) (n : ℕ) → nat_lt (primary (p.Number l)).nesting (suc n) ≡ true
unfolding one_of
fits_number l n = rw (primary-Number l) (one_fits n)

pub fits_character : (l : Leaf) (n : ℕ) → nat_lt (primary (p.Character l)).nesting (suc n) ≡ true
unfolding one_of
fits_character l n = rw (primary-Character l) (one_fits n)

pub fits_paren : (l : Leaf) (x : Assign) (r : Leaf) (n : ℕ) → nat_lt (primary (p.Paren l x r)).nesting (suc n) ≡ nat_lt (assign x).nesting n
unfolding one_of ◌then◌ nested
fits_paren l x r n = rw (primary-Paren l x r) (inside (assign x).nesting n)

pub fits_call : (f l : Leaf) (x : Option (Chain Assign)) (r : Leaf) (n : ℕ) → nat_lt (primary (p.Call f l x r)).nesting (suc n) ≡ nat_lt (arguments x).nesting (suc n)
unfolding one_of ◌then◌ arguments
fits_call f l x r n = rw (primary-Call f l x r) (of (arguments x).nesting)
  where
    of : (m : ℕ) → nat_lt (max 0 (max 0 (max m 0))) (suc n) ≡ nat_lt m (suc n)
    of m = grind (arith, nat_tests)

pub fits_no_arguments : (n : ℕ) → nat_lt (arguments None).nesting (suc n) ≡ true
unfolding arguments optional nothing
fits_no_arguments n = one_fits n

pub fits_arguments : (x : Chain Assign) (n : ℕ) → nat_lt (arguments (Some x)).nesting (suc n) ≡ nat_lt (chain is_comma assign x).nesting n
unfolding arguments optional nested
fits_arguments x n = of (chain is_comma assign x).nesting
  where
    of : (m : ℕ) → nat_lt (suc m) (suc n) ≡ nat_lt m n
    of m = grind (arith, nat_tests)

pub fits_index : (l : Leaf) (x : Assign) (r : Leaf) (n : ℕ) → nat_lt (suffix (s.Index l x r)).nesting (suc n) ≡ nat_lt (assign x).nesting n
unfolding one_of ◌then◌ nested
fits_index l x r n = rw (suffix-Index l x r) (inside (assign x).nesting n)

two_flat : (n : ℕ) → nat_lt (max 0 0) (suc n) ≡ true
two_flat n = grind (arith, nat_tests)

pub fits_member : (d l : Leaf) (n : ℕ) → nat_lt (suffix (s.Member d l)).nesting (suc n) ≡ true
unfolding one_of ◌then◌
fits_member d l n = rw (suffix-Member d l) (two_flat n)

pub fits_arrow : (d l : Leaf) (n : ℕ) → nat_lt (suffix (s.Arrow d l)).nesting (suc n) ≡ true
unfolding one_of ◌then◌
fits_arrow d l n = rw (suffix-Arrow d l) (two_flat n)

pub fits_increment : (l : Leaf) (n : ℕ) → nat_lt (suffix (s.Increment l)).nesting (suc n) ≡ true
unfolding one_of
fits_increment l n = rw (suffix-Increment l) (one_fits n)

pub fits_decrement : (l : Leaf) (n : ℕ) → nat_lt (suffix (s.Decrement l)).nesting (suc n) ≡ true
unfolding one_of
fits_decrement l n = rw (suffix-Decrement l) (one_fits n)

pub fits_postfix : (x : Postfix) (n : ℕ)
    → nat_lt (postfix x).nesting (suc n) ≡ (nat_lt (primary (out-Postfix x).primary).nesting (suc n) && nat_lt (run suffix (out-Postfix x).suffixes).nesting (suc n))
unfolding ◌then◌
fits_postfix x n =
    ap (λ v. nat_lt v.nesting (suc n)) (ap postfix (sym (roll-out-Postfix x)) ∙ postfix-is (out-Postfix x).primary (out-Postfix x).suffixes)
    ∙ of (primary (out-Postfix x).primary).nesting (run suffix (out-Postfix x).suffixes).nesting
  where
    of : (a b : ℕ) → nat_lt (max a b) (suc n) ≡ (nat_lt a (suc n) && nat_lt b (suc n))
    of a b = grind (arith, nat_tests)

pub fits_operand : (x : Postfix) (n : ℕ) → nat_lt (unary (u.Postfix x)).nesting (suc n) ≡ nat_lt (postfix x).nesting (suc n)
fits_operand x n = rw (unary-Postfix x) refl

pub fits_prefix : (l : Leaf) (x : Unary) (n : ℕ) → nat_lt (unary (u.Prefix l x)).nesting (suc n) ≡ nat_lt (unary x).nesting n
unfolding one_of ◌then◌ nested
fits_prefix l x n = rw (unary-Prefix l x) (of (unary x).nesting)
  where
    of : (m : ℕ) → nat_lt (max 0 (suc m)) (suc n) ≡ nat_lt m n
    of m = grind (arith, nat_tests)

pub fits_cast : (l : Leaf) (y : TypeName) (r : Leaf) (x : Unary) (n : ℕ)
    → nat_lt (unary (u.Cast l y r x)).nesting (suc n) ≡ (nat_lt (type_name y).nesting n && nat_lt (unary x).nesting n)
unfolding one_of ◌then◌ nested
fits_cast l y r x n = rw (unary-Cast l y r x) (of (type_name y).nesting (unary x).nesting)
  where
    of : (a b : ℕ) → nat_lt (max 0 (max (suc a) (max 0 (suc b)))) (suc n) ≡ (nat_lt a n && nat_lt b n)
    of a b = grind (arith, nat_tests)

pub fits_size : (l : Leaf) (x : Unary) (n : ℕ) → nat_lt (unary (u.SizeOf l x)).nesting (suc n) ≡ nat_lt (unary x).nesting n
unfolding one_of ◌then◌ nested only nothing
fits_size l x n = rw (unary-SizeOf l x) (inside (unary x).nesting n)

pub fits_type_size : (l p : Leaf) (y : TypeName) (r : Leaf) (n : ℕ) → nat_lt (unary (u.SizeOfType l p y r)).nesting (suc n) ≡ nat_lt (type_name y).nesting n
unfolding one_of ◌then◌ nested
fits_type_size l p y r n = rw (unary-SizeOfType l p y r) (of (type_name y).nesting)
  where
    of : (m : ℕ) → nat_lt (max 0 (max 0 (max (suc m) 0))) (suc n) ≡ nat_lt m n
    of m = grind (arith, nat_tests)

pub fits_or : (x : Or) (n : ℕ) → nat_lt (choice (c.Or x)).nesting (suc n) ≡ nat_lt (or x).nesting (suc n)
fits_or x n = rw (choice-Or x) refl

pub fits_choose : (x : Or) (q : Leaf) (y : Assign) (d : Leaf) (z : Choice) (n : ℕ)
    → nat_lt (choice (c.Choose x q y d z)).nesting (suc n) ≡ (nat_lt (or x).nesting (suc n) && (nat_lt (assign y).nesting n && nat_lt (choice z).nesting n))
unfolding one_of ◌then◌ nested
fits_choose x q y d z n = rw (choice-Choose x q y d z) (of (or x).nesting (assign y).nesting (choice z).nesting)
  where
    of : (a b e : ℕ) → nat_lt (max a (max 0 (max (suc b) (max 0 (suc e))))) (suc n) ≡ (nat_lt a (suc n) && (nat_lt b n && nat_lt e n))
    of a b e = grind (arith, nat_tests)

pub fits_choice : (x : Choice) (n : ℕ) → nat_lt (assign (a.Choice x)).nesting (suc n) ≡ nat_lt (choice x).nesting (suc n)
fits_choice x n = rw (assign-Choice x) refl

pub fits_assign : (l : Unary) (o : Leaf) (r : Assign) (n : ℕ) → nat_lt (assign (a.Assign l o r)).nesting (suc n) ≡ (nat_lt (unary l).nesting (suc n) && nat_lt (assign r).nesting n)
unfolding one_of ◌then◌ nested
fits_assign l o r n = rw (assign-Assign l o r) (of (unary l).nesting (assign r).nesting)
  where
    of : (a b : ℕ) → nat_lt (max a (max 0 (suc b))) (suc n) ≡ (nat_lt a (suc n) && nat_lt b n)
    of a b = grind (arith, nat_tests)

-- ---- the chains of the ten levels

pub fits_product_chain : (x : Product) (n : ℕ) → nat_lt (product x).nesting n ≡ nat_lt (chain is_product_operator unary (out-Product x).0).nesting n
fits_product_chain x n = ap (λ v. nat_lt v.nesting n) (ap product (sym (roll-out-Product x)) ∙ product-is (out-Product x).0)

pub fits_sum_chain : (x : Sum) (n : ℕ) → nat_lt (sum x).nesting n ≡ nat_lt (chain is_sum_operator product (out-Sum x).0).nesting n
fits_sum_chain x n = ap (λ v. nat_lt v.nesting n) (ap sum (sym (roll-out-Sum x)) ∙ sum-is (out-Sum x).0)

pub fits_shift_chain : (x : Shift) (n : ℕ) → nat_lt (shift x).nesting n ≡ nat_lt (chain is_shift_operator sum (out-Shift x).0).nesting n
fits_shift_chain x n = ap (λ v. nat_lt v.nesting n) (ap shift (sym (roll-out-Shift x)) ∙ shift-is (out-Shift x).0)

pub fits_relation_chain : (x : Relation) (n : ℕ) → nat_lt (relation x).nesting n ≡ nat_lt (chain is_relation_operator shift (out-Relation x).0).nesting n
fits_relation_chain x n = ap (λ v. nat_lt v.nesting n) (ap relation (sym (roll-out-Relation x)) ∙ relation-is (out-Relation x).0)

pub fits_equal_chain : (x : Equal) (n : ℕ) → nat_lt (equal x).nesting n ≡ nat_lt (chain is_equal_operator relation (out-Equal x).0).nesting n
fits_equal_chain x n = ap (λ v. nat_lt v.nesting n) (ap equal (sym (roll-out-Equal x)) ∙ equal-is (out-Equal x).0)

pub fits_bit_and_chain : (x : BitAnd) (n : ℕ) → nat_lt (bit_and x).nesting n ≡ nat_lt (chain (same w.Ampersand) equal (out-BitAnd x).0).nesting n
fits_bit_and_chain x n = ap (λ v. nat_lt v.nesting n) (ap bit_and (sym (roll-out-BitAnd x)) ∙ bit_and-is (out-BitAnd x).0)

pub fits_bit_xor_chain : (x : BitXor) (n : ℕ) → nat_lt (bit_xor x).nesting n ≡ nat_lt (chain (same w.Caret) bit_and (out-BitXor x).0).nesting n
fits_bit_xor_chain x n = ap (λ v. nat_lt v.nesting n) (ap bit_xor (sym (roll-out-BitXor x)) ∙ bit_xor-is (out-BitXor x).0)

pub fits_bit_or_chain : (x : BitOr) (n : ℕ) → nat_lt (bit_or x).nesting n ≡ nat_lt (chain (same w.Bar) bit_xor (out-BitOr x).0).nesting n
fits_bit_or_chain x n = ap (λ v. nat_lt v.nesting n) (ap bit_or (sym (roll-out-BitOr x)) ∙ bit_or-is (out-BitOr x).0)

pub fits_and_chain : (x : And) (n : ℕ) → nat_lt (and x).nesting n ≡ nat_lt (chain (same w.AndAnd) bit_or (out-And x).0).nesting n
fits_and_chain x n = ap (λ v. nat_lt v.nesting n) (ap and (sym (roll-out-And x)) ∙ and-is (out-And x).0)

pub fits_or_chain : (x : Or) (n : ℕ) → nat_lt (or x).nesting n ≡ nat_lt (chain (same w.OrOr) and (out-Or x).0).nesting n
fits_or_chain x n = ap (λ v. nat_lt v.nesting n) (ap or (sym (roll-out-Or x)) ∙ or-is (out-Or x).0)
