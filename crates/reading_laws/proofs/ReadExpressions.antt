-- What an expression of a tree over a text says: it nests as little as its tree.
use Rattle.std.proofs.Common.{◌≡◌, ℕ, zero, suc, pred, ◌+◌, ◌≤◌, max, Bool, true, false, ◌&&◌, ◌||◌, not, List, [], ◌∷◌, map, length, Option, Some, None, refl, sym, ap, subst, ◌∙◌, arith}
use Rattle.std.specs.Prelude.{if◌then◌else◌}
use Rattle.c_words.specs.declared.word.Word.{Word}
use Rattle.c_words.specs.declared.word.Word.TheVariants as w
use Rattle.c_words.specs.declared.word.Leaf.{Leaf}
use Rattle.c_words.specs.declared.chain.Chain.{Chain}
use Rattle.c_words.specs.declared.chain.Link.{Link}
use Rattle.c_words.specs.Words.{same}
use Rattle.c_words.specs.Written.{Written, nothing, ◌then◌, one, one_of, nested, only, optional, run, links, chain}
use Rattle.c_words.specs.OperatorWords.{is_comma, is_product_operator, is_sum_operator, is_shift_operator, is_relation_operator, is_equal_operator, is_prefix_operator, is_assignment_operator}
use Rattle.c_grammar.specs.declared.types.TypeName.{TypeName}
use Rattle.c_grammar.specs.declared.types.Star.{Star}
use Rattle.c_grammar.specs.declared.expression.Assign.{Assign}
use Rattle.c_grammar.specs.declared.expression.Choice.{Choice}
use Rattle.c_grammar.specs.declared.expression.Primary.{Primary}
use Rattle.c_grammar.specs.declared.expression.Suffix.{Suffix}
use Rattle.c_grammar.specs.declared.expression.Unary.{Unary}
use Rattle.c_grammar.specs.declared.expression.Postfix.{Postfix, out-Postfix, roll-out-Postfix}
use Rattle.c_grammar.specs.declared.expression.Product.{Product, out-Product, roll-out-Product}
use Rattle.c_grammar.specs.declared.expression.Sum.{Sum, out-Sum, roll-out-Sum}
use Rattle.c_grammar.specs.declared.expression.Shift.{Shift, out-Shift, roll-out-Shift}
use Rattle.c_grammar.specs.declared.expression.Relation.{Relation, out-Relation, roll-out-Relation}
use Rattle.c_grammar.specs.declared.expression.Equal.{Equal, out-Equal, roll-out-Equal}
use Rattle.c_grammar.specs.declared.expression.BitAnd.{BitAnd, out-BitAnd, roll-out-BitAnd}
use Rattle.c_grammar.specs.declared.expression.BitXor.{BitXor, out-BitXor, roll-out-BitXor}
use Rattle.c_grammar.specs.declared.expression.BitOr.{BitOr, out-BitOr, roll-out-BitOr}
use Rattle.c_grammar.specs.declared.expression.And.{And, out-And, roll-out-And}
use Rattle.c_grammar.specs.declared.expression.Or.{Or, out-Or, roll-out-Or}
use Rattle.c_grammar.specs.declared.expression.Assign.TheVariants as a
use Rattle.c_grammar.specs.declared.expression.Choice.TheVariants as c
use Rattle.c_grammar.specs.declared.expression.Unary.TheVariants as u
use Rattle.c_grammar.specs.declared.expression.Suffix.TheVariants as s
use Rattle.c_grammar.specs.declared.expression.Primary.TheVariants as p
use Rattle.c_grammar.specs.Types.{base, star, stars_alone, type_name}
use Rattle.c_grammar.specs.Expressions as written
use Rattle.c_grammar.proofs.ExpressionShapes as shapes
use Rattle.step_meaning.specs.Sources.{in_branch}
use Rattle.step_meaning.proofs.Ranges.{false_is_not_true}
use Rattle.typing_rules.specs.Syntax.{Expression, Expressions, Name, Number, Character, Paren, Call, Index, Member, Arrow, Increment, Decrement, Prefix, Cast, SizeOf, SizeOfType, Binary, Choose, Assign as Assigns, NoMore, Then}
use Rattle.typing_rules.specs.TreesOfExpressions as trees
use Rattle.typing_rules.specs.TreesOfExpressions.{listed, listed_after, suffixed, spelled}
use Rattle.typing_rules.proofs.ExpressionAlternatives as says
use Rattle.typing_laws.specs.ParsedSyntax.{ExpressionParsed, ExpressionsParsed}
use Rattle.typing_laws.specs.ShallowSyntax.{nest, arguments_nest, is_branch, turns, arguments_turns}
use Rattle.reading_laws.proofs.ReadLeaves.{IsRead}
use Rattle.reading_laws.proofs.ReadParts.{Reads, before, after, inner, deeper, leaf, worded}

-- ---- numbers

abbrev pub four : ℕ → ℕ
four n = (n + n) + (n + n)

pub record Good (text : List ℕ) (n k : ℕ) (x : Expression) : Type 0 where
  pub parsed : ExpressionParsed text x
  pub nested : nest x ≤ n
  pub turned : turns x ≤ four n + k

pub record AreGood (text : List ℕ) (n : ℕ) (xs : Expressions) : Type 0 where
  pub parsed : ExpressionsParsed text xs
  pub nested : arguments_nest xs ≤ suc n
  pub turned : arguments_turns xs ≤ four n + 5

more_turns : (text : List ℕ) (n j k : ℕ) (x : Expression) → j ≤ k → Good text n j x → Good text n k x
more_turns text n j k x l h = record { parsed = h.parsed; nested = h.nested; turned = let t : turns x ≤ four n + j = h.turned in omega arith }

carry : {text : List ℕ} (n k : ℕ) {b d : Written} {x y : Expression} → b ≡ d → x ≡ y → (Reads text n d → Good text n k y) → Reads text n b → Good text n k x
carry {text} n k p q f h = subst (Good text n k) (sym q) (f (subst (Reads text n) p h))

-- ---- chains

-- an operator of a chain, between what nests below so much and what nests below so much
abbrev Goes : ℕ → ℕ → ℕ → (Word → Bool) → Type 0
Goes n j k op = (x : Word) → op x ≡ true → (l r : ℕ) → l ≤ four n + k → r ≤ four n + j → (if is_branch x then max l (in_branch r) else max l r) ≤ four n + k

goes_low : (op : Word → Bool) (n k : ℕ) → ((x : Word) → op x ≡ true → is_branch x ≡ false) → Goes n k k op
goes_low op n k apart x e l r h i = rw (apart x e) (both l r (four n + k) h i)
  where
    both : (l r m : ℕ) → l ≤ m → r ≤ m → max l r ≤ m
    both l r m h i = omega arith

goes_high : (op : Word → Bool) (n j k : ℕ) → j + 2 ≤ k → Goes n j k op
goes_high op n j k m x e l r h i = by (is_branch x)
  where
    by : (b : Bool) → (if b then max l (in_branch r) else max l r) ≤ four n + k
    by true = omega arith
    by false = omega arith

module _ {A : Type 0} (text : List ℕ) (n j k : ℕ) (op : Word → Bool) (f : A → Written) (g : A → Expression) (goes : Goes n j k op) (parts : (x : A) → Reads text n (f x) → Good text n j (g x)) where
  links_good : (x : Expression) (ls : List (Link A)) → Good text n k x → Reads text n (links op f ls) → Good text n k (trees.links g x ls)
  unfolding links trees.links
  links_good x [] h r = h
  links_good x (l ∷ ls) h r =
      let o : Reads text n (one_of op l.operator) = before (one_of op l.operator) _ r in
      let y : Good text n j (g l.operand) = parts l.operand (before (f l.operand) _ (after (one_of op l.operator) _ r)) in
      links_good (Binary x l.operator (g l.operand)) ls
      (record {
        parsed = (h.parsed, y.parsed);
        nested = let a : nest x ≤ n = h.nested in let b : nest (g l.operand) ≤ n = y.nested in omega arith;
        turned = goes l.operator.word (worded op l.operator o) (turns x) (turns (g l.operand)) h.turned y.turned;
      })
      (after (f l.operand) _ (after (one_of op l.operator) _ r))

  chain_good : j ≤ k → (x : Chain A) → Reads text n (chain op f x) → Good text n k (trees.chain g x)
  unfolding chain trees.chain
  chain_good l x r = links_good (g x.first) x.rest (more_turns text n j k (g x.first) l (parts x.first (before (f x.first) _ r))) (after (f x.first) _ r)

-- ---- arguments

module _ {A : Type 0} (text : List ℕ) (n : ℕ) (f : A → Written) (g : A → Expression) (parts : (x : A) → Reads text n (f x) → Good text n 5 (g x)) where
  next : (x : Expression) (xs : Expressions) → Good text n 5 x → AreGood text n xs → AreGood text n (Then x xs)
  next x xs h i = record {
    parsed = (h.parsed, i.parsed);
    nested = let a : nest x ≤ n = h.nested in let b : arguments_nest xs ≤ suc n = i.nested in omega arith;
    turned = let a : turns x ≤ four n + 5 = h.turned in let b : arguments_turns xs ≤ four n + 5 = i.turned in omega arith;
  }

  listed_good : (ls : List (Link A)) → Reads text n (links is_comma f ls) → AreGood text n (listed_after g ls)
  unfolding links listed_after
  listed_good [] r = record { parsed = tt; nested = omega arith; turned = omega arith }
  listed_good (l ∷ ls) r = next (g l.operand) (listed_after g ls) (parts l.operand (before (f l.operand) _ (after (one_of is_comma l.operator) _ r))) (listed_good ls (after (f l.operand) _ (after (one_of is_comma l.operator) _ r)))

  all_good : (x : Chain A) → Reads text n (chain is_comma f x) → AreGood text n (listed g (Some x))
  unfolding chain listed
  all_good x r = next (g x.first) (listed_after g x.rest) (parts x.first (before (f x.first) _ r)) (listed_good x.rest (after (f x.first) _ r))

-- ---- the words of each level

apart_product : (x : Word) → is_product_operator x ≡ true → is_branch x ≡ false
apart_product w.AndAnd e = false_is_not_true e
apart_product w.OrOr e = false_is_not_true e
apart_product _ e = refl

apart_sum : (x : Word) → is_sum_operator x ≡ true → is_branch x ≡ false
apart_sum w.AndAnd e = false_is_not_true e
apart_sum w.OrOr e = false_is_not_true e
apart_sum _ e = refl

apart_shift : (x : Word) → is_shift_operator x ≡ true → is_branch x ≡ false
apart_shift w.AndAnd e = false_is_not_true e
apart_shift w.OrOr e = false_is_not_true e
apart_shift _ e = refl

apart_relation : (x : Word) → is_relation_operator x ≡ true → is_branch x ≡ false
apart_relation w.AndAnd e = false_is_not_true e
apart_relation w.OrOr e = false_is_not_true e
apart_relation _ e = refl

apart_equal : (x : Word) → is_equal_operator x ≡ true → is_branch x ≡ false
apart_equal w.AndAnd e = false_is_not_true e
apart_equal w.OrOr e = false_is_not_true e
apart_equal _ e = refl

apart_bits : (y : Word) → same y w.AndAnd ≡ false → same y w.OrOr ≡ false → (x : Word) → same y x ≡ true → is_branch x ≡ false
apart_bits y a b w.AndAnd e = false_is_not_true (sym a ∙ e)
apart_bits y a b w.OrOr e = false_is_not_true (sym b ∙ e)
apart_bits y a b _ e = refl

-- ---- names of types

pub alone_deep : (xs : List Star) → pred (length xs) ≤ (stars_alone xs).nesting
unfolding stars_alone ◌then◌ nested
alone_deep [] = omega arith
alone_deep (x ∷ []) = omega arith
alone_deep (x ∷ y ∷ more) = let h : pred (length (y ∷ more)) ≤ (stars_alone (y ∷ more)).nesting = alone_deep (y ∷ more) in omega arith

type_deep : (t : TypeName) → pred (length t.stars) ≤ (type_name t).nesting
unfolding type_name ◌then◌
type_deep t = let h : pred (length t.stars) ≤ (stars_alone t.stars).nesting = alone_deep t.stars in omega arith

-- ---- levels

pub record AllGood (text : List ℕ) (n : ℕ) : Type 0 where
  pub assign : (x : Assign) → Reads text n (written.assign x) → Good text n 5 (trees.assign x)
  pub choice : (x : Choice) → Reads text n (written.choice x) → Good text n 5 (trees.choice x)
  pub unary : (x : Unary) → Reads text n (written.unary x) → Good text n 1 (trees.unary x)

module _ (text : List ℕ) (n : ℕ) (less : (m : ℕ) → suc m ≤ n → AllGood text m) where
  abbrev R : Written → Type 0
  R b = Reads text n b

  abbrev G : ℕ → Expression → Type 0
  G k x = Good text n k x

  -- what stands one deeper
  record Within (x : Expression) : Type 0 where
    parsed : ExpressionParsed text x
    nested : suc (nest x) ≤ n
    turned : turns x ≤ four n + 1

  within : (x : Expression) (m j : ℕ) → suc m ≤ n → j ≤ 5 → Good text m j x → Within x
  within x m j l i h = record {
    parsed = h.parsed;
    nested = let a : nest x ≤ m = h.nested in omega arith;
    turned = let a : turns x ≤ four m + j = h.turned in omega arith;
  }

  assign_within : (x : Assign) → R (nested (written.assign x)) → Within (trees.assign x)
  assign_within x h = let l : suc (written.assign x).nesting ≤ n = deeper (written.assign x) h in within (trees.assign x) (written.assign x).nesting 5 l (omega arith) ((less (written.assign x).nesting l).assign x (inner (written.assign x) h))

  choice_within : (x : Choice) → R (nested (written.choice x)) → Within (trees.choice x)
  choice_within x h = let l : suc (written.choice x).nesting ≤ n = deeper (written.choice x) h in within (trees.choice x) (written.choice x).nesting 5 l (omega arith) ((less (written.choice x).nesting l).choice x (inner (written.choice x) h))

  unary_within : (x : Unary) → R (nested (written.unary x)) → Within (trees.unary x)
  unary_within x h = let l : suc (written.unary x).nesting ≤ n = deeper (written.unary x) h in within (trees.unary x) (written.unary x).nesting 1 l (omega arith) ((less (written.unary x).nesting l).unary x (inner (written.unary x) h))

  plain : (x : Expression) → ExpressionParsed text x → nest x ≡ 0 → turns x ≡ 1 → G 1 x
  plain x p e f = record { parsed = p; nested = omega (arith, e); turned = omega (arith, f) }

  -- ---- primary expressions

  call_good : (t : Leaf) (xs : Expressions) (m : ℕ) → suc m ≤ n → AreGood text m xs → G 1 (Call t xs)
  call_good t xs m l h = record {
    parsed = h.parsed;
    nested = let a : arguments_nest xs ≤ suc m = h.nested in omega arith;
    turned = let a : arguments_turns xs ≤ four m + 5 = h.turned in omega arith;
  }

  arguments_good : (t o r : Leaf) (x : Chain Assign) → R (one w.Name t then one w.LeftParen o then nested (chain is_comma written.assign x) then one w.RightParen r) → G 1 (Call t (listed trees.assign (Some x)))
  arguments_good t o r x h =
      let b : Written = chain is_comma written.assign x in
      let i : R (nested b) = before (nested b) _ (after (one w.LeftParen o) _ (after (one w.Name t) _ h)) in
      let l : suc b.nesting ≤ n = deeper b i in
      call_good t (listed trees.assign (Some x)) b.nesting l (all_good text b.nesting written.assign trees.assign (less b.nesting l).assign x (inner b i))

  call_cases : (t o : Leaf) (x : Option (Chain Assign)) (r : Leaf) → R (written.primary (p.Call t o x r)) → G 1 (trees.primary (p.Call t o x r))
  unfolding optional
  call_cases t o None r = carry n 1 (shapes.primary-Call t o None r) (says.primary-Call-none t o r) (λ h. plain (Call t NoMore) tt refl refl)
  call_cases t o (Some x) r = carry n 1 (shapes.primary-Call t o (Some x) r) (says.primary-Call-some t o x r) (λ h. arguments_good t o r x h)

  paren_good : (t : Leaf) (x : Expression) → Within x → G 1 (Paren t x)
  paren_good t x h = record { parsed = h.parsed; nested = h.nested; turned = h.turned }

  primary_good : (x : Primary) → R (written.primary x) → G 1 (trees.primary x)
  primary_good =
      shapes.primary_cases (λ x. R (written.primary x) → G 1 (trees.primary x))
      (λ t. carry n 1 (shapes.primary-Name t) (says.primary-Name t) (λ h. plain (Name t) tt refl refl))
      (λ t o x r. call_cases t o x r)
      (λ t. carry n 1 (shapes.primary-Number t) (says.primary-Number t) (λ h. plain (Number t) tt refl refl))
      (λ t. carry n 1 (shapes.primary-Character t) (says.primary-Character t) (λ h. plain (Character t) ((leaf (same w.Character) t h).character (worded (same w.Character) t h)) refl refl))
      (λ o x r. carry n 1 (shapes.primary-Paren o x r) (says.primary-Paren o x r) (λ h. paren_good o (trees.assign x) (assign_within x (before (nested (written.assign x)) _ (after (one w.LeftParen o) _ h)))))

  -- ---- postfix expressions

  index_good : (x i : Expression) (t : Leaf) → G 1 x → Within i → G 1 (Index x t i)
  index_good x i t h k = record {
    parsed = (h.parsed, k.parsed);
    nested = let a : nest x ≤ n = h.nested in let b : suc (nest i) ≤ n = k.nested in omega arith;
    turned = let a : turns x ≤ four n + 1 = h.turned in let b : turns i ≤ four n + 1 = k.turned in omega arith;
  }

  abbrev Suffixed : Suffix → Type 0
  Suffixed y = (x : Expression) → G 1 x → R (written.suffix y) → G 1 (trees.suffix y x)

  suffix_good : (y : Suffix) → Suffixed y
  suffix_good =
      shapes.suffix_cases Suffixed
      (λ o i r x k. carry n 1 (shapes.suffix-Index o i r) (says.suffix-Index o i r x) (λ h. index_good x (trees.assign i) o k (assign_within i (before (nested (written.assign i)) _ (after (one w.LeftBracket o) _ h)))))
      (λ d t x k h. subst (G 1) (sym (says.suffix-Member d t x)) (record { parsed = k.parsed; nested = k.nested; turned = k.turned }))
      (λ d t x k h. subst (G 1) (sym (says.suffix-Arrow d t x)) (record { parsed = k.parsed; nested = k.nested; turned = k.turned }))
      (λ t x k h. subst (G 1) (sym (says.suffix-Increment t x)) (record { parsed = k.parsed; nested = k.nested; turned = k.turned }))
      (λ t x k h. subst (G 1) (sym (says.suffix-Decrement t x)) (record { parsed = k.parsed; nested = k.nested; turned = k.turned }))

  suffixes_good : (x : Expression) (ys : List Suffix) → G 1 x → R (run written.suffix ys) → G 1 (suffixed x (map trees.suffix ys))
  unfolding run suffixed
  suffixes_good x [] k h = k
  suffixes_good x (y ∷ ys) k h = suffixes_good (trees.suffix y x) ys (suffix_good y x k (before (written.suffix y) _ h)) (after (written.suffix y) _ h)

  postfix_good : (x : Postfix) → R (written.postfix x) → G 1 (trees.postfix x)
  postfix_good x =
      carry n 1 (ap written.postfix (sym (roll-out-Postfix x)) ∙ shapes.postfix-is (out-Postfix x).primary (out-Postfix x).suffixes) (says.postfix-is x)
      (λ h. suffixes_good (trees.primary (out-Postfix x).primary) (out-Postfix x).suffixes (primary_good (out-Postfix x).primary (before (written.primary (out-Postfix x).primary) _ h)) (after (written.primary (out-Postfix x).primary) _ h))

  -- ---- unary expressions

  prefix_good : (t : Leaf) (x : Expression) → Within x → G 1 (Prefix t x)
  prefix_good t x h = record { parsed = h.parsed; nested = h.nested; turned = h.turned }

  cast_good : (t : Leaf) (y : TypeName) (x : Expression) → Within x → G 1 (Cast t (spelled y) x)
  cast_good t y x h = record { parsed = h.parsed; nested = h.nested; turned = h.turned }

  size_good : (t : Leaf) (x : Expression) → Within x → G 1 (SizeOf t x)
  size_good t x h = record { parsed = h.parsed; nested = h.nested; turned = omega arith }

  type_good : (t : Leaf) (y : TypeName) → R (nested (type_name y)) → G 1 (SizeOfType t (spelled y))
  type_good t y h = record {
    parsed = tt;
    nested = let a : suc (type_name y).nesting ≤ n = deeper (type_name y) h in let b : pred (length y.stars) ≤ (type_name y).nesting = type_deep y in omega arith;
    turned = omega arith;
  }

  unary_good : (x : Unary) → R (written.unary x) → G 1 (trees.unary x)
  unary_good =
      shapes.unary_cases (λ x. R (written.unary x) → G 1 (trees.unary x))
      (λ x. carry n 1 (shapes.unary-Postfix x) (says.unary-Postfix x) (postfix_good x))
      (λ t x. carry n 1 (shapes.unary-Prefix t x) (says.unary-Prefix t x) (λ h. prefix_good t (trees.unary x) (unary_within x (after (one_of is_prefix_operator t) _ h))))
      (λ o y r x. carry n 1 (shapes.unary-Cast o y r x) (says.unary-Cast o y r x) (λ h. cast_good o y (trees.unary x) (unary_within x (after (one w.RightParen r) _ (after (nested (type_name y)) _ (after (one w.LeftParen o) _ h))))))
      (λ t x. carry n 1 (shapes.unary-SizeOf t x) (says.unary-SizeOf t x) (λ h. size_good t (trees.unary x) (unary_within x (before (nested (written.unary x)) _ (after (one w.SizeOf t) _ h)))))
      (λ t o y r. carry n 1 (shapes.unary-SizeOfType t o y r) (says.unary-SizeOfType t o y r) (λ h. type_good t y (before (nested (type_name y)) _ (after (one w.LeftParen o) _ (after (one w.SizeOf t) _ h)))))

  -- ---- binary operators

  product_good : (x : Product) → R (written.product x) → G 1 (trees.product x)
  product_good x =
      carry n 1 (ap written.product (sym (roll-out-Product x)) ∙ shapes.product-is (out-Product x).0) (says.product-is x)
      (chain_good text n 1 1 is_product_operator written.unary trees.unary (goes_low is_product_operator n 1 apart_product) unary_good (omega arith) (out-Product x).0)

  sum_good : (x : Sum) → R (written.sum x) → G 1 (trees.sum x)
  sum_good x =
      carry n 1 (ap written.sum (sym (roll-out-Sum x)) ∙ shapes.sum-is (out-Sum x).0) (says.sum-is x)
      (chain_good text n 1 1 is_sum_operator written.product trees.product (goes_low is_sum_operator n 1 apart_sum) product_good (omega arith) (out-Sum x).0)

  shift_good : (x : Shift) → R (written.shift x) → G 1 (trees.shift x)
  shift_good x =
      carry n 1 (ap written.shift (sym (roll-out-Shift x)) ∙ shapes.shift-is (out-Shift x).0) (says.shift-is x)
      (chain_good text n 1 1 is_shift_operator written.sum trees.sum (goes_low is_shift_operator n 1 apart_shift) sum_good (omega arith) (out-Shift x).0)

  relation_good : (x : Relation) → R (written.relation x) → G 1 (trees.relation x)
  relation_good x =
      carry n 1 (ap written.relation (sym (roll-out-Relation x)) ∙ shapes.relation-is (out-Relation x).0) (says.relation-is x)
      (chain_good text n 1 1 is_relation_operator written.shift trees.shift (goes_low is_relation_operator n 1 apart_relation) shift_good (omega arith) (out-Relation x).0)

  equal_good : (x : Equal) → R (written.equal x) → G 1 (trees.equal x)
  equal_good x =
      carry n 1 (ap written.equal (sym (roll-out-Equal x)) ∙ shapes.equal-is (out-Equal x).0) (says.equal-is x)
      (chain_good text n 1 1 is_equal_operator written.relation trees.relation (goes_low is_equal_operator n 1 apart_equal) relation_good (omega arith) (out-Equal x).0)

  bit_and_good : (x : BitAnd) → R (written.bit_and x) → G 1 (trees.bit_and x)
  bit_and_good x =
      carry n 1 (ap written.bit_and (sym (roll-out-BitAnd x)) ∙ shapes.bit_and-is (out-BitAnd x).0) (says.bit_and-is x)
      (chain_good text n 1 1 (same w.Ampersand) written.equal trees.equal (goes_low (same w.Ampersand) n 1 (apart_bits w.Ampersand refl refl)) equal_good (omega arith) (out-BitAnd x).0)

  bit_xor_good : (x : BitXor) → R (written.bit_xor x) → G 1 (trees.bit_xor x)
  bit_xor_good x =
      carry n 1 (ap written.bit_xor (sym (roll-out-BitXor x)) ∙ shapes.bit_xor-is (out-BitXor x).0) (says.bit_xor-is x)
      (chain_good text n 1 1 (same w.Caret) written.bit_and trees.bit_and (goes_low (same w.Caret) n 1 (apart_bits w.Caret refl refl)) bit_and_good (omega arith) (out-BitXor x).0)

  bit_or_good : (x : BitOr) → R (written.bit_or x) → G 1 (trees.bit_or x)
  bit_or_good x =
      carry n 1 (ap written.bit_or (sym (roll-out-BitOr x)) ∙ shapes.bit_or-is (out-BitOr x).0) (says.bit_or-is x)
      (chain_good text n 1 1 (same w.Bar) written.bit_xor trees.bit_xor (goes_low (same w.Bar) n 1 (apart_bits w.Bar refl refl)) bit_xor_good (omega arith) (out-BitOr x).0)

  and_good : (x : And) → R (written.and x) → G 3 (trees.and x)
  and_good x =
      carry n 3 (ap written.and (sym (roll-out-And x)) ∙ shapes.and-is (out-And x).0) (says.and-is x)
      (chain_good text n 1 3 (same w.AndAnd) written.bit_or trees.bit_or (goes_high (same w.AndAnd) n 1 3 (omega arith)) bit_or_good (omega arith) (out-And x).0)

  or_good : (x : Or) → R (written.or x) → G 5 (trees.or x)
  or_good x =
      carry n 5 (ap written.or (sym (roll-out-Or x)) ∙ shapes.or-is (out-Or x).0) (says.or-is x)
      (chain_good text n 3 5 (same w.OrOr) written.and trees.and (goes_high (same w.OrOr) n 3 5 (omega arith)) and_good (omega arith) (out-Or x).0)

  -- ---- `? :` and assignments

  choose_good : (x y z : Expression) (t : Leaf) → G 5 x → Within y → Within z → G 5 (Choose x t y z)
  choose_good x y z t h i k = record {
    parsed = (h.parsed, i.parsed, k.parsed);
    nested = let a : nest x ≤ n = h.nested in let b : suc (nest y) ≤ n = i.nested in let c : suc (nest z) ≤ n = k.nested in omega arith;
    turned = let a : turns x ≤ four n + 5 = h.turned in let b : turns y ≤ four n + 1 = i.turned in let c : turns z ≤ four n + 1 = k.turned in omega arith;
  }

  choice_good : (x : Choice) → R (written.choice x) → G 5 (trees.choice x)
  choice_good =
      shapes.choice_cases (λ x. R (written.choice x) → G 5 (trees.choice x))
      (λ x. carry n 5 (shapes.choice-Or x) (says.choice-Or x) (or_good x))
      (λ x t y d z. carry n 5 (shapes.choice-Choose x t y d z) (says.choice-Choose x t y d z) (λ h.
      let rest : R (nested (written.assign y) then one w.Colon d then nested (written.choice z)) = after (one w.Question t) _ (after (written.or x) _ h) in
      choose_good (trees.or x) (trees.assign y) (trees.choice z) t (or_good x (before (written.or x) _ h)) (assign_within y (before (nested (written.assign y)) _ rest))
      (choice_within z (after (one w.Colon d) _ (after (nested (written.assign y)) _ rest)))))

  assigns_good : (x y : Expression) (t : Leaf) → G 1 x → Within y → G 5 (Assigns x t y)
  assigns_good x y t h k = record {
    parsed = (h.parsed, k.parsed);
    nested = let a : nest x ≤ n = h.nested in let b : suc (nest y) ≤ n = k.nested in omega arith;
    turned = let a : turns x ≤ four n + 1 = h.turned in let b : turns y ≤ four n + 1 = k.turned in omega arith;
  }

  assign_good : (x : Assign) → R (written.assign x) → G 5 (trees.assign x)
  assign_good =
      shapes.assign_cases (λ x. R (written.assign x) → G 5 (trees.assign x))
      (λ x. carry n 5 (shapes.assign-Choice x) (says.assign-Choice x) (choice_good x))
      (λ x t y. carry n 5 (shapes.assign-Assign x t y) (says.assign-Assign x t y) (λ h.
      assigns_good (trees.unary x) (trees.assign y) t (unary_good x (before (written.unary x) _ h)) (assign_within y (after (one_of is_assignment_operator t) _ (after (written.unary x) _ h)))))

  levels_good : AllGood text n
  levels_good = record { assign = assign_good; choice = choice_good; unary = unary_good }

below_good : (text : List ℕ) (k n : ℕ) → suc n ≤ k → AllGood text n
below_good text zero n l = absurd (omega arith)
below_good text (suc k) n l = levels_good text n (λ m i. below_good text k m (omega arith))

pub expressions_good : (text : List ℕ) (n : ℕ) → AllGood text n
expressions_good text n = below_good text (suc n) n (omega arith)
