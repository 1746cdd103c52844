-- Grouping: a flat list of operands writes what its tree writes, and each tree is that of a flat list.
use Rattle.std.proofs.Common.{◌≡◌, ℕ, max, Bool, true, false, ◌||◌, ◌&&◌, cond, List, [], ◌∷◌, ◌++◌, Option, Some, None, refl, sym, ap, ap₂, ◌∙◌, append_assoc, append-nil, arith}
use Rattle.c_words.specs.declared.word.Word.{Word}
use Rattle.c_words.specs.declared.word.Word.TheVariants as w
use Rattle.c_words.specs.declared.word.Leaf.{Leaf}
use Rattle.c_words.specs.declared.chain.Chain.{Chain}
use Rattle.c_words.specs.declared.chain.Link.{Link}
use Rattle.c_grammar.specs.declared.expression.Or.{Or, roll-Or}
use Rattle.c_grammar.specs.declared.expression.And.{And, roll-And}
use Rattle.c_grammar.specs.declared.expression.BitOr.{BitOr, roll-BitOr}
use Rattle.c_grammar.specs.declared.expression.BitXor.{BitXor, roll-BitXor}
use Rattle.c_grammar.specs.declared.expression.BitAnd.{BitAnd, roll-BitAnd}
use Rattle.c_grammar.specs.declared.expression.Equal.{Equal, roll-Equal}
use Rattle.c_grammar.specs.declared.expression.Relation.{Relation, roll-Relation}
use Rattle.c_grammar.specs.declared.expression.Shift.{Shift, roll-Shift}
use Rattle.c_grammar.specs.declared.expression.Sum.{Sum, roll-Sum}
use Rattle.c_grammar.specs.declared.expression.Product.{Product}
use Rattle.c_grammar.specs.declared.expression.Unary.{Unary}
use Rattle.c_words.specs.Words.{same}
use Rattle.c_words.specs.Written.{Written, nothing, ◌then◌, one_of, links, chain}
use Rattle.c_words.specs.OperatorWords.{is_product_operator, is_sum_operator, is_shift_operator, is_relation_operator, is_equal_operator}
use Rattle.c_grammar.specs.Expressions.{or, and, bit_or, bit_xor, bit_and, equal, relation, shift, sum, product, unary}
use Rattle.c_words.specs.Operators.{is_binary_operator}
use Rattle.c_words.proofs.Taking.{first_of_both, second_of_both}
use Rattle.c_grammar.proofs.ExpressionShapes.{or-is, and-is, bit_or-is, bit_xor-is, bit_and-is, equal-is, relation-is, shift-is, sum-is, product-is, or_cases, and_cases, bit_or_cases, bit_xor_cases, bit_and_cases, equal_cases, relation_cases, shift_cases, sum_cases, product_cases}
use Rattle.c_grouping.specs.Grouping.{close, group_from, group, or_of, and_of, bit_or_of, bit_xor_of, bit_and_of, equal_of, relation_of, shift_of, sum_of, product_of}

-- ---- parts one after another

written_is : {ls ms : List Leaf} {m n : ℕ} {a b : Bool} → ls ≡ ms → m ≡ n → a ≡ b
    → ◌≡◌ {A = Written} (record { leaves = ls; nesting = m; levelled = a }) (record { leaves = ms; nesting = n; levelled = b })
written_is p q r = cc

both_assoc : (a b c : Bool) → ((a && b) && c) ≡ (a && (b && c))
both_assoc true b c = refl
both_assoc false b c = refl

both_true : (a : Bool) → (a && true) ≡ a
both_true true = refl
both_true false = refl

pub then_assoc : (a b c : Written) → (a then b) then c ≡ a then (b then c)
unfolding ◌then◌
then_assoc a b c =
    let e : max (max a.nesting b.nesting) c.nesting ≡ max a.nesting (max b.nesting c.nesting) = omega arith in
    written_is (append_assoc a.leaves b.leaves c.leaves) e (both_assoc a.levelled b.levelled c.levelled)

pub nothing_then : (a : Written) → nothing then a ≡ a
unfolding ◌then◌ nothing
nothing_then a = let e : max 0 a.nesting ≡ a.nesting = omega arith in written_is {ms = a.leaves} refl e refl

pub then_nothing : (a : Written) → a then nothing ≡ a
unfolding ◌then◌ nothing
then_nothing a = let e : max a.nesting 0 ≡ a.nesting = omega arith in written_is (append-nil a.leaves) e (both_true a.levelled)

one_of_same : (f g : Word → Bool) (l : Leaf) → f l.word ≡ g l.word → one_of f l ≡ one_of g l
unfolding one_of
one_of_same f g l e = written_is refl refl e

links_append : {A : Type 0} (op : Word → Bool) (f : A → Written) (xs ys : List (Link A)) → links op f (xs ++ ys) ≡ links op f xs then links op f ys
unfolding links
links_append op f [] ys = sym (nothing_then _)
links_append op f (x ∷ xs) ys =
    ap (λ r. one_of op x.operator then f x.operand then r) (links_append op f xs ys) ∙ regroup (one_of op x.operator) (f x.operand) (links op f xs) (links op f ys)
  where
    regroup : (o x a b : Written) → o then x then (a then b) ≡ (o then x then a) then b
    regroup o x a b = simp then_assoc

links_same : {A : Type 0} (p q : Word → Bool) (f : A → Written) → ((x : Word) → p x ≡ q x) → (ls : List (Link A)) → links p f ls ≡ links q f ls
unfolding links
links_same p q f same [] = refl
links_same p q f same (l ∷ ls) = ap₂ (λ o r. o then f l.operand then r) (one_of_same p q l.operator (same _)) (links_same p q f same ls)

chain_same : {A : Type 0} (p q : Word → Bool) (f : A → Written) → ((x : Word) → p x ≡ q x) → (c : Chain A) → chain p f c ≡ chain q f c
unfolding chain
chain_same p q f same c = ap (λ r. f c.first then r) (links_same p q f same c.rest)

either : {X : Type 0} (P : X → Type 0) (b : Bool) (x y : X) → (b ≡ true → P x) → (b ≡ false → P y) → P (cond b x y)
either P true x y f g = f refl
either P false x y f g = g refl

-- ---- one level: operands of A with operators of lower levels between them make one operand of B

pub record Made {A B : Type 0} (make : Chain A → B) (b : B) : Type 0 where
  pub flat : Chain A
  pub made : make flat ≡ b

module _ {A B : Type 0} (op low : Word → Bool) (f : A → Written) (g : B → Written) (make : Chain A → B) (make_is : (c : Chain A) → g (make c) ≡ chain low f c) where
  abbrev wider : Word → Bool
  wider x = op x || low x

  wider_op : (x : Word) → op x ≡ true → op x ≡ wider x
  wider_op x h = of (op x) h
    where
      of : (b : Bool) → b ≡ true → b ≡ (b || low x)
      of true h = refl
      of false h = cc

  wider_low : (x : Word) → op x ≡ false → low x ≡ wider x
  wider_low x h = of (op x) h
    where
      of : (b : Bool) → b ≡ false → low x ≡ (b || low x)
      of true h = cc
      of false h = refl

  -- what is closed, and then a part
  before : Option (Chain B × Leaf) → Written → Written
  before None a = a
  before (Some p) a = chain op g p.0 then one_of op p.1 then a

  before_then : (closed : Option (Chain B × Leaf)) (a b : Written) → before closed (a then b) ≡ before closed a then b
  unfolding before
  before_then None a b = refl
  before_then (Some p) a b = regroup (chain op g p.0) (one_of op p.1) a b
    where
      regroup : (c o a b : Written) → c then o then (a then b) ≡ (c then o then a) then b
      regroup c o a b = simp then_assoc

  close_is : (closed : Option (Chain B × Leaf)) (b : B) → chain op g (close closed b) ≡ before closed (g b)
  unfolding before chain links
  close_is None b = then_nothing (g b)
  close_is (Some p) b =
      ap (λ r. g p.0.first then r) (links_append op g p.0.rest (record { operator = p.1; operand = b } ∷ []))
      ∙ regroup (g p.0.first) (links op g p.0.rest) (one_of op p.1) (g b)
    where
      regroup : (x a o b : Written) → x then (a then (o then b then nothing)) ≡ (x then a) then o then b
      regroup x a o b = simp (then_assoc, then_nothing)

  -- what the run that goes on becomes is closed
  current_is : (closed : Option (Chain B × Leaf)) (current : Chain A) → chain op g (close closed (make current)) ≡ before closed (chain low f current)
  current_is closed current = close_is closed (make current) ∙ ap (before closed) (make_is current)

  closes : (closed : Option (Chain B × Leaf)) (current : Chain A) (l : Link A) (ls : List (Link A)) → op l.operator.word ≡ true
      → before (Some (close closed (make current), l.operator)) (chain low f (record { first = l.operand; rest = [] })) then links wider f ls
      ≡ before closed (chain low f current) then links wider f (l ∷ ls)
  unfolding before chain links
  closes closed current l ls h =
      regroup _ _ (f l.operand) (links wider f ls) ∙ ap₂ (λ c o. c then o then f l.operand then links wider f ls) (current_is closed current) (one_of_same op wider l.operator (wider_op _ h))
    where
      regroup : (c o x r : Written) → (c then o then x then nothing) then r ≡ c then o then x then r
      regroup c o x r = simp (then_assoc, then_nothing)

  goes_on : (closed : Option (Chain B × Leaf)) (current : Chain A) (l : Link A) (ls : List (Link A)) → op l.operator.word ≡ false
      → before closed (chain low f (record { first = current.first; rest = current.rest ++ l ∷ [] })) then links wider f ls
      ≡ before closed (chain low f current) then links wider f (l ∷ ls)
  unfolding chain links
  goes_on closed current l ls h =
      ap (λ r. before closed (f current.first then r) then links wider f ls) (links_append low f current.rest (l ∷ []))
      ∙ ap (λ v. before closed v then links wider f ls) (sym (then_assoc (f current.first) (links low f current.rest) _))
      ∙ ap (λ v. v then links wider f ls) (before_then closed (f current.first then links low f current.rest) _)
      ∙ regroup (before closed (f current.first then links low f current.rest)) _ (f l.operand) (links wider f ls)
      ∙ ap (λ o. before closed (f current.first then links low f current.rest) then o then f l.operand then links wider f ls) (one_of_same low wider l.operator (wider_low _ h))
    where
      regroup : (c o x r : Written) → (c then o then x then nothing) then r ≡ c then o then x then r
      regroup c o x r = simp (then_assoc, then_nothing)

  group_from_is : (ls : List (Link A)) (closed : Option (Chain B × Leaf)) (current : Chain A)
      → chain op g (group_from op make closed current ls) ≡ before closed (chain low f current) then links wider f ls
  unfolding group_from links
  group_from_is [] closed current = current_is closed current ∙ sym (then_nothing _)
  group_from_is (l ∷ ls) closed current =
      let yes = group_from_is ls (Some (close closed (make current), l.operator)) (record { first = l.operand; rest = [] }) in
      let not = group_from_is ls closed (record { first = current.first; rest = current.rest ++ l ∷ [] }) in
      either (λ c. chain op g c ≡ before closed (chain low f current) then links wider f (l ∷ ls)) (op l.operator.word) _ _
      (λ h. yes ∙ closes closed current l ls h) (λ h. not ∙ goes_on closed current l ls h)

  pub group_is : (c : Chain A) → chain op g (group op make c) ≡ chain wider f c
  unfolding group chain links before
  group_is c = group_from_is c.rest None (record { first = c.first; rest = [] }) ∙ ap (λ v. v then links wider f c.rest) (then_nothing (f c.first))

  module _ (parts : (b : B) → (g b).levelled ≡ true → Made make b) (apart : (x : Word) → low x ≡ true → op x ≡ false) where
    chain_levelled : (b : B) → (g b).levelled ≡ true → (m : Made make b) → (links low f m.flat.rest).levelled ≡ true
    unfolding chain ◌then◌
    chain_levelled b h m = second_of_both _ _ (ap (λ v. v.levelled) (sym (make_is m.flat) ∙ ap g m.made) ∙ h)

    low_links : (xs ys : List (Link A)) → (links low f xs).levelled ≡ true → (closed : Option (Chain B × Leaf)) (current : Chain A)
        → group_from op make closed current (xs ++ ys) ≡ group_from op make closed (record { first = current.first; rest = current.rest ++ xs }) ys
    unfolding group_from links ◌then◌ one_of
    low_links [] ys h closed current = ap (λ r. group_from op make closed (record { first = current.first; rest = r }) ys) (sym (append-nil current.rest))
    low_links (x ∷ xs) ys h closed current =
        let first = first_of_both _ _ h in
        let rest = second_of_both _ _ (second_of_both _ _ h) in
        either (λ c. c ≡ group_from op make closed (record { first = current.first; rest = current.rest ++ x ∷ xs }) ys) (op x.operator.word) _ _
        (λ e. absurd (clash (op x.operator.word) e (apart _ first)))
        (λ e. low_links xs ys rest closed (record { first = current.first; rest = current.rest ++ x ∷ [] })
        ∙ ap (λ r. group_from op make closed (record { first = current.first; rest = r }) ys) (append_assoc current.rest (x ∷ []) xs))
      where
        clash : (b : Bool) → b ≡ true → b ≡ false → ⊥
        clash b p q = cc

    record FlatLinks (ls : List (Link B)) : Type 0 where
      pub flat : List (Link A)
      pub grouped : (closed : Option (Chain B × Leaf)) (current : Chain A)
          → group_from op make closed current flat ≡ record { first = (close closed (make current)).first; rest = (close closed (make current)).rest ++ ls }

    flat_links : (ls : List (Link B)) → (links op g ls).levelled ≡ true → FlatLinks ls
    unfolding group_from links ◌then◌ one_of
    flat_links [] h = record { flat = []; grouped = λ closed current. ap (λ r. record { first = (close closed (make current)).first; rest = r }) (sym (append-nil _)) }
    flat_links (l ∷ ls) h =
        let first = first_of_both _ _ h in
        let more = second_of_both _ _ h in
        let here = first_of_both _ _ more in
        let m = parts l.operand here in
        let i = flat_links ls (second_of_both _ _ more) in
        record {
          flat = record { operator = l.operator; operand = m.flat.first } ∷ (m.flat.rest ++ i.flat);
          grouped = λ closed current.
              let made = close closed (make current) in
              either (λ c. c ≡ record { first = made.first; rest = made.rest ++ l ∷ ls }) (op l.operator.word) _ _
              (λ e. low_links m.flat.rest i.flat (chain_levelled l.operand here m) (Some (made, l.operator)) (record { first = m.flat.first; rest = [] })
              ∙ i.grouped (Some (made, l.operator)) m.flat
              ∙ ap (λ r. record { first = made.first; rest = r })
              (append_assoc made.rest (record { operator = l.operator; operand = make m.flat } ∷ []) ls
              ∙ ap (λ b. made.rest ++ record { operator = l.operator; operand = b } ∷ ls) m.made))
              (λ e. absurd (clash (op l.operator.word) first e));
        }
      where
        clash : (b : Bool) → b ≡ true → b ≡ false → ⊥
        clash b p q = cc

    pub flat_chain : (c : Chain B) → (chain op g c).levelled ≡ true → Made (group op make) c
    unfolding group chain ◌then◌
    flat_chain c h =
        let here = first_of_both _ _ h in
        let m = parts c.first here in
        let i = flat_links c.rest (second_of_both _ _ h) in
        record {
          flat = record { first = m.flat.first; rest = m.flat.rest ++ i.flat };
          made = low_links m.flat.rest i.flat (chain_levelled c.first here m) None (record { first = m.flat.first; rest = [] })
              ∙ i.grouped None m.flat ∙ ap (λ b. record { first = b; rest = c.rest }) m.made;
        }

-- ---- the ten levels

abbrev product_test : Word → Bool
product_test = is_product_operator

abbrev sum_test : Word → Bool
sum_test x = is_sum_operator x || product_test x

abbrev shift_test : Word → Bool
shift_test x = is_shift_operator x || sum_test x

abbrev relation_test : Word → Bool
relation_test x = is_relation_operator x || shift_test x

abbrev equal_test : Word → Bool
equal_test x = is_equal_operator x || relation_test x

abbrev bit_and_test : Word → Bool
bit_and_test x = same w.Ampersand x || equal_test x

abbrev bit_xor_test : Word → Bool
bit_xor_test x = same w.Caret x || bit_and_test x

abbrev bit_or_test : Word → Bool
bit_or_test x = same w.Bar x || bit_xor_test x

abbrev and_test : Word → Bool
and_test x = same w.AndAnd x || bit_or_test x

abbrev or_test : Word → Bool
or_test x = same w.OrOr x || and_test x

product_of_is : (c : Chain Unary) → product (product_of c) ≡ chain product_test unary c
unfolding product_of
product_of_is c = product-is c

product_flat : (a : Product) → (product a).levelled ≡ true → Made product_of a
unfolding product_of
product_flat = product_cases (λ a. (product a).levelled ≡ true → Made product_of a) (λ y h. record { flat = y; made = refl })

sum_of_is : (c : Chain Unary) → sum (sum_of c) ≡ chain sum_test unary c
unfolding sum_of
sum_of_is c = sum-is _ ∙ group_is is_sum_operator product_test unary product product_of product_of_is c

sum_apart : (x : Word) → product_test x ≡ true → is_sum_operator x ≡ false
sum_apart w.Star h = refl
sum_apart w.Slash h = refl
sum_apart w.Percent h = refl
sum_apart _ h = cc

sum_flat : (a : Sum) → (sum a).levelled ≡ true → Made sum_of a
unfolding sum_of
sum_flat = sum_cases (λ a. (sum a).levelled ≡ true → Made sum_of a) (λ y h.
    let m = flat_chain is_sum_operator product_test unary product product_of product_of_is product_flat sum_apart y (ap (λ v. v.levelled) (sym (sum-is y)) ∙ h) in
    record { flat = m.flat; made = ap (λ c. roll-Sum (record { 0 = c })) m.made })

shift_of_is : (c : Chain Unary) → shift (shift_of c) ≡ chain shift_test unary c
unfolding shift_of
shift_of_is c = shift-is _ ∙ group_is is_shift_operator sum_test unary sum sum_of sum_of_is c

shift_apart : (x : Word) → sum_test x ≡ true → is_shift_operator x ≡ false
shift_apart w.Plus h = refl
shift_apart w.Minus h = refl
shift_apart w.Star h = refl
shift_apart w.Slash h = refl
shift_apart w.Percent h = refl
shift_apart _ h = cc

shift_flat : (a : Shift) → (shift a).levelled ≡ true → Made shift_of a
unfolding shift_of
shift_flat = shift_cases (λ a. (shift a).levelled ≡ true → Made shift_of a) (λ y h.
    let m = flat_chain is_shift_operator sum_test unary sum sum_of sum_of_is sum_flat shift_apart y (ap (λ v. v.levelled) (sym (shift-is y)) ∙ h) in
    record { flat = m.flat; made = ap (λ c. roll-Shift (record { 0 = c })) m.made })

relation_of_is : (c : Chain Unary) → relation (relation_of c) ≡ chain relation_test unary c
unfolding relation_of
relation_of_is c = relation-is _ ∙ group_is is_relation_operator shift_test unary shift shift_of shift_of_is c

relation_apart : (x : Word) → shift_test x ≡ true → is_relation_operator x ≡ false
relation_apart w.ShiftLeft h = refl
relation_apart w.ShiftRight h = refl
relation_apart w.Plus h = refl
relation_apart w.Minus h = refl
relation_apart w.Star h = refl
relation_apart w.Slash h = refl
relation_apart w.Percent h = refl
relation_apart _ h = cc

relation_flat : (a : Relation) → (relation a).levelled ≡ true → Made relation_of a
unfolding relation_of
relation_flat = relation_cases (λ a. (relation a).levelled ≡ true → Made relation_of a) (λ y h.
    let m = flat_chain is_relation_operator shift_test unary shift shift_of shift_of_is shift_flat relation_apart y (ap (λ v. v.levelled) (sym (relation-is y)) ∙ h) in
    record { flat = m.flat; made = ap (λ c. roll-Relation (record { 0 = c })) m.made })

equal_of_is : (c : Chain Unary) → equal (equal_of c) ≡ chain equal_test unary c
unfolding equal_of
equal_of_is c = equal-is _ ∙ group_is is_equal_operator relation_test unary relation relation_of relation_of_is c

equal_apart : (x : Word) → relation_test x ≡ true → is_equal_operator x ≡ false
equal_apart w.Less h = refl
equal_apart w.Greater h = refl
equal_apart w.LessEqual h = refl
equal_apart w.GreaterEqual h = refl
equal_apart w.ShiftLeft h = refl
equal_apart w.ShiftRight h = refl
equal_apart w.Plus h = refl
equal_apart w.Minus h = refl
equal_apart w.Star h = refl
equal_apart w.Slash h = refl
equal_apart w.Percent h = refl
equal_apart _ h = cc

equal_flat : (a : Equal) → (equal a).levelled ≡ true → Made equal_of a
unfolding equal_of
equal_flat = equal_cases (λ a. (equal a).levelled ≡ true → Made equal_of a) (λ y h.
    let m = flat_chain is_equal_operator relation_test unary relation relation_of relation_of_is relation_flat equal_apart y (ap (λ v. v.levelled) (sym (equal-is y)) ∙ h) in
    record { flat = m.flat; made = ap (λ c. roll-Equal (record { 0 = c })) m.made })

bit_and_of_is : (c : Chain Unary) → bit_and (bit_and_of c) ≡ chain bit_and_test unary c
unfolding bit_and_of
bit_and_of_is c = bit_and-is _ ∙ group_is (same w.Ampersand) equal_test unary equal equal_of equal_of_is c

bit_and_apart : (x : Word) → equal_test x ≡ true → same w.Ampersand x ≡ false
bit_and_apart w.EqualEqual h = refl
bit_and_apart w.NotEqual h = refl
bit_and_apart w.Less h = refl
bit_and_apart w.Greater h = refl
bit_and_apart w.LessEqual h = refl
bit_and_apart w.GreaterEqual h = refl
bit_and_apart w.ShiftLeft h = refl
bit_and_apart w.ShiftRight h = refl
bit_and_apart w.Plus h = refl
bit_and_apart w.Minus h = refl
bit_and_apart w.Star h = refl
bit_and_apart w.Slash h = refl
bit_and_apart w.Percent h = refl
bit_and_apart _ h = cc

bit_and_flat : (a : BitAnd) → (bit_and a).levelled ≡ true → Made bit_and_of a
unfolding bit_and_of
bit_and_flat = bit_and_cases (λ a. (bit_and a).levelled ≡ true → Made bit_and_of a) (λ y h.
    let m = flat_chain (same w.Ampersand) equal_test unary equal equal_of equal_of_is equal_flat bit_and_apart y (ap (λ v. v.levelled) (sym (bit_and-is y)) ∙ h) in
    record { flat = m.flat; made = ap (λ c. roll-BitAnd (record { 0 = c })) m.made })

bit_xor_of_is : (c : Chain Unary) → bit_xor (bit_xor_of c) ≡ chain bit_xor_test unary c
unfolding bit_xor_of
bit_xor_of_is c = bit_xor-is _ ∙ group_is (same w.Caret) bit_and_test unary bit_and bit_and_of bit_and_of_is c

bit_xor_apart : (x : Word) → bit_and_test x ≡ true → same w.Caret x ≡ false
bit_xor_apart w.Ampersand h = refl
bit_xor_apart w.EqualEqual h = refl
bit_xor_apart w.NotEqual h = refl
bit_xor_apart w.Less h = refl
bit_xor_apart w.Greater h = refl
bit_xor_apart w.LessEqual h = refl
bit_xor_apart w.GreaterEqual h = refl
bit_xor_apart w.ShiftLeft h = refl
bit_xor_apart w.ShiftRight h = refl
bit_xor_apart w.Plus h = refl
bit_xor_apart w.Minus h = refl
bit_xor_apart w.Star h = refl
bit_xor_apart w.Slash h = refl
bit_xor_apart w.Percent h = refl
bit_xor_apart _ h = cc

bit_xor_flat : (a : BitXor) → (bit_xor a).levelled ≡ true → Made bit_xor_of a
unfolding bit_xor_of
bit_xor_flat = bit_xor_cases (λ a. (bit_xor a).levelled ≡ true → Made bit_xor_of a) (λ y h.
    let m = flat_chain (same w.Caret) bit_and_test unary bit_and bit_and_of bit_and_of_is bit_and_flat bit_xor_apart y (ap (λ v. v.levelled) (sym (bit_xor-is y)) ∙ h) in
    record { flat = m.flat; made = ap (λ c. roll-BitXor (record { 0 = c })) m.made })

bit_or_of_is : (c : Chain Unary) → bit_or (bit_or_of c) ≡ chain bit_or_test unary c
unfolding bit_or_of
bit_or_of_is c = bit_or-is _ ∙ group_is (same w.Bar) bit_xor_test unary bit_xor bit_xor_of bit_xor_of_is c

bit_or_apart : (x : Word) → bit_xor_test x ≡ true → same w.Bar x ≡ false
bit_or_apart w.Caret h = refl
bit_or_apart w.Ampersand h = refl
bit_or_apart w.EqualEqual h = refl
bit_or_apart w.NotEqual h = refl
bit_or_apart w.Less h = refl
bit_or_apart w.Greater h = refl
bit_or_apart w.LessEqual h = refl
bit_or_apart w.GreaterEqual h = refl
bit_or_apart w.ShiftLeft h = refl
bit_or_apart w.ShiftRight h = refl
bit_or_apart w.Plus h = refl
bit_or_apart w.Minus h = refl
bit_or_apart w.Star h = refl
bit_or_apart w.Slash h = refl
bit_or_apart w.Percent h = refl
bit_or_apart _ h = cc

bit_or_flat : (a : BitOr) → (bit_or a).levelled ≡ true → Made bit_or_of a
unfolding bit_or_of
bit_or_flat = bit_or_cases (λ a. (bit_or a).levelled ≡ true → Made bit_or_of a) (λ y h.
    let m = flat_chain (same w.Bar) bit_xor_test unary bit_xor bit_xor_of bit_xor_of_is bit_xor_flat bit_or_apart y (ap (λ v. v.levelled) (sym (bit_or-is y)) ∙ h) in
    record { flat = m.flat; made = ap (λ c. roll-BitOr (record { 0 = c })) m.made })

and_of_is : (c : Chain Unary) → and (and_of c) ≡ chain and_test unary c
unfolding and_of
and_of_is c = and-is _ ∙ group_is (same w.AndAnd) bit_or_test unary bit_or bit_or_of bit_or_of_is c

and_apart : (x : Word) → bit_or_test x ≡ true → same w.AndAnd x ≡ false
and_apart w.Bar h = refl
and_apart w.Caret h = refl
and_apart w.Ampersand h = refl
and_apart w.EqualEqual h = refl
and_apart w.NotEqual h = refl
and_apart w.Less h = refl
and_apart w.Greater h = refl
and_apart w.LessEqual h = refl
and_apart w.GreaterEqual h = refl
and_apart w.ShiftLeft h = refl
and_apart w.ShiftRight h = refl
and_apart w.Plus h = refl
and_apart w.Minus h = refl
and_apart w.Star h = refl
and_apart w.Slash h = refl
and_apart w.Percent h = refl
and_apart _ h = cc

and_flat : (a : And) → (and a).levelled ≡ true → Made and_of a
unfolding and_of
and_flat = and_cases (λ a. (and a).levelled ≡ true → Made and_of a) (λ y h.
    let m = flat_chain (same w.AndAnd) bit_or_test unary bit_or bit_or_of bit_or_of_is bit_or_flat and_apart y (ap (λ v. v.levelled) (sym (and-is y)) ∙ h) in
    record { flat = m.flat; made = ap (λ c. roll-And (record { 0 = c })) m.made })

or_of_is : (c : Chain Unary) → or (or_of c) ≡ chain or_test unary c
unfolding or_of
or_of_is c = or-is _ ∙ group_is (same w.OrOr) and_test unary and and_of and_of_is c

or_apart : (x : Word) → and_test x ≡ true → same w.OrOr x ≡ false
or_apart w.AndAnd h = refl
or_apart w.Bar h = refl
or_apart w.Caret h = refl
or_apart w.Ampersand h = refl
or_apart w.EqualEqual h = refl
or_apart w.NotEqual h = refl
or_apart w.Less h = refl
or_apart w.Greater h = refl
or_apart w.LessEqual h = refl
or_apart w.GreaterEqual h = refl
or_apart w.ShiftLeft h = refl
or_apart w.ShiftRight h = refl
or_apart w.Plus h = refl
or_apart w.Minus h = refl
or_apart w.Star h = refl
or_apart w.Slash h = refl
or_apart w.Percent h = refl
or_apart _ h = cc

or_flat : (a : Or) → (or a).levelled ≡ true → Made or_of a
unfolding or_of
or_flat = or_cases (λ a. (or a).levelled ≡ true → Made or_of a) (λ y h.
    let m = flat_chain (same w.OrOr) and_test unary and and_of and_of_is and_flat or_apart y (ap (λ v. v.levelled) (sym (or-is y)) ∙ h) in
    record { flat = m.flat; made = ap (λ c. roll-Or (record { 0 = c })) m.made })

binary_test : (x : Word) → or_test x ≡ is_binary_operator x
binary_test w.OrOr = refl
binary_test _ = refl

-- the tree of a flat list writes what the list writes
pub or_of-is : (c : Chain Unary) → or (or_of c) ≡ chain is_binary_operator unary c
or_of-is c = or_of_is c ∙ chain_same or_test is_binary_operator unary binary_test c

-- each tree is that of a flat list
pub or-flat : (a : Or) → (or a).levelled ≡ true → Made or_of a
or-flat = or_flat
